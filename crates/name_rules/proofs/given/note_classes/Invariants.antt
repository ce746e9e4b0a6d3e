use Rattle.std.proofs.Common.{◌≡◌, ◌++◌, drop}
use Rattle.std.specs.List.{flat_map}
use Rattle.name_rules.specs.Given.{pxd_classes}
use Rattle.name_rules.specs.GivenShown.{class_refs}
use Rattle.name_rules.proofs.given.note_classes.Given as goal

abbrev pub invariant-loop-item : goal.invariant-loop-item
invariant-loop-item l = class_refs l.initial.out.items ++ flat_map pxd_classes l.items ≡ class_refs l.out.items ++ flat_map pxd_classes (drop l.item-index l.items)
