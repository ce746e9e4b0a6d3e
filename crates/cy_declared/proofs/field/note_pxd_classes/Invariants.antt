use Rattle.std.proofs.Common.{◌≡◌, ◌++◌, drop}
use Rattle.std.specs.List.{flat_map}
use Rattle.cy_declared.specs.Shown.{class_refs}
use Rattle.cy_declared.specs.Members.{classes_in}
use Rattle.cy_declared.proofs.field.note_pxd_classes.Given as goal

abbrev pub invariant-loop-item : goal.invariant-loop-item
invariant-loop-item l = class_refs l.initial.out.items ++ flat_map classes_in l.items ≡ class_refs l.out.items ++ flat_map classes_in (drop l.item-index l.items)
