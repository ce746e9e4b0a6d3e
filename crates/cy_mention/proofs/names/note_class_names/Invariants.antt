use Rattle.std.proofs.Common.{◌≡◌, ◌++◌, drop}
use Rattle.std.specs.List.{flat_map}
use Rattle.cy_mention.specs.Modules.{idents, class_names}
use Rattle.cy_mention.proofs.names.note_class_names.Given as goal

abbrev pub invariant-loop-top : goal.invariant-loop-top
invariant-loop-top l = idents l.initial.out.items ++ flat_map class_names l.tops ≡ idents l.out.items ++ flat_map class_names (drop l.top-index l.tops)
