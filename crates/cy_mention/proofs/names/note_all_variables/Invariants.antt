use Rattle.std.proofs.Common.{◌≡◌, ◌++◌, drop}
use Rattle.std.specs.List.{flat_map}
use Rattle.cy_mention.specs.Modules.{idents, variables_of}
use Rattle.cy_mention.proofs.names.note_all_variables.Given as goal

abbrev pub invariant-loop-top : goal.invariant-loop-top
invariant-loop-top l = idents l.initial.out.items ++ flat_map variables_of l.tops ≡ idents l.out.items ++ flat_map variables_of (drop l.top-index l.tops)
