use Rattle.std.proofs.Common.{◌≡◌, ◌++◌, drop}
use Rattle.std.specs.List.{flat_map}
use Rattle.cy_mention.specs.FunctionsShown.{functions_shown}
use Rattle.cy_tree.specs.Functions.{functions_of}
use Rattle.cy_mention.proofs.function.note_all_functions.Given as goal

abbrev pub invariant-loop-top : goal.invariant-loop-top
invariant-loop-top l = functions_shown l.initial.out.items ++ flat_map functions_of l.tops ≡ functions_shown l.out.items ++ flat_map functions_of (drop l.top-index l.tops)
