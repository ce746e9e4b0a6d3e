use Rattle.std.proofs.Common.{◌≡◌, ◌++◌, drop}
use Rattle.std.specs.List.{flat_map}
use Rattle.cy_mention.specs.FunctionsShown.{functions_shown}
use Rattle.cy_tree.specs.Functions.{methods_of}
use Rattle.cy_mention.proofs.function.note_methods.Given as goal

abbrev pub invariant-loop-member : goal.invariant-loop-member
invariant-loop-member l = functions_shown l.initial.out.items ++ flat_map methods_of l.members ≡ functions_shown l.out.items ++ flat_map methods_of (drop l.member-index l.members)
