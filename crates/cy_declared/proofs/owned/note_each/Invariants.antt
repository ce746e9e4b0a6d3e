use Rattle.std.proofs.Common.{◌≡◌, ◌++◌, drop, map}
use Rattle.cy_declared.specs.Functions.{owned_by}
use Rattle.cy_declared.specs.Shown.{all_owned_shown}
use Rattle.cy_mention.specs.FunctionsShown.{functions_shown}
use Rattle.cy_declared.proofs.owned.note_each.Given as goal

abbrev pub invariant-loop-function : goal.invariant-loop-function
invariant-loop-function l =
    all_owned_shown l.initial.out.items ++ map (owned_by l.owner) (functions_shown l.functions)
    ≡ all_owned_shown l.out.items ++ map (owned_by l.owner) (functions_shown (drop l.function-index l.functions))
