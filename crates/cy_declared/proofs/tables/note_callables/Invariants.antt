use Rattle.std.proofs.Common.{◌≡◌, ◌++◌, drop, map}
use Rattle.cy_declared.specs.Functions.{callable_of}
use Rattle.cy_declared.specs.Shown.{all_owned_shown}
use Rattle.cy_declared.proofs.tables.note_callables.Given as goal

abbrev pub invariant-loop-function : goal.invariant-loop-function
invariant-loop-function l =
    l.initial.out ++ map (λ o. callable_of l.known l.set l.«module» o.owner o.function) (all_owned_shown l.owned)
    ≡ l.out ++ map (λ o. callable_of l.known l.set l.«module» o.owner o.function) (all_owned_shown (drop l.function-index l.owned))
