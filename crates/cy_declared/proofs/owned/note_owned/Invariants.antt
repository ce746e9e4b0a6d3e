use Rattle.std.proofs.Common.{◌≡◌, ◌++◌, drop}
use Rattle.cy_declared.specs.Functions.{owned_from}
use Rattle.cy_declared.specs.Shown.{all_owned_shown}
use Rattle.cy_declared.proofs.owned.note_owned.Given as goal

abbrev pub invariant-loop-top : goal.invariant-loop-top
invariant-loop-top l =
    all_owned_shown l.initial.out.items ++ owned_from l.«module» 0 l.tops ≡ all_owned_shown l.out.items ++ owned_from l.«module» l.before (drop l.top-index l.tops)
