use Rattle.std.proofs.Common.{◌≡◌, drop}
use Rattle.thin_turn.specs.Turns.{living}
use Rattle.thin_turn.proofs.outside.find_living.Given as goal

abbrev pub invariant-loop-i : goal.invariant-loop-i
invariant-loop-i l = living (drop l.from l.script) ≡ living (drop l.i l.script)
