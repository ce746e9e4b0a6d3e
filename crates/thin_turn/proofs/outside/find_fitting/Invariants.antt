use Rattle.std.proofs.Common.{◌≡◌, drop}
use Rattle.thin_turn.specs.Turns.{fitting}
use Rattle.thin_turn.proofs.outside.find_fitting.Given as goal

abbrev pub invariant-loop-i : goal.invariant-loop-i
invariant-loop-i l = fitting l.stage.files.now l.stage.places.now (drop l.from l.script) ≡ fitting l.stage.files.now l.stage.places.now (drop l.i l.script)
