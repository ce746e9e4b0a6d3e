use Rattle.std.proofs.Common.{◌≡◌, drop}
use Rattle.thin_state.specs.Reads.{any_null}
use Rattle.thin_look.proofs.readings.any_null.Given as goal

abbrev pub invariant-loop-reading : goal.invariant-loop-reading
invariant-loop-reading l = any_null l.readings ≡ any_null (drop l.reading-index l.readings)
