use Rattle.std.proofs.Common.{◌≡◌, drop}
use Rattle.thin_state.specs.Reads.{all_set}
use Rattle.thin_look.proofs.readings.all_set.Given as goal

abbrev pub invariant-loop-reading : goal.invariant-loop-reading
invariant-loop-reading l = all_set l.readings ≡ all_set (drop l.reading-index l.readings)
