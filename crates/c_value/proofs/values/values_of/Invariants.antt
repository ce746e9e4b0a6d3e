use Rattle.std.proofs.Common.{◌≡◌, ◌++◌, drop}
use Rattle.c_value.specs.Values.{values_of}
use Rattle.c_value.proofs.values.values_of.Given as goal

abbrev pub invariant-loop-reading : goal.invariant-loop-reading
invariant-loop-reading l = values_of l.readings ≡ l.values ++ values_of (drop l.reading-index l.readings)
