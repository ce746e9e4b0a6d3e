use Rattle.std.proofs.Common.{◌≡◌, ◌++◌, drop}
use Rattle.c_value.specs.Values.{passed}
use Rattle.c_value.proofs.values.passed.Given as goal

abbrev pub invariant-loop-reading : goal.invariant-loop-reading
invariant-loop-reading l = passed l.readings ≡ l.objects ++ passed (drop l.reading-index l.readings)
