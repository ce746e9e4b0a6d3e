use Rattle.std.proofs.Common.{◌≡◌, drop}
use Rattle.c_value.specs.Values.{all_set}
use Rattle.c_value.proofs.values.all_set.Given as goal

abbrev pub invariant-loop-reading : goal.invariant-loop-reading
invariant-loop-reading l = all_set l.readings ≡ all_set (drop l.reading-index l.readings)
