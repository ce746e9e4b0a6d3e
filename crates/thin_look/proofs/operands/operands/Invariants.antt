use Rattle.std.proofs.Common.{◌≡◌, drop}
use Rattle.thin_look.specs.Readings.{operands_in, prefixed}
use Rattle.thin_look.proofs.operands.operands.Given as goal

abbrev pub invariant-loop-k : goal.invariant-loop-k
invariant-loop-k l = operands_in l.items l.spots l.cells l.ks ≡ prefixed l.readings (operands_in l.items l.spots l.cells (drop l.k-index l.ks))
