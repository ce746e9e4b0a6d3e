use Rattle.std.proofs.Common.{drop}
use Rattle.thin_tables.specs.Tables.{AreNumbersFrom}
use Rattle.thin_tables.proofs.numbers.Numbers.of.Given as goal

abbrev pub invariant-loop-at : goal.invariant-loop-at
invariant-loop-at l = AreNumbersFrom l.at (drop l.at l.cells) l.numbers
