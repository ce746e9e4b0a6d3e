use Rattle.std.proofs.Common.{drop}
use Rattle.c_frame.specs.Tables.{AreCellsFrom}
use Rattle.c_frame.proofs.numbers.Numbers.of_cells.Given as goal

abbrev pub invariant-loop-at : goal.invariant-loop-at
invariant-loop-at l = AreCellsFrom l.at (drop l.at l.cells) l.numbers
