use Rattle.std.proofs.Common.{drop}
use Rattle.c_frame.specs.Tables.{AreLabelsFrom}
use Rattle.c_frame.proofs.jumps.label_table.Given as goal

abbrev pub invariant-loop-at : goal.invariant-loop-at
invariant-loop-at l = AreLabelsFrom l.at (drop l.at l.lines) l.labels
