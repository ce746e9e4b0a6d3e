use Rattle.std.proofs.Common.{drop}
use Rattle.thin_tables.specs.Tables.{AreLabelsFrom}
use Rattle.thin_tables.proofs.jumps.label_table.Given as goal

abbrev pub invariant-loop-at : goal.invariant-loop-at
invariant-loop-at l = AreLabelsFrom l.at (drop l.at l.lines) l.labels
