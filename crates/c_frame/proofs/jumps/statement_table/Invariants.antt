use Rattle.std.proofs.Common.{◌≡◌, drop, length}
use Rattle.c_frame.specs.Lines.{statement_from, statements_from}
use Rattle.c_frame.proofs.jumps.statement_table.Given as goal

abbrev pub invariant-loop-at : goal.invariant-loop-at
invariant-loop-at l =
    (length l.statements.items ≡ length l.lines)
    × (l.statement ≡ statement_from l.at (drop l.at l.lines))
    × (drop l.at l.statements.items ≡ statements_from l.at (drop l.at l.lines))
