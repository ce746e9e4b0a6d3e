use Rattle.std.proofs.Common.{length}
use Rattle.c_input.proofs.Lists.{IsRead}
use Rattle.c_table.specs.Parts.{method_tokens, IsMethod}
use Rattle.c_table.proofs.Ends.{EndsMethods}
use Rattle.c_table.proofs.tables.method_rows.Given as goal

abbrev pub invariant-loop-alloc : goal.invariant-loop-alloc
invariant-loop-alloc l = IsRead IsMethod method_tokens EndsMethods l.initial.input l.rows l.input

abbrev pub decreases-loop-alloc : goal.decreases-loop-alloc
decreases-loop-alloc l = length l.input
