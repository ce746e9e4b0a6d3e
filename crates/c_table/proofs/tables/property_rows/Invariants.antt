use Rattle.std.proofs.Common.{length}
use Rattle.c_input.proofs.Lists.{IsRead}
use Rattle.c_tree.specs.Forms.{IsProperty}
use Rattle.c_table.specs.Parts.{property_tokens}
use Rattle.c_table.proofs.Ends.{EndsProperties}
use Rattle.c_table.proofs.tables.property_rows.Given as goal

abbrev pub invariant-loop-alloc : goal.invariant-loop-alloc
invariant-loop-alloc l = IsRead IsProperty property_tokens EndsProperties l.initial.input l.rows l.input

abbrev pub decreases-loop-alloc : goal.decreases-loop-alloc
decreases-loop-alloc l = length l.input
