use Rattle.std.proofs.Common.{◌≡◌, length}
use Rattle.c_tree.specs.Forms.{IsLine}
use Rattle.c_tree.specs.Items.{line_spelling}
use Rattle.c_input.proofs.Lists.{IsRead}
use Rattle.c_statement.specs.Lines.{ends_in_label, IsClosed}
use Rattle.c_statement.proofs.body.lines.Given as goal

abbrev pub invariant-loop-alloc : goal.invariant-loop-alloc
invariant-loop-alloc l = IsRead IsLine line_spelling IsClosed l.fn.input l.all.items l.input × (l.labelled ≡ ends_in_label l.all.items)

abbrev pub decreases-loop-alloc : goal.decreases-loop-alloc
decreases-loop-alloc l = length l.input
