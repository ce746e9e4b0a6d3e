use Rattle.std.proofs.Common.{sym, ap, drop, ◌∙◌}
use Rattle.c_input.proofs.Rows.{left_of}
use Rattle.c_statement.proofs.Chain.{front_of}
use Rattle.c_tree.specs.Statements.{buffer_of}
use Rattle.c_statement.proofs.store.taken.Goals as goal

pub returns-else-fixed-clause-every : goal.returns-else-fixed-clause-every
returns-else-fixed-clause-every c = λ y rest form e.
    let e1 = front_of (buffer_of y) _ rest (ap (drop 4) (sym c.if-not-fixed.ensures ∙ e)) in
    let known = c.in_ok-object.ensures.every y _ form e1 in
    absurd (c.if-fixed.ensures.1 _ (left_of buffer_of known c.in_ok-object.ensures.some.1 e1))
