use Rattle.c_tree.specs.Statements.{statement_spelling}
use Rattle.c_printer.proofs.Joins.{behind}
use Rattle.c_printer.proofs.statement.given_back.Goals as goal

pub returns-in-None : goal.returns-in-None
unfolding statement_spelling
returns-in-None c = rw c.in-None.is (c.text.ensures)

pub returns-in_ok-value-in-Some : goal.returns-in_ok-value-in-Some
unfolding statement_spelling
returns-in_ok-value-in-Some c = rw c.in-Some.is (behind _ c.args.out c.in_ok-return_word-in-Some.field-0 _ _ c.in_ok-return_word-in-Some.ensures (behind _ c.in_ok-return_word-in-Some.field-0 c.in_ok-value-in-Some.field-0 _ _ c.in_ok-value-in-Some.ensures c.semicolon.ensures))
