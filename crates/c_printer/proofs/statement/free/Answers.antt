use Rattle.c_tree.specs.Statements.{statement_spelling}
use Rattle.c_printer.proofs.Joins.{behind}
use Rattle.c_printer.proofs.statement.free.Goals as goal

pub returns : goal.returns
unfolding statement_spelling
returns c = behind _ c.args.out c.in_ok-text.field-0 _ _ c.in_ok-text.ensures (behind _ c.in_ok-text.field-0 c.in_ok-out.out _ _ c.in_ok-out.ensures (behind _ c.in_ok-out.out c.in_ok-text-2.field-0 _ _ c.in_ok-text-2.ensures (behind _ c.in_ok-text-2.field-0 c.in_ok-out-2.out _ _ c.in_ok-out-2.ensures c.text-3.ensures)))
