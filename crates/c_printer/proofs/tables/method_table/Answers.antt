use Rattle.c_printer.proofs.Joins.{behind}
use Rattle.c_printer.proofs.tables.method_table.Goals as goal

pub returns : goal.returns
returns c = behind _ c.args.out c.in_ok-static_word.field-0 _ _ c.in_ok-static_word.ensures (behind _ c.in_ok-static_word.field-0 c.in_ok-out.out _ _ c.in_ok-out.ensures (behind _ c.in_ok-out.out c.in_ok-methods.field-0 _ _ c.in_ok-methods.ensures (behind _ c.in_ok-methods.field-0 c.in_ok-text.field-0 _ _ c.in_ok-text.ensures (behind _ c.in_ok-text.field-0 c.in_ok-out-2.out _ _ c.in_ok-out-2.ensures (behind _ c.in_ok-out-2.out c.in_ok-indent.field-0 _ _ c.in_ok-indent.ensures c.last_method.ensures)))))
