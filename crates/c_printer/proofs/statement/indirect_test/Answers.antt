use Rattle.c_printer.proofs.Joins.{behind}
use Rattle.c_printer.proofs.statement.indirect_test.Goals as goal

pub returns : goal.returns
returns c = behind _ c.args.out c.in_ok-buffer.field-0 _ _ c.in_ok-buffer.ensures c.text.ensures
