use Rattle.c_printer.proofs.Joins.{behind}
use Rattle.c_printer.proofs.statement.method_call.Goals as goal

pub returns : goal.returns
returns c = behind _ c.args.out c.in_ok-method.field-0 _ _ c.in_ok-method.ensures c.all_arguments.ensures
