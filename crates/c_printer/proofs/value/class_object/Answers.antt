use Rattle.c_printer.proofs.Joins.{behind}
use Rattle.c_printer.proofs.value.class_object.Goals as goal

pub returns : goal.returns
returns c = behind _ c.args.out c.in_ok-text.field-0 _ _ c.in_ok-text.ensures c.numbered.ensures
