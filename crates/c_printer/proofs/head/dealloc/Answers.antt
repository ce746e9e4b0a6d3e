use Rattle.c_printer.proofs.Joins.{behind}
use Rattle.c_printer.proofs.head.dealloc.Goals as goal

pub returns : goal.returns
returns c = behind _ c.args.out c.in_ok-text.field-0 _ _ c.in_ok-text.ensures (behind _ c.in_ok-text.field-0 c.in_ok-out.out _ _ c.in_ok-out.ensures c.text-2.ensures)
