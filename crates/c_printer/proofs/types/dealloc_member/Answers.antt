use Rattle.c_printer.proofs.Joins.{behind}
use Rattle.c_printer.proofs.types.dealloc_member.Goals as goal

pub returns : goal.returns
returns c = behind _ c.args.out c.in_ok-text.field-0 _ _ c.in_ok-text.ensures (behind _ c.in_ok-text.field-0 c.in_ok-gives.field-0 _ _ c.in_ok-gives.ensures c.numbered.ensures)
