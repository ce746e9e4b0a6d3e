use Rattle.c_printer.proofs.Joins.{behind}
use Rattle.c_printer.proofs.types.three.Goals as goal

pub returns : goal.returns
returns c = rw c.as_slice.ensures at (behind _ c.args.out c.in_ok-indent.field-0 _ _ c.in_ok-indent.ensures (behind _ c.in_ok-indent.field-0 c.in_ok-name_member.field-0 _ _ c.in_ok-name_member.ensures (behind _ c.in_ok-name_member.field-0 c.in_ok-out.out _ _ c.in_ok-out.ensures (behind _ c.in_ok-out.out c.in_ok-size_of.field-0 _ _ c.in_ok-size_of.ensures (behind _ c.in_ok-size_of.field-0 c.in_ok-out-2.out _ _ c.in_ok-out-2.ensures c.text.ensures)))))
