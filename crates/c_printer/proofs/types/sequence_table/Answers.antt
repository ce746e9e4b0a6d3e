use Rattle.c_printer.proofs.Joins.{behind}
use Rattle.c_printer.proofs.types.sequence_table.Goals as goal

pub returns : goal.returns
returns c = behind _ c.args.out c.in_ok-static_word.field-0 _ _ c.in_ok-static_word.ensures (behind _ c.in_ok-static_word.field-0 c.in_ok-out.out _ _ c.in_ok-out.ensures (behind _ c.in_ok-out.out c.in_ok-numbered.field-0 _ _ c.in_ok-numbered.ensures (behind _ c.in_ok-numbered.field-0 c.in_ok-equals.field-0 _ _ c.in_ok-equals.ensures (behind _ c.in_ok-equals.field-0 c.in_ok-out-2.out _ _ c.in_ok-out-2.ensures (behind _ c.in_ok-out-2.out c.in_ok-sequence_members.field-0 _ _ c.in_ok-sequence_members.ensures c.ends_here.ensures)))))
