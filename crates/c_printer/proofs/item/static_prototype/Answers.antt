use Rattle.c_printer.proofs.Joins.{behind}
use Rattle.c_printer.proofs.item.static_prototype.Goals as goal

pub returns : goal.returns
returns c = behind _ c.args.out c.in_ok-word.field-0 _ _ c.in_ok-word.ensures (behind _ c.in_ok-word.field-0 c.in_ok-kind.field-0 _ _ c.in_ok-kind.ensures (behind _ c.in_ok-kind.field-0 c.in_ok-out.out _ _ c.in_ok-out.ensures (behind _ c.in_ok-out.out c.in_ok-types.field-0 _ _ c.in_ok-types.ensures c.text.ensures)))
