use Rattle.c_printer.proofs.Joins.{behind}
use Rattle.c_printer.proofs.tables.module_definition.Goals as goal

pub returns : goal.returns
returns c = behind _ c.args.out c.in_ok-static_word.field-0 _ _ c.in_ok-static_word.ensures (behind _ c.in_ok-static_word.field-0 c.in_ok-out.out _ _ c.in_ok-out.ensures (behind _ c.in_ok-out.out c.in_ok-blank.field-0 _ _ c.in_ok-blank.ensures (behind _ c.in_ok-blank.field-0 c.in_ok-string.field-0 _ _ c.in_ok-string.ensures c.text-2.ensures)))
