use Rattle.c_tree.specs.Items.{item_spelling}
use Rattle.c_printer.proofs.Joins.{behind}
use Rattle.c_printer.proofs.fixed.format_test.Goals as goal

pub returns : goal.returns
unfolding item_spelling
returns c = behind _ c.args.out c.in_ok-text.field-0 _ _ c.in_ok-text.ensures (behind _ c.in_ok-text.field-0 c.in_ok-out.out _ _ c.in_ok-out.ensures (behind _ c.in_ok-out.out c.in_ok-default_letter.field-0 _ _ c.in_ok-default_letter.ensures (behind _ c.in_ok-default_letter.field-0 c.in_ok-native_letter.field-0 _ _ c.in_ok-native_letter.ensures (behind _ c.in_ok-native_letter.field-0 c.in_ok-out-2.out _ _ c.in_ok-out-2.ensures (behind _ c.in_ok-out-2.out c.in_ok-line.field-0 _ _ c.in_ok-line.ensures c.text-2.ensures)))))
