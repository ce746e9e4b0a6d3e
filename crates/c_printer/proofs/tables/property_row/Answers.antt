use Rattle.c_printer.specs.Rows.{row_tokens}
use Rattle.c_printer.proofs.Joins.{behind}
use Rattle.c_printer.proofs.tables.property_row.Goals as goal

pub returns : goal.returns
unfolding row_tokens
returns c = rw c.as_slice.ensures at (behind _ c.args.out c.in_ok-indent.field-0 _ _ c.in_ok-indent.ensures (behind _ c.in_ok-indent.field-0 c.in_ok-open_brace.field-0 _ _ c.in_ok-open_brace.ensures (behind _ c.in_ok-open_brace.field-0 c.in_ok-string.field-0 _ _ c.in_ok-string.ensures (behind _ c.in_ok-string.field-0 c.in_ok-out.out _ _ c.in_ok-out.ensures (behind _ c.in_ok-out.out c.in_ok-getter.field-0 _ _ c.in_ok-getter.ensures (behind _ c.in_ok-getter.field-0 c.in_ok-comma.field-0 _ _ c.in_ok-comma.ensures (behind _ c.in_ok-comma.field-0 c.in_ok-out-2.out _ _ c.in_ok-out-2.ensures c.text.ensures)))))))
