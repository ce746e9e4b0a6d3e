use Rattle.c_printer.proofs.Joins.{behind}
use Rattle.c_printer.proofs.structs.table_value.Goals as goal

pub returns : goal.returns
returns c = rw (c.as_slice.ensures, c.as_slice-2.ensures, c.as_slice-3.ensures, c.len.ensures) at (behind _ c.args.out c.in_ok-open_inner.field-0 _ _ c.in_ok-open_inner.ensures (behind _ c.in_ok-open_inner.field-0 c.in_ok-out.out _ _ c.in_ok-out.ensures (behind _ c.in_ok-out.out c.in_ok-string.field-0 _ _ c.in_ok-string.ensures (behind _ c.in_ok-string.field-0 c.in_ok-out-2.out _ _ c.in_ok-out-2.ensures (behind _ c.in_ok-out-2.out c.in_ok-layers.field-0 _ _ c.in_ok-layers.ensures c.close_inner.ensures)))))
