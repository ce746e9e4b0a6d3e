use Rattle.c_printer.proofs.Joins.{behind}
use Rattle.c_printer.proofs.statement.load_extent.Goals as goal

pub returns : goal.returns
returns c = behind _ c.args.out c.in_ok-to.field-0 _ _ c.in_ok-to.ensures (behind _ c.in_ok-to.field-0 c.in_ok-extent.field-0 _ _ c.in_ok-extent.ensures c.semicolon.ensures)
