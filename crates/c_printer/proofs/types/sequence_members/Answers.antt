use Rattle.c_printer.proofs.Joins.{behind}
use Rattle.c_printer.proofs.types.sequence_members.Goals as goal

pub returns-in_ok-length_member-in-Some : goal.returns-in_ok-length_member-in-Some
returns-in_ok-length_member-in-Some c = rw c.in-Some.is (behind _ c.args.out c.in_ok-length_member-in-Some.field-0 _ _ c.in_ok-length_member-in-Some.ensures c.contains_if_any.ensures)
