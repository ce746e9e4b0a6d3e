use Rattle.std.proofs.Common.{◌∙◌, ap}
use Rattle.cy_declared.specs.Tables.{member_at}
use Rattle.cy_declared.proofs.Agree.{member-first}
use Rattle.cy_declared.proofs.table.MemberTable.get.Goals as goal

pub returns-clause-first : goal.returns-clause-first
returns-clause-first c = λ entries e. c.find.ensures ∙ ap (λ t. member_at t c.args.name.now) e ∙ member-first entries c.args.name.now
