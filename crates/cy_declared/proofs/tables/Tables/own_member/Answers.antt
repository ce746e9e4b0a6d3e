use Rattle.std.proofs.Common.{◌∙◌, ap}
use Rattle.cy_declared.specs.Tables.{own_member_at}
use Rattle.cy_declared.proofs.Agree.{own-member-is}
use Rattle.cy_declared.proofs.tables.Tables.own_member.Goals as goal

pub returns-clause-declared : goal.returns-clause-declared
returns-clause-declared c = λ set e. c.find_member.ensures ∙ ap (λ t. own_member_at t c.args.class c.args.name.now) e ∙ own-member-is c.args.self.now.known set c.args.class c.args.name.now
