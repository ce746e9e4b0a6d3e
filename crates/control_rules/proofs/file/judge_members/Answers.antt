use Rattle.control_rules.specs.Walk.{MembersNoted}
use Rattle.control_rules.proofs.Five.{both, none}
use Rattle.first_breach.proofs.Loops.{ended, next}
use Rattle.control_rules.proofs.file.judge_members.Goals as goal

pub loop-member-preserved : goal.loop-member-preserved
loop-member-preserved c = λ last it.
    c.loop-member.invariant last
    (next (λ xs. MembersNoted c.args.file xs c.loop-member.least last) c.args.members.now c.loop-member.member-index c.member-item.result c.loop-member-test.true c.member-item.is
    (both c.judge_member-least.ensures it))

pub returns : goal.returns
returns c =
    c.loop-member.invariant c.loop-member.least
    (ended (λ xs. MembersNoted c.args.file xs c.loop-member.least c.loop-member.least) c.args.members.now c.loop-member.member-index c.loop-member-test.false none)
