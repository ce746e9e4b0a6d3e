use Rattle.std.proofs.Common.{◌+◌, drop}
use Rattle.std.specs.List.{flat_map}
use Rattle.first_breach.specs.First.{IsLeastWith}
use Rattle.first_breach.proofs.Joins.{with-none}
use Rattle.signature_rules.specs.Rules.{in_pxd_member}
use Rattle.signature_rules.specs.Walk.{all_breaches}
use Rattle.signature_rules.proofs.Lists.{more-noted}
use Rattle.first_breach.proofs.Loops.{ended, next}
use Rattle.signature_rules.proofs.file.judge_pxd_members.Goals as goal

pub loop-member-preserved : goal.loop-member-preserved
loop-member-preserved c = λ last it.
    c.loop-member.invariant last
    (next (λ xs. IsLeastWith c.loop-member.least (all_breaches c.args.file (flat_map in_pxd_member xs)) last) c.args.members.now c.loop-member.member-index c.member-item.result c.loop-member-test.true c.member-item.is
    (more-noted c.args.file (in_pxd_member c.member-item.result) (flat_map in_pxd_member (drop (c.loop-member.member-index + 1) c.args.members.now)) c.judge_pxd_member-least.ensures it))

pub returns : goal.returns
returns c =
    c.loop-member.invariant c.loop-member.least
    (ended (λ xs. IsLeastWith c.loop-member.least (all_breaches c.args.file (flat_map in_pxd_member xs)) c.loop-member.least) c.args.members.now c.loop-member.member-index c.loop-member-test.false (with-none c.loop-member.least))
