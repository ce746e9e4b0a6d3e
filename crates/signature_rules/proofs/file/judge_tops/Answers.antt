use Rattle.std.proofs.Common.{◌+◌, drop}
use Rattle.std.specs.List.{flat_map}
use Rattle.first_breach.specs.First.{IsLeastWith}
use Rattle.first_breach.proofs.Joins.{with-none}
use Rattle.signature_rules.specs.Rules.{in_top}
use Rattle.signature_rules.specs.Walk.{all_breaches}
use Rattle.signature_rules.proofs.Lists.{more-noted}
use Rattle.first_breach.proofs.Loops.{ended, next}
use Rattle.signature_rules.proofs.file.judge_tops.Goals as goal

pub loop-top-preserved : goal.loop-top-preserved
loop-top-preserved c = λ last it.
    c.loop-top.invariant last
    (next (λ xs. IsLeastWith c.loop-top.least (all_breaches c.args.file (flat_map in_top xs)) last) c.args.tops.now c.loop-top.top-index c.top-item.result c.loop-top-test.true c.top-item.is
    (more-noted c.args.file (in_top c.top-item.result) (flat_map in_top (drop (c.loop-top.top-index + 1) c.args.tops.now)) c.judge_top-least.ensures it))

pub returns : goal.returns
returns c =
    c.loop-top.invariant c.loop-top.least
    (ended (λ xs. IsLeastWith c.loop-top.least (all_breaches c.args.file (flat_map in_top xs)) c.loop-top.least) c.args.tops.now c.loop-top.top-index c.loop-top-test.false (with-none c.loop-top.least))
