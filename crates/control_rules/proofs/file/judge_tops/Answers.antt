use Rattle.control_rules.specs.Walk.{TopsNoted}
use Rattle.control_rules.proofs.Five.{both, none}
use Rattle.first_breach.proofs.Loops.{ended, next}
use Rattle.control_rules.proofs.file.judge_tops.Goals as goal

pub loop-top-preserved : goal.loop-top-preserved
loop-top-preserved c = λ last it.
    c.loop-top.invariant last
    (next (λ xs. TopsNoted c.args.file xs c.loop-top.least last) c.args.tops.now c.loop-top.top-index c.top-item.result c.loop-top-test.true c.top-item.is
    (both c.judge_top-least.ensures it))

pub returns : goal.returns
returns c =
    c.loop-top.invariant c.loop-top.least
    (ended (λ xs. TopsNoted c.args.file xs c.loop-top.least c.loop-top.least) c.args.tops.now c.loop-top.top-index c.loop-top-test.false none)
