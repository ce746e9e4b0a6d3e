use Rattle.control_rules.specs.Walk.{SimplesNoted}
use Rattle.control_rules.proofs.Five.{both, none}
use Rattle.first_breach.proofs.Loops.{ended, next}
use Rattle.control_rules.proofs.leaf.judge_simples.Goals as goal

pub loop-simple-init : goal.loop-simple-init
loop-simple-init c = λ last it. it

pub loop-simple-preserved : goal.loop-simple-preserved
loop-simple-preserved c = λ last it.
    c.loop-simple.invariant last
    (next (λ ss. SimplesNoted c.args.file c.args.around ss c.loop-simple.least last) c.args.simples.now c.loop-simple.simple-index c.simple-item.result c.loop-simple-test.true c.simple-item.is
    (both c.judge_simple-least.ensures it))

pub returns : goal.returns
returns c =
    c.loop-simple.invariant c.loop-simple.least
    (ended (λ ss. SimplesNoted c.args.file c.args.around ss c.loop-simple.least c.loop-simple.least) c.args.simples.now c.loop-simple.simple-index c.loop-simple-test.false none)
