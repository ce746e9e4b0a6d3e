use Rattle.std.proofs.Common.{◌+◌, drop}
use Rattle.std.specs.List.{flat_map}
use Rattle.first_breach.specs.First.{IsLeastWith}
use Rattle.first_breach.proofs.Joins.{with-both, with-none}
use Rattle.signature_rules.specs.Rules.{default_place}
use Rattle.first_breach.proofs.Loops.{ended, next}
use Rattle.signature_rules.proofs.param.judge_each_c_default.Goals as goal

pub loop-param-preserved : goal.loop-param-preserved
loop-param-preserved c = λ last it.
    let file = c.args.file in
    let p = c.param-item.result in
    let least = c.loop-param.least in
    let rest = drop (c.loop-param.param-index + 1) c.args.params.now in
    c.loop-param.invariant last
    (next (λ ps. IsLeastWith least (flat_map (λ p. default_place file p.default) ps) last) c.args.params.now c.loop-param.param-index p c.loop-param-test.true c.param-item.is
    (with-both least c.judge_c_default-least.result last (default_place file p.default) (flat_map (λ p. default_place file p.default) rest) c.judge_c_default-least.ensures it))

pub returns : goal.returns
returns c =
    c.loop-param.invariant c.loop-param.least
    (ended (λ ps. IsLeastWith c.loop-param.least (flat_map (λ p. default_place c.args.file p.default) ps) c.loop-param.least) c.args.params.now c.loop-param.param-index c.loop-param-test.false (with-none c.loop-param.least))
