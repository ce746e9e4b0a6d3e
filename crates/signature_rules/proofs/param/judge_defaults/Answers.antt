use Rattle.std.proofs.Common.{◌+◌, drop, Bool, subst}
use Rattle.first_breach.specs.First.{IsLeastWith}
use Rattle.first_breach.proofs.Joins.{with-both, with-none}
use Rattle.signature_rules.specs.Rules.{behind, default_breaches, defaults_breaches}
use Rattle.first_breach.proofs.Loops.{ended, next}
use Rattle.signature_rules.proofs.param.judge_defaults.Goals as goal

pub loop-param-preserved : goal.loop-param-preserved
loop-param-preserved c = λ last it.
    let file = c.args.file in
    let p = c.param-item.result in
    let least = c.loop-param.least in
    let rest = drop (c.loop-param.param-index + 1) c.args.params.now in
    let after = behind c.loop-param.is_behind p.default in
    let then : IsLeastWith c.judge_default-least.result (defaults_breaches file after rest) last =
    subst (λ (b : Bool). IsLeastWith c.judge_default-least.result (defaults_breaches file b rest) last) c.is_behind_next-is_behind.ensures it in
    c.loop-param.invariant last
    (next (λ ps. IsLeastWith least (defaults_breaches file c.loop-param.is_behind ps) last) c.args.params.now c.loop-param.param-index p c.loop-param-test.true c.param-item.is
    (with-both least c.judge_default-least.result last (default_breaches file c.loop-param.is_behind p p.default) (defaults_breaches file after rest) c.judge_default-least.ensures then))

pub returns : goal.returns
returns c =
    c.loop-param.invariant c.loop-param.least
    (ended (λ ps. IsLeastWith c.loop-param.least (defaults_breaches c.args.file c.loop-param.is_behind ps) c.loop-param.least) c.args.params.now c.loop-param.param-index c.loop-param-test.false (with-none c.loop-param.least))
