use Rattle.std.proofs.Common.{◌+◌, drop}
use Rattle.std.specs.List.{flat_map}
use Rattle.first_breach.specs.First.{IsLeastWith}
use Rattle.first_breach.proofs.Joins.{with-both, with-none}
use Rattle.first_breach.proofs.Loops.{ended, next}
use Rattle.declaration_rules.specs.Rules.{maybe_view}
use Rattle.declaration_rules.proofs.views.judge_each_param.Goals as goal

pub loop-param-preserved : goal.loop-param-preserved
loop-param-preserved c = λ last it.
    let file = c.args.file in
    let least = c.loop-param.least in
    let rest = drop (c.loop-param.param-index + 1) c.args.params.now in
    c.loop-param.invariant last
    (next (λ xs. IsLeastWith least (flat_map ((λ p. maybe_view file p.kind)) (xs)) last) c.args.params.now c.loop-param.param-index c.param-item.result c.loop-param-test.true c.param-item.is
    (with-both least c.judge_maybe-least.result last (maybe_view file c.param-item.result.kind) (flat_map ((λ p. maybe_view file p.kind)) (rest)) c.judge_maybe-least.ensures it))

pub returns : goal.returns
returns c =
    c.loop-param.invariant c.loop-param.least
    (ended (λ xs. IsLeastWith c.loop-param.least (flat_map ((λ p. maybe_view c.args.file p.kind)) (xs)) c.loop-param.least) c.args.params.now c.loop-param.param-index c.loop-param-test.false (with-none c.loop-param.least))
