use Rattle.std.proofs.Common.{◌+◌, drop}
use Rattle.std.specs.List.{flat_map}
use Rattle.first_breach.specs.First.{IsLeastWith}
use Rattle.first_breach.proofs.Joins.{with-both, with-none}
use Rattle.first_breach.proofs.Loops.{ended, next}
use Rattle.declaration_rules.specs.Rules.{void_breaches}
use Rattle.type_uses.specs.Shown.{all_shown, shown}
use Rattle.declaration_rules.proofs.types.judge_voids.Goals as goal

pub loop-found-preserved : goal.loop-found-preserved
loop-found-preserved c = λ last it.
    let file = c.args.file in
    let least = c.loop-found.least in
    let rest = drop (c.loop-found.found-index + 1) c.args.uses.now in
    c.loop-found.invariant last
    (next (λ xs. IsLeastWith least (flat_map (void_breaches file) (all_shown (xs))) last) c.args.uses.now c.loop-found.found-index c.found-item.result c.loop-found-test.true c.found-item.is
    (with-both least c.judge_void-least.result last (void_breaches file (shown c.found-item.result)) (flat_map (void_breaches file) (all_shown (rest))) c.judge_void-least.ensures it))

pub returns : goal.returns
returns c =
    c.loop-found.invariant c.loop-found.least
    (ended (λ xs. IsLeastWith c.loop-found.least (flat_map (void_breaches c.args.file) (all_shown (xs))) c.loop-found.least) c.args.uses.now c.loop-found.found-index c.loop-found-test.false (with-none c.loop-found.least))
