use Rattle.std.proofs.Common.{rules, arith, ◌∙◌, sym}
use Rattle.std.proofs.lemmas.Grind.{common_steps}
use Rattle.token_input.proofs.Failing.{failing}
use Rattle.pyx_stmt.proofs.Chain.{chain_begins, chain_stops, chain_fails, chain_goes_on, chain_ends}
use Rattle.pyx_stmt.proofs.assign.more_assigned.Goals as goal

pub loop-turn-init : goal.loop-turn-init
loop-turn-init c = chain_begins _ _ _ _ _ _ c.len-turn-end.ensures

pub returns-then-not-sees : goal.returns-then-not-sees
returns-then-not-sees c = chain_stops _ _ _ _ _ _ _ _ c.loop-turn-test.true c.loop-turn.invariant (sym c.sees.ensures ∙ c.if-not-sees.true)

pub returns-in_err-value : goal.returns-in_err-value
returns-in_err-value c =
    let e = failing _ _ _ _ (λ z k. chain_fails _ _ _ _ _ _ _ _ c.loop-turn-test.true c.loop-turn.invariant z _ (sym c.sees.ensures ∙ c.if-not-sees.false) k) c.in_err-value.ensures in
    first_of (search rules, grind (arith, common_steps))

pub loop-turn-preserved : goal.loop-turn-preserved
loop-turn-preserved c = rw c.in_ok-push.ensures.ok
    (chain_goes_on _ _ _ _ _ _ _ _ c.loop-turn-test.true c.loop-turn.invariant _ _ (sym c.sees.ensures ∙ c.if-not-sees.false) c.in_ok-value.ensures)

pub returns : goal.returns
returns c = chain_ends _ _ _ _ _ _ _ _ c.loop-turn-test.false c.loop-turn.invariant
