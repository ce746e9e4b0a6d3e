use Rattle.std.proofs.Common.{rules, arith, ◌∙◌, sym}
use Rattle.std.proofs.lemmas.Grind.{common_steps}
use Rattle.forms.proofs.Loops.{loop_begins, loop_stops, loop_fails, loop_goes_on, loop_ends}
use Rattle.token_input.proofs.Failing.{failing}
use Rattle.pyx_suite.proofs.suites.Suites.more_stmts.Goals as goal

pub loop-turn-init : goal.loop-turn-init
loop-turn-init g c = rw c.new-found.ensures (loop_begins _ _ _ _ c.len-turn-end.ensures)

pub returns-then-not-sees : goal.returns-then-not-sees
returns-then-not-sees g c = loop_stops _ _ _ _ _ _ _ _ _ c.loop-turn-test.true c.loop-turn.invariant (sym c.sees.ensures ∙ c.if-not-sees.true)

pub returns-in_err-item : goal.returns-in_err-item
returns-in_err-item g c =
    let e = failing _ _ _ _ (λ z k. loop_fails _ _ _ _ _ _ _ _ _ z _ c.loop-turn-test.true c.loop-turn.invariant (sym c.sees.ensures ∙ c.if-not-sees.false) k) c.in_err-item.ensures in
    first_of (search rules, grind (arith, common_steps))

pub loop-turn-preserved : goal.loop-turn-preserved
loop-turn-preserved g c = rw c.in_ok-push.ensures.ok
    (loop_goes_on _ _ _ _ _ _ _ _ _ _ _ c.loop-turn-test.true c.loop-turn.invariant (sym c.sees.ensures ∙ c.if-not-sees.false) c.in_ok-item.ensures)

pub returns : goal.returns
returns g c = loop_ends _ _ _ _ _ _ _ _ _ c.loop-turn-test.false c.loop-turn.invariant
