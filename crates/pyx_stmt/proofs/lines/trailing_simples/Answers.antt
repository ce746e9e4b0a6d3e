use Rattle.std.proofs.Common.{rules, arith, ◌∙◌, sym}
use Rattle.std.proofs.lemmas.Grind.{common_steps}
use Rattle.forms.proofs.RowLoops.{row_begins, row_turn, row_stops, row_is_last, row_fails, row_goes_on, row_ends}
use Rattle.token_input.proofs.Failing.{failing}
use Rattle.pyx_stmt.proofs.lines.trailing_simples.Goals as goal

pub loop-turn-init : goal.loop-turn-init
loop-turn-init c = rw c.new-found.ensures (row_begins _ _ _ _ _ c.len-turn-end.ensures)

pub returns-then-not-flag : goal.returns-then-not-flag
returns-then-not-flag c =
    row_stops _ _ _ _ _ _ _ _ _ _ (row_turn _ _ _ _ _ _ _ _ c.loop-turn-test.true c.loop-turn.invariant) (rw c.if-not-flag.true at c.flag.ensures)

pub returns-then-not-sees : goal.returns-then-not-sees
returns-then-not-sees c =
    row_is_last _ _ _ _ _ _ _ _ _ _ (row_turn _ _ _ _ _ _ _ _ c.loop-turn-test.true c.loop-turn.invariant) (rw c.if-not-flag.false at c.flag.ensures) (sym c.sees.ensures ∙ c.if-not-sees.true)

pub returns-in_err-next : goal.returns-in_err-next
returns-in_err-next c =
    let e = failing _ _ _ _ (λ z k. row_fails _ _ _ _ _ _ _ _ _ _ (row_turn _ _ _ _ _ _ _ _ c.loop-turn-test.true c.loop-turn.invariant) z _ (rw c.if-not-flag.false at c.flag.ensures) (sym c.sees.ensures ∙ c.if-not-sees.false) k) c.in_err-next.ensures in
    first_of (search rules, grind (arith, common_steps))

pub loop-turn-preserved : goal.loop-turn-preserved
loop-turn-preserved c = rw c.in_ok-push.ensures.ok
    (row_goes_on _ _ _ _ _ _ _ _ _ _ (row_turn _ _ _ _ _ _ _ _ c.loop-turn-test.true c.loop-turn.invariant) _ _ (rw c.if-not-flag.false at c.flag.ensures) (sym c.sees.ensures ∙ c.if-not-sees.false) c.in_ok-next.ensures)

pub returns : goal.returns
returns c = row_ends _ _ _ _ _ _ _ _ c.loop-turn-test.false c.loop-turn.invariant
