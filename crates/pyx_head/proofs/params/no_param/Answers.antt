use Rattle.std.proofs.Common.{◌∙◌, sym}
use Rattle.pyx_head.proofs.NoParam.{none_stops, none_is_last, none_fails, third}
use Rattle.pyx_head.proofs.params.no_param.Goals as goal

pub returns-then-not-flag : goal.returns-then-not-flag
returns-then-not-flag c = none_stops _ _ _ _ _ _ _ _ (rw c.if-not-flag.true at c.flag.ensures)

pub returns-then-not-sees : goal.returns-then-not-sees
returns-then-not-sees c = none_is_last _ _ _ _ _ _ _ _ (rw c.if-not-flag.false at c.flag.ensures) (sym c.sees.ensures ∙ c.if-not-sees.true)

pub returns : goal.returns
returns c = (λ h. cc, none_fails _ _ _ _ _ _ _ _ _ _ (rw c.if-not-flag.false at c.flag.ensures) (sym c.sees.ensures ∙ c.if-not-sees.false) (third _ _ (sym c.sees.ensures ∙ c.if-not-sees.false)))
