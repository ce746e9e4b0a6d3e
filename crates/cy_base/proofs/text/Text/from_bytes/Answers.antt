use Rattle.std.proofs.Common.{arith}
use Rattle.cy_base.proofs.Breaks.{BreaksAt-once, BreaksAt-not}
use Rattle.cy_base.proofs.text.Text.from_bytes.Goals as goal

pub returns-in_ok-from_str-in-Ok-clause-not_utf8 : goal.returns-in_ok-from_str-in-Ok-clause-not_utf8
returns-in_ok-from_str-in-Ok-clause-not_utf8 c =
    λ n. (grind arith, λ breaks. absurd (BreaksAt-not _ n c.in-Ok.ensures.cases.1 breaks))

pub returns-in_err-from_str-in-Ok-clause-not_utf8 : goal.returns-in_err-from_str-in-Ok-clause-not_utf8
returns-in_err-from_str-in-Ok-clause-not_utf8 c =
    λ n. (grind arith, λ breaks. absurd (BreaksAt-not _ n c.in-Ok.ensures.cases.1 breaks))

pub returns-in-Err-clause-not_utf8 : goal.returns-in-Err-clause-not_utf8
returns-in-Err-clause-not_utf8 c =
    λ n. (λ same. grind (arith, c.in-Err.ensures.cases), λ breaks. grind (arith, BreaksAt-once _ _ n c.in-Err.ensures.cases.1 breaks))
