use Rattle.std.proofs.Common.{◌≡◌, false, arith}
use Rattle.std.specs.Prelude.{IsTrue}
use Rattle.first_breach.proofs.OneMore.{first-changes, first-stays}
use Rattle.first_breach.proofs.least.earlier.Goals as goal

pub returns-then-is_before : goal.returns-then-is_before
returns-then-is_before c = λ before it. first-changes before c.args.found c.args.next it (c.is_before.ensures.0 c.if-is_before.true)

pub returns-else-is_before : goal.returns-else-is_before
returns-else-is_before c = λ before it. first-stays before c.args.found c.args.next it (λ h. let t : IsTrue c.is_before.result = c.is_before.ensures.1 h in let f : c.is_before.result ≡ false = c.if-is_before.false in grind (arith, t, f))
