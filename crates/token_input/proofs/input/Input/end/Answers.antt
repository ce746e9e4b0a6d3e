use Rattle.std.proofs.Common.{◌∙◌, sym, ap, length}
use Rattle.token_input.proofs.Alone.{alone}
use Rattle.token_input.proofs.input.Input.end.Goals as goal

pub returns-then-self-eq1 : goal.returns-then-self-eq1
returns-then-self-eq1 c = alone _ (sym (ap length c.self.view_is) ∙ c.if-self-eq1.true) (sym c.at_end.ensures ∙ c.if-not-at_end.false)
