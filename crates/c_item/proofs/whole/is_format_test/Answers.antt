use Rattle.std.proofs.Common.{[], sym, ◌∙◌}
use Rattle.c_item.proofs.whole.is_format_test.Goals as goal

pub returns-then-not-format_test : goal.returns-then-not-format_test
returns-then-not-format_test c = (λ h. absurd (cc h), λ h. absurd (c.if-not-format_test.ensures [] (c.new-input.ensures ∙ sym h)))
