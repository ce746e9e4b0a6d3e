use Rattle.std.proofs.Common.{sym, ◌∙◌, ap}
use Rattle.pyx_lex.specs.Tokens as kinds
use Rattle.token_input.proofs.Last.{last_ends, no_end}
use Rattle.token_input.proofs.input.ends.Goals as goal

pub returns-in-End : goal.returns-in-End
returns-in-End c = sym (last_ends _ _ _ c.in-len1-up.len_at_least c.last-item.is ∙ ap kinds.is_end c.in-End.is)

pub returns-in_default : goal.returns-in_default
returns-in_default c = sym (last_ends _ _ _ c.in-len1-up.len_at_least c.last-item.is ∙ no_end _ c.in_default.not-End)
