use Rattle.std.proofs.Common.{sym, ap, ◌∙◌}
use Rattle.c_item.specs.Words.{opening_at}
use Rattle.c_item.proofs.Openings.{no_word, one_word, two_words}
use Rattle.c_item.proofs.opening.opening.Goals as goal

pub returns-in_default : goal.returns-in_default
returns-in_default c = sym (no_word c.new-input.result c.in_default.ensures.every) ∙ ap opening_at c.new-input.ensures

pub returns-in-Some-next_word : goal.returns-in-Some-next_word
returns-in-Some-next_word c =
    c.worded.ensures
    ∙ (sym (two_words c.in-Some.first.now c.in-Some-next_word.second.now c.word.new.self c.in-Some-next_word.ensures.some) ∙ ap opening_at (sym c.in-Some.ensures.some ∙ c.new-input.ensures))

pub returns-in-None : goal.returns-in-None
returns-in-None c = c.lone.ensures ∙ (sym (one_word c.in-Some.first.now c.word.new.self c.in-None.ensures.every) ∙ ap opening_at (sym c.in-Some.ensures.some ∙ c.new-input.ensures))
