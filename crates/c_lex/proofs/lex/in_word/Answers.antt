use Rattle.std.proofs.Common.{List, ℕ, ap, sym, ◌∙◌, slice_index}
use Rattle.std.specs.Prelude.{slice_range}
use Rattle.c_token.specs.CTokens as spec
use Rattle.c_lex.specs.Shown.{line_shown}
use Rattle.c_lex.proofs.Ranges.{range_more}
use Rattle.c_lex.proofs.Steps.{word_goes_on}
use Rattle.c_lex.proofs.lex.in_word.Goals as goal

pub returns-then-is_word_byte-clause-next : goal.returns-then-is_word_byte-clause-next
returns-then-is_word_byte-clause-next c =
    let text = c.args.bytes.now in
    let line = line_shown c.args.line in
    ap (λ (letters : List ℕ). spec.InWord line letters) (range_more text c.args.start c.args.at c.requires.begun c.requires.inside)
    ∙ ap (λ (s : spec.Step). s.next) (sym (word_goes_on line (slice_range text c.args.start c.args.at) (slice_index text c.args.at) (sym c.is_word_byte.ensures ∙ c.if-is_word_byte.true)))
