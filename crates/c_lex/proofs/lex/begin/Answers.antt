use Rattle.std.proofs.Common.{◌≡◌, List, ℕ, ap, sym, ◌∙◌, slice_index}
use Rattle.c_token.specs.CTokens as spec
use Rattle.c_lex.specs.Shown.{kind_shown, line_shown}
use Rattle.c_lex.proofs.Ranges.{range_one}
use Rattle.c_lex.proofs.lex.begin.Goals as goal

pub returns-in-WordByte-clause-next : goal.returns-in-WordByte-clause-next
returns-in-WordByte-clause-next c =
    let b = slice_index c.args.bytes.now c.args.at in
    let is_word : spec.kind_of b ≡ spec.WordByte = sym c.kind_of.ensures ∙ ap kind_shown c.in-WordByte.is in
    ap (λ (letters : List ℕ). spec.InWord (line_shown c.args.line) letters) (range_one c.args.bytes.now c.args.at c.requires)
    ∙ ap (λ kind. (spec.begin kind (line_shown c.args.line) b).next) (sym is_word)
