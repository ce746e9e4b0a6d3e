use Rattle.std.proofs.Common.{◌≡◌, List, [], ◌∷◌, ◌++◌, ℕ, ap, sym, ◌∙◌, subst, ◌+◌, slice_index, append-nil, true, false}
use Rattle.std.specs.Prelude.{slice_range, IfOk, OnOk}
use Rattle.c_token.specs.CTokens as spec
use Rattle.c_token.specs.CTokens.{CToken}
use Rattle.c_cut.specs.Shown.{item_shown}
use Rattle.c_lex.specs.Shown.{line_shown, mode_shown}
use Rattle.c_lex.proofs.Ranges.{range_more}
use Rattle.c_lex.proofs.Steps.{sign_goes_on, sign_ends}
use Rattle.c_lex.proofs.lex.in_sign.Goals as goal

pub returns-then-is_long_sign-clause-given : goal.returns-then-is_long_sign-clause-given
returns-then-is_long_sign-clause-given c =
    let text = c.args.bytes.now in
    let line = line_shown c.args.line in
    let letters = slice_range text c.args.start c.args.at in
    let b = slice_index text c.args.at in
    let long : spec.is_long_sign (letters ++ b ∷ []) ≡ true =
    ap spec.is_long_sign (sym (range_more text c.args.start c.args.at c.requires.begun c.requires.inside)) ∙ (sym c.is_long_sign.ensures ∙ c.if-is_long_sign.true) in
    sym (append-nil (item_shown c.args.tokens.now.items))
    ∙ ap (λ (s : spec.Step). item_shown c.args.tokens.now.items ++ s.given) (sym (sign_goes_on line letters b long))

pub returns-then-is_long_sign-clause-next : goal.returns-then-is_long_sign-clause-next
returns-then-is_long_sign-clause-next c =
    let text = c.args.bytes.now in
    let line = line_shown c.args.line in
    let letters = slice_range text c.args.start c.args.at in
    let b = slice_index text c.args.at in
    let longer = range_more text c.args.start c.args.at c.requires.begun c.requires.inside in
    let long : spec.is_long_sign (letters ++ b ∷ []) ≡ true =
    ap spec.is_long_sign (sym longer) ∙ (sym c.is_long_sign.ensures ∙ c.if-is_long_sign.true) in
    ap (λ (w : List ℕ). spec.InSign line w) longer
    ∙ ap (λ (s : spec.Step). s.next) (sym (sign_goes_on line letters b long))

pub returns-clause-given : goal.returns-clause-given
returns-clause-given c =
    let text = c.args.bytes.now in
    let line = line_shown c.args.line in
    let letters = slice_range text c.args.start c.args.at in
    let b = slice_index text c.args.at in
    let short : spec.is_long_sign (letters ++ b ∷ []) ≡ false =
    ap spec.is_long_sign (sym (range_more text c.args.start c.args.at c.requires.begun c.requires.inside)) ∙ (sym c.is_long_sign.ensures ∙ c.if-is_long_sign.false) in
    let same = ap (λ (w : List ℕ). spec.ends (spec.Sign w) line b) c.in_ok-copied.ensures ∙ sym (sign_ends line letters b short) in
    subst (λ (s : spec.Step). OnOk c.end_token.result (item_shown c.end_token.new.tokens.items ≡ item_shown c.args.tokens.now.items ++ s.given)) same c.end_token.ensures.given

pub returns-clause-next : goal.returns-clause-next
returns-clause-next c =
    let text = c.args.bytes.now in
    let line = line_shown c.args.line in
    let letters = slice_range text c.args.start c.args.at in
    let b = slice_index text c.args.at in
    let short : spec.is_long_sign (letters ++ b ∷ []) ≡ false =
    ap spec.is_long_sign (sym (range_more text c.args.start c.args.at c.requires.begun c.requires.inside)) ∙ (sym c.is_long_sign.ensures ∙ c.if-is_long_sign.false) in
    let same = ap (λ (w : List ℕ). spec.ends (spec.Sign w) line b) c.in_ok-copied.ensures ∙ sym (sign_ends line letters b short) in
    subst (λ (s : spec.Step). IfOk c.end_token.result (λ mode. mode_shown text (c.args.at + 1) mode ≡ s.next)) same c.end_token.ensures.next
