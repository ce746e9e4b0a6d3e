use Rattle.std.proofs.Common.{◌≡◌, ◌++◌, List, ℕ, ap, sym, ◌∙◌, subst, length, arith}
use Rattle.std.specs.Prelude.{slice_range, OnOk}
use Rattle.std.proofs.lemmas.Grind.{common_steps}
use Rattle.c_token.specs.CTokens as spec
use Rattle.c_cut.specs.Shown.{item_shown}
use Rattle.c_lex.specs.Shown.{line_shown, mode_shown}
use Rattle.c_lex.proofs.Steps.{sign_ends_there}
use Rattle.c_lex.proofs.lex.finish.Goals as goal

pub returns-in_ok-copied-in-InSign : goal.returns-in_ok-copied-in-InSign
returns-in_ok-copied-in-InSign c =
    let text = c.args.bytes.now in
    let line = line_shown c.in-InSign.line in
    let letters = slice_range text c.in-InSign.start (length text) in
    let copy : c.in_ok-copied-in-InSign.field-0 ≡ letters = grind (arith, common_steps, c.in_ok-copied-in-InSign.ensures) in
    let same : spec.ends (spec.Sign c.in_ok-copied-in-InSign.field-0) line 10 ≡ spec.step (mode_shown text (length text) c.args.mode) 10 =
    ap (λ (w : List ℕ). spec.ends (spec.Sign w) line 10) copy
    ∙ (sym (sign_ends_there line letters)
    ∙ ap (λ m. spec.step (mode_shown text (length text) m) 10) (sym c.in-InSign.is)) in
    subst (λ (s : spec.Step). OnOk c.last-in-InSign.result (item_shown c.last-in-InSign.new.tokens.items ≡ item_shown c.args.tokens.now.items ++ s.given)) same c.last-in-InSign.ensures
