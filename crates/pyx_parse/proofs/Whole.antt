-- From what is read to what `expression` and `target` answer.
use Rattle.std.proofs.Common.{◌≡◌, ℕ, zero, suc, ◌-◌, ◌<◌, ◌≤◌, true, List, [], ◌∷◌, ◌++◌, length, take, drop, sym, ◌∙◌, ap, subst, append_assoc, length-append, arith}
use Rattle.std.proofs.Math.Seq.{drop-append_seam}
use Rattle.std.proofs.lemmas.List.{take-append-drop, length-drop}
use Rattle.pyx_lex.specs.declared.token.Token.{Token}
use Rattle.cy_tree.specs.declared.expr.Expr.{Expr}
use Rattle.forms.specs.Forms.{plain}
use Rattle.forms.specs.Readers.{did}
use Rattle.forms.specs.Exact.{Found, Answers}
use Rattle.expr_grammar.specs.declared.Level.{Level}
use Rattle.expr_grammar.specs.Grammar.{Spells}
use Rattle.expr_grammar.specs.Reading.{reads}
use Rattle.expr_grammar.proofs.Answers.{expressions_are_read}
use Rattle.token_input.specs.Ended.{is_ended}
use Rattle.token_input.proofs.Stops.{once, answered}
use Rattle.pyx_parse.specs.Answer.{IsTree}

-- what is left of tokens that end with the end does too
pub ended_behind : (tokens : List Token) (at : ℕ) → is_ended tokens ≡ true → at < length tokens → is_ended (drop at tokens) ≡ true
ended_behind tokens at e h = go at tokens e h
  where
    go : (n : ℕ) (ts : List Token) → is_ended ts ≡ true → n < length ts → is_ended (drop n ts) ≡ true
    go n [] e h = cc
    go zero (x ∷ ts) e h = e
    go (suc n) (x ∷ []) e h = absurd (omega arith)
    go (suc n) (x ∷ y ∷ ts) e h = go n (y ∷ ts) e (omega arith)

-- where a part of the tokens begins
begins_at : (tokens us new : List Token) (at n : ℕ) → drop at tokens ≡ us ++ new → n ≡ length tokens - length new → drop n tokens ≡ new
begins_at tokens us new at n h e =
    let w = take at tokens ++ us in
    let all : tokens ≡ w ++ new = sym (take-append-drop at tokens) ∙ ap (λ z. take at tokens ++ z) h ∙ sym (append_assoc (take at tokens) us new) in
    let k : n ≡ length w = omega (arith, e, ap length all, length-append w new) in
    ap (λ z. drop z tokens) k ∙ ap (drop (length w)) all ∙ drop-append_seam w new

-- the answer that stopping is about
abbrev pub read_answer : (room : ℕ) (l : Level) (tokens : List Token) (at : ℕ) → Answers (Spells room l) (drop at tokens) (reads room l (drop at tokens))
read_answer room l tokens at = expressions_are_read room l (drop at tokens)

module _ (room : ℕ) (l : Level) (tokens : List Token) (at : ℕ) where
  found_of : (tree : Expr) (new : List Token) → reads room l (drop at tokens) ≡ did tree new → Found Token Expr (Spells room l) (drop at tokens) new tree
  found_of tree new h = answered Expr (Spells room l) (drop at tokens) (reads room l (drop at tokens)) (read_answer room l tokens at) (did tree new) h

  pub no_more : (tree : Expr) (new : List Token) → reads room l (drop at tokens) ≡ did tree new → length new ≤ length tokens
  no_more tree new h = let f = found_of tree new h in let k = ap length f.cut in omega (arith, length-append (plain f.run) new, length-drop at tokens, k)

  pub is_tree : (tree : Expr) (new : List Token) (n : ℕ) → reads room l (drop at tokens) ≡ did tree new → n ≡ length tokens - length new → n < length tokens → IsTree (Spells room l) tokens at tree n
  is_tree tree new n h e k =
      let f = found_of tree new h in
      let P : List Token → Type 0 = λ z. Found Token Expr (Spells room l) (drop at tokens) z tree in
      record { within = k; found = subst P (sym (begins_at tokens (plain f.run) new at n f.cut e)) f }

  pub the_tree : (tree other : Expr) (new : List Token) (n m : ℕ) → reads room l (drop at tokens) ≡ did tree new → n ≡ length tokens - length new → n < length tokens
      → IsTree (Spells room l) tokens at other m → (tree ≡ other) × (n ≡ m)
  the_tree tree other new n m h e k t =
      let q = once Expr (Spells room l) (drop at tokens) (reads room l (drop at tokens)) (read_answer room l tokens at) (did tree new) (did other (drop m tokens)) h t.found in
      let a : tree ≡ other = cc in
      let b : new ≡ drop m tokens = cc in
      let w = t.within in
      let d = ap length b in
      (a, omega (arith, length-drop m tokens, d))
