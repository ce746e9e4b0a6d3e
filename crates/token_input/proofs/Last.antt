-- The last token tells whether tokens end with the end.
use Rattle.std.proofs.Common.{◌≡◌, suc, ◌-◌, ◌≤◌, false, List, [], ◌∷◌, length, get_or, refl, sym, ◌∙◌, ap, arith}
use Rattle.pyx_lex.specs.declared.token.Token.{Token}
use Rattle.pyx_lex.specs.declared.token.TokenKind.{TokenKind}
use Rattle.pyx_lex.specs.declared.token.TokenKind.TheVariants as k
use Rattle.pyx_lex.specs.Tokens as kinds
use Rattle.token_input.specs.Ended.{is_ended}

pub last_ends : (ts : List Token) (x d : Token) → 1 ≤ length ts → x ≡ get_or ts (length ts - 1) d → is_ended ts ≡ kinds.is_end x.kind
last_ends [] x d h e = absurd (omega arith)
last_ends (y ∷ []) x d h e = let f : x ≡ y = e in ap (λ z. kinds.is_end z.kind) (sym f)
last_ends (y ∷ z ∷ ts) x d h e =
    let n : length (y ∷ z ∷ ts) - 1 ≡ suc (length (z ∷ ts) - 1) = omega arith in
    last_ends (z ∷ ts) x d (omega arith) (e ∙ ap (λ m. get_or (y ∷ z ∷ ts) m d) n)

pub no_end : (kind : TokenKind) → (kind ≡ k.End → ⊥) → kinds.is_end kind ≡ false
no_end k.End h = absurd (h refl)
no_end (k.Name text) h = refl
no_end (k.Word text) h = refl
no_end (k.Int n) h = refl
no_end (k.Str text) h = refl
no_end (k.Sign text) h = refl
no_end k.Newline h = refl
no_end k.Indent h = refl
no_end k.Dedent h = refl
