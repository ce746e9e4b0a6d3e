-- Tokens that end with the end once end with it.
use Rattle.std.proofs.Common.{◌≡◌, ℕ, true, List, [], ◌∷◌, ◌++◌, refl, sym, subst}
use Rattle.std.specs.Prelude.{Bool}
use Rattle.pyx_lex.specs.declared.token.Token.{Token}
use Rattle.pyx_lex.specs.declared.token.TokenKind.TheVariants.{End}
use Rattle.pyx_lex.specs.Tokens.{EndsOnce}
use Rattle.token_input.specs.Ended.{is_ended}

behind : (front : List Token) (at : ℕ) → is_ended (front ++ record { kind = End; span = record { start = at; end = at } } ∷ []) ≡ true
behind [] at = refl
behind (x ∷ []) at = refl
behind (x ∷ y ∷ front) at = behind (y ∷ front) at

pub ended_once : (ts : List Token) → EndsOnce ts → is_ended ts ≡ true
ended_once ts e = let P : List Token → Type 0 = λ z. is_ended z ≡ true in subst P (sym e.parts) (behind e.front e.at)
