-- What a test of one token says.
use Rattle.std.proofs.Common.{◌≡◌, ℕ, List, Bool, true, false, Some, None, refl, ap, sym}
use Rattle.std.specs.Prelude.{◌↔◌, Option}
use Rattle.std.proofs.lemmas.Slice.Eq.{bytes_eq-Decides}
use Rattle.c_token.specs.CTokens.{CToken, Word, Str, Character, Sign, HeaderName, LineEnd, Other}
use Rattle.c_statement.specs.Seen.{is_sign, is_word}

same_test : (a b : Bool) (P : Type 0) → ((a ≡ true) ↔ P) → ((b ≡ true) ↔ P) → a ≡ b
same_test true true P h k = refl
same_test false false P h k = refl
same_test true false P h k = sym (k.1 (h.0 refl))
same_test false true P h k = h.1 (k.0 refl)

sign_told : (letters : List ℕ) (t : Option CToken) → (is_sign letters t ≡ true) ↔ (t ≡ Some (Sign letters))
sign_told letters (Some (Sign bytes)) = (λ e. ap (λ b. Some (Sign b)) ((bytes_eq-Decides bytes letters).0 e), λ e. (bytes_eq-Decides bytes letters).1 cc)
sign_told letters (Some (Word bytes)) = (λ e. absurd cc, λ e. absurd cc)
sign_told letters (Some (Str bytes)) = (λ e. absurd cc, λ e. absurd cc)
sign_told letters (Some (Character bytes)) = (λ e. absurd cc, λ e. absurd cc)
sign_told letters (Some (HeaderName bytes)) = (λ e. absurd cc, λ e. absurd cc)
sign_told letters (Some LineEnd) = (λ e. absurd cc, λ e. absurd cc)
sign_told letters (Some (Other b)) = (λ e. absurd cc, λ e. absurd cc)
sign_told letters None = (λ e. absurd cc, λ e. absurd cc)

word_told : (letters : List ℕ) (t : Option CToken) → (is_word letters t ≡ true) ↔ (t ≡ Some (Word letters))
word_told letters (Some (Word bytes)) = (λ e. ap (λ b. Some (Word b)) ((bytes_eq-Decides bytes letters).0 e), λ e. (bytes_eq-Decides bytes letters).1 cc)
word_told letters (Some (Sign bytes)) = (λ e. absurd cc, λ e. absurd cc)
word_told letters (Some (Str bytes)) = (λ e. absurd cc, λ e. absurd cc)
word_told letters (Some (Character bytes)) = (λ e. absurd cc, λ e. absurd cc)
word_told letters (Some (HeaderName bytes)) = (λ e. absurd cc, λ e. absurd cc)
word_told letters (Some LineEnd) = (λ e. absurd cc, λ e. absurd cc)
word_told letters (Some (Other b)) = (λ e. absurd cc, λ e. absurd cc)
word_told letters None = (λ e. absurd cc, λ e. absurd cc)

pub sign_seen : (r : Bool) (letters : List ℕ) (t : Option CToken) → ((r ≡ true) ↔ (t ≡ Some (Sign letters))) → r ≡ is_sign letters t
sign_seen r letters t h = same_test r (is_sign letters t) _ h (sign_told letters t)

pub word_seen : (r : Bool) (letters : List ℕ) (t : Option CToken) → ((r ≡ true) ↔ (t ≡ Some (Word letters))) → r ≡ is_word letters t
word_seen r letters t h = same_test r (is_word letters t) _ h (word_told letters t)
