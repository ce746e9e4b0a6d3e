-- What the first words of tokens open.
use Rattle.std.proofs.Common.{◌≡◌, ℕ, List, [], ◌∷◌, Some, refl, ap}
use Rattle.std.specs.Prelude.{slice_get}
use Rattle.c_token.specs.CTokens.{CToken, Word, Str, Character, Sign, HeaderName, LineEnd, Other}
use Rattle.c_item.specs.declared.kinds.Opening.TheVariants as opening
use Rattle.c_item.specs.declared.kinds.Plain.TheVariants as plain
use Rattle.c_item.specs.Words.{lone, opening_at, worded}

pub no_word : (now : List CToken) → ((letters : List ℕ) (rest : List CToken) → now ≡ Word letters ∷ rest → ⊥) → opening_at now ≡ opening.Plain plain.Fixed
no_word [] h = refl
no_word (Word letters ∷ more) h = absurd (h letters more refl)
no_word (Str bytes ∷ more) h = refl
no_word (Character bytes ∷ more) h = refl
no_word (Sign bytes ∷ more) h = refl
no_word (HeaderName bytes ∷ more) h = refl
no_word (LineEnd ∷ more) h = refl
no_word (Other b ∷ more) h = refl

pub one_word : (first : List ℕ) (now : List CToken) → ((letters : List ℕ) (rest : List CToken) → now ≡ Word letters ∷ rest → ⊥) → opening_at (Word first ∷ now) ≡ lone first
one_word first [] h = refl
one_word first (Word letters ∷ more) h = absurd (h letters more refl)
one_word first (Str bytes ∷ more) h = refl
one_word first (Character bytes ∷ more) h = refl
one_word first (Sign bytes ∷ more) h = refl
one_word first (HeaderName bytes ∷ more) h = refl
one_word first (LineEnd ∷ more) h = refl
one_word first (Other b ∷ more) h = refl

some_same : (x y : CToken) → Some x ≡ Some y → x ≡ y
some_same x y e = cc

pub two_words : (first second : List ℕ) (now : List CToken) → slice_get now 0 ≡ Some (Word second) → opening_at (Word first ∷ now) ≡ worded first second
two_words first second [] e = cc
two_words first second (x ∷ more) e = ap (λ (z : CToken). opening_at (Word first ∷ z ∷ more)) (some_same x (Word second) e)
