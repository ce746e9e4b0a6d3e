-- Tokens with other letters are others.
use Rattle.std.proofs.Common.{◌≡◌, ℕ, true, false, List, [], ◌∷◌, refl, subst}
use Rattle.std.specs.Str.{bytes_eq}
use Rattle.std.proofs.lemmas.Bool.{eq-eqb}
use Rattle.c_token.specs.CTokens.{CToken, Word, Sign}

abbrev pub letters_of : CToken → List ℕ
letters_of (Word letters) = letters
letters_of (Sign letters) = letters
letters_of _ = []

bytes_same : (xs : List ℕ) → bytes_eq xs xs ≡ true
bytes_same [] = refl
bytes_same (x ∷ xs) = rw (eq-eqb x x refl) (bytes_same xs)

pub tokens_differ : (s t : CToken) → bytes_eq (letters_of s) (letters_of t) ≡ false → s ≡ t → ⊥
tokens_differ s t h e =
    let same : bytes_eq (letters_of s) (letters_of t) ≡ true = subst (λ u. bytes_eq (letters_of s) (letters_of u) ≡ true) e (bytes_same (letters_of s)) in
    cc

pub firsts_differ : (s t : CToken) (xs ys : List CToken) → bytes_eq (letters_of s) (letters_of t) ≡ false → s ∷ xs ≡ t ∷ ys → ⊥
firsts_differ s t xs ys h e = tokens_differ s t h cc
