-- Operands against the types that are wanted, where one of the two lists ends.
use Rattle.std.proofs.Common.{◌≡◌, ℕ, zero, suc, ◌<◌, ◌≤◌, List, [], ◌∷◌, false, length, drop, refl, sym, ap, ◌∙◌, eqb, arith}
use Rattle.std.proofs.lemmas.Grind.{common_steps}
use Rattle.std.proofs.Math.ListN.{drop_of_length-le}
use Rattle.std.proofs.Math.Seq.{drop-nil}
use Rattle.c_value.specs.declared.kind.Kind.{Kind}
use Rattle.c_value.specs.declared.value.Reading.{Reading}
use Rattle.c_value.specs.Values.{fits}

-- with no operand left there is none for the next type
pub fits-short : (ks : List Kind) (vs : List Reading) (i : ℕ) → i < length ks → length vs ≤ i → fits (drop i ks) (drop i vs) ≡ false
fits-short [] vs i h g = absurd (omega (arith, h))
fits-short (k ∷ ks) [] zero h g = refl
fits-short (k ∷ ks) [] (suc i) h g = rw (← drop-nil {A = Reading} i) (fits-short ks [] i (omega (arith, h)) (omega arith))
fits-short (k ∷ ks) (v ∷ vs) zero h g = absurd (omega (arith, g))
fits-short (k ∷ ks) (v ∷ vs) (suc i) h g = fits-short ks vs i (omega (arith, h)) (omega (arith, g))

-- with no type left the operands have ended too, or not
pub fits-end : (vs : List Reading) (n : ℕ) → n ≤ length vs → fits [] (drop n vs) ≡ eqb (length vs) n
fits-end [] zero h = refl
fits-end [] (suc n) h = absurd (omega (arith, h))
fits-end (v ∷ vs) zero h = grind (arith, common_steps)
fits-end (v ∷ vs) (suc n) h = fits-end vs n (omega (arith, h)) ∙ grind (arith, common_steps)

-- both have ended, or not
pub fits-whole : (ks : List Kind) (vs : List Reading) (n : ℕ) → length ks ≤ n → n ≤ length ks → n ≤ length vs
    → fits ks vs ≡ fits (drop n ks) (drop n vs) → eqb (length vs) (length ks) ≡ fits ks vs
fits-whole ks vs n low high within same =
    let e : n ≡ length ks = omega (arith, low) in
    let d : drop n ks ≡ [] = drop_of_length-le ks low in
    sym (same ∙ (ap (λ xs. fits xs (drop n vs)) d ∙ (fits-end vs n within ∙ ap (eqb (length vs)) e)))

pub ruleset fits_ends = (fits-short, fits-end)
