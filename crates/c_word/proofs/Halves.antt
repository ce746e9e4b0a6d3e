-- A word of two parts is cut at its first `_`, where the first part is digits.
use Rattle.std.proofs.Common.{◌≡◌, ℕ, ◌+◌, ◌-◌, ◌%◌, ◌^◌, ◌<◌, Bool, not, List, [], ◌∷◌, ◌++◌, Some, None, length, take, drop, get_or, refl, sym, ap, ◌∙◌, arith, length-append, cond}
use Rattle.std.specs.Prelude.{nat_eq, nat_lt}
use Rattle.std.specs.List.{position, position_or_len}
use Rattle.std.proofs.Math.Seq.{take-append_seam, drop-append-add}
use Rattle.std.proofs.lemmas.Bool.{eqb-true, ne_eqb, lt-ltb}
use Rattle.std.proofs.lemmas.Grind.{common_steps}
use Rattle.std.proofs.lemmas.List.{take-append-drop, drop_more}
use Rattle.std.proofs.lemmas.List.Quantifiers.{position-Some}
use Rattle.std.proofs.lemmas.Fmt.{decimal_by_steps}
use Rattle.std.specs.Fmt.{decimal}
use Rattle.c_word.specs.Numbers.{AreDigits}

abbrev pub is_mark : ℕ → Bool
is_mark b = nat_eq b 95

tail_whole : (xs : List ℕ) (i : ℕ) → take (length xs - i) (drop i xs) ≡ drop i xs
tail_whole xs i = grind (arith, common_steps)

pub cut_at : (xs : List ℕ) (at : ℕ) → position is_mark xs ≡ Some at → take at xs ++ 95 ∷ take (length xs - (at + 1)) (drop (at + 1) xs) ≡ xs
cut_at xs at e =
    let found = position-Some is_mark xs at 0 e in
    ap (λ (t : List ℕ). take at xs ++ 95 ∷ t) (tail_whole xs (at + 1))
    ∙ (ap (λ (b : ℕ). take at xs ++ b ∷ drop (at + 1) xs) (sym (eqb-true (get_or xs at 0) 95 found.1))
    ∙ (ap (λ (t : List ℕ). take at xs ++ t) (sym (drop_more xs at 0 found.0))
    ∙ take-append-drop at xs))

mark_behind : (front back : List ℕ) → AreDigits front → position_or_len is_mark (front ++ 95 ∷ back) ≡ length front
mark_behind [] back h = refl
mark_behind (b ∷ front) back h =
    ap (λ (t : Bool). cond (not t) (1 + position_or_len is_mark (front ++ 95 ∷ back)) 0) (ne_eqb b 95 (λ e. omega arith))
    ∙ (ap (λ n. 1 + n) (mark_behind front back h.1) ∙ omega arith)

pub marked : (front back : List ℕ) → AreDigits front → position is_mark (front ++ 95 ∷ back) ≡ Some (length front)
marked front back h =
    let xs = front ++ 95 ∷ back in
    let place = mark_behind front back h in
    ap (λ n. cond (nat_lt n (length xs)) (Some n) None) place
    ∙ ap (λ (t : Bool). cond t (Some (length front)) None) (lt-ltb (length front) (length xs) (omega (arith, length-append front (95 ∷ back))))

pub marked_parts : (xs front back : List ℕ) (at : ℕ) → position is_mark xs ≡ Some at → AreDigits front → front ++ 95 ∷ back ≡ xs
    → (take at xs ≡ front) × (take (length xs - (at + 1)) (drop (at + 1) xs) ≡ back)
marked_parts xs front back at e h same =
    let place : position is_mark (front ++ 95 ∷ back) ≡ Some at = ap (position is_mark) same ∙ e in
    let there : length front ≡ at = cc (marked front back h) in (
      ap (λ n. take n xs) (sym there) ∙ (ap (take (length front)) (sym same) ∙ take-append_seam front (95 ∷ back)),
      tail_whole xs (at + 1) ∙ (ap (λ n. drop (n + 1) xs) (sym there) ∙ (ap (drop (length front + 1)) (sym same) ∙ drop-append-add front (95 ∷ back) 1)),
    )

pub unmarked : (xs front back : List ℕ) → position is_mark xs ≡ None → AreDigits front → front ++ 95 ∷ back ≡ xs → ⊥
unmarked xs front back e h same =
    let place : position is_mark (front ++ 95 ∷ back) ≡ None = ap (position is_mark) same ∙ e in
    cc (marked front back h)

-- ---- digits

digits_append : (xs ys : List ℕ) → AreDigits xs → AreDigits ys → AreDigits (xs ++ ys)
digits_append [] ys h k = k
digits_append (x ∷ xs) ys h k = (h.0, digits_append xs ys h.1 k)

pub decimal_digits : (n : ℕ) → n < 2 ^ 64 → AreDigits (decimal n)
decimal_digits n h =
    decimal_by_steps (λ n ds. AreDigits ds)
    (λ n small. ((omega arith, omega arith), tt))
    (λ n ds big front. digits_append ds ((48 + n % 10) ∷ []) front ((omega arith, omega arith), tt))
    n h
