-- Digits end where no digit stands.
use Rattle.std.proofs.Common.{◌≡◌, ℕ, ◌+◌, ◌-◌, Some, None, Bool, true, not, cond, List, [], ◌∷◌, ◌++◌, length, take, drop, refl, sym, ap, ◌∙◌, arith, length-append}
use Rattle.std.specs.Char.{is_ascii_digit}
use Rattle.std.specs.List.{position, position_or_len}
use Rattle.std.proofs.Math.Seq.{take-append_seam}
use Rattle.std.proofs.lemmas.Option.{cond_some}
use Rattle.std.proofs.lemmas.Bool.{lt-ltb}
use Rattle.std.specs.Prelude.{nat_lt}
use Rattle.std.proofs.lemmas.Grind.{common_steps}
use Rattle.c_word.specs.Numbers.{AreDigits, Stops}

abbrev pub ends : ℕ → Bool
ends b = not (is_ascii_digit b)

pub stops_at : (front letters : List ℕ) → AreDigits front → Stops letters → position_or_len ends (front ++ letters) ≡ length front
stops_at [] [] h s = refl
stops_at [] (x ∷ letters) h s = ap (λ (t : Bool). cond (not (not t)) (1 + position_or_len ends letters) 0) s
stops_at (b ∷ front) letters h s =
    let digit : is_ascii_digit b ≡ true = grind (arith, common_steps) in
    ap (λ (t : Bool). cond (not (not t)) (1 + position_or_len ends (front ++ letters)) 0) digit
    ∙ (ap (λ n. 1 + n) (stops_at front letters h.1 s) ∙ omega arith)

append_nil : (xs : List ℕ) → xs ++ [] ≡ xs
append_nil xs = grind (arith, common_steps)

seam : (xs ys : List ℕ) → drop (length xs) (xs ++ ys) ≡ ys
seam xs ys = grind (arith, common_steps)

tail_whole : (xs : List ℕ) (i : ℕ) → take (length xs - i) (drop i xs) ≡ drop i xs
tail_whole xs i = grind (arith, common_steps)

cut_parts : (xs front letters : List ℕ) (at : ℕ) → at ≡ position_or_len ends xs → AreDigits front → Stops letters → front ++ letters ≡ xs
    → (take at xs ≡ front) × (drop at xs ≡ letters)
cut_parts xs front letters at e h s same =
    let there : at ≡ length front = e ∙ (ap (position_or_len ends) (sym same) ∙ stops_at front letters h s) in (
      ap (λ n. take n xs) there ∙ (ap (take (length front)) (sym same) ∙ take-append_seam front letters),
      ap (λ n. drop n xs) there ∙ (ap (drop (length front)) (sym same) ∙ seam front letters),
    )

pub cut_some : (xs front letters : List ℕ) (at : ℕ) → position ends xs ≡ Some at → AreDigits front → Stops letters → front ++ letters ≡ xs
    → (take at xs ≡ front) × (take (length xs - at) (drop at xs) ≡ letters)
cut_some xs front letters at e h s same =
    let place = (cond_some (nat_lt (position_or_len ends xs) (length xs)) (position_or_len ends xs) at e).1 in
    let parts = cut_parts xs front letters at (sym place) h s same in
    (parts.0, tail_whole xs at ∙ parts.1)

found : (front letters : List ℕ) (x : ℕ) → AreDigits front → Stops (x ∷ letters) → position ends (front ++ x ∷ letters) ≡ Some (length front)
found front letters x h s =
    let xs = front ++ x ∷ letters in
    ap (λ n. cond (nat_lt n (length xs)) (Some n) None) (stops_at front (x ∷ letters) h s)
    ∙ ap (λ (t : Bool). cond t (Some (length front)) None) (lt-ltb (length front) (length xs) (omega (arith, length-append front (x ∷ letters))))

pub cut_none : (xs front letters : List ℕ) → position ends xs ≡ None → AreDigits front → Stops letters → front ++ letters ≡ xs
    → (xs ≡ front) × ([] ≡ letters)
cut_none xs front [] e h s same = (sym same ∙ append_nil front, refl)
cut_none xs front (x ∷ letters) e h s same =
    let place : position ends (front ++ x ∷ letters) ≡ None = ap (position ends) same ∙ e in
    absurd (cc (found front letters x h s))
