-- The value of a run of digits only grows as digits are added.
use Rattle.std.proofs.Common.{◌≡◌, ℕ, ◌+◌, ◌*◌, ◌<◌, ◌≤◌, true, false, cond, eqb, List, [], ◌∷◌, take, drop, sym, ap, ◌∙◌, fold, arith, get_or, length}
use Rattle.std.specs.Char.{digit_value}
use Rattle.std.proofs.Math.Nat.{le-mul_of_pos_right}
use Rattle.std.proofs.lemmas.List.{take-append-drop, drop_more}
use Rattle.std.proofs.lemmas.List.Sums.{fold-append}
use Rattle.pyx_lex.specs.Numbers.{digits_value}

abbrev pub step : ℕ → ℕ → ℕ → ℕ
step base n b = cond (eqb b 95) n (n * base + digit_value b)

step_grows : (base n b : ℕ) → 0 < base → n ≤ step base n b
step_grows base n b pos =
    elim (eqb b 95) as (λ t. n ≤ cond t n (n * base + digit_value b)) [
      | true ↦ omega arith
      | false ↦ omega (arith, le-mul_of_pos_right n pos)
    ]

fold_grows : (base n : ℕ) (xs : List ℕ) → 0 < base → n ≤ fold (step base) n xs
fold_grows base n [] pos = omega arith
fold_grows base n (x ∷ xs) pos = omega (arith, step_grows base n x pos, fold_grows base (step base n x) xs pos)

-- one more digit at a place, and the whole run
pub value_beyond : (base limit : ℕ) (run : List ℕ) (i b : ℕ) → 0 < base → i < length run → get_or run i 0 ≡ b → eqb b 95 ≡ false
    → limit ≤ digits_value base (take i run) * base + digit_value b → limit ≤ digits_value base run
value_beyond base limit run i b pos lt at digit big =
    let front : fold (step base) 0 run ≡ fold (step base) (digits_value base (take i run)) (drop i run) =
    ap (fold (step base) 0) (sym (take-append-drop i run)) ∙ fold-append (step base) 0 (take i run) (drop i run) in
    let here : fold (step base) (digits_value base (take i run)) (drop i run)
    ≡ fold (step base) (step base (digits_value base (take i run)) b) (drop (i + 1) run) =
    ap (fold (step base) (digits_value base (take i run))) (drop_more run i 0 lt)
    ∙ ap (λ x. fold (step base) (step base (digits_value base (take i run)) x) (drop (i + 1) run)) at in
    let stepped : step base (digits_value base (take i run)) b ≡ digits_value base (take i run) * base + digit_value b =
    ap (λ t. cond t (digits_value base (take i run)) (digits_value base (take i run) * base + digit_value b)) digit in
    omega (arith, front, here, stepped, fold_grows base (step base (digits_value base (take i run)) b) (drop (i + 1) run) pos)
