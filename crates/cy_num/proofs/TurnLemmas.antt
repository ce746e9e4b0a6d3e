-- How many turns lie before the end.
use Rattle.std.proofs.Common.{arith, ◌≡◌, ◌≢◌, ◌↔◌, sym, ap, subst, ◌∙◌, refl, inl, inr, Some, ℕ, zero, suc, ◌+◌, ◌*◌, ◌/◌, ◌<◌, ◌≤◌, length, ℤ, pos, negsuc, neg_ℤ, ◌+ℤ◌, ◌<ℤ◌}
use Rattle.std.specs.Prelude.{slice_get}
use Rattle.std.proofs.lemmas.Int.{ints}
use Rattle.std.proofs.lemmas.Bool.{cases_lt}
use Rattle.std.proofs.lemmas.Nat.{div-add-mod', le-div, mul-le}
use Rattle.std.proofs.lemmas.List.FromFn.{length-map-range_with_len, get_or-map-range_with_len}
use Rattle.std.proofs.lemmas.Option.{slice_get-get_or}
use Rattle.std.proofs.Math.IntN.{pos-*ℤ-negsuc}
use Rattle.std.specs.Int.{int_gap, div_ceil}
use Rattle.cy_num.specs.Turns.{LiesBefore, turn, turn_count, range_turns}

below_ceil : (x y k : ℕ) → 0 < y → k * y < x → k < div_ceil x y
below_ceil x y k h p =
    let whole = div-add-mod' x y in
    let most = le-div k x y h (omega arith) in
    elim (cases_lt k (x / y)) [
      | inl less ↦ omega arith
      | inr more ↦ let last : k ≡ x / y = omega arith in let same : k * y ≡ x / y * y = ap (λ z. z * y) last in omega arith
    ]

ceil_below : (x y k : ℕ) → 0 < y → k < div_ceil x y → k * y < x
ceil_below x y k h p =
    let whole = div-add-mod' x y in
    elim (cases_lt k (x / y)) [
      | inl less ↦ let product : (k + 1) * y ≤ x / y * y = mul-le (k + 1) y (x / y) y (omega arith) (omega arith) in
          let split = one_more k y in omega arith
      | inr more ↦ let last : k ≡ x / y = omega arith in let same : k * y ≡ x / y * y = ap (λ z. z * y) last in omega arith
    ] where
      one_more : (m n : ℕ) → (m + 1) * n ≡ m * n + n
      one_more m n = grind arith

-- a step upwards and one downwards
gap_above : (a b : ℤ) (n : ℕ) → (n < int_gap a b) ↔ ((a +ℤ pos n) <ℤ b)
gap_above (pos a) (pos b) n = (λ h. omega (arith, ints), λ h. omega (arith, ints))
gap_above (pos a) (negsuc b) n = (λ h. omega (arith, ints), λ h. omega (arith, ints))
gap_above (negsuc a) (pos b) n = (λ h. omega (arith, ints), λ h. omega (arith, ints))
gap_above (negsuc a) (negsuc b) n = (λ h. omega (arith, ints), λ h. omega (arith, ints))

gap_below : (a b : ℤ) (n : ℕ) → (n < int_gap b a) ↔ (b <ℤ (a +ℤ neg_ℤ (pos n)))
gap_below (pos a) (pos b) n = (λ h. omega (arith, ints), λ h. omega (arith, ints))
gap_below (pos a) (negsuc b) n = (λ h. omega (arith, ints), λ h. omega (arith, ints))
gap_below (negsuc a) (pos b) n = (λ h. omega (arith, ints), λ h. omega (arith, ints))
gap_below (negsuc a) (negsuc b) n = (λ h. omega (arith, ints), λ h. omega (arith, ints))

turn_count_before : (a b c : ℤ) (k : ℕ) → c ≢ pos 0 → (k < turn_count a b c) ↔ LiesBefore b c (turn a c k)
turn_count_before a b (pos zero) k h = absurd (h refl)
turn_count_before a b (pos (suc c)) k h = (
  λ p. (gap_above a b (k * suc c)).0 (ceil_below (int_gap a b) (suc c) k (omega arith) p),
  λ p. below_ceil (int_gap a b) (suc c) k (omega arith) ((gap_above a b (k * suc c)).1 p),
)
turn_count_before a b (negsuc c) k h =
    let same : turn a (negsuc c) k ≡ a +ℤ neg_ℤ (pos (k * suc c)) = ap (λ z. a +ℤ z) (pos-*ℤ-negsuc k c) in (
      λ p. subst (λ z. b <ℤ z) (sym same) ((gap_below a b (k * suc c)).0 (ceil_below (int_gap b a) (suc c) k (omega arith) p)),
      λ p. below_ceil (int_gap b a) (suc c) k (omega arith) ((gap_below a b (k * suc c)).1 (subst (λ z. b <ℤ z) same p)),
    )

pub range_turns-before : (a b c : ℤ) (k : ℕ) → c ≢ pos 0 → (k < length (range_turns a b c)) ↔ LiesBefore b c (turn a c k)
range_turns-before a b c k h =
    subst (λ n. (k < n) ↔ LiesBefore b c (turn a c k)) (sym (length-map-range_with_len (turn a c) 0 (turn_count a b c)))
    (turn_count_before a b c k h)

pub range_turns-at : (a b c : ℤ) (k : ℕ) → k < length (range_turns a b c) → slice_get (range_turns a b c) k ≡ Some (turn a c k)
range_turns-at a b c k h =
    let within : k < turn_count a b c = subst (λ n. k < n) (length-map-range_with_len (turn a c) 0 (turn_count a b c)) h in
    slice_get-get_or (range_turns a b c) k (pos 0) h
    ∙ ap Some (get_or-map-range_with_len (turn a c) 0 (turn_count a b c) k k (pos 0) within (omega arith))
