-- Floored quotients.
use Rattle.std.proofs.Common.{false, ◌≢◌, ap₂, Bool, if◌then◌else◌, Result, Ok, Err, arith, ◌≡◌, sym, ap, subst, ◌∙◌, inl, inr, ℕ, suc, ◌+◌, ◌-◌, ◌*◌, ◌<◌, ℤ, pos, negsuc, neg_ℤ, ◌+ℤ◌, ◌-ℤ◌, ◌*ℤ◌, ◌≤ℤ◌, ◌<ℤ◌, unsigned_abs}
use Rattle.std.proofs.lemmas.Int.{ints}
use Rattle.std.proofs.lemmas.Nat.{div-add-mod', mod_below, div-mul-add}
use Rattle.std.proofs.Math.IntN.{*ℤ-negsuc}
use Rattle.std.specs.Int.{int_rem_euclid}
use Rattle.std.specs.Ordering.{int_eq}
use Rattle.cy_num.specs.declared.types.CNum.{CNum}
use Rattle.cy_num.specs.declared.division.NumFault.{NumFault}
use Rattle.cy_num.specs.declared.division.NumFault.TheVariants.{ZeroDivisor, TooLarge}
use Rattle.cy_num.specs.Division.{floor_div, is_too_large, floored, floor_quotient, floor_remainder, HasSignOf, IsFloorDivision}

-- what a floored quotient leaves is at least 0 and below the divisor
pub floored_least : (a : ℤ) (n : ℕ) → 0 < n → pos 0 ≤ℤ (a -ℤ floored a n *ℤ pos n)
floored_least (pos a) n h = let e = div-add-mod' a n in omega (arith, ints)
floored_least (negsuc a) n h = let e = div-add-mod' a n in let l = mod_below a n h in omega (arith, ints)

pub floored_below : (a : ℤ) (n : ℕ) → 0 < n → (a -ℤ floored a n *ℤ pos n) <ℤ pos n
floored_below (pos a) n h = let e = div-add-mod' a n in let l = mod_below a n h in omega (arith, ints)
floored_below (negsuc a) n h = let e = div-add-mod' a n in omega (arith, ints)

-- the remainder that isn't below 0
pub int_rem_euclid-floored : (a : ℤ) (n : ℕ) → 0 < n → int_rem_euclid a (pos n) ≡ a -ℤ floored a n *ℤ pos n
int_rem_euclid-floored (pos a) n h = let e = div-add-mod' a n in omega (arith, ints)
int_rem_euclid-floored (negsuc a) n h = let e = div-add-mod' a n in let l = mod_below a n h in omega (arith, ints)

-- the floored quotient of q * n + m, where m is below n
pub floored_of : (q : ℤ) (n m : ℕ) → m < n → floored (q *ℤ pos n +ℤ pos m) n ≡ q
floored_of (pos q) n m h = ap pos (div-mul-add q n m h)
floored_of (negsuc q) n m h =
    let below : n - 1 - m < n = omega arith in
    let same : negsuc q *ℤ pos n +ℤ pos m ≡ negsuc (q * n + (n - 1 - m)) = omega (arith, ints) in
    ap (λ z. floored z n) same ∙ ap negsuc (div-mul-add q n (n - 1 - m) below)

-- the sign rule
not_below : (n : ℕ) (r : ℤ) → HasSignOf (pos n) r → pos 0 ≤ℤ r
not_below n r (inl e) = omega (arith, ints)
not_below n r (inr (inl p)) = let q = p.0 in omega (arith, ints)
not_below n r (inr (inr p)) = let q = p.1 in omega (arith, ints)

not_above : (n : ℕ) (r : ℤ) → HasSignOf (negsuc n) r → r ≤ℤ pos 0
not_above n r (inl e) = omega (arith, ints)
not_above n r (inr (inl p)) = let q = p.1 in omega (arith, ints)
not_above n r (inr (inr p)) = let q = p.0 in omega (arith, ints)

-- the quotient and the remainder of a division that floors, by a number above 0 and by one below
pub unique_above : (a q r : ℤ) (n : ℕ) → a ≡ q *ℤ pos n +ℤ r → pos 0 ≤ℤ r → unsigned_abs r < n → q ≡ floored a n
unique_above a q (pos m) n e low h = sym (ap (λ z. floored z n) e ∙ floored_of q n m h)
unique_above a q (negsuc m) n e low h = omega (arith, ints)

pub unique_below : (a q r : ℤ) (n : ℕ) → a ≡ q *ℤ negsuc n +ℤ r → r ≤ℤ pos 0 → unsigned_abs r < suc n → q ≡ floored (neg_ℤ a) (suc n)
unique_below a q r n e low h =
    let turned : neg_ℤ a ≡ q *ℤ pos (suc n) +ℤ neg_ℤ r = let f = *ℤ-negsuc q n in omega (arith, ints) in
    unique_above (neg_ℤ a) q (neg_ℤ r) (suc n) turned (omega (arith, ints)) (grind (arith, ints))

pub quotient_unique : (a b q r : ℤ) → IsFloorDivision a b q r → q ≡ floor_quotient a b
quotient_unique a (pos n) q r d = unique_above a q r n d.whole (not_below n r d.sign) d.small
quotient_unique a (negsuc n) q r d = unique_below a q r n d.whole (not_above n r d.sign) d.small

pub IsFloorDivision-unique : (a b q r : ℤ) → IsFloorDivision a b q r → (q ≡ floor_quotient a b) × (r ≡ floor_remainder a b)
IsFloorDivision-unique a b q r d =
    let same = quotient_unique a b q r d in
    let whole = d.whole in
    (same, subst (λ z. r ≡ a -ℤ z *ℤ b) same (omega (arith, ints)))

-- by a number below 0: both are negated, and the remainder back
pub negated_remainder : (a b : ℤ) → b <ℤ pos 0 → neg_ℤ (int_rem_euclid (neg_ℤ a) (neg_ℤ b)) ≡ floor_remainder a b
negated_remainder a (pos n) h = omega (arith, ints)
negated_remainder a (negsuc n) h =
    let split = int_rem_euclid-floored (neg_ℤ a) (suc n) (omega arith) in
    let turned = *ℤ-negsuc (floored (neg_ℤ a) (suc n)) n in
    omega (arith, ints)

-- the test of 0, and where a division has a quotient
not_zero : (b : ℤ) → b ≢ pos 0 → int_eq b (pos 0) ≡ false
not_zero b h = grind (arith, ints)

pub floor_div-Ok : (t : CNum) (a b : ℤ) → b ≢ pos 0 → is_too_large t a b ≡ false → floor_div t a b ≡ Ok (floor_quotient a b)
unfolding floor_div
floor_div-Ok t a b h e =
    let choose : Bool → Bool → Result ℤ NumFault =
    λ zero_b large. if zero_b then Err ZeroDivisor else (if large then Err TooLarge else Ok (floor_quotient a b)) in
    ap₂ choose (not_zero b h) e
