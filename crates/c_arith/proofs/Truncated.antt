-- The quotient and the remainder of numbers are those of a division towards zero.
use Rattle.std.proofs.Common.{arith, ◌≢◌, refl, inl, inr, ℕ, zero, suc, ◌%◌, ◌<◌, ◌≤◌, ℤ, pos, negsuc, neg_ℤ, unsigned_abs, int_div, int_rem}
use Rattle.std.proofs.lemmas.Int.{ints, quot-rem, rem_below}
use Rattle.std.proofs.Math.Nat.{mod-le}
use Rattle.cy_num.specs.Division.{HasSignOf}
use Rattle.c_arith.specs.Division.{IsTruncatedDivision}

above : (n r : ℕ) → r ≤ n → HasSignOf (pos n) (pos r)
above n zero h = inl refl
above n (suc r) h = inr (inl (omega (arith, ints), omega (arith, ints)))

below : (n r : ℕ) → HasSignOf (negsuc n) (neg_ℤ (pos r))
below n zero = inl refl
below n (suc r) = inr (inr (omega (arith, ints), omega (arith, ints)))

sign-of : (a b : ℤ) → HasSignOf a (int_rem a b)
sign-of (pos n) b = above n (n % unsigned_abs b) (mod-le n (unsigned_abs b))
sign-of (negsuc n) b = below n (suc n % unsigned_abs b)

size-of : (b : ℤ) → b ≢ pos 0 → 0 < unsigned_abs b
size-of (pos zero) h = absurd (h refl)
size-of (pos (suc n)) h = omega arith
size-of (negsuc n) h = omega arith

pub truncated : (a b : ℤ) → b ≢ pos 0 → IsTruncatedDivision a b (int_div a b) (int_rem a b)
truncated a b h = record { whole = quot-rem a b; small = rem_below a b (size-of b h); sign = sign-of a b }
