-- Division that floors, over whole numbers (Cython's `//` and `%` without `cdivision`; Python language reference 6.7).
use Rattle.std.specs.Prelude.{◌≡◌, ℕ, suc, ◌/◌, ◌<◌, Bool, true, ◌&&◌, ◌⊎◌, if◌then◌else◌, Result, Ok, Err, ℤ, pos, negsuc, neg_ℤ, unsigned_abs, ◌+ℤ◌, ◌-ℤ◌, ◌*ℤ◌, ◌<ℤ◌}
use Rattle.std.specs.Ordering.{int_eq}
use Rattle.cy_num.specs.declared.types.CNum.{CNum}
use Rattle.cy_num.specs.declared.division.NumFault.{NumFault}
use Rattle.cy_num.specs.declared.division.NumFault.TheVariants.{ZeroDivisor, TooLarge}
use Rattle.cy_num.specs.Types.{is_signed, least}

-- the greatest whole number that is at most a / n, where n is above 0
abbrev pub floored : ℤ → ℕ → ℤ
floored (pos a) n = pos (a / n)
floored (negsuc a) n = negsuc (a / n)

-- the greatest whole number that is at most a / b, where b isn't 0
abbrev pub floor_quotient : ℤ → ℤ → ℤ
floor_quotient a (pos b) = floored a b
floor_quotient a (negsuc b) = floored (neg_ℤ a) (suc b)

-- what that quotient leaves of a
abbrev pub floor_remainder : ℤ → ℤ → ℤ
floor_remainder a b = a -ℤ floor_quotient a b *ℤ b

-- r is 0, or has the sign of b
abbrev pub HasSignOf : ℤ → ℤ → Type 0
HasSignOf b r = (r ≡ pos 0) ⊎ ((pos 0 <ℤ r) × (pos 0 <ℤ b)) ⊎ ((r <ℤ pos 0) × (b <ℤ pos 0))

-- a = q * b + r, where r is 0 or has the sign of b, and |r| < |b|
pub record IsFloorDivision (a b q r : ℤ) : Type 0 where
  pub whole : a ≡ q *ℤ b +ℤ r
  pub sign : HasSignOf b r
  pub small : unsigned_abs r < unsigned_abs b

-- the quotient is one more than the greatest value: the least value of a signed type by -1
abbrev pub IsTooLarge : CNum → ℤ → ℤ → Type 0
IsTooLarge t a b = (is_signed t ≡ true) × (a ≡ least t) × (b ≡ negsuc 0)

abbrev pub is_too_large : CNum → ℤ → ℤ → Bool
is_too_large t a b = is_signed t && int_eq a (least t) && int_eq b (negsuc 0)

-- `a // b` in the type t
unfoldable pub floor_div : CNum → ℤ → ℤ → Result ℤ NumFault
floor_div t a b = if int_eq b (pos 0) then Err ZeroDivisor
    else (if is_too_large t a b then Err TooLarge else Ok (floor_quotient a b))

-- `a % b`
unfoldable pub floor_mod : ℤ → ℤ → Result ℤ NumFault
floor_mod a b = if int_eq b (pos 0) then Err ZeroDivisor else Ok (floor_remainder a b)
