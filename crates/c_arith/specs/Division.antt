-- Division towards zero (ISO/IEC 9899:2011 6.5.5).
use Rattle.std.specs.Prelude.{◌≡◌, ◌<◌, ℤ, ◌+ℤ◌, ◌*ℤ◌, unsigned_abs}
use Rattle.cy_num.specs.Division.{HasSignOf}

-- (a / b) * b + a % b equals a, and what the quotient leaves is less in size than b, and 0 or of the sign of a
pub record IsTruncatedDivision (a b q r : ℤ) : Type 0 where
  pub whole : q *ℤ b +ℤ r ≡ a
  pub small : unsigned_abs r < unsigned_abs b
  pub sign : HasSignOf a r
