-- The operations of C numbers in one type (ISO/IEC 9899:2011 6.5.5 to 6.5.7, 6.5.10 to 6.5.12). That results wrap in
-- signed types too, and which counts a shift refuses, is the project's own.
use Rattle.std.specs.Prelude.{ℕ, ◌^◌, Bool, true, false, ◌||◌, if◌then◌else◌, Result, Ok, Err, ℤ, pos, ◌+ℤ◌, ◌-ℤ◌, ◌*ℤ◌, ◌≤ℤ◌, ◌<ℤ◌, ◌⊎◌, unsigned_abs, bit_and, bit_or, bit_xor}
use Rattle.std.specs.Int.RustNames.{int_lt, int_le}
use Rattle.cy_num.specs.declared.types.CNum.{CNum}
use Rattle.cy_num.specs.declared.types.Arith.{Arith}
use Rattle.cy_num.specs.declared.types.Arith.TheVariants.{Add, Sub, Mul, And, Or, Xor}
use Rattle.cy_num.specs.declared.division.NumFault.{NumFault}
use Rattle.cy_num.specs.declared.division.NumFault.TheVariants.{ShiftCount}
use Rattle.cy_num.specs.Types.{bits}
use Rattle.cy_num.specs.Division.{floored, floor_remainder}
use Rattle.cy_num.specs.Wrapping.{modulus, wrap}

-- the bits of a value in two's complement, as a number from 0 to 2^bits - 1 (6.2.6.2)
unfoldable pub pattern : CNum → ℤ → ℕ
pattern t v = unsigned_abs (floor_remainder v (modulus t))

-- the value of the type that has these bits
abbrev pub of_pattern : CNum → ℕ → ℤ
of_pattern t n = wrap t (pos n)

-- sum, difference and product wrap; `&`, `|` and `^` go bit by bit
abbrev pub arith_result : Arith → CNum → ℤ → ℤ → ℤ
arith_result Add t a b = wrap t (a +ℤ b)
arith_result Sub t a b = wrap t (a -ℤ b)
arith_result Mul t a b = wrap t (a *ℤ b)
arith_result And t a b = of_pattern t (bit_and (pattern t a) (pattern t b))
arith_result Or t a b = of_pattern t (bit_or (pattern t a) (pattern t b))
arith_result Xor t a b = of_pattern t (bit_xor (pattern t a) (pattern t b))

-- the count is below 0, or not below the width
abbrev pub IsBadCount : CNum → ℤ → Type 0
IsBadCount t count = (count <ℤ pos 0) ⊎ (pos (bits t) ≤ℤ count)

abbrev pub is_bad_count : CNum → ℤ → Bool
is_bad_count t count = int_lt count (pos 0) || int_le (pos (bits t)) count

-- `a << n` wraps a * 2^n, and `a >> n` floors a / 2^n
abbrev pub shifted : Bool → CNum → ℤ → ℕ → ℤ
shifted true t a n = wrap t (a *ℤ pos (2 ^ n))
shifted false t a n = floored a (2 ^ n)

-- `a << count` where left is true, and else `a >> count`
unfoldable pub shift : Bool → CNum → ℤ → ℤ → Result ℤ NumFault
shift left t a count = if is_bad_count t count then Err ShiftCount else Ok (shifted left t a (unsigned_abs count))
