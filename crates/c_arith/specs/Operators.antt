-- The operators of C on numbers (ISO/IEC 9899:2011 6.3.1, 6.5.3.3, 6.5.5 to 6.5.12). That a conversion to a narrower or a
-- signed type wraps, and that `>>` of a number below 0 floors, is the profile's own choice (6.3.1.3, 6.5.7).
use Rattle.std.specs.Prelude.{◌^◌, Bool, not, ◌&&◌, ◌||◌, if◌then◌else◌, ℤ, pos, negsuc, ◌+ℤ◌, ◌-ℤ◌, ◌*ℤ◌, unsigned_abs}
use Rattle.std.specs.Int.RustNames.{int_lt, int_le, int_div, int_rem}
use Rattle.std.specs.Ordering.{int_eq}
use Rattle.c_arith.specs.declared.number.Computed.{Computed}
use Rattle.c_arith.specs.declared.number.Computed.TheVariants.{Value, Undefined}
use Rattle.c_arith.specs.declared.number.Number.{Number}
use Rattle.c_tree.specs.declared.statement.BinaryOp.{BinaryOp}
use Rattle.c_tree.specs.declared.statement.BinaryOp.TheVariants as op
use Rattle.cy_num.specs.declared.types.Arith.TheVariants.{And, Or, Xor}
use Rattle.cy_num.specs.declared.types.CNum.{CNum}
use Rattle.cy_num.specs.declared.types.CNum.TheVariants.{I32}
use Rattle.cy_num.specs.Types.{is_signed, least, greatest, promote, common}
use Rattle.cy_num.specs.Division.{floored}
use Rattle.cy_num.specs.Wrapping.{wrap}
use Rattle.cy_num.specs.Arithmetic.{arith_result, is_bad_count}

abbrev pub value_of : CNum → ℤ → Computed
value_of t v = Value (record { kind = t; value = v })

abbrev pub is_value : CNum → ℤ → Bool
is_value t v = int_le (least t) v && int_le v (greatest t)

-- what a type makes of an exact result: a signed type that doesn't have it leaves it undefined (6.5), an unsigned one
-- wraps (6.2.5)
abbrev pub fitted : CNum → ℤ → Computed
fitted t v = if is_signed t && not (is_value t v) then Undefined else value_of t (wrap t v)

-- ---- on two values of one type

-- sum, difference and product (6.5.5, 6.5.6)
abbrev pub sum_of : CNum → ℤ → ℤ → Computed
sum_of t a b = fitted t (a +ℤ b)

abbrev pub difference_of : CNum → ℤ → ℤ → Computed
difference_of t a b = fitted t (a -ℤ b)

abbrev pub product_of : CNum → ℤ → ℤ → Computed
product_of t a b = fitted t (a *ℤ b)

-- the quotient goes towards zero; it is undefined by zero, and where the type doesn't have it (6.5.5)
abbrev pub has_quotient : CNum → ℤ → ℤ → Bool
has_quotient t a b = not (int_eq b (pos 0)) && is_value t (int_div a b)

abbrev pub quotient_of : CNum → ℤ → ℤ → Computed
quotient_of t a b = if has_quotient t a b then value_of t (int_div a b) else Undefined

-- what the quotient leaves; undefined where the quotient is (6.5.5)
abbrev pub remainder_of : CNum → ℤ → ℤ → Computed
remainder_of t a b = if has_quotient t a b then value_of t (int_rem a b) else Undefined

-- `&`, `|` and `^` go bit by bit (6.5.10 to 6.5.12)
abbrev pub and_of : CNum → ℤ → ℤ → Computed
and_of t a b = value_of t (arith_result And t a b)

abbrev pub or_of : CNum → ℤ → ℤ → Computed
or_of t a b = value_of t (arith_result Or t a b)

abbrev pub xor_of : CNum → ℤ → ℤ → Computed
xor_of t a b = value_of t (arith_result Xor t a b)

-- a comparison gives 0 or 1 of the type int (6.5.8, 6.5.9)
abbrev pub truth : Bool → Computed
truth b = value_of I32 (if b then pos 1 else pos 0)

abbrev pub less : CNum → ℤ → ℤ → Computed
less t a b = truth (int_lt a b)

abbrev pub less_equal : CNum → ℤ → ℤ → Computed
less_equal t a b = truth (int_le a b)

abbrev pub equal : CNum → ℤ → ℤ → Computed
equal t a b = truth (int_eq a b)

abbrev pub not_equal : CNum → ℤ → ℤ → Computed
not_equal t a b = truth (not (int_eq a b))

abbrev pub greater : CNum → ℤ → ℤ → Computed
greater t a b = truth (int_lt b a)

abbrev pub greater_equal : CNum → ℤ → ℤ → Computed
greater_equal t a b = truth (int_le b a)

-- ---- shifts, of a value of a promoted type by any count (6.5.7)

-- whether a signed type lacks the value shifted by a count
abbrev pub overflows : CNum → ℤ → ℤ → Bool
overflows t a count = is_signed t && not (is_value t (a *ℤ pos (2 ^ unsigned_abs count)))

-- a count below 0, or not below the width, is undefined; so is `<<` of a value below 0, and a result that a signed type
-- doesn't have
abbrev pub shifted_left : CNum → ℤ → ℤ → Computed
shifted_left t a count =
    if is_bad_count t count || (int_lt a (pos 0) || overflows t a count)
    then Undefined else value_of t (wrap t (a *ℤ pos (2 ^ unsigned_abs count)))

abbrev pub shifted_right : CNum → ℤ → ℤ → Computed
shifted_right t a count =
    if is_bad_count t count then Undefined else value_of t (floored a (2 ^ unsigned_abs count))

-- ---- the operators

-- both operands are converted to their common type (6.3.1.8)
abbrev pub in_common : (CNum → ℤ → ℤ → Computed) → Number → Number → Computed
in_common f m n = f (common m.kind n.kind) (wrap (common m.kind n.kind) m.value) (wrap (common m.kind n.kind) n.value)

-- each operand of a shift is promoted, which keeps its value (6.3.1.1)
abbrev pub in_left : (CNum → ℤ → ℤ → Computed) → Number → Number → Computed
in_left f m n = f (promote m.kind) m.value n.value

-- an operator of two numbers
abbrev pub computed : BinaryOp → Number → Number → Computed
computed op.Add m n = in_common sum_of m n
computed op.Subtract m n = in_common difference_of m n
computed op.Multiply m n = in_common product_of m n
computed op.Divide m n = in_common quotient_of m n
computed op.Remainder m n = in_common remainder_of m n
computed op.BitAnd m n = in_common and_of m n
computed op.BitOr m n = in_common or_of m n
computed op.BitXor m n = in_common xor_of m n
computed op.ShiftLeft m n = in_left shifted_left m n
computed op.ShiftRight m n = in_left shifted_right m n
computed op.Less m n = in_common less m n
computed op.LessEqual m n = in_common less_equal m n
computed op.Equal m n = in_common equal m n
computed op.NotEqual m n = in_common not_equal m n
computed op.Greater m n = in_common greater m n
computed op.GreaterEqual m n = in_common greater_equal m n

-- `~` in the promoted type (6.5.3.3): in an unsigned type what is left to the greatest value, in two's complement -1 - v
abbrev pub inverse : CNum → ℤ → ℤ
inverse t v = (if is_signed t then negsuc 0 else greatest t) -ℤ v

abbrev pub inverted : Number → Number
inverted n = record { kind = promote n.kind; value = inverse (promote n.kind) n.value }

-- a number converted to a type (6.3.1.3)
abbrev pub converted : CNum → Number → Number
converted t n = record { kind = t; value = wrap t n.value }
