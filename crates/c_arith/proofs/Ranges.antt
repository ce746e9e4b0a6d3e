-- Where values of number types lie, so that 128 bits hold what is computed from them.
use Rattle.std.proofs.Common.{arith, to_z, of_z, ◌≡◌, true, lit<, suc, ◌%◌, ◌^◌, ◌<◌, ◌≤◌, ℤ, pos, negsuc, neg_ℤ, ◌+ℤ◌, ◌-ℤ◌, ◌*ℤ◌, ◌≤ℤ◌, unsigned_abs, int_div, int_rem, FitsSigned}
use Rattle.std.proofs.lemmas.Int.{ints, to_z-of_z, fits_signed_mul, fits_signed_from_abs}
use Rattle.std.proofs.lemmas.Bool.{false≢true, and_parts}
use Rattle.std.proofs.Math.Nat.{div-le_self, mod-le}
use Rattle.std.specs.Int.{w128}
use Rattle.cy_num.specs.declared.types.CNum.{CNum}
use Rattle.cy_num.specs.declared.types.CNum.TheVariants.{I8, U8, I16, U16, I32, U32, I64, U64}
use Rattle.cy_num.specs.Types.{IsValue, is_signed, least, greatest, promote}
use Rattle.c_arith.specs.Operators.{inverse, is_value}
use Rattle.std.specs.Bool.{passes}
use Rattle.std.specs.Int.RustNames.{int_le}
use lib.Signed.{le_z_yes}

-- a value of any type
pub value-low : (t : CNum) (v : ℤ) → IsValue t v → negsuc 9223372036854775807 ≤ℤ v
value-low I8 v (l, h) = omega (arith, ints)
value-low U8 v (l, h) = omega (arith, ints)
value-low I16 v (l, h) = omega (arith, ints)
value-low U16 v (l, h) = omega (arith, ints)
value-low I32 v (l, h) = omega (arith, ints)
value-low U32 v (l, h) = omega (arith, ints)
value-low I64 v (l, h) = omega (arith, ints)
value-low U64 v (l, h) = omega (arith, ints)

pub value-high : (t : CNum) (v : ℤ) → IsValue t v → v ≤ℤ pos 18446744073709551615
value-high I8 v (l, h) = omega (arith, ints)
value-high U8 v (l, h) = omega (arith, ints)
value-high I16 v (l, h) = omega (arith, ints)
value-high U16 v (l, h) = omega (arith, ints)
value-high I32 v (l, h) = omega (arith, ints)
value-high U32 v (l, h) = omega (arith, ints)
value-high I64 v (l, h) = omega (arith, ints)
value-high U64 v (l, h) = omega (arith, ints)

-- the size of a value of a signed type
abs-between : (v : ℤ) → negsuc 9223372036854775807 ≤ℤ v → v ≤ℤ pos 9223372036854775807 → unsigned_abs v ≤ 9223372036854775808
abs-between (pos n) l h = omega (arith, ints)
abs-between (negsuc n) l h = omega (arith, ints)

pub signed-abs : (t : CNum) (v : ℤ) → is_signed t ≡ true → IsValue t v → unsigned_abs v ≤ 9223372036854775808
signed-abs I8 v s (l, h) = abs-between v (omega (arith, ints)) (omega (arith, ints))
signed-abs I16 v s (l, h) = abs-between v (omega (arith, ints)) (omega (arith, ints))
signed-abs I32 v s (l, h) = abs-between v (omega (arith, ints)) (omega (arith, ints))
signed-abs I64 v s (l, h) = abs-between v (omega (arith, ints)) (omega (arith, ints))
signed-abs U8 v s p = absurd (false≢true s)
signed-abs U16 v s p = absurd (false≢true s)
signed-abs U32 v s p = absurd (false≢true s)
signed-abs U64 v s p = absurd (false≢true s)

pub value-FitsSigned : (t : CNum) (v : ℤ) → IsValue t v → FitsSigned w128 v
value-FitsSigned t v p = let l = value-low t v p in let h = value-high t v p in omega (arith, ints)

-- what the code hands on of a value
pub handed : (t : CNum) (v : ℤ) → IsValue t v → to_z w128 (of_z w128 v) ≡ v
handed t v p = to_z-of_z w128 v (value-FitsSigned t v p)

pub sum-FitsSigned : (t : CNum) (a b : ℤ) → IsValue t a → IsValue t b → FitsSigned w128 (a +ℤ b)
sum-FitsSigned t a b p q =
    let al = value-low t a p in let ah = value-high t a p in let bl = value-low t b q in let bh = value-high t b q in omega (arith, ints)

pub difference-FitsSigned : (t : CNum) (a b : ℤ) → IsValue t a → IsValue t b → FitsSigned w128 (a -ℤ b)
difference-FitsSigned t a b p q =
    let al = value-low t a p in let ah = value-high t a p in let bl = value-low t b q in let bh = value-high t b q in omega (arith, ints)

pub product-FitsSigned : (t : CNum) (a b : ℤ) → is_signed t ≡ true → IsValue t a → IsValue t b → FitsSigned w128 (a *ℤ b)
product-FitsSigned t a b s p q =
    fits_signed_mul w128 a b 9223372036854775808 9223372036854775808 (signed-abs t a s p) (signed-abs t b s q) (lit< tt)

-- a quotient is no greater in size
pub quotient-abs : (a b : ℤ) → unsigned_abs (int_div a b) ≤ unsigned_abs a
quotient-abs (pos a) (pos b) = div-le_self a b
quotient-abs (pos a) (negsuc b) = let l = div-le_self a (suc b) in grind (arith, ints)
quotient-abs (negsuc a) (pos b) = let l = div-le_self (suc a) b in grind (arith, ints)
quotient-abs (negsuc a) (negsuc b) = div-le_self (suc a) (suc b)

abs-below : (v : ℤ) → negsuc 9223372036854775807 ≤ℤ v → v ≤ℤ pos 18446744073709551615 → unsigned_abs v < 2 ^ 127
abs-below (pos n) l h = omega (arith, ints)
abs-below (negsuc n) l h = omega (arith, ints)

pub quotient-FitsSigned : (t : CNum) (a b : ℤ) → IsValue t a → FitsSigned w128 (int_div a b)
quotient-FitsSigned t a b p =
    let l = quotient-abs a b in
    let h = abs-below a (value-low t a p) (value-high t a p) in
    fits_signed_from_abs w128 (int_div a b) (omega arith)

-- a value stays one where its type is promoted
pub promote-IsValue : (t : CNum) (v : ℤ) → IsValue t v → IsValue (promote t) v
promote-IsValue I8 v (l, h) = (omega (arith, ints), omega (arith, ints))
promote-IsValue U8 v (l, h) = (omega (arith, ints), omega (arith, ints))
promote-IsValue I16 v (l, h) = (omega (arith, ints), omega (arith, ints))
promote-IsValue U16 v (l, h) = (omega (arith, ints), omega (arith, ints))
promote-IsValue I32 v p = p
promote-IsValue U32 v p = p
promote-IsValue I64 v p = p
promote-IsValue U64 v p = p

pub inverse-IsValue : (t : CNum) (v : ℤ) → IsValue t v → IsValue t (inverse t v)
inverse-IsValue I8 v (l, h) = (omega (arith, ints), omega (arith, ints))
inverse-IsValue U8 v (l, h) = (omega (arith, ints), omega (arith, ints))
inverse-IsValue I16 v (l, h) = (omega (arith, ints), omega (arith, ints))
inverse-IsValue U16 v (l, h) = (omega (arith, ints), omega (arith, ints))
inverse-IsValue I32 v (l, h) = (omega (arith, ints), omega (arith, ints))
inverse-IsValue U32 v (l, h) = (omega (arith, ints), omega (arith, ints))
inverse-IsValue I64 v (l, h) = (omega (arith, ints), omega (arith, ints))
inverse-IsValue U64 v (l, h) = (omega (arith, ints), omega (arith, ints))

-- between a value and 0
pub toward_zero : (t : CNum) (a v : ℤ) → IsValue t a → a ≤ℤ v → v ≤ℤ pos 0 → IsValue t v
toward_zero I8 a v (l, h) p q = (omega (arith, ints), omega (arith, ints))
toward_zero U8 a v (l, h) p q = (omega (arith, ints), omega (arith, ints))
toward_zero I16 a v (l, h) p q = (omega (arith, ints), omega (arith, ints))
toward_zero U16 a v (l, h) p q = (omega (arith, ints), omega (arith, ints))
toward_zero I32 a v (l, h) p q = (omega (arith, ints), omega (arith, ints))
toward_zero U32 a v (l, h) p q = (omega (arith, ints), omega (arith, ints))
toward_zero I64 a v (l, h) p q = (omega (arith, ints), omega (arith, ints))
toward_zero U64 a v (l, h) p q = (omega (arith, ints), omega (arith, ints))

pub down_to_zero : (t : CNum) (a v : ℤ) → IsValue t a → v ≤ℤ a → pos 0 ≤ℤ v → IsValue t v
down_to_zero I8 a v (l, h) p q = (omega (arith, ints), omega (arith, ints))
down_to_zero U8 a v (l, h) p q = (omega (arith, ints), omega (arith, ints))
down_to_zero I16 a v (l, h) p q = (omega (arith, ints), omega (arith, ints))
down_to_zero U16 a v (l, h) p q = (omega (arith, ints), omega (arith, ints))
down_to_zero I32 a v (l, h) p q = (omega (arith, ints), omega (arith, ints))
down_to_zero U32 a v (l, h) p q = (omega (arith, ints), omega (arith, ints))
down_to_zero I64 a v (l, h) p q = (omega (arith, ints), omega (arith, ints))
down_to_zero U64 a v (l, h) p q = (omega (arith, ints), omega (arith, ints))

-- what a quotient leaves of a value is one
pub remainder-IsValue : (t : CNum) (a b : ℤ) → IsValue t a → IsValue t (int_rem a b)
remainder-IsValue t (pos n) b p =
    let l : n % unsigned_abs b ≤ n = mod-le n (unsigned_abs b) in
    down_to_zero t (pos n) (pos (n % unsigned_abs b)) p (omega (arith, ints)) (omega (arith, ints))
remainder-IsValue t (negsuc n) b p =
    let l : suc n % unsigned_abs b ≤ suc n = mod-le (suc n) (unsigned_abs b) in
    toward_zero t (negsuc n) (neg_ℤ (pos (suc n % unsigned_abs b))) p (omega (arith, ints)) (omega (arith, ints))

pub tested-IsValue : (t : CNum) (v : ℤ) → is_value t v ≡ true → IsValue t v
tested-IsValue t v h = let both = and_parts (int_le (least t) v) (int_le v (greatest t)) h in (le_z_yes (passes _ both.0), le_z_yes (passes _ both.1))
