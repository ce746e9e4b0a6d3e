-- The C number types of the profile (ISO/IEC 9899:2011 6.2.5, 6.2.6.2, 6.3.1), over whole numbers.
use Rattle.std.specs.Prelude.{ℕ, ◌-◌, ◌^◌, Bool, true, false, if◌then◌else◌, ℤ, pos, neg_ℤ, ◌-ℤ◌, ◌≤ℤ◌}
use Rattle.cy_num.specs.declared.types.CNum.{CNum}
use Rattle.cy_num.specs.declared.types.CNum.TheVariants.{I8, U8, I16, U16, I32, U32, I64, U64}

-- how many bits a type has
abbrev pub bits : CNum → ℕ
bits I8 = 8
bits U8 = 8
bits I16 = 16
bits U16 = 16
bits I32 = 32
bits U32 = 32
bits I64 = 64
bits U64 = 64

-- whether a type has values below 0
abbrev pub is_signed : CNum → Bool
is_signed I8 = true
is_signed I16 = true
is_signed I32 = true
is_signed I64 = true
is_signed U8 = false
is_signed U16 = false
is_signed U32 = false
is_signed U64 = false

-- the least and the greatest value: two's complement where the type is signed
abbrev pub least : CNum → ℤ
least t = if is_signed t then neg_ℤ (pos (2 ^ (bits t - 1))) else pos 0

abbrev pub greatest : CNum → ℤ
greatest t = if is_signed t then pos (2 ^ (bits t - 1)) -ℤ pos 1 else pos (2 ^ bits t) -ℤ pos 1

-- v is a value of the type
abbrev pub IsValue : CNum → ℤ → Type 0
IsValue t v = (least t ≤ℤ v) × (v ≤ℤ greatest t)

-- the integer promotions (6.3.1.1): int, where the type is narrower
abbrev pub promote : CNum → CNum
promote I8 = I32
promote U8 = I32
promote I16 = I32
promote U16 = I32
promote I32 = I32
promote U32 = U32
promote I64 = I64
promote U64 = U64

-- the common type of two promoted types (6.3.1.8)
abbrev pub common_of_promoted : CNum → CNum → CNum
common_of_promoted U64 _ = U64
common_of_promoted _ U64 = U64
common_of_promoted I64 _ = I64
common_of_promoted _ I64 = I64
common_of_promoted U32 _ = U32
common_of_promoted _ U32 = U32
common_of_promoted _ _ = I32

-- the usual arithmetic conversions (6.3.1.8)
abbrev pub common : CNum → CNum → CNum
common a b = common_of_promoted (promote a) (promote b)
