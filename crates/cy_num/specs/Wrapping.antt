-- Conversion to a C number type (ISO/IEC 9899:2011 6.3.1.3; to a signed type as GCC and Clang define it).
use Rattle.std.specs.Prelude.{◌≡◌, ◌^◌, ℤ, pos, ◌+ℤ◌, ◌-ℤ◌, ◌*ℤ◌}
use Rattle.cy_num.specs.declared.types.CNum.{CNum}
use Rattle.cy_num.specs.Types.{bits, least, IsValue}
use Rattle.cy_num.specs.Division.{floor_remainder}

-- 2^bits
abbrev pub modulus : CNum → ℤ
modulus t = pos (2 ^ bits t)

-- the difference of v and w is a multiple of 2^bits
abbrev pub IsCongruent : CNum → ℤ → ℤ → Type 0
IsCongruent t v w = (k : ℤ) × (v ≡ w +ℤ k *ℤ modulus t)

-- the value of t whose difference from v is a multiple of 2^bits: as far above the least value as v is, modulo 2^bits
unfoldable pub wrap : CNum → ℤ → ℤ
wrap t v = least t +ℤ floor_remainder (v -ℤ least t) (modulus t)

-- w is a value of t, and its difference from v is a multiple of 2^bits
pub record IsWrapped (t : CNum) (v w : ℤ) : Type 0 where
  pub value : IsValue t w
  pub congruent : IsCongruent t v w
