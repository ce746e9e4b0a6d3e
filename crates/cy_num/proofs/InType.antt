-- Results that are values of the type.
use Rattle.std.proofs.Common.{arith, ◌≡◌, ◌≢◌, sym, ap, subst, refl, true, ℕ, zero, suc, ◌+◌, ◌*◌, ◌/◌, ◌≤◌, ℤ, pos, negsuc, neg_ℤ, ◌≤ℤ◌, ◌<ℤ◌}
use Rattle.std.proofs.lemmas.Int.{ints, by_lt_z}
use Rattle.std.proofs.lemmas.Nat.{div-add-mod'}
use Rattle.std.proofs.Math.IntN.{*ℤ-negsuc}
use Rattle.std.proofs.Math.Nat.{div-le_self, div-one, mul-add, zero-div}
use Rattle.cy_num.specs.declared.types.CNum.{CNum}
use Rattle.cy_num.specs.declared.types.CNum.TheVariants.{I8, U8, I16, U16, I32, U32, I64, U64}
use Rattle.cy_num.specs.Types.{least, greatest, is_signed, IsValue}
use Rattle.cy_num.specs.Division.{floored, floor_quotient, floor_remainder, IsTooLarge}
use Rattle.cy_num.proofs.Floor.{floored_least, floored_below}

-- between a value and 0
pub toward_zero : (t : CNum) (a v : ℤ) → IsValue t a → a ≤ℤ v → v ≤ℤ pos 0 → IsValue t v
toward_zero I8 a v (l, h) p q = (omega (arith, ints), omega (arith, ints))
toward_zero U8 a v (l, h) p q = (omega (arith, ints), omega (arith, ints))
toward_zero I16 a v (l, h) p q = (omega (arith, ints), omega (arith, ints))
toward_zero U16 a v (l, h) p q = (omega (arith, ints), omega (arith, ints))
toward_zero I32 a v (l, h) p q = (omega (arith, ints), omega (arith, ints))
toward_zero U32 a v (l, h) p q = (omega (arith, ints), omega (arith, ints))
toward_zero I64 a v (l, h) p q = (omega (arith, ints), omega (arith, ints))
toward_zero U64 a v (l, h) p q = (omega (arith, ints), omega (arith, ints))

pub down_to_zero : (t : CNum) (a v : ℤ) → IsValue t a → v ≤ℤ a → pos 0 ≤ℤ v → IsValue t v
down_to_zero I8 a v (l, h) p q = (omega (arith, ints), omega (arith, ints))
down_to_zero U8 a v (l, h) p q = (omega (arith, ints), omega (arith, ints))
down_to_zero I16 a v (l, h) p q = (omega (arith, ints), omega (arith, ints))
down_to_zero U16 a v (l, h) p q = (omega (arith, ints), omega (arith, ints))
down_to_zero I32 a v (l, h) p q = (omega (arith, ints), omega (arith, ints))
down_to_zero U32 a v (l, h) p q = (omega (arith, ints), omega (arith, ints))
down_to_zero I64 a v (l, h) p q = (omega (arith, ints), omega (arith, ints))
down_to_zero U64 a v (l, h) p q = (omega (arith, ints), omega (arith, ints))

pub floored-IsValue : (t : CNum) (a : ℤ) (n : ℕ) → IsValue t a → IsValue t (floored a n)
floored-IsValue t (pos k) n v = let l = div-le_self k n in down_to_zero t (pos k) (pos (k / n)) v (omega (arith, ints)) (omega (arith, ints))
floored-IsValue t (negsuc k) n v = let l = div-le_self k n in toward_zero t (negsuc k) (negsuc (k / n)) v (omega (arith, ints)) (omega (arith, ints))

-- a quotient by -1: a number other than the least has its negation
pub negated-IsValue : (t : CNum) (a : ℤ) → IsValue t a → IsValue t (negsuc 0) → least t <ℤ a → IsValue t (neg_ℤ a)
negated-IsValue I8 a (l, h) (m, n) p = (omega (arith, ints), omega (arith, ints))
negated-IsValue U8 a (l, h) (m, n) p = (omega (arith, ints), omega (arith, ints))
negated-IsValue I16 a (l, h) (m, n) p = (omega (arith, ints), omega (arith, ints))
negated-IsValue U16 a (l, h) (m, n) p = (omega (arith, ints), omega (arith, ints))
negated-IsValue I32 a (l, h) (m, n) p = (omega (arith, ints), omega (arith, ints))
negated-IsValue U32 a (l, h) (m, n) p = (omega (arith, ints), omega (arith, ints))
negated-IsValue I64 a (l, h) (m, n) p = (omega (arith, ints), omega (arith, ints))
negated-IsValue U64 a (l, h) (m, n) p = (omega (arith, ints), omega (arith, ints))

-- a quotient by less than -1, of which the half is what counts
half-IsValue : (t : CNum) (k q : ℕ) → q * 2 ≤ k → least t ≤ℤ neg_ℤ (pos k) → IsValue t (pos q)
half-IsValue I8 k q p l = (omega (arith, ints), omega (arith, ints))
half-IsValue U8 k q p l = (omega (arith, ints), omega (arith, ints))
half-IsValue I16 k q p l = (omega (arith, ints), omega (arith, ints))
half-IsValue U16 k q p l = (omega (arith, ints), omega (arith, ints))
half-IsValue I32 k q p l = (omega (arith, ints), omega (arith, ints))
half-IsValue U32 k q p l = (omega (arith, ints), omega (arith, ints))
half-IsValue I64 k q p l = (omega (arith, ints), omega (arith, ints))
half-IsValue U64 k q p l = (omega (arith, ints), omega (arith, ints))

less-IsValue : (t : CNum) (k q : ℕ) → q ≤ k → pos (suc k) ≤ℤ greatest t → IsValue t (negsuc 0) → IsValue t (negsuc q)
less-IsValue I8 k q p h (m, n) = (omega (arith, ints), omega (arith, ints))
less-IsValue U8 k q p h (m, n) = (omega (arith, ints), omega (arith, ints))
less-IsValue I16 k q p h (m, n) = (omega (arith, ints), omega (arith, ints))
less-IsValue U16 k q p h (m, n) = (omega (arith, ints), omega (arith, ints))
less-IsValue I32 k q p h (m, n) = (omega (arith, ints), omega (arith, ints))
less-IsValue U32 k q p h (m, n) = (omega (arith, ints), omega (arith, ints))
less-IsValue I64 k q p h (m, n) = (omega (arith, ints), omega (arith, ints))
less-IsValue U64 k q p h (m, n) = (omega (arith, ints), omega (arith, ints))

signed : (t : CNum) → IsValue t (negsuc 0) → is_signed t ≡ true
signed I8 one = refl
signed I16 one = refl
signed I32 one = refl
signed I64 one = refl
signed U8 (l, h) = let never : ⊥ = omega (arith, ints) in absurd never
signed U16 (l, h) = let never : ⊥ = omega (arith, ints) in absurd never
signed U32 (l, h) = let never : ⊥ = omega (arith, ints) in absurd never
signed U64 (l, h) = let never : ⊥ = omega (arith, ints) in absurd never

minus_one : (t : CNum) (m : ℕ) → IsValue t (negsuc m) → IsValue t (negsuc 0)
minus_one t m v = toward_zero t (negsuc m) (negsuc 0) v (omega (arith, ints)) (omega (arith, ints))

half_le : (k m : ℕ) → (k / suc (suc m)) * 2 ≤ k
half_le k m =
    let whole = div-add-mod' k (suc (suc m)) in
    let product : (k / suc (suc m)) * (m + 2) ≡ (k / suc (suc m)) * m + (k / suc (suc m)) * 2 = mul-add (k / suc (suc m)) m 2 in
    omega arith

pub less_quotient-IsValue : (t : CNum) (a : ℤ) (m : ℕ) → IsValue t a → IsValue t (negsuc 0) → IsValue t (floored (neg_ℤ a) (suc (suc m)))
less_quotient-IsValue t (pos zero) m (l, h) one = let e = zero-div (suc (suc m)) in (omega (arith, ints), omega (arith, ints))
less_quotient-IsValue t (pos (suc k)) m (l, h) one = less-IsValue t k (k / suc (suc m)) (div-le_self k (suc (suc m))) h one
less_quotient-IsValue t (negsuc k) m (l, h) one = half-IsValue t (suc k) (suc k / suc (suc m)) (half_le (suc k) m) l

floored_one : (z : ℤ) → floored z 1 ≡ z
floored_one (pos k) = ap pos (div-one k)
floored_one (negsuc k) = ap negsuc (div-one k)

above_least : (t : CNum) (a : ℤ) → IsValue t a → IsValue t (negsuc 0) → ¬ (IsTooLarge t a (negsuc 0)) → least t <ℤ a
above_least t a (l, h) one not = by_lt_z (least t) a (λ p. p) (λ p. absurd (not (signed t one, omega (arith, ints), refl)))

pub quotient-IsValue : (t : CNum) (a b : ℤ) → IsValue t a → IsValue t b → ¬ (IsTooLarge t a b) → IsValue t (floor_quotient a b)
quotient-IsValue t a (pos n) v w h = floored-IsValue t a n v
quotient-IsValue t a (negsuc zero) v w h = subst (IsValue t) (sym (floored_one (neg_ℤ a))) (negated-IsValue t a v w (above_least t a v w h))
quotient-IsValue t a (negsuc (suc m)) v w h = less_quotient-IsValue t a m v (minus_one t (suc m) w)

-- a remainder lies between 0 and the divisor
pub remainder-IsValue : (t : CNum) (a b : ℤ) → IsValue t b → b ≢ pos 0 → IsValue t (floor_remainder a b)
remainder-IsValue t a (pos zero) w h = absurd (h refl)
remainder-IsValue t a (pos (suc n)) w h =
    let low = floored_least a (suc n) (omega arith) in
    let high = floored_below a (suc n) (omega arith) in
    down_to_zero t (pos (suc n)) _ w (omega (arith, ints)) low
remainder-IsValue t a (negsuc n) w h =
    let low = floored_least (neg_ℤ a) (suc n) (omega arith) in
    let high = floored_below (neg_ℤ a) (suc n) (omega arith) in
    let turned = *ℤ-negsuc (floored (neg_ℤ a) (suc n)) n in
    toward_zero t (negsuc n) _ w (omega (arith, ints)) (omega (arith, ints))
