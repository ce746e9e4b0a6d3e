-- The bits of values in two's complement.
use Rattle.std.proofs.Common.{arith, ◌≡◌, ap, subst, ◌∙◌, ℕ, ◌+◌, ◌%◌, ◌^◌, ◌<◌, min, max, bit_and, bit_or, bit_xor, ℤ, pos, negsuc, neg_ℤ, ◌+ℤ◌, ◌-ℤ◌, ◌*ℤ◌, ◌≤ℤ◌, ◌<ℤ◌, unsigned_abs}
use Rattle.std.proofs.lemmas.Int.{ints}
use Rattle.std.proofs.lemmas.Nat.{pow_pos, and_le_l, or_lt, xor_lt}
use Rattle.std.proofs.lemmas.Nat.Bits.{bit_at_and, bit_at_or, bit_at_xor}
use Rattle.std.specs.Int.{bit_at}
use Rattle.cy_num.specs.declared.types.CNum.{CNum}
use Rattle.cy_num.specs.declared.types.CNum.TheVariants.{I8, U8, I16, U16, I32, U32, I64, U64}
use Rattle.cy_num.specs.declared.types.Arith.TheVariants.{And, Or, Xor}
use Rattle.cy_num.specs.Types.{bits}
use Rattle.cy_num.specs.Division.{floor_remainder}
use Rattle.cy_num.specs.Wrapping.{modulus, wrap}
use Rattle.cy_num.specs.Arithmetic.{pattern, of_pattern, arith_result}
use Rattle.cy_num.proofs.Floor.{floored_least, floored_below, unique_above}
use Rattle.cy_num.proofs.Wraps.{wrap-IsWrapped}

turned : (t : CNum) (n : ℕ) (w k : ℤ) → pos n ≡ w +ℤ k *ℤ modulus t → w ≡ neg_ℤ k *ℤ modulus t +ℤ pos n
turned I8 n w k e = omega (arith, ints)
turned U8 n w k e = omega (arith, ints)
turned I16 n w k e = omega (arith, ints)
turned U16 n w k e = omega (arith, ints)
turned I32 n w k e = omega (arith, ints)
turned U32 n w k e = omega (arith, ints)
turned I64 n w k e = omega (arith, ints)
turned U64 n w k e = omega (arith, ints)

below : (z : ℤ) (m : ℕ) → pos 0 ≤ℤ z → z <ℤ pos m → unsigned_abs z < m
below (pos n) m low high = omega (arith, ints)
below (negsuc n) m low high = omega (arith, ints)

pub pattern-below : (t : CNum) (v : ℤ) → pattern t v < 2 ^ bits t
unfolding pattern
pattern-below t v =
    below (floor_remainder v (modulus t)) (2 ^ bits t)
    (floored_least v (2 ^ bits t) (pow_pos (bits t))) (floored_below v (2 ^ bits t) (pow_pos (bits t)))

-- the value of a pattern has that pattern
pub pattern-of_pattern : (t : CNum) (n : ℕ) → n < 2 ^ bits t → pattern t (of_pattern t n) ≡ n
unfolding pattern
pattern-of_pattern t n h =
    let p = wrap-IsWrapped t (pos n) in
    let w = wrap t (pos n) in
    let whole = turned t n w p.congruent.0 p.congruent.1 in
    let times = unique_above w (neg_ℤ p.congruent.0) (pos n) (2 ^ bits t) whole (omega (arith, ints)) h in
    let rest : w -ℤ neg_ℤ p.congruent.0 *ℤ modulus t ≡ pos n = omega (arith, ints) in
    ap unsigned_abs (subst (λ q. w -ℤ q *ℤ modulus t ≡ pos n) times rest)

pub bit_at-And : (t : CNum) (a b : ℤ) (k : ℕ)
    → bit_at (pattern t (arith_result And t a b)) k ≡ min (bit_at (pattern t a) k) (bit_at (pattern t b) k)
bit_at-And t a b k =
    let low = and_le_l (pattern t a) (pattern t b) in
    let high = pattern-below t a in
    ap (λ n. bit_at n k) (pattern-of_pattern t (bit_and (pattern t a) (pattern t b)) (omega arith))
    ∙ bit_at_and (pattern t a) (pattern t b) k

pub bit_at-Or : (t : CNum) (a b : ℤ) (k : ℕ)
    → bit_at (pattern t (arith_result Or t a b)) k ≡ max (bit_at (pattern t a) k) (bit_at (pattern t b) k)
bit_at-Or t a b k =
    ap (λ n. bit_at n k)
    (pattern-of_pattern t (bit_or (pattern t a) (pattern t b))
    (or_lt (bits t) (pattern t a) (pattern t b) (pattern-below t a) (pattern-below t b)))
    ∙ bit_at_or (pattern t a) (pattern t b) k

pub bit_at-Xor : (t : CNum) (a b : ℤ) (k : ℕ)
    → bit_at (pattern t (arith_result Xor t a b)) k ≡ (bit_at (pattern t a) k + bit_at (pattern t b) k) % 2
bit_at-Xor t a b k =
    ap (λ n. bit_at n k)
    (pattern-of_pattern t (bit_xor (pattern t a) (pattern t b))
    (xor_lt (bits t) (pattern t a) (pattern t b) (pattern-below t a) (pattern-below t b)))
    ∙ bit_at_xor (pattern t a) (pattern t b) k
