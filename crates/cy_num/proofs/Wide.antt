-- Numbers of 128 bits wrap as the whole numbers that they stand for, since 2^128 is a multiple of each modulus.
use Rattle.std.proofs.Common.{arith, ◌≡◌, sym, ap, ap₂, ◌∙◌, refl, lit<, inl, inr, ℕ, suc, ◌+◌, ◌-◌, ◌*◌, ◌/◌, ◌%◌, ◌^◌, ◌<◌, ◌≤◌, ℤ, pos, negsuc, neg_ℤ, ◌+ℤ◌, ◌-ℤ◌, ◌*ℤ◌, unsigned_abs, FitsSigned, to_z, of_z, bit_and, bit_or, bit_xor}
use Rattle.std.proofs.lemmas.Int.{ints, wrapping_mul_is, to_z_pos}
use Rattle.std.proofs.lemmas.Nat.{pow_pos, div-add-mod', mod_below, and_mod, or_mod, xor_mod, and_le_l, pow_below, or_lt, xor_lt}
use Rattle.std.proofs.lemmas.Bool.{cases_lt}
use Rattle.std.specs.Int.{w128, int_rem_euclid, int_wrap, int_wrapping_mul}
use Rattle.cy_num.specs.declared.types.CNum.{CNum}
use Rattle.cy_num.specs.declared.types.CNum.TheVariants.{I8, U8, I16, U16, I32, U32, I64, U64}
use Rattle.cy_num.specs.declared.types.Arith.TheVariants.{And, Or, Xor}
use Rattle.cy_num.specs.Types.{bits, IsValue}
use Rattle.cy_num.specs.Division.{floored, floor_remainder}
use Rattle.cy_num.specs.Wrapping.{modulus, wrap, IsCongruent}
use Rattle.cy_num.specs.Arithmetic.{pattern, arith_result}
use Rattle.cy_num.proofs.Floor.{int_rem_euclid-floored, floored_least, floored_below}
use Rattle.cy_num.proofs.Wraps.{wrap-congruent}

-- how often the modulus goes into 2^128
abbrev turns : CNum → ℕ
turns t = 2 ^ (128 - bits t)

pub turns-modulus : (t : CNum) → turns t * 2 ^ bits t ≡ 2 ^ 128
turns-modulus I8 = refl
turns-modulus U8 = refl
turns-modulus I16 = refl
turns-modulus U16 = refl
turns-modulus I32 = refl
turns-modulus U32 = refl
turns-modulus I64 = refl
turns-modulus U64 = refl

-- numbers that differ by a multiple of 2^128 wrap to one value
pub wide-congruent : (t : CNum) (v w j : ℤ) → v ≡ w +ℤ j *ℤ pos (2 ^ 128) → IsCongruent t v w
wide-congruent I8 v w j e = (j *ℤ pos (turns I8), omega (arith, ints))
wide-congruent U8 v w j e = (j *ℤ pos (turns U8), omega (arith, ints))
wide-congruent I16 v w j e = (j *ℤ pos (turns I16), omega (arith, ints))
wide-congruent U16 v w j e = (j *ℤ pos (turns U16), omega (arith, ints))
wide-congruent I32 v w j e = (j *ℤ pos (turns I32), omega (arith, ints))
wide-congruent U32 v w j e = (j *ℤ pos (turns U32), omega (arith, ints))
wide-congruent I64 v w j e = (j *ℤ pos (turns I64), omega (arith, ints))
wide-congruent U64 v w j e = (j *ℤ pos (turns U64), omega (arith, ints))

pub wrap-wide : (t : CNum) (v w j : ℤ) → v ≡ w +ℤ j *ℤ pos (2 ^ 128) → wrap t v ≡ wrap t w
wrap-wide t v w j e = wrap-congruent t v w (wide-congruent t v w j e)

-- 128 bits as a signed number
to_z-great : (n : ℕ) → 2 ^ 127 ≤ n → to_z w128 n ≡ negsuc (2 ^ 128 - suc n)
to_z-great n h = grind arith

pub wrap-to_z : (t : CNum) (n : ℕ) → n < 2 ^ 128 → wrap t (to_z w128 n) ≡ wrap t (pos n)
wrap-to_z t n h =
    elim (cases_lt n (2 ^ 127)) [
      | inl small ↦ ap (wrap t) (to_z_pos w128 n small)
      | inr great ↦ ap (wrap t) (to_z-great n great) ∙ wrap-wide t (negsuc (2 ^ 128 - suc n)) (pos n) (negsuc 0) (omega (arith, ints))
    ]

-- what wraps to 128 bits first
pub wrap-int_wrap : (t : CNum) (z : ℤ) → wrap t (int_wrap w128 z) ≡ wrap t z
unfolding int_wrap
wrap-int_wrap t z =
    let rest = int_rem_euclid-floored z (2 ^ 128) (pow_pos 128) in
    let low = floored_least z (2 ^ 128) (pow_pos 128) in
    let high = floored_below z (2 ^ 128) (pow_pos 128) in
    let n = unsigned_abs (int_rem_euclid z (pos (2 ^ 128))) in
    let is : pos n ≡ z -ℤ floored z (2 ^ 128) *ℤ pos (2 ^ 128) = grind (arith, ints) in
    wrap-to_z t n (omega (arith, ints))
    ∙ wrap-wide t (pos n) z (neg_ℤ (floored z (2 ^ 128))) (omega (arith, ints))

pub wrap-wrapping_mul : (t : CNum) (a b : ℤ) → FitsSigned w128 a → FitsSigned w128 b
    → wrap t (int_wrapping_mul w128 a b) ≡ wrap t (a *ℤ b)
wrap-wrapping_mul t a b p q = ap (wrap t) (wrapping_mul_is w128 a b p q) ∙ wrap-int_wrap t (a *ℤ b)

-- the low bits of a natural number
pub wrap-mod : (t : CNum) (n : ℕ) → wrap t (pos n) ≡ wrap t (pos (n % 2 ^ bits t))
wrap-mod t n =
    let whole = div-add-mod' n (2 ^ bits t) in
    wrap-congruent t (pos n) (pos (n % 2 ^ bits t)) (pos (n / 2 ^ bits t), omega (arith, ints))

-- the low bits of a number below 0
low_bits : (t : CNum) (n : ℕ) → n < 2 ^ 127 → (2 ^ 128 - suc n) % 2 ^ bits t ≡ 2 ^ bits t - 1 - n % 2 ^ bits t
low_bits I8 n h = omega arith
low_bits U8 n h = omega arith
low_bits I16 n h = omega arith
low_bits U16 n h = omega arith
low_bits I32 n h = omega arith
low_bits U32 n h = omega arith
low_bits I64 n h = omega arith
low_bits U64 n h = omega arith

-- the bits of a number in a type are its low bits among the 128
pub pattern-of_z : (t : CNum) (a : ℤ) → FitsSigned w128 a → pattern t a ≡ of_z w128 a % 2 ^ bits t
unfolding pattern
pattern-of_z t (pos n) h =
    let whole = div-add-mod' n (2 ^ bits t) in
    ap unsigned_abs (rest whole) where
      rest : n / 2 ^ bits t * 2 ^ bits t + n % 2 ^ bits t ≡ n → floor_remainder (pos n) (modulus t) ≡ pos (n % 2 ^ bits t)
      rest whole = omega (arith, ints)
pattern-of_z t (negsuc n) h = ap unsigned_abs rest ∙ sym (low_bits t n h.sfits) where
  rest : floor_remainder (negsuc n) (modulus t) ≡ pos (2 ^ bits t - 1 - n % 2 ^ bits t)
  rest =
      let whole = div-add-mod' n (2 ^ bits t) in
      let below = mod_below n (2 ^ bits t) (pow_pos (bits t)) in
      omega (arith, ints)

pub of_z-below : (a : ℤ) → FitsSigned w128 a → of_z w128 a < 2 ^ 128
of_z-below (pos n) h = let f = h.sfits in omega arith
of_z-below (negsuc n) h = omega arith

-- an operation on bits that works on the low bits apart
pub wrap-bitwise : (f : ℕ → ℕ → ℕ) → ((m n k : ℕ) → f m n % 2 ^ k ≡ f (m % 2 ^ k) (n % 2 ^ k))
    → (t : CNum) (a b : ℤ) → FitsSigned w128 a → FitsSigned w128 b → f (of_z w128 a) (of_z w128 b) < 2 ^ 128
    → wrap t (to_z w128 (f (of_z w128 a) (of_z w128 b))) ≡ wrap t (pos (f (pattern t a) (pattern t b)))
wrap-bitwise f low t a b p q h =
    wrap-to_z t (f (of_z w128 a) (of_z w128 b)) h
    ∙ wrap-mod t (f (of_z w128 a) (of_z w128 b))
    ∙ ap (λ n. wrap t (pos n)) (low (of_z w128 a) (of_z w128 b) (bits t)
    ∙ ap₂ f (sym (pattern-of_z t a p)) (sym (pattern-of_z t b q)))

pub wrap-and : (t : CNum) (a b : ℤ) → FitsSigned w128 a → FitsSigned w128 b
    → wrap t (to_z w128 (bit_and (of_z w128 a) (of_z w128 b))) ≡ arith_result And t a b
wrap-and t a b p q =
    wrap-bitwise bit_and and_mod t a b p q
    (let l = and_le_l (of_z w128 a) (of_z w128 b) in let h = of_z-below a p in omega arith)

pub wrap-or : (t : CNum) (a b : ℤ) → FitsSigned w128 a → FitsSigned w128 b
    → wrap t (to_z w128 (bit_or (of_z w128 a) (of_z w128 b))) ≡ arith_result Or t a b
wrap-or t a b p q = wrap-bitwise bit_or or_mod t a b p q (or_lt 128 (of_z w128 a) (of_z w128 b) (of_z-below a p) (of_z-below b q))

pub wrap-xor : (t : CNum) (a b : ℤ) → FitsSigned w128 a → FitsSigned w128 b
    → wrap t (to_z w128 (bit_xor (of_z w128 a) (of_z w128 b))) ≡ arith_result Xor t a b
wrap-xor t a b p q = wrap-bitwise bit_xor xor_mod t a b p q (xor_lt 128 (of_z w128 a) (of_z w128 b) (of_z-below a p) (of_z-below b q))

-- a sum and a difference of two values of a type fit 128 bits
pub sum-FitsSigned : (t : CNum) (a b : ℤ) → IsValue t a → IsValue t b → FitsSigned w128 (a +ℤ b)
sum-FitsSigned I8 a b (al, ah) (bl, bh) = omega (arith, ints)
sum-FitsSigned U8 a b (al, ah) (bl, bh) = omega (arith, ints)
sum-FitsSigned I16 a b (al, ah) (bl, bh) = omega (arith, ints)
sum-FitsSigned U16 a b (al, ah) (bl, bh) = omega (arith, ints)
sum-FitsSigned I32 a b (al, ah) (bl, bh) = omega (arith, ints)
sum-FitsSigned U32 a b (al, ah) (bl, bh) = omega (arith, ints)
sum-FitsSigned I64 a b (al, ah) (bl, bh) = omega (arith, ints)
sum-FitsSigned U64 a b (al, ah) (bl, bh) = omega (arith, ints)

pub difference-FitsSigned : (t : CNum) (a b : ℤ) → IsValue t a → IsValue t b → FitsSigned w128 (a -ℤ b)
difference-FitsSigned I8 a b (al, ah) (bl, bh) = omega (arith, ints)
difference-FitsSigned U8 a b (al, ah) (bl, bh) = omega (arith, ints)
difference-FitsSigned I16 a b (al, ah) (bl, bh) = omega (arith, ints)
difference-FitsSigned U16 a b (al, ah) (bl, bh) = omega (arith, ints)
difference-FitsSigned I32 a b (al, ah) (bl, bh) = omega (arith, ints)
difference-FitsSigned U32 a b (al, ah) (bl, bh) = omega (arith, ints)
difference-FitsSigned I64 a b (al, ah) (bl, bh) = omega (arith, ints)
difference-FitsSigned U64 a b (al, ah) (bl, bh) = omega (arith, ints)

bits-below : (t : CNum) → bits t < 127
bits-below I8 = lit< tt
bits-below U8 = lit< tt
bits-below I16 = lit< tt
bits-below U16 = lit< tt
bits-below I32 = lit< tt
bits-below U32 = lit< tt
bits-below I64 = lit< tt
bits-below U64 = lit< tt

-- a shift to the left, by less than the width
pub wrap-shl : (t : CNum) (a : ℤ) (n : ℕ) → FitsSigned w128 a → n < bits t
    → wrap t (to_z w128 ((of_z w128 a * 2 ^ n) % 2 ^ 128)) ≡ wrap t (a *ℤ pos (2 ^ n))
wrap-shl t a n p h =
    let wide = bits-below t in
    wrap-wrapping_mul t a (pos (2 ^ n)) p (record { sfits = pow_below n 127 (omega arith) })
