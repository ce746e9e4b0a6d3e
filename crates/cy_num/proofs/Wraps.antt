-- Values that wrap.
use Rattle.std.proofs.Common.{arith, ◌≡◌, sym, ap, subst, ◌∙◌, ◌^◌, ℤ, pos, ◌+ℤ◌, ◌-ℤ◌, ◌*ℤ◌, ◌≤ℤ◌, ◌<ℤ◌}
use Rattle.std.proofs.lemmas.Int.{ints}
use Rattle.std.proofs.lemmas.Nat.{pow_pos}
use Rattle.std.proofs.Math.IntN.{suc_ℤ, suc_ℤ-*ℤ, zero-*ℤ}
use Rattle.std.specs.Int.{int_rem_euclid}
use Rattle.cy_num.specs.declared.types.CNum.{CNum}
use Rattle.cy_num.specs.declared.types.CNum.TheVariants.{I8, U8, I16, U16, I32, U32, I64, U64}
use Rattle.cy_num.specs.Types.{bits, least, greatest, IsValue}
use Rattle.cy_num.specs.Division.{floored}
use Rattle.cy_num.specs.Wrapping.{modulus, wrap, IsCongruent, IsWrapped}
use Rattle.cy_num.proofs.Floor.{floored_least, floored_below, int_rem_euclid-floored}

-- a window as wide as the modulus
pub window : (t : CNum) (r : ℤ) → pos 0 ≤ℤ r → r <ℤ modulus t → IsValue t (least t +ℤ r)
window I8 r low high = (omega (arith, ints), omega (arith, ints))
window U8 r low high = (omega (arith, ints), omega (arith, ints))
window I16 r low high = (omega (arith, ints), omega (arith, ints))
window U16 r low high = (omega (arith, ints), omega (arith, ints))
window I32 r low high = (omega (arith, ints), omega (arith, ints))
window U32 r low high = (omega (arith, ints), omega (arith, ints))
window I64 r low high = (omega (arith, ints), omega (arith, ints))
window U64 r low high = (omega (arith, ints), omega (arith, ints))

-- two values of a type that differ by a multiple of the modulus are one
pub same_value : (t : CNum) (v w k j : ℤ) → IsValue t v → IsValue t w → v +ℤ k *ℤ modulus t ≡ w +ℤ j *ℤ modulus t → v ≡ w
same_value I8 v w k j p q e = omega (arith, ints)
same_value U8 v w k j p q e = omega (arith, ints)
same_value I16 v w k j p q e = omega (arith, ints)
same_value U16 v w k j p q e = omega (arith, ints)
same_value I32 v w k j p q e = omega (arith, ints)
same_value U32 v w k j p q e = omega (arith, ints)
same_value I64 v w k j p q e = omega (arith, ints)
same_value U64 v w k j p q e = omega (arith, ints)

-- the same, through a third number
pub same_value_through : (t : CNum) (v w k j i : ℤ) → IsValue t v → IsValue t w
    → v +ℤ k *ℤ modulus t ≡ (w +ℤ j *ℤ modulus t) +ℤ i *ℤ modulus t → v ≡ w
same_value_through I8 v w k j i p q e = omega (arith, ints)
same_value_through U8 v w k j i p q e = omega (arith, ints)
same_value_through I16 v w k j i p q e = omega (arith, ints)
same_value_through U16 v w k j i p q e = omega (arith, ints)
same_value_through I32 v w k j i p q e = omega (arith, ints)
same_value_through U32 v w k j i p q e = omega (arith, ints)
same_value_through I64 v w k j i p q e = omega (arith, ints)
same_value_through U64 v w k j i p q e = omega (arith, ints)

-- what a remainder that isn't below 0 becomes
pub rest_stays : (t : CNum) (r : ℤ) → pos 0 ≤ℤ r → r <ℤ modulus t → r ≤ℤ greatest t → IsValue t r
rest_stays I8 r low high h = (omega (arith, ints), h)
rest_stays U8 r low high h = (omega (arith, ints), h)
rest_stays I16 r low high h = (omega (arith, ints), h)
rest_stays U16 r low high h = (omega (arith, ints), h)
rest_stays I32 r low high h = (omega (arith, ints), h)
rest_stays U32 r low high h = (omega (arith, ints), h)
rest_stays I64 r low high h = (omega (arith, ints), h)
rest_stays U64 r low high h = (omega (arith, ints), h)

pub rest_turns : (t : CNum) (r : ℤ) → pos 0 ≤ℤ r → r <ℤ modulus t → greatest t <ℤ r → IsValue t (r -ℤ modulus t)
rest_turns I8 r low high h = (omega (arith, ints), omega (arith, ints))
rest_turns U8 r low high h = (omega (arith, ints), omega (arith, ints))
rest_turns I16 r low high h = (omega (arith, ints), omega (arith, ints))
rest_turns U16 r low high h = (omega (arith, ints), omega (arith, ints))
rest_turns I32 r low high h = (omega (arith, ints), omega (arith, ints))
rest_turns U32 r low high h = (omega (arith, ints), omega (arith, ints))
rest_turns I64 r low high h = (omega (arith, ints), omega (arith, ints))
rest_turns U64 r low high h = (omega (arith, ints), omega (arith, ints))

pub wrap-IsWrapped : (t : CNum) (v : ℤ) → IsWrapped t v (wrap t v)
unfolding wrap
wrap-IsWrapped t v =
    let below = pow_pos (bits t) in
    record {
      value = window t _ (floored_least (v -ℤ least t) (2 ^ bits t) below) (floored_below (v -ℤ least t) (2 ^ bits t) below);
      congruent = (floored (v -ℤ least t) (2 ^ bits t), omega (arith, ints));
    }

pub IsWrapped-unique : (t : CNum) (v w : ℤ) → IsWrapped t v w → w ≡ wrap t v
IsWrapped-unique t v w p =
    let q = wrap-IsWrapped t v in
    same_value t w (wrap t v) p.congruent.0 q.congruent.0 p.value q.value (sym p.congruent.1 ∙ q.congruent.1)

-- numbers that differ by a multiple of the modulus wrap to one value
pub wrap-congruent : (t : CNum) (v w : ℤ) → IsCongruent t v w → wrap t v ≡ wrap t w
wrap-congruent t v w (i, e) =
    let p = wrap-IsWrapped t v in
    let q = wrap-IsWrapped t w in
    same_value_through t (wrap t v) (wrap t w) p.congruent.0 q.congruent.0 i p.value q.value
    (sym p.congruent.1 ∙ e ∙ ap (λ x. x +ℤ i *ℤ modulus t) q.congruent.1)

-- the value that differs by a multiple of the modulus is what wraps
pub wrap-from : (t : CNum) (v w k : ℤ) → IsValue t w → v ≡ w +ℤ k *ℤ modulus t → w ≡ wrap t v
wrap-from t v w k value e = IsWrapped-unique t v w (record { value = value; congruent = (k, e) })

-- a remainder that isn't below 0 stays, or goes down by the modulus
pub rest-least : (t : CNum) (v r : ℤ) → r ≡ int_rem_euclid v (modulus t) → pos 0 ≤ℤ r
rest-least t v r e =
    let below = pow_pos (bits t) in
    subst (λ x. pos 0 ≤ℤ x) (sym (e ∙ int_rem_euclid-floored v (2 ^ bits t) below)) (floored_least v (2 ^ bits t) below)

pub rest-below : (t : CNum) (v r : ℤ) → r ≡ int_rem_euclid v (modulus t) → r <ℤ modulus t
rest-below t v r e =
    let below = pow_pos (bits t) in
    subst (λ x. x <ℤ modulus t) (sym (e ∙ int_rem_euclid-floored v (2 ^ bits t) below)) (floored_below v (2 ^ bits t) below)

pub rest-IsValue : (t : CNum) (v r : ℤ) → r ≡ int_rem_euclid v (modulus t) → r ≤ℤ greatest t → IsValue t r
rest-IsValue t v r e h = rest_stays t r (rest-least t v r e) (rest-below t v r e) h

pub turned-IsValue : (t : CNum) (v r : ℤ) → r ≡ int_rem_euclid v (modulus t) → greatest t <ℤ r → IsValue t (r -ℤ modulus t)
turned-IsValue t v r e h = rest_turns t r (rest-least t v r e) (rest-below t v r e) h

pub rest-wrap : (t : CNum) (v r : ℤ) → r ≡ int_rem_euclid v (modulus t) → r ≤ℤ greatest t → r ≡ wrap t v
rest-wrap t v r e h =
    let split = e ∙ int_rem_euclid-floored v (2 ^ bits t) (pow_pos (bits t)) in
    wrap-from t v r (floored v (2 ^ bits t)) (rest-IsValue t v r e h) (omega (arith, ints))

pub turned-wrap : (t : CNum) (v r : ℤ) → r ≡ int_rem_euclid v (modulus t) → greatest t <ℤ r → r -ℤ modulus t ≡ wrap t v
turned-wrap t v r e h =
    let split = e ∙ int_rem_euclid-floored v (2 ^ bits t) (pow_pos (bits t)) in
    wrap-from t v (r -ℤ modulus t) (suc_ℤ (floored v (2 ^ bits t))) (turned-IsValue t v r e h)
    (let one_more = suc_ℤ-*ℤ (floored v (2 ^ bits t)) (modulus t) in omega (arith, ints))

-- a value stays
pub wrap-IsValue : (t : CNum) (v : ℤ) → IsValue t v → wrap t v ≡ v
wrap-IsValue t v h = let none = zero-*ℤ (modulus t) in sym (wrap-from t v v (pos 0) h (omega (arith, ints)))

pub wrap-wrap : (t : CNum) (v : ℤ) → wrap t (wrap t v) ≡ wrap t v
wrap-wrap t v = wrap-IsValue t (wrap t v) (wrap-IsWrapped t v).value
