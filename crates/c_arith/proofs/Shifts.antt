-- What a shift of a value comes to, from what the shift of its type answers.
use Rattle.std.proofs.Common.{arith, ◌⊎◌, negsuc, ◌≤◌, ap₂, to_z, of_z, FitsSigned, ◌≡◌, refl, sym, ap, ◌∙◌, ◌↔◌, inl, inr, true, false, not, ◌&&◌, ◌||◌, Bool, Result, Ok, Err, if◌then◌else◌, ℕ, ◌*◌, ◌/◌, ◌^◌, ◌<◌, ℤ, pos, ltb, leb, ◌*ℤ◌, ◌≤ℤ◌, unsigned_abs}
use Rattle.std.proofs.lemmas.Bool.{cases_lt, false≢true}
use Rattle.std.proofs.lemmas.Int.{ints, to_z-of_z}
use Rattle.std.specs.Int.{w128}
use Rattle.std.proofs.lemmas.Nat.{pow_pos}
use Rattle.std.proofs.Math.Nat.{div-lt_iff_lt-mul}
use Rattle.std.specs.Int.RustNames.{int_lt}
use Rattle.cy_num.specs.declared.types.CNum.{CNum}
use Rattle.cy_num.specs.declared.types.CNum.TheVariants.{I8, U8, I16, U16, I32, U32, I64, U64}
use Rattle.cy_num.specs.declared.division.NumFault.{NumFault}
use Rattle.cy_num.specs.declared.division.NumFault.TheVariants.{ShiftCount}
use Rattle.cy_num.specs.Types.{is_signed, greatest}
use Rattle.cy_num.specs.Division.{floored}
use Rattle.cy_num.specs.Wrapping.{wrap}
use Rattle.cy_num.specs.Arithmetic.{is_bad_count, shift, shifted}
use Rattle.c_arith.specs.declared.number.Computed.{Computed}
use Rattle.c_arith.specs.declared.number.Computed.TheVariants.{Undefined}
use Rattle.c_arith.specs.Operators.{value_of, is_value, overflows, shifted_left, shifted_right}

-- ---- a count that is good, and one that is bad

abbrev is_given : Result ℤ NumFault → Bool
is_given (Ok x) = true
is_given (Err x) = false

abbrev number : Result ℤ NumFault → ℤ
number (Ok x) = x
number (Err x) = pos 0

given : (b : Bool) (v w : ℤ) → Ok v ≡ (if b then Err ShiftCount else Ok w) → (b ≡ false) × (v ≡ w)
given true v w e = absurd (false≢true (sym (ap is_given e)))
given false v w e = (refl, ap number e)

refused : (b : Bool) (x : NumFault) (w : ℤ) → Err x ≡ (if b then Err ShiftCount else Ok w) → b ≡ true
refused true x w e = refl
refused false x w e = absurd (false≢true (ap is_given e))

shift-Ok : (left : Bool) (t : CNum) (a count v : ℤ) → Ok v ≡ shift left t a count → (is_bad_count t count ≡ false) × (v ≡ shifted left t a (unsigned_abs count))
unfolding shift
shift-Ok left t a count v e = given (is_bad_count t count) v (shifted left t a (unsigned_abs count)) e

shift-Err : (left : Bool) (t : CNum) (a count : ℤ) (x : NumFault) → Err x ≡ shift left t a count → is_bad_count t count ≡ true
unfolding shift
shift-Err left t a count x e = refused (is_bad_count t count) x (shifted left t a (unsigned_abs count)) e

-- what the code hands to a shift
pub shift_of : (left : Bool) (t : CNum) (a count : ℤ) → FitsSigned w128 a → FitsSigned w128 count
    → shift left t (to_z w128 (of_z w128 a)) (to_z w128 (of_z w128 count)) ≡ shift left t a count
shift_of left t a count p q = ap₂ (shift left t) (to_z-of_z w128 a p) (to_z-of_z w128 count q)

pub greatest_is : (t : CNum) (count g : ℤ) → FitsSigned w128 g → g ≡ greatest t → FitsSigned w128 count
    → shift false t (to_z w128 (of_z w128 g)) (to_z w128 (of_z w128 count)) ≡ shift false t (greatest t) count
greatest_is t count g p e q = shift_of false t g count p q ∙ ap (λ x. shift false t x count) e

-- ---- shifts to the right

pub right-Ok : (t : CNum) (a count v : ℤ) → Ok v ≡ shift false t a count → value_of t v ≡ shifted_right t a count
right-Ok t a count v e =
    let p = shift-Ok false t a count v e in
    ap (value_of t) p.1 ∙ sym (ap (λ (b : Bool). if b then Undefined else value_of t (floored a (2 ^ unsigned_abs count))) p.0)

pub right-Err : (t : CNum) (a count : ℤ) (x : NumFault) → Err x ≡ shift false t a count → Undefined ≡ shifted_right t a count
right-Err t a count x e =
    sym (ap (λ (b : Bool). if b then Undefined else value_of t (floored a (2 ^ unsigned_abs count))) (shift-Err false t a count x e))

-- ---- shifts to the left

abbrev left_by : CNum → ℤ → ℤ → Bool → Computed
left_by t a count b = if b then Undefined else value_of t (wrap t (a *ℤ pos (2 ^ unsigned_abs count)))

abbrev bad : Bool → Bool → Bool → Bool
bad b c d = b || (c || d)

three : (b c d : Bool) → b ≡ false → c ≡ false → d ≡ false → bad b c d ≡ false
three b c d h k l = ap (λ x. bad x c d) h ∙ (ap (λ x. bad false x d) k ∙ l)

pub left-Ok : (t : CNum) (a count v : ℤ) → Ok v ≡ shift true t a count → int_lt a (pos 0) ≡ false
    → (is_bad_count t count ≡ false → false ≡ overflows t a count) → value_of t v ≡ shifted_left t a count
left-Ok t a count v e low fits =
    let p = shift-Ok true t a count v e in
    ap (value_of t) p.1
    ∙ sym (ap (left_by t a count) (three (is_bad_count t count) (int_lt a (pos 0)) (overflows t a count) p.0 low (sym (fits p.0))))

pub left-Err : (t : CNum) (a count : ℤ) (x : NumFault) → Err x ≡ shift true t a count → Undefined ≡ shifted_left t a count
left-Err t a count x e =
    sym (ap (λ (b : Bool). left_by t a count (bad b (int_lt a (pos 0)) (overflows t a count))) (shift-Err true t a count x e))

-- ---- what a signed type lacks

flip : (q k p g : ℕ) → ((q < k) ↔ (g < p)) → ltb q k ≡ not (leb p g)
flip q k p g h =
    elim (cases_lt g p) [
      | inl l ↦ let m = h.1 l in grind arith
      | inr l ↦ by_cases (cases_lt q k) l
    ]
  where
    by_cases : (q < k) ⊎ (k ≤ q) → p ≤ g → ltb q k ≡ not (leb p g)
    by_cases (inl m) l = let n = h.0 m in grind arith
    by_cases (inr m) l = grind arith

above : (g n k : ℕ) → ltb (g / 2 ^ n) k ≡ not (leb (k * 2 ^ n) g)
above g n k =
    let within : (g / 2 ^ n < k) ↔ (g < k * 2 ^ n) = div-lt_iff_lt-mul (pow_pos n) in
    flip (g / 2 ^ n) k (k * 2 ^ n) g within

lacking : (t : CNum) (k n : ℕ) → is_signed t ≡ true → int_lt (floored (greatest t) (2 ^ n)) (pos k) ≡ not (is_value t (pos k *ℤ pos (2 ^ n)))
lacking I8 k n s = above 127 n k
lacking I16 k n s = above 32767 n k
lacking I32 k n s = above 2147483647 n k
lacking I64 k n s = above 9223372036854775807 n k
lacking U8 k n s = absurd (false≢true s)
lacking U16 k n s = absurd (false≢true s)
lacking U32 k n s = absurd (false≢true s)
lacking U64 k n s = absurd (false≢true s)

natural : (t : CNum) (a : ℤ) (n : ℕ) → is_signed t ≡ true → pos 0 ≤ℤ a → int_lt (floored (greatest t) (2 ^ n)) a ≡ not (is_value t (a *ℤ pos (2 ^ n)))
natural t (pos k) n s h = lacking t k n s
natural t (negsuc k) n s h = let never : ⊥ = omega (arith, ints) in absurd never

pub overflows-Ok : (t : CNum) (a count most : ℤ) → is_signed t ≡ true → pos 0 ≤ℤ a → Ok most ≡ shift false t (greatest t) count → int_lt most a ≡ overflows t a count
overflows-Ok t a count most s h e =
    ap (λ m. int_lt m a) (shift-Ok false t (greatest t) count most e).1
    ∙ (natural t a (unsigned_abs count) s h ∙ sym (ap (λ (b : Bool). b && not (is_value t (a *ℤ pos (2 ^ unsigned_abs count)))) s))

pub overflows-Err : (t : CNum) (a count : ℤ) (x : NumFault) → Err x ≡ shift false t (greatest t) count → is_bad_count t count ≡ false → false ≡ overflows t a count
overflows-Err t a count x e h = absurd (false≢true (sym h ∙ shift-Err false t (greatest t) count x e))
