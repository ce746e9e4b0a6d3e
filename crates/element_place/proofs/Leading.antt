-- Where an index of the first dimension leads.
use Rattle.std.proofs.Common.{arith, min, nat_abs, negsuc, ◌≡◌, ◌⊎◌, sym, subst, inl, inr, ℕ, ◌+◌, ◌<◌, ◌≤◌, List, ◌∷◌, ℤ, pos, ◌-ℤ◌, ◌*ℤ◌, ◌<ℤ◌}
use Rattle.std.proofs.lemmas.Bool.{cases_lt}
use Rattle.std.proofs.lemmas.Int.{ints}
use Rattle.element_place.specs.declared.window.Indexes.{Indexes}
use Rattle.element_place.specs.declared.window.Window.{Window}
use Rattle.element_place.specs.Places.{Reaches}
use Rattle.element_place.specs.Windows.{IsBetween, IsFound}

pub reached : (ls ss ns ts : List ℤ) (n s at left : ℤ) (i : ℕ) → ls ≡ n ∷ ns → ss ≡ s ∷ ts → pos i <ℤ n → left ≡ at -ℤ pos i *ℤ s
    → Reaches ns ts left → Reaches ls ss at
reached ls ss ns ts n s at left i e f h g r =
    subst (λ x. Reaches x ss at) (sym e) (subst (λ y. Reaches (n ∷ ns) y at) (sym f) (i, h, subst (Reaches ns ts) g r))

pub missed : (ls ss ns ts : List ℤ) (n s at : ℤ) → ls ≡ n ∷ ns → ss ≡ s ∷ ts → ((i : ℕ) → pos i <ℤ n → Reaches ns ts (at -ℤ pos i *ℤ s) → ⊥)
    → Reaches ls ss at → ⊥
missed ls ss ns ts n s at e f none r =
    let led = subst (λ y. Reaches (n ∷ ns) y at) f (subst (λ x. Reaches x ss at) e r) in
    none led.0 led.1 led.2

pub step : (P : ℕ → Type 0) (start k : ℕ) → ((i : ℕ) → start ≤ i → i < k → P i → ⊥) → (P k → ⊥) → (i : ℕ) → start ≤ i → i < k + 1 → P i → ⊥
step P start k none last i h l p = by_order (cases_lt i k)
  where
    by_order : (i < k) ⊎ (k ≤ i) → ⊥
    by_order (inl m) = none i h m p
    by_order (inr m) = let e : i ≡ k = omega arith in last (subst P e p)

pub ended : (ns ts : List ℤ) (n s at : ℤ) (w : Window) (r : Indexes) (k : ℕ) → ((p : ℤ) → Reaches ns ts p → IsBetween w p)
    → ((i : ℕ) → pos i <ℤ n → IsBetween w (at -ℤ pos i *ℤ s) → IsFound r s i) → r.end ≤ k
    → ((i : ℕ) → r.start ≤ i → i < k → Reaches ns ts (at -ℤ pos i *ℤ s) → ⊥) → (i : ℕ) → pos i <ℤ n → Reaches ns ts (at -ℤ pos i *ℤ s) → ⊥
ended ns ts n s at w r k places found end none i h g =
    let f = found i h (places (at -ℤ pos i *ℤ s) g) in
    let less = f.1 in
    let among = f.2 in
    let last = among.1 in
    none f.0 among.0 (omega arith) (subst (λ z. Reaches ns ts (at -ℤ z)) (sym f.3) g)

-- an index below a length is below its size
below-size : (n : ℤ) (i : ℕ) → pos i <ℤ n → i < nat_abs n
below-size (pos n) i h = omega (arith, ints)
below-size (negsuc n) i h = let never : ⊥ = omega (arith, ints) in absurd never

-- what was found is there also where the indexes end with the length
pub clamped : (r : Indexes) (s n : ℤ) (i last : ℕ) → pos i <ℤ n → last ≡ min r.end (nat_abs n) → IsFound r s i → IsFound (record { start = r.start; end = last }) s i
clamped r s n i last h e f =
    let size = below-size n i h in
    let less = f.1 in
    let high = f.2.1 in
    (f.0, less, (f.2.0, omega arith), f.3)

-- what was found for the numbers that the code hands on
pub handed : (w : Window) (r : Indexes) (n s at m t p : ℤ) → m ≡ n → t ≡ s → p ≡ at
    → ((i : ℕ) → pos i <ℤ m → IsBetween w (p -ℤ pos i *ℤ t) → IsFound r t i) → (i : ℕ) → pos i <ℤ n → IsBetween w (at -ℤ pos i *ℤ s) → IsFound r s i
handed w r n s at m t p e f g found =
    subst (λ x. (i : ℕ) → pos i <ℤ x → IsBetween w (at -ℤ pos i *ℤ s) → IsFound r s i) e
    (subst (λ y. (i : ℕ) → pos i <ℤ m → IsBetween w (at -ℤ pos i *ℤ y) → IsFound r y i) f
    (subst (λ z. (i : ℕ) → pos i <ℤ m → IsBetween w (z -ℤ pos i *ℤ t) → IsFound r t i) g found))
