-- Indexes and their products with strides.
use Rattle.std.proofs.Common.{arith, ◌≡◌, refl, ◌↔◌, ℕ, ◌+◌, ◌*◌, ◌/◌, ◌<◌, ◌≤◌, ℤ, pos, negsuc, neg_ℤ, nat_abs, ◌+ℤ◌, ◌-ℤ◌, ◌*ℤ◌, ◌≤ℤ◌, ◌<ℤ◌}
use Rattle.std.proofs.lemmas.Int.{ints}
use Rattle.std.proofs.Math.IntN.{*ℤ-negsuc}
use Rattle.std.proofs.Math.Nat.{le-div_iff_mul-le}

pub end-below : (i m : ℕ) (to : ℤ) → 0 < m → pos 0 ≤ℤ to → pos (i * m) ≤ℤ to → i < nat_abs to / m + 1
end-below i m (pos t) p q h =
    let w : (i ≤ t / m) ↔ (i * m ≤ t) = le-div_iff_mul-le p in
    let k : i * m ≤ t = omega (arith, ints) in
    let l = w.1 k in
    omega arith
end-below i m (negsuc t) p q h = let never : ⊥ = omega (arith, ints) in absurd never

-- a product with a stride below 0, and with one that isn't
pub product-below : (s : ℤ) (i most : ℕ) → s <ℤ pos 0 → i * nat_abs s ≤ most → (neg_ℤ (pos most) ≤ℤ (pos i *ℤ s)) × ((pos i *ℤ s) ≤ℤ pos 0)
product-below (pos m) i most h l = let never : ⊥ = omega (arith, ints) in absurd never
product-below (negsuc m) i most h l = let e = *ℤ-negsuc (pos i) m in (omega (arith, ints), omega (arith, ints))

pub product-above : (s : ℤ) (i most : ℕ) → pos 0 ≤ℤ s → i * nat_abs s ≤ most → (pos 0 ≤ℤ (pos i *ℤ s)) × ((pos i *ℤ s) ≤ℤ pos most)
product-above (pos m) i most h l = (omega (arith, ints), omega (arith, ints))
product-above (negsuc m) i most h l = let never : ⊥ = omega (arith, ints) in absurd never

pub product-step : (s : ℤ) (i : ℕ) → pos 0 ≤ℤ s → pos i *ℤ s ≡ pos (i * nat_abs s)
product-step (pos m) i h = refl
product-step (negsuc m) i h = let never : ⊥ = omega (arith, ints) in absurd never

pub product-back : (s : ℤ) (i : ℕ) → s <ℤ pos 0 → pos i *ℤ s ≡ neg_ℤ (pos (i * nat_abs s))
product-back (pos m) i h = let never : ⊥ = omega (arith, ints) in absurd never
product-back (negsuc m) i h = let e = *ℤ-negsuc (pos i) m in omega (arith, ints)

-- what an index leaves of a place
pub left-back : (place s : ℤ) (i : ℕ) → s <ℤ pos 0 → place +ℤ pos (i * nat_abs s) ≡ place -ℤ pos i *ℤ s
left-back place s i h = let e = product-back s i h in omega (arith, ints)

pub left-step : (place s : ℤ) (i : ℕ) → pos 0 ≤ℤ s → place -ℤ pos (i * nat_abs s) ≡ place -ℤ pos i *ℤ s
left-step place s i h = let e = product-step s i h in omega (arith, ints)

pub abs-more : (place : ℤ) (p : ℕ) → nat_abs (place +ℤ pos p) ≤ nat_abs place + p
abs-more place p = grind (arith, ints)

pub abs-less : (place : ℤ) (p : ℕ) → nat_abs (place -ℤ pos p) ≤ nat_abs place + p
abs-less place p = grind (arith, ints)
