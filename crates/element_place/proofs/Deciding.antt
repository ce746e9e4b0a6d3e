-- The tests of places say what the definition says.
use Rattle.std.proofs.Common.{arith, ◌⊎◌, ◌≡◌, refl, sym, ap, ◌∙◌, subst, inl, inr, ℕ, zero, suc, ◌+◌, ◌*◌, ◌<◌, ◌≤◌, Bool, true, false, not, ◌||◌, ◌&&◌, Decides, List, [], ◌∷◌, ℤ, pos, negsuc, nat_abs, ◌-ℤ◌, ◌*ℤ◌, ◌<ℤ◌}
use Rattle.std.proofs.lemmas.Bool.{cases_lt, false≢true}
use Rattle.std.proofs.lemmas.Int.{ints, unsigned_abs-mul}
use Rattle.std.proofs.Math.Nat.{mul-le-mul_right}
use Rattle.std.specs.Cmp.{signed_Decides}
use Rattle.api_model.specs.Answers.{reach}
use Rattle.api_model.specs.declared.info.Info.{Info}
use Rattle.element_place.specs.Places.{IsElementPlace, Leads, Reaches, any_below, any_index, is_element_place, reaches}

-- ---- an index below a length

one-more : (test : ℕ → Bool) (P : ℕ → Type 0) (n : ℕ) → Decides (test n) (P n) → Decides (any_below n test) ((i : ℕ) × (i < n) × P i)
    → Decides (test n || any_below n test) ((i : ℕ) × (i < suc n) × P i)
one-more test P n last rest = (found (test n) refl, there)
  where
    found : (b : Bool) → test n ≡ b → (b || any_below n test) ≡ true → (i : ℕ) × (i < suc n) × P i
    found true e h = (n, omega arith, last.0 e)
    found false e h = let p = rest.0 h in let l = p.1 in (p.0, omega arith, p.2)

    both : (b : Bool) → (b || true) ≡ true
    both true = refl
    both false = refl

    by_order : (i : ℕ) → (i < n) ⊎ (n ≤ i) → i < suc n → P i → (test n || any_below n test) ≡ true
    by_order i (inl m) l p = ap (λ b. test n || b) (rest.1 (i, m, p)) ∙ both (test n)
    by_order i (inr m) l p =
        let e : i ≡ n = omega arith in
        ap (λ b. b || any_below n test) (last.1 (subst P e p))

    there : ((i : ℕ) × (i < suc n) × P i) → (test n || any_below n test) ≡ true
    there p = by_order p.0 (cases_lt p.0 n) p.1 p.2

any_below-Decides : (test : ℕ → Bool) (P : ℕ → Type 0) → ((i : ℕ) → Decides (test i) (P i)) → (n : ℕ) → Decides (any_below n test) ((i : ℕ) × (i < n) × P i)
any_below-Decides test P each zero = (λ h. absurd (false≢true h), λ p. let l = p.1 in let never : ⊥ = omega arith in absurd never)
any_below-Decides test P each (suc n) = one-more test P n (each n) (any_below-Decides test P each n)

any_index-Decides : (test : ℕ → Bool) (P : ℕ → Type 0) → ((i : ℕ) → Decides (test i) (P i)) → (n : ℤ) → Decides (any_index n test) (Leads n P)
any_index-Decides test P each (pos n) =
    let d = any_below-Decides test P each n in
    (λ h. let p = d.0 h in let l = p.1 in (p.0, omega (arith, ints), p.2), λ p. let l = p.1 in d.1 (p.0, omega (arith, ints), p.2))
any_index-Decides test P each (negsuc n) = (λ h. absurd (false≢true h), λ p. let l = p.1 in let never : ⊥ = omega (arith, ints) in absurd never)

pub reaches-Decides : (ls ss : List ℤ) (at : ℤ) → Decides (reaches ls ss at) (Reaches ls ss at)
reaches-Decides [] [] at = signed_Decides at (pos 0)
reaches-Decides [] (s ∷ ss) at = (λ h. absurd (false≢true h), λ p. absurd p)
reaches-Decides (n ∷ ns) [] at = (λ h. absurd (false≢true h), λ p. absurd p)
reaches-Decides (n ∷ ns) (s ∷ ss) at =
    any_index-Decides (λ i. reaches ns ss (at -ℤ pos i *ℤ s)) (λ i. Reaches ns ss (at -ℤ pos i *ℤ s)) (λ i. reaches-Decides ns ss (at -ℤ pos i *ℤ s)) n

-- ---- how far a place can be

abs-split : (at p : ℤ) → nat_abs at ≤ nat_abs (at -ℤ p) + nat_abs p
abs-split at p = grind (arith, ints)

size-of : (n : ℤ) (i : ℕ) → pos i <ℤ n → i ≤ nat_abs n
size-of (pos n) i h = omega (arith, ints)
size-of (negsuc n) i h = let never : ⊥ = omega (arith, ints) in absurd never

pub reached-within : (ls ss : List ℤ) (at : ℤ) → Reaches ls ss at → nat_abs at ≤ reach ls ss
reached-within [] [] at r = let e : nat_abs at ≡ 0 = ap nat_abs r in omega arith
reached-within [] (s ∷ ss) at r = absurd r
reached-within (n ∷ ns) [] at r = absurd r
reached-within (n ∷ ns) (s ∷ ss) at r =
    let rest = reached-within ns ss (at -ℤ pos r.0 *ℤ s) r.2 in
    let split = abs-split at (pos r.0 *ℤ s) in
    let product : nat_abs (pos r.0 *ℤ s) ≡ r.0 * nat_abs s = unsigned_abs-mul (pos r.0) s in
    let most : r.0 * nat_abs s ≤ nat_abs n * nat_abs s = mul-le-mul_right (nat_abs s) (size-of n r.0 r.1) in
    omega arith

pub ruleset within = (reached-within)

-- ---- whole views

pub is_element_place-Decides : (info : Info) (at : ℤ) → Decides (is_element_place info at) (IsElementPlace info at)
is_element_place-Decides info at = by_kind info.indirect refl
  where
    by_kind : (b : Bool) → info.indirect ≡ b → Decides (not b && reaches info.shape info.strides at) ((b ≡ false) × Reaches info.shape info.strides at)
    by_kind true e = (λ h. absurd (false≢true h), λ p. absurd (false≢true (sym p.0)))
    by_kind false e = let d = reaches-Decides info.shape info.strides at in (λ h. (refl, d.0 h), λ p. d.1 p.1)
