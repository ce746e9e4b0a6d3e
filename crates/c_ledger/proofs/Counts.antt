-- What the counts of references are after a change.
use Rattle.std.specs.Prelude.{◌≡◌, ℕ, suc, Bool, true, false, ◌||◌, List, [], ◌∷◌, ◌++◌, ◌+◌, nat_lt, if◌then◌else◌}
use Rattle.std.proofs.Common.{refl, sym, ap, ◌∙◌, subst, arith}
use Rattle.std.proofs.lemmas.Bool.{false≢true}
use Rattle.api_model.specs.declared.object.Obj.{Obj}
use Rattle.api_model.specs.Objects.{same_obj}
use Rattle.api_model.proofs.Objects.{same_obj-Decides}
use Rattle.c_ledger.specs.Counted.{IsCounted, one_if}
use Rattle.c_ledger.specs.Ledger.{counts, has, lose}

abbrev counted : Bool → ℕ → ℕ
counted b n = if b then suc n else n

counted-is : (b : Bool) (n : ℕ) → counted b n ≡ n + one_if b
counted-is true n = omega arith
counted-is false n = omega arith

counted-sum : (b : Bool) (n m : ℕ) → counted b (n + m) ≡ counted b n + m
counted-sum true n m = omega arith
counted-sum false n m = refl

held-by : (b h : Bool) (n : ℕ) → h ≡ nat_lt 0 n → (b || h) ≡ nat_lt 0 (counted b n)
held-by true h n e = grind arith
held-by false h n e = e

held : (own : List Obj) (o : Obj) → has own o ≡ nat_lt 0 (counts own o)
held [] o = refl
held (x ∷ xs) o = held-by (same_obj x o) (has xs o) (counts xs o) (held xs o)

more : (own : List Obj) (o p : Obj) → counts (own ++ o ∷ []) p ≡ counts own p + one_if (same_obj o p)
more [] o p = counted-is (same_obj o p) 0
more (x ∷ xs) o p = ap (counted (same_obj x p)) (more xs o p) ∙ counted-sum (same_obj x p) (counts xs p) (one_if (same_obj o p))

-- the first of a list is lost, or one behind it
less-by : (x : Obj) (xs : List Obj) (o p : Obj) (b : Bool) → same_obj x o ≡ b → (has xs o ≡ true → counts (lose xs o) p + one_if (same_obj o p) ≡ counts xs p)
    → (b || has xs o) ≡ true → counts (if b then xs else x ∷ lose xs o) p + one_if (same_obj o p) ≡ counts (x ∷ xs) p
less-by x xs o p true e behind h =
    subst (λ y. counts xs p + one_if (same_obj y p) ≡ counts (x ∷ xs) p) ((same_obj-Decides x o).0 e) (sym (counted-is (same_obj x p) (counts xs p)))
less-by x xs o p false e behind h =
    sym (counted-sum (same_obj x p) (counts (lose xs o) p) (one_if (same_obj o p))) ∙ ap (counted (same_obj x p)) (behind h)

less : (own : List Obj) (o p : Obj) → has own o ≡ true → counts (lose own o) p + one_if (same_obj o p) ≡ counts own p
less [] o p h = absurd (false≢true h)
less (x ∷ xs) o p h = less-by x xs o p (same_obj x o) refl (less xs o p) h

pub are_counted : (own : List Obj) → IsCounted own
are_counted own = record { held = held own; more = more own; less = less own }
