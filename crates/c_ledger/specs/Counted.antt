-- What the counts of references are after a change. The project's own, after the Python/C API manual's rules on references.
use Rattle.std.specs.Prelude.{◌≡◌, ℕ, Bool, true, false, List, [], ◌∷◌, ◌++◌, ◌+◌, nat_lt}
use Rattle.api_model.specs.declared.object.Obj.{Obj}
use Rattle.api_model.specs.Objects.{same_obj}
use Rattle.c_ledger.specs.Ledger.{counts, has, lose}

abbrev pub one_if : Bool → ℕ
one_if true = 1
one_if false = 0

-- A list has an object where it holds a reference of it; one reference more and one less change the count of that object
-- alone, by one.
pub record IsCounted (own : List Obj) : Type 0 where
  pub held : (o : Obj) → has own o ≡ nat_lt 0 (counts own o)
  pub more : (o p : Obj) → counts (own ++ o ∷ []) p ≡ counts own p + one_if (same_obj o p)
  pub less : (o p : Obj) → has own o ≡ true → counts (lose own o) p + one_if (same_obj o p) ≡ counts own p
