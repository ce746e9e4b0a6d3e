-- One step from a class to its base.
use Rattle.std.proofs.Common.{◌≡◌, ℕ, zero, suc, Bool, false, ◌||◌, Option, Some, None, refl}
use Rattle.std.specs.List.{list_any}
use Rattle.cy_tree.specs.declared.set.NamedSet.{NamedSet}
use Rattle.cy_tree.specs.declared.ty.ClassId.{ClassId}
use Rattle.cy_tree.specs.Bases.{base_of, class_eq, found_from}

abbrev pub among : ℕ → NamedSet → ClassId → Option ClassId → Bool
among n set base found = list_any (class_eq base) (found_from n set found)

pub among-none : (n : ℕ) (set : NamedSet) (base : ClassId) → among n set base None ≡ false
among-none zero set base = refl
among-none (suc n) set base = refl

pub among-some : (n : ℕ) (set : NamedSet) (base class : ClassId)
    → among (suc n) set base (Some class) ≡ (class_eq base class || among n set base (base_of set class))
among-some n set base class = refl
