-- The first of many broken rules, by file, offset and rule. The project's own.
use Rattle.std.specs.Prelude.{◌≡◌, ◌<◌, ◌⊎◌, List, [], ◌∷◌}
use Rattle.cy_base.specs.declared.place.Refusal.{Refusal}

abbrev pub IsBefore : Refusal → Refusal → Type 0
IsBefore a b =
    (a.file < b.file)
    ⊎ ((a.file ≡ b.file) × ((a.offset < b.offset) ⊎ ((a.offset ≡ b.offset) × (a.rule.number < b.rule.number))))

abbrev pub IsOneOf : Refusal → List Refusal → Type 0
IsOneOf r [] = ⊥
IsOneOf r (x ∷ xs) = (r ≡ x) ⊎ IsOneOf r xs

-- it is one of the broken rules, and none is before it
pub record IsFirst (r : Refusal) (rs : List Refusal) : Type 0 where
  pub broken : IsOneOf r rs
  pub first : (other : Refusal) → IsOneOf other rs → IsBefore other r → ⊥
