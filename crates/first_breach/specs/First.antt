-- The least of many broken rules, by file, offset and rule. The project's own.
use Rattle.std.specs.Prelude.{◌≡◌, ◌<◌, ◌⊎◌, Bool, if◌then◌else◌, List, [], ◌∷◌, ◌++◌, Option, Some, None}
use Rattle.cy_base.specs.declared.place.Refusal.{Refusal}

abbrev pub IsBefore : Refusal → Refusal → Type 0
IsBefore a b =
    (a.file < b.file)
    ⊎ ((a.file ≡ b.file) × ((a.offset < b.offset) ⊎ ((a.offset ≡ b.offset) × (a.rule.number < b.rule.number))))

abbrev pub IsOneOf : Refusal → List Refusal → Type 0
IsOneOf r [] = ⊥
IsOneOf r (x ∷ xs) = (r ≡ x) ⊎ IsOneOf r xs

-- it is one of the broken rules, and none is before it
pub record IsFirst (r : Refusal) (rs : List Refusal) : Type 0 where
  pub broken : IsOneOf r rs
  pub first : (other : Refusal) → IsOneOf other rs → IsBefore other r → ⊥

-- there is no broken rule, or this is the first
abbrev pub IsLeast : Option Refusal → List Refusal → Type 0
IsLeast None rs = rs ≡ []
IsLeast (Some r) rs = IsFirst r rs

-- from the least of any broken rules to the least of these and more
pub record IsLeastWith (least : Option Refusal) (more : List Refusal) (result : Option Refusal) : Type 0 where
  pub each : (before : List Refusal) → IsLeast least before → IsLeast result (before ++ more)

-- a broken rule, where it is broken
abbrev pub broken_if : Bool → Refusal → List Refusal
broken_if is_broken r = if is_broken then r ∷ [] else []
