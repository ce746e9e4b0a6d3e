-- The first item of a list that passes a test, and its number. The project's own.
use Rattle.std.specs.Prelude.{ℕ, suc, Bool, List, [], ◌∷◌, Option, Some, None, if◌then◌else◌}

-- its number, where the items are numbered from i on
abbrev pub first_from : {A : Type 0} → (A → Bool) → ℕ → List A → Option ℕ
first_from test i [] = None
first_from test i (x ∷ xs) = if test x then Some i else first_from test (suc i) xs

abbrev pub first : {A : Type 0} → (A → Bool) → List A → Option A
first test [] = None
first test (x ∷ xs) = if test x then Some x else first test xs

-- the list with that item changed
abbrev pub with_first : {A : Type 0} → (A → Bool) → (A → A) → List A → List A
with_first test change [] = []
with_first test change (x ∷ xs) = if test x then change x ∷ xs else x ∷ with_first test change xs
