-- Lists of names with what is said of each, and tables of them: a number for each name, and a list by the numbers. The project's own.
use Rattle.std.specs.Prelude.{ℕ, suc, if◌then◌else◌, List, [], ◌∷◌, Option, Some, None, slice_get}
use Rattle.std.specs.Str.{bytes_eq}
use Rattle.cy_tree.specs.declared.set.NameKind.{NameKind}
use Rattle.cy_tree.specs.declared.set.NameKind.TheVariants as kind
use Rattle.name_table.specs.Entries.{Entry}
use Rattle.cy_scope.specs.Declarations.{names_of}

-- what the first item with a name says, where each has a name and says something
abbrev pub first_by : {A B : Type 0} → (A → List ℕ) → (A → B) → List A → List ℕ → Option B
first_by key value [] name = None
first_by key value (x ∷ xs) name = if bytes_eq name (key x) then Some (value x) else first_by key value xs name

-- what the first entry of a name says
abbrev pub first_among : {A : Type 0} → List (List ℕ × A) → List ℕ → Option A
first_among es name = first_by (λ e. e.0) (λ e. e.1) es name

-- names, numbered from k on
abbrev pub numbered_from : ℕ → List (List ℕ) → List Entry
numbered_from k [] = []
numbered_from k (x ∷ xs) = (x, kind.CVariable k) ∷ numbered_from (suc k) xs

-- each name once, with the number of its first place
abbrev pub number_table : List (List ℕ) → List Entry
number_table names = names_of (numbered_from 0 names)

abbrev pub number_of : Option NameKind → Option ℕ
number_of (Some (kind.CVariable k)) = Some k
number_of _ = None

abbrev pub numbered : {A : Type 0} → List A → Option ℕ → Option A
numbered xs None = None
numbered xs (Some k) = slice_get xs k
