-- What files and sinks tell of their contents, and what a write changes there. The project's own.
use Rattle.std.specs.Prelude.{◌≡◌, ◌≢◌, ℕ, List, ◌++◌, take, Option, Some, None}

-- the bytes that each name has, where it has any
abbrev pub FileMap : Type 0
FileMap = List ℕ → Option (List ℕ)

-- told after exactly where told before, and then the two stand so
abbrev pub BothTold : {X : Type 0} → Option X → Option X → (X → X → Type 0) → Type 0
BothTold None None P = Unit {0}
BothTold None (Some after) P = ⊥
BothTold (Some before) None P = ⊥
BothTold (Some before) (Some after) P = P before after

-- every name but this one has what it had
abbrev pub SameElsewhere : List ℕ → FileMap → FileMap → Type 0
SameElsewhere name before after = (other : List ℕ) → other ≢ name → after other ≡ before other

-- this name has these bytes, and every other one what it had
abbrev pub IsWritten : List ℕ → List ℕ → FileMap → FileMap → Type 0
IsWritten name bytes before after = (after name ≡ Some bytes) × SameElsewhere name before after

-- the first of these bytes, some number of them, stand behind what was there
abbrev pub IsPartlyAppended : List ℕ → List ℕ → List ℕ → Type 0
IsPartlyAppended bytes before after = (n : ℕ) × (after ≡ before ++ take n bytes)
