-- Levels of indentation, looked back for in the widths of the earlier lines, the latest first (Python language
-- reference, section 2.1.8). A line of width 0 is thought before the first.
use Prim.Native.Nat.{ℕ}
use Rattle.std.specs.Prelude.{List, [], ◌∷◌, ◌++◌, Bool, ◌&&◌, ◌||◌, ◌==◌, ◌-◌, nat_lt, length, slice_index}
use Rattle.std.specs.List.{filter}

-- A width is open where an earlier line has it and no line between is narrower.
abbrev pub is_open : ℕ → List ℕ → Bool
is_open width [] = width == 0
is_open width (w ∷ before) = width == w || (nat_lt width w && is_open width before)

-- the open widths, each once, from the narrowest on: those that were open at the line before and are narrower than it,
-- and its own
unfoldable pub open_widths : List ℕ → List ℕ
open_widths [] = 0 ∷ []
open_widths (w ∷ before) = filter (λ v. nat_lt v w) (open_widths before) ++ w ∷ []

-- the width of the line before
abbrev pub width_before : List ℕ → ℕ
width_before [] = 0
width_before (w ∷ before) = w

abbrev pub is_wider : ℕ → List ℕ → Bool
is_wider width before = nat_lt (width_before before) width

-- how many open widths are above this one
abbrev pub open_above : ℕ → List ℕ → ℕ
open_above width before = length (filter (nat_lt width) (open_widths before))

-- the last of the open widths, which is the width of the line before
abbrev pub last_of : List ℕ → ℕ
last_of widths = slice_index widths (length widths - 1)
