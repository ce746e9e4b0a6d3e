-- Places between two ends, and indexes that lead there, in words of the code alone.
use Rattle.std.specs.Prelude.{◌≡◌, ℕ, ◌≤◌, ◌<◌, ℤ, pos, neg_ℤ, ◌*ℤ◌, ◌≤ℤ◌}
use Rattle.element_place.specs.declared.window.Indexes.{Indexes}
use Rattle.element_place.specs.declared.window.Window.{Window}

-- a place lies in a window
abbrev pub IsBetween : Window → ℤ → Type 0
IsBetween w at = (neg_ℤ (pos w.below) ≤ℤ at) × (at ≤ℤ pos w.above)

-- a window goes no further than a number
abbrev pub IsWithin : Window → ℕ → Type 0
IsWithin w most = (w.below ≤ most) × (w.above ≤ most)

abbrev pub IsAmong : Indexes → ℕ → Type 0
IsAmong r i = (r.start ≤ i) × (i < r.end)

-- one of the indexes, no greater than an index, leads where it leads
abbrev pub IsFound : Indexes → ℤ → ℕ → Type 0
IsFound r s i = (j : ℕ) × (j ≤ i) × IsAmong r j × (pos j *ℤ s ≡ pos i *ℤ s)
