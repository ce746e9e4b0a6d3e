-- Counts of faults: they never fall, and stand still at their last value. The project's own.
use Rattle.std.specs.Prelude.{◌≡◌, ◌<◌, ◌+◌, ◌⊎◌, ℕ, min}

-- the last value of a count, 2^64 - 1
abbrev pub last_count : ℕ
last_count = 18446744073709551615

-- the count rose, or stands at its last value
abbrev pub Rose : ℕ → ℕ → Type 0
Rose before now = (before < now) ⊎ ((before ≡ last_count) × (now ≡ last_count))

-- one more, and never past the last value
abbrev pub raised : ℕ → ℕ
raised count = min last_count (count + 1)
