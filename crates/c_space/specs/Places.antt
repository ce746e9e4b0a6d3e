-- The places of all files. The project's own.
use Rattle.std.specs.Prelude.{ℕ, List, [], slice_index_or, slice_set}
use Rattle.c_tree.specs.declared.name.Place.{Place}
use Rattle.c_value.specs.declared.value.Value.{Value}
use Rattle.c_value.specs.declared.space.Spot.{Spot}
use Rattle.c_frame.specs.Spots.{put_spot}

-- the places of a file, by its number
abbrev pub spots_of : List (List Spot) → ℕ → List Spot
spots_of files k = slice_index_or files k []

-- a place of a file gets a value
abbrev pub put_at : ℕ → Place → Value → List (List Spot) → List (List Spot)
put_at k p v files = slice_set files k (put_spot (spots_of files k) p v)
