-- The places of a file. The project's own.
use Rattle.std.specs.Prelude.{List, [], ◌∷◌, Option, Some, None, true, if◌then◌else◌}
use Rattle.c_tree.specs.declared.name.Place.{Place}
use Rattle.c_value.specs.declared.value.Value.{Value}
use Rattle.c_value.specs.declared.space.Spot.{Spot}
use Rattle.c_value.specs.Names.{same_place}
use Rattle.c_value.specs.Values.{converted}

-- the first of that name
abbrev pub spot : List Spot → Place → Option Spot
spot [] p = None
spot (s ∷ ss) p = if same_place s.place p then Some s else spot ss p

-- a place that isn't there is left out: the statements test that it is there
abbrev pub put_spot : List Spot → Place → Value → List Spot
put_spot [] p v = []
put_spot (s ∷ ss) p v =
    if same_place s.place p then record s { value = converted s.kind v; stored = true } ∷ ss else s ∷ put_spot ss p v
