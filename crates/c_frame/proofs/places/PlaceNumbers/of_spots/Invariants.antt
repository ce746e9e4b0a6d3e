use Rattle.std.proofs.Common.{drop}
use Rattle.c_frame.specs.Tables.{AreSpotsFrom}
use Rattle.c_frame.proofs.places.PlaceNumbers.of_spots.Given as goal

abbrev pub invariant-loop-at : goal.invariant-loop-at
invariant-loop-at l = AreSpotsFrom l.at (drop l.at l.spots) l.numbers
