use Rattle.std.proofs.Common.{◌≡◌, drop}
use Rattle.thin_state.specs.State.{among_places}
use Rattle.thin_look.proofs.readings.among_places.Given as goal

abbrev pub invariant-loop-spots : goal.invariant-loop-spots
invariant-loop-spots l = among_places l.places l.object ≡ among_places (drop l.spots-index l.places) l.object
