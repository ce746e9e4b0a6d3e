use Rattle.std.proofs.Common.{◌≡◌, drop}
use Rattle.thin_state.specs.State.{among_spots}
use Rattle.thin_look.proofs.readings.among_spots.Given as goal

abbrev pub invariant-loop-spot : goal.invariant-loop-spot
invariant-loop-spot l = among_spots l.spots l.object ≡ among_spots (drop l.spot-index l.spots) l.object
