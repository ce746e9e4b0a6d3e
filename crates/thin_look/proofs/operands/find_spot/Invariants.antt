use Rattle.std.proofs.Common.{◌≡◌, drop}
use Rattle.thin_state.specs.State.{spot}
use Rattle.thin_look.proofs.operands.find_spot.Given as goal

abbrev pub invariant-loop-spot : goal.invariant-loop-spot
invariant-loop-spot l = spot l.spots l.place ≡ spot (drop l.spot-index l.spots) l.place
