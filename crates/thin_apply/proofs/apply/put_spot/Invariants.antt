use Rattle.std.proofs.Common.{◌≡◌, ◌++◌, take, drop}
use Rattle.thin_state.specs.State.{put_spot}
use Rattle.thin_apply.proofs.apply.put_spot.Given as goal

abbrev pub invariant-loop-i : goal.invariant-loop-i
invariant-loop-i l = (put_spot l.spots l.place l.value ≡ take l.i l.spots ++ put_spot (drop l.i l.spots) l.place l.value) × (l.spots ≡ l.initial.spots)
