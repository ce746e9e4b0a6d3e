use Rattle.std.proofs.Common.{◌≡◌, ◌≤◌, drop, length}
use Rattle.thin_state.specs.Reads.{fits}
use Rattle.thin_look.proofs.readings.fits.Given as goal

abbrev pub invariant-loop-i : goal.invariant-loop-i
invariant-loop-i l = (fits l.kinds l.vs ≡ fits (drop l.i l.kinds) (drop l.i l.vs)) × (l.i ≤ length l.vs)
