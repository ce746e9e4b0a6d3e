use Rattle.std.proofs.Common.{◌≡◌, ◌≤◌, drop, length}
use Rattle.c_value.specs.Values.{fits}
use Rattle.c_value.proofs.values.fits.Given as goal

abbrev pub invariant-loop-i : goal.invariant-loop-i
invariant-loop-i l = (fits l.kinds l.readings ≡ fits (drop l.i l.kinds) (drop l.i l.readings)) × (l.i ≤ length l.readings)
