use Rattle.std.proofs.Common.{◌≡◌, drop}
use Rattle.thin_look.specs.Readings.{all_held_in}
use Rattle.thin_look.proofs.readings.all_held.Given as goal

abbrev pub invariant-loop-object : goal.invariant-loop-object
invariant-loop-object l = all_held_in l.places l.here l.objects ≡ all_held_in l.places l.here (drop l.object-index l.objects)
