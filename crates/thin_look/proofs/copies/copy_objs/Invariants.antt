use Rattle.std.proofs.Common.{◌≡◌, take}
use Rattle.thin_look.proofs.copies.copy_objs.Given as goal

abbrev pub invariant-loop-object : goal.invariant-loop-object
invariant-loop-object l = l.copies ≡ take l.object-index l.objects
