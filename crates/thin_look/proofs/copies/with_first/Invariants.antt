use Rattle.std.proofs.Common.{◌≡◌, ◌∷◌, take}
use Rattle.thin_look.proofs.copies.with_first.Given as goal

abbrev pub invariant-loop-object : goal.invariant-loop-object
invariant-loop-object l = l.copies ≡ l.fn.first ∷ take l.object-index l.rest
