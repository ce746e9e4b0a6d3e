use Rattle.std.proofs.Common.{◌≡◌, drop}
use Rattle.c_ledger.specs.OfNewest.{lose_all}
use Rattle.c_ledger.proofs.ledger.newest.lose_all.Given as goal

abbrev pub invariant-loop-object : goal.invariant-loop-object
invariant-loop-object l = lose_all l.fn.own l.objects ≡ lose_all l.own (drop l.object-index l.objects)
