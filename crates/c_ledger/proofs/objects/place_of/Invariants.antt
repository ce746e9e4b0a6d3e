use Rattle.std.proofs.Common.{◌≡◌, ◌++◌, take, drop}
use Rattle.c_ledger.specs.Ledger.{has, lose}
use Rattle.c_ledger.proofs.objects.place_of.Given as goal

abbrev pub invariant-loop-at : goal.invariant-loop-at
invariant-loop-at l =
    (has l.objects l.object ≡ has (drop l.at l.objects) l.object)
    × (lose l.objects l.object ≡ take l.at l.objects ++ lose (drop l.at l.objects) l.object)
