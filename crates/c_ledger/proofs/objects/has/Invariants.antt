use Rattle.std.proofs.Common.{◌≡◌, drop}
use Rattle.c_ledger.specs.Ledger.{has}
use Rattle.c_ledger.proofs.objects.has.Given as goal

abbrev pub invariant-loop-other : goal.invariant-loop-other
invariant-loop-other l = has l.objects l.object ≡ has (drop l.other-index l.objects) l.object
