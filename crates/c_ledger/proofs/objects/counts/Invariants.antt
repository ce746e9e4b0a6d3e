use Rattle.std.proofs.Common.{◌≡◌, ◌≤◌, ◌+◌, drop}
use Rattle.c_ledger.specs.Ledger.{counts}
use Rattle.c_ledger.proofs.objects.counts.Given as goal

abbrev pub invariant-loop-other : goal.invariant-loop-other
invariant-loop-other l = (counts l.objects l.object ≡ l.count + counts (drop l.other-index l.objects) l.object) × (l.count ≤ l.other-index)
