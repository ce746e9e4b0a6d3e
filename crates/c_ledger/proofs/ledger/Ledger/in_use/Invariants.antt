use Rattle.std.proofs.Common.{◌≡◌, drop}
use Rattle.c_ledger.specs.OfNewest.{in_use}
use Rattle.c_ledger.proofs.ledger.Ledger.in_use.Given as goal

abbrev pub invariant-loop-account : goal.invariant-loop-account
invariant-loop-account l = in_use l.self.frames l.object ≡ in_use (drop l.account-index l.self.frames) l.object
