use Rattle.c_ledger.proofs.Counts.{are_counted}
use Rattle.c_ledger.proofs.laws.references_are_counted.Goals as goal

pub returns : goal.returns
returns c = are_counted
