use Rattle.first_breach.proofs.Joins.{one-first}
use Rattle.first_breach.proofs.laws.there_is_one_first.Goals as goal

pub returns : goal.returns
returns c = one-first
