use Rattle.first_breach.proofs.Joins.{with-none, with-both}
use Rattle.first_breach.proofs.laws.lists_are_joined.Goals as goal

pub returns : goal.returns
returns c = record { none = with-none; both = with-both }
