use Rattle.first_breach.proofs.Joins.{least-same}
use Rattle.first_breach.proofs.laws.order_is_free.Goals as goal

pub returns : goal.returns
returns c = λ least xs ys there back. least-same least xs ys (record { there = there; back = back })
