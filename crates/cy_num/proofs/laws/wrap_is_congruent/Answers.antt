use Rattle.cy_num.proofs.Wraps.{wrap-IsWrapped}
use Rattle.cy_num.proofs.laws.wrap_is_congruent.Goals as goal

pub returns : goal.returns
returns c = wrap-IsWrapped
