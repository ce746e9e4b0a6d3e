use Rattle.cy_num.proofs.Wraps.{IsWrapped-unique}
use Rattle.cy_num.proofs.laws.wrap_is_unique.Goals as goal

pub returns : goal.returns
returns c = IsWrapped-unique
