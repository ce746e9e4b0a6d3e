use Rattle.cy_num.proofs.Wraps.{wrap-wrap}
use Rattle.cy_num.proofs.laws.wrap_is_idempotent.Goals as goal

pub returns : goal.returns
returns c = wrap-wrap
