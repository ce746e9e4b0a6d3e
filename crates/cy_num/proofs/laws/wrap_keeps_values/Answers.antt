use Rattle.cy_num.proofs.Wraps.{wrap-IsValue}
use Rattle.cy_num.proofs.laws.wrap_keeps_values.Goals as goal

pub returns : goal.returns
returns c = wrap-IsValue
