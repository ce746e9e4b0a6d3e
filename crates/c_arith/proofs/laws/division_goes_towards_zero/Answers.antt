use Rattle.c_arith.proofs.Truncated.{truncated}
use Rattle.c_arith.proofs.laws.division_goes_towards_zero.Goals as goal

pub returns : goal.returns
returns c = truncated
