use Rattle.std.proofs.Common.{arith}
use Rattle.std.proofs.lemmas.Int.{to_z-of_z}
use Rattle.cy_num.proofs.Wide.{wrap-shl}
use Rattle.cy_num.proofs.arithmetic.shifted.Goals as goal

pub returns-then-left-clause-same : goal.returns-then-left-clause-same
returns-then-left-clause-same c = grind (arith, to_z-of_z, wrap-shl)
