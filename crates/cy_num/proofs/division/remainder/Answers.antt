use Rattle.std.proofs.Common.{arith}
use Rattle.std.proofs.lemmas.Int.{ints, to_z-of_z}
use Rattle.cy_num.proofs.Floor.{negated_remainder}
use Rattle.cy_num.proofs.division.remainder.Goals as goal

pub returns-else-b-gt0 : goal.returns-else-b-gt0
returns-else-b-gt0 c = grind (arith, ints, to_z-of_z, negated_remainder)
