use Rattle.cy_num.proofs.TurnLemmas.{range_turns-before}
use Rattle.cy_num.proofs.laws.range_turns_lie_before_the_end.Goals as goal

pub returns : goal.returns
returns c = range_turns-before
