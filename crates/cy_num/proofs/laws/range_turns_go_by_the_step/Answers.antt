use Rattle.cy_num.proofs.TurnLemmas.{range_turns-at}
use Rattle.cy_num.proofs.laws.range_turns_go_by_the_step.Goals as goal

pub returns : goal.returns
returns c = range_turns-at
