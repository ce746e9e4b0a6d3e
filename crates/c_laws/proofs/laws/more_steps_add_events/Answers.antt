use Rattle.c_laws.proofs.Runs.{runs_go_on}
use Rattle.c_laws.proofs.laws.more_steps_add_events.Goals as goal

pub returns : goal.returns
returns c = runs_go_on
