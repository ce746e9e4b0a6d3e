use Rattle.c_laws.proofs.Runs.{stays_settled}
use Rattle.c_laws.proofs.laws.settled_states_stay.Goals as goal

pub returns : goal.returns
returns c = stays_settled
