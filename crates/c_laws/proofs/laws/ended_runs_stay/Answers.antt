use Rattle.c_laws.proofs.Endings.{end_stays}
use Rattle.c_laws.proofs.laws.ended_runs_stay.Goals as goal

pub returns : goal.returns
returns c = end_stays
