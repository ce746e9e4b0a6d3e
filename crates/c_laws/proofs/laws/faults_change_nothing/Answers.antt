use Rattle.c_laws.proofs.Runs.{changes_nothing}
use Rattle.c_laws.proofs.laws.faults_change_nothing.Goals as goal

pub returns : goal.returns
returns c = changes_nothing
