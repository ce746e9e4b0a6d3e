use Rattle.c_ledger.proofs.Newest.{are_together}
use Rattle.c_ledger.proofs.laws.newest_frames_come_first.Goals as goal

pub returns : goal.returns
returns c = are_together
