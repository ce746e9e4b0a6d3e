use Rattle.cy_mean.proofs.CEvents.{c_events_end_once}
use Rattle.cy_mean.proofs.laws.c_events_end_once.Goals as goal

pub returns : goal.returns
returns c = c_events_end_once
