use Rattle.cy_mean.proofs.SourceEvents.{source_events_end_once}
use Rattle.cy_mean.proofs.laws.source_events_end_once.Goals as goal

pub returns : goal.returns
returns c = source_events_end_once
