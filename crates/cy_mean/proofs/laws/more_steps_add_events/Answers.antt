use Rattle.cy_mean.proofs.CEvents.{c_events_grow}
use Rattle.cy_mean.proofs.laws.more_steps_add_events.Goals as goal

pub returns : goal.returns
returns c = c_events_grow
