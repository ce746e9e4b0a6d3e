use Rattle.cy_mean.proofs.Budget.{source_events_grow}
use Rattle.cy_mean.proofs.laws.more_budget_adds_events.Goals as goal

pub returns : goal.returns
returns c = source_events_grow
