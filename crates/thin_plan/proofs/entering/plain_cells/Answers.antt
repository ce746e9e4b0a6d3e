use Rattle.thin_plan.proofs.Pairs.{plain-end}
use Rattle.thin_plan.proofs.entering.plain_cells.Goals as goal

pub returns-in_default : goal.returns-in_default
returns-in_default c = plain-end _ _ _ _ c.loop-i.invariant c.in_default.ensures.lookup.3
