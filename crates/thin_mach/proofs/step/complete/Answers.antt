use Rattle.thin_mach.specs.Deciding.{finished, finished_events}
use Rattle.thin_mach.proofs.step.complete.Goals as goal

pub returns-clause-parts : goal.returns-clause-parts
unfolding finished
returns-clause-parts c = c.finish.ensures.parts

pub returns-clause-events : goal.returns-clause-events
unfolding finished_events
returns-clause-events c = c.finish.ensures.events
