use Rattle.thin_mach.proofs.Steps.{ended-stays, stopped-stays, failed-ends}
use Rattle.thin_mach.proofs.step.step.Goals as goal

pub returns-in-Ended-clause-step : goal.returns-in-Ended-clause-step
returns-in-Ended-clause-step c = ended-stays _ _ _ _ c.in-Ended.is

pub returns-in-Stopped-clause-step : goal.returns-in-Stopped-clause-step
returns-in-Stopped-clause-step c = stopped-stays _ _ _ _ c.in-Stopped.is

pub returns-in-Failed-clause-step : goal.returns-in-Failed-clause-step
returns-in-Failed-clause-step c = c.end_run.ensures.step _ (failed-ends _ _ _ _ c.in-Failed.is)
