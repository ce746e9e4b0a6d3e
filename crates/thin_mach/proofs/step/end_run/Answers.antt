use Rattle.thin_mach.proofs.Steps.{is-ended, is-memory}
use Rattle.thin_mach.proofs.step.end_run.Goals as goal

pub returns-in-Ok-clause-step : goal.returns-in-Ok-clause-step
returns-in-Ok-clause-step c script e = is-ended _ _ _ _ _ _ _ e c.in-Ok.ensures.parts c.in-Ok.ensures.events

pub returns-in-Err-clause-step : goal.returns-in-Err-clause-step
returns-in-Err-clause-step c script e = is-memory _ _ _ _ _ _ c.in-Err.ensures.parts c.in-Err.ensures.events
