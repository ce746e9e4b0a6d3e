use Rattle.thin_mach.specs.Deciding.{IsDecided}
use Rattle.thin_mach.proofs.step.decided.Goals as goal

pub returns : goal.returns
unfolding IsDecided
returns c = (c.in_ok-decision.ensures.effect, c.in_ok-decision.ensures.line, c.in_ok-decision.ensures.next)
