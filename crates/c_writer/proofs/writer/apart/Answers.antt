use Rattle.c_writer.proofs.Splits.{blank_rests, blank_written}
use Rattle.c_writer.proofs.writer.apart.Goals as goal

pub returns-clause-rests : goal.returns-clause-rests
returns-clause-rests c = rw c.in_ok-push.ensures.items (blank_rests _ _ c.requires)

pub returns-clause-same : goal.returns-clause-same
returns-clause-same c = rw c.in_ok-push.ensures.items (blank_written _ _ c.requires)
