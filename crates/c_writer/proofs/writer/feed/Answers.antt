use Rattle.c_writer.proofs.Splits.{feed_rests, feed_written}
use Rattle.c_writer.proofs.writer.feed.Goals as goal

pub returns-clause-rests : goal.returns-clause-rests
returns-clause-rests c = rw c.in_ok-push.ensures.items (feed_rests _ _ c.requires)

pub returns-clause-same : goal.returns-clause-same
returns-clause-same c = rw c.in_ok-push.ensures.items (feed_written _ _ c.requires)
