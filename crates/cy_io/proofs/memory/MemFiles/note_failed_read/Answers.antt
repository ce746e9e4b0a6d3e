use Rattle.cy_io.proofs.Failed.{count_raised, count_kept}
use Rattle.cy_io.proofs.memory.MemFiles.note_failed_read.Goals as goal

pub returns-clause-ok : goal.returns-clause-ok
returns-clause-ok c = count_raised c.args.self.now.failed_reads.items c.push.new.self.items c.in_ok-copy.copy c.args.name.now c.in_ok-push.ensures.items c.in_ok-copy.ensures.items

pub returns-clause-others : goal.returns-clause-others
returns-clause-others c = λ other apart. count_kept c.args.self.now.failed_reads.items c.push.new.self.items c.in_ok-copy.copy c.args.name.now other c.in_ok-push.ensures.items c.in_ok-copy.ensures.items apart
