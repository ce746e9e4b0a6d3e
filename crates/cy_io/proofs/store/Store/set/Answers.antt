use Rattle.cy_io.proofs.Stored.{written}
use Rattle.cy_io.proofs.store.Store.set.Goals as goal

pub returns-clause-ok : goal.returns-clause-ok
returns-clause-ok c = written c.args.self.now.files c.insert.new.self c.in_ok-key.key c.in_ok-file.file c.in_ok-insert.ensures.updates c.args.name.now c.args.bytes.now c.in_ok-key.ensures.items c.in_ok-file.ensures.items
