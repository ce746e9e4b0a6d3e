use Rattle.c_statement.proofs.Spelt.{spelled_every, spelled_some}
use Rattle.c_statement.proofs.statements.statement.Goals as goal

pub returns-clause-some : goal.returns-clause-some
returns-clause-some c = spelled_some c.told.result c.args.input.now c.told.new.input c.told.ensures.some

pub returns-clause-every : goal.returns-clause-every
returns-clause-every c = spelled_every c.told.result c.args.input.now c.told.ensures.every
