use Rattle.pyx_lex.proofs.Escapes.{plain_inside}
use Rattle.pyx_lex.proofs.escape.has_escapes.Goals as goal

pub returns-clause-plain : goal.returns-clause-plain
returns-clause-plain c = λ e. plain_inside c.args.raw c.args.inside.now c.utf8.inside (rw e at c.contains.ensures.cases)
