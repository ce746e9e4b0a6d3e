use Rattle.c_word.proofs.Once.{initializer_some, initializer_every}
use Rattle.c_word.proofs.functions.function.Goals as goal

pub returns-in-Some-clause-some : goal.returns-in-Some-clause-some
returns-in-Some-clause-some c = initializer_some _ c.in-Some.name.now c.args.bytes.now c.in-Some.ensures c.initializer.ensures

pub returns-in-Some-clause-every : goal.returns-in-Some-clause-every
returns-in-Some-clause-every c = initializer_every _ c.in-Some.name.now c.args.bytes.now c.in-Some.ensures c.initializer.ensures

pub returns-in-None-clause-every : goal.returns-in-None-clause-every
returns-in-None-clause-every c = λ f form e. c.compiled.ensures.every f form e c.in-None.ensures
