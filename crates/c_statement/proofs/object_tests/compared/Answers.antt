use Rattle.c_statement.proofs.object_tests.compared.Goals as goal

pub returns-then-not-fixed-clause-every : goal.returns-then-not-fixed-clause-every
returns-then-not-fixed-clause-every c = λ n rest form e. absurd (c.if-not-fixed.ensures.1 _ e)
