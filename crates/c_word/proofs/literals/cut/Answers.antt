use Rattle.std.proofs.Common.{sym, ◌∙◌}
use Rattle.c_word.proofs.Digits.{cut_none, cut_some}
use Rattle.c_word.proofs.literals.cut.Goals as goal

pub returns-in-Some-clause-every : goal.returns-in-Some-clause-every
returns-in-Some-clause-every c = λ front letters digits stops e. cut_some c.args.bytes.now front letters c.in-Some.at (sym c.end.ensures ∙ c.in-Some.is) digits stops e

pub returns-in-None-clause-every : goal.returns-in-None-clause-every
returns-in-None-clause-every c = λ front letters digits stops e. cut_none c.args.bytes.now front letters (sym c.end.ensures ∙ c.in-None.is) digits stops e
