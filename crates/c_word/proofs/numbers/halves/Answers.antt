use Rattle.std.proofs.Common.{sym, ◌∙◌}
use Rattle.c_word.proofs.Halves.{cut_at, marked_parts, unmarked}
use Rattle.c_word.proofs.numbers.halves.Goals as goal

pub returns-in-Some-clause-some : goal.returns-in-Some-clause-some
returns-in-Some-clause-some c = cut_at c.args.bytes.now c.in-Some.at (sym c.mark.ensures ∙ c.in-Some.is)

pub returns-in-Some-clause-every : goal.returns-in-Some-clause-every
returns-in-Some-clause-every c = λ front back digits e. marked_parts c.args.bytes.now front back c.in-Some.at (sym c.mark.ensures ∙ c.in-Some.is) digits e

pub returns-in-None-clause-every : goal.returns-in-None-clause-every
returns-in-None-clause-every c = λ front back digits e. unmarked c.args.bytes.now front back (sym c.mark.ensures ∙ c.in-None.is) digits e
