use Rattle.std.proofs.Common.{◌≡◌, Some, sym, decimal, arith}
use Rattle.c_word.proofs.Halves.{decimal_digits}
use Rattle.c_word.proofs.numbers.pair.Goals as goal

pub returns-in_err-front-clause-every : goal.returns-in_err-front-clause-every
returns-in_err-front-clause-every c = λ m k hm hk e. absurd (c.in_err-front.ensures.every (decimal m) (decimal k) (decimal_digits m (omega arith)) e)

pub returns-in_err-first-clause-every : goal.returns-in_err-first-clause-every
returns-in_err-first-clause-every c = λ m k hm hk e.
    let parts = c.in_ok-front.ensures.every (decimal m) (decimal k) (decimal_digits m (omega arith)) e in
    absurd (cc (c.in_err-first.ensures.every m hm (sym parts.0)))

pub returns-in_err-second-clause-every : goal.returns-in_err-second-clause-every
returns-in_err-second-clause-every c = λ m k hm hk e.
    let parts = c.in_ok-front.ensures.every (decimal m) (decimal k) (decimal_digits m (omega arith)) e in
    absurd (cc (c.in_err-second.ensures.every k hk (sym parts.1)))

pub returns-clause-every : goal.returns-clause-every
returns-clause-every c = λ m k hm hk e.
    let parts = c.in_ok-front.ensures.every (decimal m) (decimal k) (decimal_digits m (omega arith)) e in
    let first : c.in_ok-first.first ≡ m = cc (c.in_ok-first.ensures.every m hm (sym parts.0)) in
    let second : c.in_ok-second.second ≡ k = cc (c.in_ok-second.ensures.every k hk (sym parts.1)) in
    λ t. Some (first t, second t)
