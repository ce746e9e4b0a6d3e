use Rattle.std.proofs.Common.{◌≡◌, decimal, sym}
use Rattle.c_word.proofs.Halves.{decimal_digits}
use Rattle.c_word.proofs.literals.magnitude.Goals as goal

pub returns-in_err-number-clause-every : goal.returns-in_err-number-clause-every
returns-in_err-number-clause-every c = λ n letters fits stops e.
    let parts = c.cut.ensures.every (decimal n) letters (decimal_digits n fits) stops e in
    absurd (cc (c.in_err-number.ensures.every n fits (sym parts.0)))

pub returns-clause-every : goal.returns-clause-every
returns-clause-every c = λ n letters fits stops e.
    let parts = c.cut.ensures.every (decimal n) letters (decimal_digits n fits) stops e in
    let number : c.in_ok-number.number ≡ n = cc (c.in_ok-number.ensures.every n fits (sym parts.0)) in
    (number, parts.1)
