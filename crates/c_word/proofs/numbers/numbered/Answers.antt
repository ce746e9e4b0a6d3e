use Rattle.std.proofs.Common.{◌∙◌}
use Rattle.std.proofs.lemmas.List.{append_cancel_left}
use Rattle.c_word.specs.Numbers.{two_numbers}
use Rattle.c_word.proofs.Parts.{numbered_same}
use Rattle.c_word.proofs.numbers.numbered.Goals as goal

pub returns-in_err-module-clause-every : goal.returns-in_err-module-clause-every
returns-in_err-module-clause-every c = λ n fits e.
    let rest = append_cancel_left c.args.letters.now (two_numbers n.module n.index) c.in_ok-behind.field-0.now (e ∙ c.in_ok-behind.ensures) in
    absurd (cc (c.in_err-module.ensures.every n.module n.index fits.0 fits.1 rest))

pub returns-clause-every : goal.returns-clause-every
returns-clause-every c = λ n fits e.
    let rest = append_cancel_left c.args.letters.now (two_numbers n.module n.index) c.in_ok-behind.field-0.now (e ∙ c.in_ok-behind.ensures) in
    numbered_same (c.in_ok-module.module, c.in_ok-module.index) (n.module, n.index) (c.in_ok-module.ensures.every n.module n.index fits.0 fits.1 rest)
