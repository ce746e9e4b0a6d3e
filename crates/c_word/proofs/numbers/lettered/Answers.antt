use Rattle.std.proofs.Common.{◌∙◌, decimal}
use Rattle.std.proofs.lemmas.List.{append_cancel_left}
use Rattle.c_word.proofs.numbers.lettered.Goals as goal

pub returns-clause-every : goal.returns-clause-every
returns-clause-every c = λ n fits e.
    c.number.ensures.every n fits (append_cancel_left c.args.letters.now (decimal n) c.in_ok-behind.field-0.now (e ∙ c.in_ok-behind.ensures))
