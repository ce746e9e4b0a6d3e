use Rattle.std.proofs.Common.{◌≡◌, Some, ◌∙◌, sym, ap}
use Rattle.c_input.specs.Literals.{plain_parts}
use Rattle.c_input.proofs.Words.{literal_word}
use Rattle.c_input.proofs.literals.plain.Goals as goal

pub returns-in_err-number-clause-every : goal.returns-in_err-number-clause-every
returns-in_err-number-clause-every c = λ l rest form e.
    let w = literal_word l c.args.word.now rest form e in
    absurd (c.in_err-number.ensures.every w.number w.letters w.small w.stops w.is)

pub returns-clause-every : goal.returns-clause-every
returns-clause-every c = λ l rest form e.
    let w = literal_word l c.args.word.now rest form e in
    let same = c.in_ok-number.ensures.every w.number w.letters w.small w.stops w.is in
    let number : c.in_ok-number.number ≡ w.number = same.0 in
    let letters : c.in_ok-number.letters.now ≡ w.letters = same.1 in
    let parts : plain_parts l ≡ Some (c.in_ok-number.number, c.in_ok-number.letters.now) =
    w.parts ∙ (ap (λ n. Some (n, w.letters)) (sym number) ∙ ap (λ ls. Some (c.in_ok-number.number, ls)) (sym letters)) in
    (c.suffixed.ensures.every l form parts, w.rest)
