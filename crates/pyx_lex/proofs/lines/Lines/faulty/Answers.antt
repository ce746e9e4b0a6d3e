use Rattle.std.proofs.Common.{◌∙◌, sym, ap, [], Err}
use Rattle.pyx_lex.specs.Breaches.{breach}
use Rattle.pyx_lex.specs.Layout.{before_token}
use Rattle.pyx_lex.proofs.Reading.{read_err, read_found}
use Rattle.pyx_lex.proofs.lines.Lines.faulty.Goals as goal

pub returns-in-Some : goal.returns-in-Some
returns-in-Some c = λ place here.
    read_err (before_token place.line place c.args.at).items _ _ (rw c.in-Some.is at (c.in_ok-broken.ensures place here))

pub returns-in-None : goal.returns-in-None
returns-in-None c = λ place here.
    let took = rw c.in-None.is at (c.in_ok-broken.ensures place here) in
    read_found _ _ (before_token place.line place c.args.at).items [] _ took.0
    ∙ ap (λ rule. Err (breach rule c.args.at)) (sym c.rule_of.ensures)
