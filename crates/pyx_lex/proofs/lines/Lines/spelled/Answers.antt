use Rattle.std.proofs.Common.{◌∙◌, sym, ap, Ok}
use Rattle.pyx_lex.specs.Layout.{before_token, depth_behind}
use Rattle.pyx_lex.proofs.Reading.{read_err, read_more, before_depth}
use Rattle.pyx_lex.proofs.lines.Lines.spelled.Goals as goal

pub returns-in-Some : goal.returns-in-Some
returns-in-Some c = λ place here.
    read_err (before_token place.line place c.args.start).items _ _ (rw c.in-Some.is at (c.in_ok-broken.ensures place here))

pub returns-in_ok-put-in-None : goal.returns-in_ok-put-in-None
returns-in_ok-put-in-None c = λ place here.
    let took = rw c.in-None.is at (c.in_ok-broken.ensures place here) in (
      read_more _ _ (before_token place.line place c.args.start).items _ took.0 ∙ ap Ok (sym c.in_ok-put-in-None.ensures),
      record {
        levels = took.1.levels;
        line = took.1.line;
        depth = c.depth_behind-depth.ensures ∙ ap (depth_behind c.args.kind) (here.depth ∙ sym (before_depth place.line place c.args.start));
        begun = took.1.begun;
      },
    )
