use Rattle.std.proofs.Common.{List, ℕ, ap, sym, ◌∙◌, slice_index}
use Rattle.std.specs.Prelude.{slice_range}
use Rattle.std.proofs.lemmas.Bool.{ne_eqb}
use Rattle.c_token.specs.CTokens as spec
use Rattle.c_lex.specs.Shown.{line_shown}
use Rattle.c_lex.proofs.Ranges.{range_more}
use Rattle.c_lex.proofs.Steps.{quotes_go_on, quotes_escape}
use Rattle.c_lex.proofs.lex.in_quotes.Goals as goal

pub returns-then-b-eq92-clause-next : goal.returns-then-b-eq92-clause-next
returns-then-b-eq92-clause-next c =
    let text = c.args.bytes.now in
    let line = line_shown c.args.line in
    ap (λ (letters : List ℕ). spec.AfterBackslash line c.args.quote letters) (range_more text c.args.start c.args.at c.requires.begun c.requires.inside)
    ∙ ap (λ (s : spec.Step). s.next) (sym (quotes_escape line c.args.quote (slice_range text c.args.start c.args.at) (slice_index text c.args.at) c.if-b-eq92.true))

pub returns-clause-next : goal.returns-clause-next
returns-clause-next c =
    let text = c.args.bytes.now in
    let line = line_shown c.args.line in
    let b = slice_index text c.args.at in
    ap (λ (letters : List ℕ). spec.InQuotes line c.args.quote letters) (range_more text c.args.start c.args.at c.requires.begun c.requires.inside)
    ∙ ap (λ (s : spec.Step). s.next) (sym (quotes_go_on line c.args.quote (slice_range text c.args.start c.args.at) b (ne_eqb b 10 c.if-b-eq10.false) (ne_eqb b 92 c.if-b-eq92.false) (ne_eqb b c.args.quote c.if-b-quote.false)))
