use Rattle.std.proofs.Common.{ap, sym, ◌∙◌, slice_index}
use Rattle.std.specs.Prelude.{slice_range}
use Rattle.std.proofs.lemmas.Bool.{ne_eqb}
use Rattle.c_token.specs.CTokens as spec
use Rattle.c_lex.proofs.Ranges.{range_more}
use Rattle.c_lex.proofs.Steps.{header_goes_on}
use Rattle.c_lex.proofs.lex.in_header.Goals as goal

pub returns-clause-next : goal.returns-clause-next
returns-clause-next c =
    let text = c.args.bytes.now in
    let b = slice_index text c.args.at in
    ap spec.InHeader (range_more text c.args.start c.args.at c.requires.begun c.requires.inside)
    ∙ ap (λ (s : spec.Step). s.next) (sym (header_goes_on (slice_range text c.args.start c.args.at) b (ne_eqb b 10 c.if-b-eq10.false) (ne_eqb b 62 c.if-b-eq62.false)))
