use Rattle.std.proofs.Common.{◌≡◌, ◌++◌, List}
use Rattle.c_token.specs.CTokens.{CToken}
use Rattle.c_input.proofs.Rows.{left_of}
use Rattle.c_statement.proofs.Chain.{front_of}
use Rattle.c_statement.specs.declared.source.Source.{Source}
use Rattle.c_statement.specs.declared.source.Source.TheVariants as source
use Rattle.c_statement.specs.declared.source_kind.SourceKind.TheVariants as kinds
use Rattle.c_statement.specs.Sources.{end, source_tokens, IsSourceOf}
use Rattle.c_place.specs.Places.{element_spelling}
use Rattle.c_statement.proofs.places.element_read.Goals as goal

pub returns-else-fixed-clause-every : goal.returns-else-fixed-clause-every
returns-else-fixed-clause-every c = λ s rest form e. absurd (go s rest form e)
  where
    go : (s : Source) (rest : List CToken) → IsSourceOf kinds.Element s → c.args.input.now ≡ source_tokens s ++ rest → ⊥
    go (source.Element p) rest form e =
        let e1 = front_of (element_spelling p) end rest e in
        let place = c.in_ok-place.ensures.every p _ form.0 e1 in
        c.if-fixed.ensures.1 _ (left_of element_spelling place c.in_ok-place.ensures.some.1 e1)
    go s rest form e = absurd (cc (form.1))
