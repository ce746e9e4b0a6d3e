use Rattle.std.proofs.Common.{◌≡◌, ◌++◌, List, sym, ap, drop, ◌∙◌}
use Rattle.c_token.specs.CTokens.{CToken}
use Rattle.c_statement.proofs.Chain.{missing}
use Rattle.c_statement.specs.declared.source.Source.{Source}
use Rattle.c_statement.specs.declared.source.Source.TheVariants as source
use Rattle.c_statement.specs.declared.source_kind.SourceKind.TheVariants as kinds
use Rattle.c_statement.specs.Sources.{source_tokens, IsSourceOf}
use Rattle.c_statement.proofs.object_tests.heap_type.Goals as goal

pub returns-in_err-object-clause-every : goal.returns-in_err-object-clause-every
returns-in_err-object-clause-every c = λ s rest form e. absurd (go s rest form e)
  where
    go : (s : Source) (rest : List CToken) → IsSourceOf kinds.HeapType s → c.args.input.now ≡ source_tokens s ++ rest → ⊥
    go (source.HeapType y) rest form e =
        let e1 = ap (drop 2) (sym c.if-not-fixed.ensures ∙ e) in
        missing (c.in_err-object.ensures.every y _ form.0 e1)
    go s rest form e = absurd (cc (form.1))
