use Rattle.std.proofs.Common.{◌≡◌, ◌++◌, List, Some, sym, ap, drop, ◌∙◌}
use Rattle.c_token.specs.CTokens.{CToken}
use Rattle.c_input.proofs.Rows.{value_of}
use Rattle.c_statement.proofs.Chain.{missing}
use Rattle.c_statement.specs.declared.source.Source.{Source}
use Rattle.c_statement.specs.declared.source.Source.TheVariants as source
use Rattle.c_statement.specs.declared.source_kind.SourceKind.TheVariants as kinds
use Rattle.c_statement.specs.Sources.{source_tokens, IsSourceOf}
use Rattle.std.proofs.lemmas.Bool.{false≢true}
use Rattle.c_statement.proofs.object_tests.native.Goals as goal

pub returns-in_err-object-clause-every : goal.returns-in_err-object-clause-every
returns-in_err-object-clause-every c = λ s rest form e. absurd (go s rest form e)
  where
    go : (s : Source) (rest : List CToken) → IsSourceOf kinds.Native s → c.args.input.now ≡ source_tokens s ++ rest → ⊥
    go (source.Native y n) rest form e =
        missing (c.in_err-object.ensures.every y _ form.0.0 e)
    go s rest form e = absurd (cc (form.1))

pub returns-in_err-asked-clause-every : goal.returns-in_err-asked-clause-every
returns-in_err-asked-clause-every c = λ s rest form e. absurd (go s rest form e)
  where
    go : (s : Source) (rest : List CToken) → IsSourceOf kinds.Native s → c.args.input.now ≡ source_tokens s ++ rest → ⊥
    go (source.Native y n) rest form e =
        let e1 = ap (drop 4) (sym c.in_ok-object.ensures.some.1 ∙ e) in
        let e2 = ap (drop 1) (sym c.if-not-fixed.ensures ∙ e1) in
        missing (c.in_err-asked.ensures.every y _ form.0.0 e2)
    go s rest form e = absurd (cc (form.1))

pub returns-in_err-wrapper-clause-every : goal.returns-in_err-wrapper-clause-every
returns-in_err-wrapper-clause-every c = λ s rest form e. absurd (go s rest form e)
  where
    go : (s : Source) (rest : List CToken) → IsSourceOf kinds.Native s → c.args.input.now ≡ source_tokens s ++ rest → ⊥
    go (source.Native y n) rest form e =
        let e1 = ap (drop 4) (sym c.in_ok-object.ensures.some.1 ∙ e) in
        let e2 = ap (drop 1) (sym c.if-not-fixed.ensures ∙ e1) in
        let e3 = ap (drop 4) (sym c.in_ok-asked.ensures.some.1 ∙ e2) in
        missing (c.in_err-wrapper.ensures.every n _ form.0.1 e3)
    go s rest form e = absurd (cc (form.1))

pub returns-then-same-clause-every : goal.returns-then-same-clause-every
returns-then-same-clause-every c = λ s rest form e. go s rest form e
  where
    go : (s : Source) (rest : List CToken) → IsSourceOf kinds.Native s → c.args.input.now ≡ source_tokens s ++ rest → Some (source.Native c.in_ok-object.object c.in_ok-wrapper.wrapper) ≡ Some s
    go (source.Native y n) rest form e =
        let first = c.in_ok-object.ensures.every y _ form.0.0 e in
        let e1 = ap (drop 4) (sym c.in_ok-object.ensures.some.1 ∙ e) in
        let e2 = ap (drop 1) (sym c.if-not-fixed.ensures ∙ e1) in
        let e3 = ap (drop 4) (sym c.in_ok-asked.ensures.some.1 ∙ e2) in
        let third = c.in_ok-wrapper.ensures.every n _ form.0.1 e3 in
        λ i. Some (source.Native (value_of first i) (value_of third i))
    go s rest form e = absurd (cc (form.1))

pub returns-else-same-clause-every : goal.returns-else-same-clause-every
returns-else-same-clause-every c = λ s rest form e. absurd (go s rest form e)
  where
    go : (s : Source) (rest : List CToken) → IsSourceOf kinds.Native s → c.args.input.now ≡ source_tokens s ++ rest → ⊥
    go (source.Native y n) rest form e =
        let first = c.in_ok-object.ensures.every y _ form.0.0 e in
        let e1 = ap (drop 4) (sym c.in_ok-object.ensures.some.1 ∙ e) in
        let e2 = ap (drop 1) (sym c.if-not-fixed.ensures ∙ e1) in
        let second = c.in_ok-asked.ensures.every y _ form.0.0 e2 in
        let equal = value_of first ∙ sym (value_of second) in
        false≢true (sym c.if-same.false ∙ c.same.ensures.1 equal)
    go s rest form e = absurd (cc (form.1))
