use Rattle.std.proofs.Common.{◌≡◌, ◌++◌, ◌∷◌, [], List, Some, sym, ap, drop, ◌∙◌}
use Rattle.c_token.specs.CTokens.{CToken}
use Rattle.c_input.proofs.Rows.{left_of, value_of}
use Rattle.c_statement.proofs.Chain.{front_of, missing}
use Rattle.c_statement.specs.declared.source.Source.{Source}
use Rattle.c_statement.specs.declared.source.Source.TheVariants as source
use Rattle.c_statement.specs.declared.source_kind.SourceKind.TheVariants as kinds
use Rattle.c_statement.specs.Sources.{source_tokens, IsSourceOf}
use Rattle.c_tree.specs.Statements.{buffer_of}
use Rattle.c_input.proofs.Rows.{finds_of, next_one}
use Rattle.c_tree.specs.Forms.{IsString}
use Rattle.c_tree.specs.Values.{string}
use Rattle.c_statement.proofs.buffers.format.Goals as goal

pub returns-then-not-fixed-2-clause-every : goal.returns-then-not-fixed-2-clause-every
returns-then-not-fixed-2-clause-every c = λ s rest form e. absurd (go s rest form e)
  where
    go : (s : Source) (rest : List CToken) → IsSourceOf kinds.Format s → c.args.input.now ≡ source_tokens s ++ rest → ⊥
    go (source.Format y letters) rest form e =
        let e1 = front_of (buffer_of y) _ rest (ap (drop 2) (sym c.if-not-fixed.ensures ∙ e)) in
        let first = c.in-Some.ensures.every y _ form.0.0 e1 in
        let e2 = left_of buffer_of first c.in-Some.ensures.some.1 e1 in
        c.if-not-fixed-2.ensures.1 _ e2
    go s rest form e = absurd (cc (form.1))

pub returns-in_default-2-clause-every : goal.returns-in_default-2-clause-every
returns-in_default-2-clause-every c = λ s rest form e. absurd (go s rest form e)
  where
    go : (s : Source) (rest : List CToken) → IsSourceOf kinds.Format s → c.args.input.now ≡ source_tokens s ++ rest → ⊥
    go (source.Format y letters) rest form e =
        let e1 = front_of (buffer_of y) _ rest (ap (drop 2) (sym c.if-not-fixed.ensures ∙ e)) in
        let first = c.in-Some.ensures.every y _ form.0.0 e1 in
        let e2 = left_of buffer_of first c.in-Some.ensures.some.1 e1 in
        let e3 = ap (drop 2) (sym c.if-not-fixed-2.ensures ∙ e2) in
        let third = c.in_ok-letters.ensures.every letters _ form.0.1 e3 in
        missing (sym c.in_default-2.is ∙ third)
    go s rest form e = absurd (cc (form.1))

pub returns-then-fixed-clause-every : goal.returns-then-fixed-clause-every
returns-then-fixed-clause-every c = λ s rest form e. go s rest form e
  where
    go : (s : Source) (rest : List CToken) → IsSourceOf kinds.Format s → c.args.input.now ≡ source_tokens s ++ rest → Some (source.Format c.in-Some.object c.in-Some-2.letters) ≡ Some s
    go (source.Format y letters) rest form e =
        let e1 = front_of (buffer_of y) _ rest (ap (drop 2) (sym c.if-not-fixed.ensures ∙ e)) in
        let first = c.in-Some.ensures.every y _ form.0.0 e1 in
        let e2 = left_of buffer_of first c.in-Some.ensures.some.1 e1 in
        let e3 = ap (drop 2) (sym c.if-not-fixed-2.ensures ∙ e2) in
        let third = c.in_ok-letters.ensures.every letters _ form.0.1 e3 in
        let known = value_of (sym c.in-Some-2.is ∙ third) in
        λ i. Some (source.Format (value_of first i) (known i))
    go s rest form e = absurd (cc (form.1))

pub returns-else-fixed-clause-every : goal.returns-else-fixed-clause-every
returns-else-fixed-clause-every c = λ s rest form e. absurd (go s rest form e)
  where
    go : (s : Source) (rest : List CToken) → IsSourceOf kinds.Format s → c.args.input.now ≡ source_tokens s ++ rest → ⊥
    go (source.Format y letters) rest form e =
        let e1 = front_of (buffer_of y) _ rest (ap (drop 2) (sym c.if-not-fixed.ensures ∙ e)) in
        let first = c.in-Some.ensures.every y _ form.0.0 e1 in
        let e2 = left_of buffer_of first c.in-Some.ensures.some.1 e1 in
        let e3 = ap (drop 2) (sym c.if-not-fixed-2.ensures ∙ e2) in
        let third = c.in_ok-letters.ensures.every letters _ form.0.1 e3 in
        let n = next_one IsString (λ bytes. string bytes ∷ []) c.fixed-2.new.self c.in_ok-letters.field-0 c.string.new.self c.in-Some-2.letters letters _ c.in-Some-2.is (finds_of IsString (λ bytes. string bytes ∷ []) c.fixed-2.new.self c.in_ok-letters.field-0 c.string.new.self c.in_ok-letters.ensures.some) third e3 in
        c.if-fixed.ensures.1 _ n.left
    go s rest form e = absurd (cc (form.1))
