use Rattle.std.proofs.Common.{◌≡◌, ◌++◌, List, Some, sym, ap, ◌∙◌}
use Rattle.c_token.specs.CTokens.{CToken}
use Rattle.c_input.proofs.Rows.{left_of, value_of}
use Rattle.c_statement.proofs.Chain.{end_apart, field_known, front_of, missing, variable_apart}
use Rattle.c_statement.specs.declared.source.Source.{Source}
use Rattle.c_statement.specs.declared.source.Source.TheVariants as source
use Rattle.c_statement.specs.declared.source_kind.SourceKind.TheVariants as kinds
use Rattle.c_statement.specs.Sources.{source_tokens, IsSourceOf}
use Rattle.c_tree.specs.declared.statement.ViewPlace.TheVariants as place
use Rattle.c_tree.specs.Statements.{view}
use Rattle.c_statement.proofs.places.place.Goals as goal

pub returns-in_err-place-clause-every : goal.returns-in_err-place-clause-every
returns-in_err-place-clause-every c = λ s rest form e. absurd (go s rest form e)
  where
    go : (s : Source) (rest : List CToken) → IsSourceOf kinds.Place s → c.args.input.now ≡ source_tokens s ++ rest → ⊥
    go (source.Field p) rest form e =
        missing (c.in_err-place.ensures.every (place.Field p) _ form.0 (front_of (view (place.Field p)) _ rest e))
    go (source.Memory v) rest form e =
        missing (c.in_err-place.ensures.every v _ form.0 (front_of (view v) _ rest e))
    go (source.Extent v x j) rest form e =
        missing (c.in_err-place.ensures.every v _ form.0.0 (front_of (view v) _ rest e))
    go s rest form e = absurd (cc (form.1))

pub returns-then-not-fixed-clause-every : goal.returns-then-not-fixed-clause-every
returns-then-not-fixed-clause-every c = λ s rest form e. go s rest form e
  where
    go : (s : Source) (rest : List CToken) → IsSourceOf kinds.Place s → c.args.input.now ≡ source_tokens s ++ rest → c.told_of.result ≡ Some s
    go (source.Field p) rest form e =
        let e1 = front_of (view (place.Field p)) _ rest e in
        let known = c.in_ok-place.ensures.every (place.Field p) _ form.0 e1 in
        let e2 = left_of view known c.in_ok-place.ensures.some.1 e1 in
        absurd (c.if-not-fixed.ensures.1 _ e2)
    go (source.Memory v) rest form e =
        let e1 = front_of (view v) _ rest e in
        let known = c.in_ok-place.ensures.every v _ form.0 e1 in
        let e2 = left_of view known c.in_ok-place.ensures.some.1 e1 in
        c.told_of.ensures.every (source.Memory v) rest (sym (value_of known)) (c.if-not-fixed.ensures.0 ∙ e2)
    go (source.Extent v x j) rest form e =
        let e1 = front_of (view v) _ rest e in
        let known = c.in_ok-place.ensures.every v _ form.0.0 e1 in
        let e2 = left_of view known c.in_ok-place.ensures.some.1 e1 in
        c.told_of.ensures.every (source.Extent v x j) rest (sym (value_of known), form.0.1) (c.if-not-fixed.ensures.0 ∙ e2)
    go s rest form e = absurd (cc (form.1))

pub returns-in-Field-clause-every : goal.returns-in-Field-clause-every
returns-in-Field-clause-every c = λ s rest form e. go s rest form e
  where
    go : (s : Source) (rest : List CToken) → IsSourceOf kinds.Place s → c.args.input.now ≡ source_tokens s ++ rest → Some (source.Field c.in-Field.field) ≡ Some s
    go (source.Field p) rest form e =
        let e1 = front_of (view (place.Field p)) _ rest e in
        let known = c.in_ok-place.ensures.every (place.Field p) _ form.0 e1 in
        let e2 = left_of view known c.in_ok-place.ensures.some.1 e1 in
        ap (λ p. Some (source.Field p)) (field_known known c.in-Field.is)
    go (source.Memory v) rest form e =
        let e1 = front_of (view v) _ rest e in
        let known = c.in_ok-place.ensures.every v _ form.0 e1 in
        let e2 = left_of view known c.in_ok-place.ensures.some.1 e1 in
        absurd (end_apart (sym c.if-not-fixed.ensures ∙ e2))
    go (source.Extent v x j) rest form e =
        let e1 = front_of (view v) _ rest e in
        let known = c.in_ok-place.ensures.every v _ form.0.0 e1 in
        let e2 = left_of view known c.in_ok-place.ensures.some.1 e1 in
        absurd (end_apart (sym c.if-not-fixed.ensures ∙ e2))
    go s rest form e = absurd (cc (form.1))

pub returns-in-Variable-clause-every : goal.returns-in-Variable-clause-every
returns-in-Variable-clause-every c = λ s rest form e. absurd (go s rest form e)
  where
    go : (s : Source) (rest : List CToken) → IsSourceOf kinds.Place s → c.args.input.now ≡ source_tokens s ++ rest → ⊥
    go (source.Field p) rest form e =
        let e1 = front_of (view (place.Field p)) _ rest e in
        let known = c.in_ok-place.ensures.every (place.Field p) _ form.0 e1 in
        let e2 = left_of view known c.in_ok-place.ensures.some.1 e1 in
        variable_apart known c.in-Variable.is
    go (source.Memory v) rest form e =
        let e1 = front_of (view v) _ rest e in
        let known = c.in_ok-place.ensures.every v _ form.0 e1 in
        let e2 = left_of view known c.in_ok-place.ensures.some.1 e1 in
        end_apart (sym c.if-not-fixed.ensures ∙ e2)
    go (source.Extent v x j) rest form e =
        let e1 = front_of (view v) _ rest e in
        let known = c.in_ok-place.ensures.every v _ form.0.0 e1 in
        let e2 = left_of view known c.in_ok-place.ensures.some.1 e1 in
        end_apart (sym c.if-not-fixed.ensures ∙ e2)
    go s rest form e = absurd (cc (form.1))
