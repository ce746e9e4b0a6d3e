use Rattle.std.proofs.Common.{◌≡◌, ◌++◌, ◌∷◌, List, Some, sym, ap, drop, ◌∙◌}
use Rattle.c_token.specs.CTokens.{CToken, sign}
use Rattle.c_input.proofs.Rows.{left_of, value_of}
use Rattle.c_statement.proofs.Chain.{front_of, joined, missing}
use Rattle.c_statement.specs.declared.source.Source.{Source}
use Rattle.c_statement.specs.declared.source.Source.TheVariants as source
use Rattle.c_statement.specs.declared.source_kind.SourceKind.TheVariants as kinds
use Rattle.c_statement.specs.Sources.{source_tokens, IsSource, IsSourceOf}
use Rattle.c_tree.specs.Values.{type_spelling}
use Rattle.c_statement.specs.Sources.{cast_of, ended_tokens}
use Rattle.c_statement.proofs.Behind.{cast_found, cast_known, cast_value}
use Rattle.std.proofs.Common.{subst}
use Rattle.std.specs.Prelude.{Option}
use Rattle.c_input.specs.Reads.{Finds}
use Rattle.c_statement.proofs.operands.cast.Goals as goal

pub returns-in_err-to-clause-every : goal.returns-in_err-to-clause-every
returns-in_err-to-clause-every c = λ s rest form e. absurd (go s rest form e)
  where
    go : (s : Source) (rest : List CToken) → IsSourceOf kinds.Cast s → c.args.input.now ≡ source_tokens s ++ rest → ⊥
    go (source.Cast t k) rest form e =
        let e1 = front_of (type_spelling t) _ rest (ap (drop 1) (sym c.if-not-fixed.ensures ∙ e)) in
        missing (c.in_err-to.ensures.every t _ tt e1)
    go s rest form e = absurd (cc (form.1))

pub returns-then-not-fixed-2-clause-every : goal.returns-then-not-fixed-2-clause-every
returns-then-not-fixed-2-clause-every c = λ s rest form e. absurd (go s rest form e)
  where
    go : (s : Source) (rest : List CToken) → IsSourceOf kinds.Cast s → c.args.input.now ≡ source_tokens s ++ rest → ⊥
    go (source.Cast t k) rest form e =
        let e1 = front_of (type_spelling t) _ rest (ap (drop 1) (sym c.if-not-fixed.ensures ∙ e)) in
        let known = c.in_ok-to.ensures.every t _ tt e1 in
        let e2 = left_of type_spelling known c.in_ok-to.ensures.some.1 e1 in
        c.if-not-fixed-2.ensures.1 _ e2
    go s rest form e = absurd (cc (form.1))

pub returns-in_err-found-clause-every : goal.returns-in_err-found-clause-every
returns-in_err-found-clause-every c = λ s rest form e. absurd (go s rest form e)
  where
    go : (s : Source) (rest : List CToken) → IsSourceOf kinds.Cast s → c.args.input.now ≡ source_tokens s ++ rest → ⊥
    go (source.Cast t k) rest form e =
        let e1 = front_of (type_spelling t) _ rest (ap (drop 1) (sym c.if-not-fixed.ensures ∙ e)) in
        let known = c.in_ok-to.ensures.every t _ tt e1 in
        let e2 = left_of type_spelling known c.in_ok-to.ensures.some.1 e1 in
        let e3 = ap (drop 1) (sym c.if-not-fixed-2.ensures ∙ e2) in
        missing (c.in_err-found.ensures.every k _ (cast_value t k form.0) e3)
    go s rest form e = absurd (cc (form.1))

pub returns-clause-every : goal.returns-clause-every
returns-clause-every c = λ s rest form e. go s rest form e
  where
    go : (s : Source) (rest : List CToken) → IsSourceOf kinds.Cast s → c.args.input.now ≡ source_tokens s ++ rest → c.as_type.result ≡ Some s
    go (source.Cast t k) rest form e =
        let e1 = front_of (type_spelling t) _ rest (ap (drop 1) (sym c.if-not-fixed.ensures ∙ e)) in
        let known = c.in_ok-to.ensures.every t _ tt e1 in
        let e2 = left_of type_spelling known c.in_ok-to.ensures.some.1 e1 in
        let e3 = ap (drop 1) (sym c.if-not-fixed-2.ensures ∙ e2) in
        let found = c.in_ok-found.ensures.every k _ (cast_value t k form.0) e3 in
        let same : cast_of c.in_ok-to.to c.in_ok-found.found ≡ cast_of t k = λ i. cast_of (value_of known i) (value_of found i) in
        c.as_type.ensures ∙ (same ∙ cast_known t k form.0)
    go s rest form e = absurd (cc (form.1))

pub returns-clause-some : goal.returns-clause-some
returns-clause-some c =
    let e2 = c.if-not-fixed-2.ensures ∙ ap (λ t. sign ")" ∷ t) c.in_ok-found.ensures.some.1 in
    let e1 = c.if-not-fixed.ensures ∙ ap (λ t. sign "(" ∷ t) (joined (type_spelling c.in_ok-to.to) (sign ")" ∷ ended_tokens c.in_ok-found.found) c.ended.new.input c.in_ok-to.ensures.some.1 e2) in
    subst (λ (t : Option Source). Finds IsSource source_tokens c.args.input.now t c.ended.new.input) (sym c.as_type.ensures) (cast_found c.in_ok-to.to c.in_ok-found.found c.args.input.now c.ended.new.input c.in_ok-found.ensures.some.0 e1)
