use Rattle.std.proofs.Common.{◌≡◌, ◌++◌, List, Some, sym, ap, drop, ◌∙◌}
use Rattle.c_token.specs.CTokens.{CToken}
use Rattle.c_input.proofs.Rows.{left_of, value_of}
use Rattle.c_statement.proofs.Chain.{front_of, missing}
use Rattle.std.proofs.lemmas.Bool.{false≢true}
use Rattle.c_tree.specs.Statements.{view}
use Rattle.c_statement.specs.declared.store.Store.{Store}
use Rattle.c_statement.specs.declared.store.Store.TheVariants as store
use Rattle.c_statement.specs.Stores.{buffered_tokens, IsShifted}
use Rattle.c_statement.proofs.Chain.{plus_apart}
use Rattle.c_statement.proofs.store.shifted.Goals as goal

pub returns-then-not-fixed-clause-every : goal.returns-then-not-fixed-clause-every
returns-then-not-fixed-clause-every c = λ s rest form e. absurd (go s rest form e)
  where
    go : (s : Store) (rest : List CToken) → IsShifted c.args.view_place s → c.args.input.now ≡ buffered_tokens c.args.view_place s ++ rest → ⊥
    go (store.Copy w) rest form e =
        let e1 = front_of (view w) _ rest e in
        let first = c.in_ok-from.ensures.every w _ form e1 in
        let e2 = left_of view first c.in_ok-from.ensures.some.1 e1 in
        c.if-not-fixed.ensures.1 _ e2
    go (store.Move k) rest form e =
        let e1 = front_of (view c.args.view_place) _ rest e in
        let first = c.in_ok-from.ensures.every c.args.view_place _ form.0 e1 in
        let e2 = left_of view first c.in_ok-from.ensures.some.1 e1 in
        c.if-not-fixed.ensures.1 _ e2
    go s rest form e = absurd form

pub returns-then-fixed-clause-every : goal.returns-then-fixed-clause-every
returns-then-fixed-clause-every c = λ s rest form e. go s rest form e
  where
    go : (s : Store) (rest : List CToken) → IsShifted c.args.view_place s → c.args.input.now ≡ buffered_tokens c.args.view_place s ++ rest → Some (store.Copy c.in_ok-from.from) ≡ Some s
    go (store.Copy w) rest form e =
        let e1 = front_of (view w) _ rest e in
        let first = c.in_ok-from.ensures.every w _ form e1 in
        let e2 = left_of view first c.in_ok-from.ensures.some.1 e1 in
        ap (λ w. Some (store.Copy w)) (value_of first)
    go (store.Move k) rest form e =
        let e1 = front_of (view c.args.view_place) _ rest e in
        let first = c.in_ok-from.ensures.every c.args.view_place _ form.0 e1 in
        let e2 = left_of view first c.in_ok-from.ensures.some.1 e1 in
        let e3 = ap (drop 2) (sym c.if-not-fixed.ensures ∙ e2) in
        absurd (plus_apart (sym c.if-fixed.ensures ∙ e3))
    go s rest form e = absurd form

pub returns-then-not-fixed-2-clause-every : goal.returns-then-not-fixed-2-clause-every
returns-then-not-fixed-2-clause-every c = λ s rest form e. absurd (go s rest form e)
  where
    go : (s : Store) (rest : List CToken) → IsShifted c.args.view_place s → c.args.input.now ≡ buffered_tokens c.args.view_place s ++ rest → ⊥
    go (store.Copy w) rest form e =
        let e1 = front_of (view w) _ rest e in
        let first = c.in_ok-from.ensures.every w _ form e1 in
        let e2 = left_of view first c.in_ok-from.ensures.some.1 e1 in
        let e3 = ap (drop 2) (sym c.if-not-fixed.ensures ∙ e2) in
        c.if-fixed.ensures.1 _ e3
    go (store.Move k) rest form e =
        let e1 = front_of (view c.args.view_place) _ rest e in
        let first = c.in_ok-from.ensures.every c.args.view_place _ form.0 e1 in
        let e2 = left_of view first c.in_ok-from.ensures.some.1 e1 in
        let e3 = ap (drop 2) (sym c.if-not-fixed.ensures ∙ e2) in
        c.if-not-fixed-2.ensures.1 _ (c.if-fixed.ensures.0 ∙ e3)
    go s rest form e = absurd form

pub returns-in_err-distance-clause-every : goal.returns-in_err-distance-clause-every
returns-in_err-distance-clause-every c = λ s rest form e. absurd (go s rest form e)
  where
    go : (s : Store) (rest : List CToken) → IsShifted c.args.view_place s → c.args.input.now ≡ buffered_tokens c.args.view_place s ++ rest → ⊥
    go (store.Copy w) rest form e =
        let e1 = front_of (view w) _ rest e in
        let first = c.in_ok-from.ensures.every w _ form e1 in
        let e2 = left_of view first c.in_ok-from.ensures.some.1 e1 in
        let e3 = ap (drop 2) (sym c.if-not-fixed.ensures ∙ e2) in
        c.if-fixed.ensures.1 _ e3
    go (store.Move k) rest form e =
        let e1 = front_of (view c.args.view_place) _ rest e in
        let first = c.in_ok-from.ensures.every c.args.view_place _ form.0 e1 in
        let e2 = left_of view first c.in_ok-from.ensures.some.1 e1 in
        let e3 = ap (drop 2) (sym c.if-not-fixed.ensures ∙ e2) in
        let e4 = ap (drop 1) (sym c.if-not-fixed-2.ensures ∙ (c.if-fixed.ensures.0 ∙ e3)) in
        missing (c.in_err-distance.ensures.every k _ form.1 e4)
    go s rest form e = absurd form

pub returns-then-same-clause-every : goal.returns-then-same-clause-every
returns-then-same-clause-every c = λ s rest form e. go s rest form e
  where
    go : (s : Store) (rest : List CToken) → IsShifted c.args.view_place s → c.args.input.now ≡ buffered_tokens c.args.view_place s ++ rest → Some (store.Move c.in_ok-distance.distance) ≡ Some s
    go (store.Copy w) rest form e =
        let e1 = front_of (view w) _ rest e in
        let first = c.in_ok-from.ensures.every w _ form e1 in
        let e2 = left_of view first c.in_ok-from.ensures.some.1 e1 in
        let e3 = ap (drop 2) (sym c.if-not-fixed.ensures ∙ e2) in
        absurd (c.if-fixed.ensures.1 _ e3)
    go (store.Move k) rest form e =
        let e1 = front_of (view c.args.view_place) _ rest e in
        let first = c.in_ok-from.ensures.every c.args.view_place _ form.0 e1 in
        let e2 = left_of view first c.in_ok-from.ensures.some.1 e1 in
        let e3 = ap (drop 2) (sym c.if-not-fixed.ensures ∙ e2) in
        let e4 = ap (drop 1) (sym c.if-not-fixed-2.ensures ∙ (c.if-fixed.ensures.0 ∙ e3)) in
        ap (λ k. Some (store.Move k)) (value_of (c.in_ok-distance.ensures.every k _ form.1 e4))
    go s rest form e = absurd form

pub returns-else-same-clause-every : goal.returns-else-same-clause-every
returns-else-same-clause-every c = λ s rest form e. absurd (go s rest form e)
  where
    go : (s : Store) (rest : List CToken) → IsShifted c.args.view_place s → c.args.input.now ≡ buffered_tokens c.args.view_place s ++ rest → ⊥
    go (store.Copy w) rest form e =
        let e1 = front_of (view w) _ rest e in
        let first = c.in_ok-from.ensures.every w _ form e1 in
        let e2 = left_of view first c.in_ok-from.ensures.some.1 e1 in
        let e3 = ap (drop 2) (sym c.if-not-fixed.ensures ∙ e2) in
        c.if-fixed.ensures.1 _ e3
    go (store.Move k) rest form e =
        let e1 = front_of (view c.args.view_place) _ rest e in
        let first = c.in_ok-from.ensures.every c.args.view_place _ form.0 e1 in
        let e2 = left_of view first c.in_ok-from.ensures.some.1 e1 in
        false≢true (sym c.if-same.false ∙ c.same.ensures.1 (sym (value_of first)))
    go s rest form e = absurd form
