use Rattle.std.proofs.Common.{◌≡◌, ◌++◌, List, Some, sym, ap, drop, ◌∙◌}
use Rattle.c_token.specs.CTokens.{CToken}
use Rattle.c_statement.specs.declared.store.Store.{Store}
use Rattle.c_statement.specs.declared.store.Store.TheVariants as store
use Rattle.c_statement.specs.Stores.{store_tokens, IsStore}
use Rattle.c_statement.proofs.Chain.{extent_apart, memory_apart}
use Rattle.c_statement.proofs.store.behind_view.Goals as goal

pub returns-then-fixed-clause-every : goal.returns-then-fixed-clause-every
returns-then-fixed-clause-every c = λ s rest form e. go s rest form e
  where
    go : (s : Store) (rest : List CToken) → IsStore c.args.view_place s → c.args.input.now ≡ store_tokens c.args.view_place s ++ rest → c.buffered.result ≡ Some s
    go (store.Take y) rest form e =
        let e1 = ap (drop 1) (sym c.if-not-fixed.ensures ∙ e) in
        let e2 = ap (drop 2) (sym c.if-fixed.ensures ∙ e1) in
        c.buffered.ensures.every (store.Take y) rest form e2
    go (store.Copy w) rest form e =
        let e1 = ap (drop 1) (sym c.if-not-fixed.ensures ∙ e) in
        let e2 = ap (drop 2) (sym c.if-fixed.ensures ∙ e1) in
        c.buffered.ensures.every (store.Copy w) rest form e2
    go (store.Move k) rest form e =
        let e1 = ap (drop 1) (sym c.if-not-fixed.ensures ∙ e) in
        let e2 = ap (drop 2) (sym c.if-fixed.ensures ∙ e1) in
        c.buffered.ensures.every (store.Move k) rest form e2
    go (store.Memory k) rest form e =
        let e1 = ap (drop 1) (sym c.if-not-fixed.ensures ∙ e) in
        absurd (memory_apart (sym c.if-fixed.ensures ∙ e1))
    go (store.Extent x j k) rest form e =
        let e1 = ap (drop 1) (sym c.if-not-fixed.ensures ∙ e) in
        absurd (extent_apart x (sym c.if-fixed.ensures ∙ e1))

pub returns-clause-every : goal.returns-clause-every
returns-clause-every c = λ s rest form e. go s rest form e
  where
    go : (s : Store) (rest : List CToken) → IsStore c.args.view_place s → c.args.input.now ≡ store_tokens c.args.view_place s ++ rest → c.numbered.result ≡ Some s
    go (store.Take y) rest form e =
        let e1 = ap (drop 1) (sym c.if-not-fixed.ensures ∙ e) in
        absurd (c.if-fixed.ensures.1 _ e1)
    go (store.Copy w) rest form e =
        let e1 = ap (drop 1) (sym c.if-not-fixed.ensures ∙ e) in
        absurd (c.if-fixed.ensures.1 _ e1)
    go (store.Move k) rest form e =
        let e1 = ap (drop 1) (sym c.if-not-fixed.ensures ∙ e) in
        absurd (c.if-fixed.ensures.1 _ e1)
    go (store.Memory k) rest form e =
        let e1 = ap (drop 1) (sym c.if-not-fixed.ensures ∙ e) in
        absurd (c.if-fixed-2.ensures.1 _ (c.if-fixed.ensures.0 ∙ e1))
    go (store.Extent x j k) rest form e =
        let e1 = ap (drop 1) (sym c.if-not-fixed.ensures ∙ e) in
        c.numbered.ensures.every (store.Extent x j k) rest form (c.if-fixed-2.ensures.0 ∙ (c.if-fixed.ensures.0 ∙ e1))
