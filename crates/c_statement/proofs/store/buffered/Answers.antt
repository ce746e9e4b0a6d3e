use Rattle.std.proofs.Common.{◌≡◌, ◌++◌, List, Some, ap}
use Rattle.c_token.specs.CTokens.{CToken}
use Rattle.c_input.proofs.Rows.{value_of}
use Rattle.c_statement.proofs.Chain.{front_of, missing}
use Rattle.c_tree.specs.Statements.{view}
use Rattle.c_statement.specs.declared.store.Store.{Store}
use Rattle.c_statement.specs.declared.store.Store.TheVariants as store
use Rattle.c_statement.specs.Stores.{buffered_tokens, IsBuffered}
use Rattle.c_statement.proofs.Chain.{no_view}
use Rattle.c_statement.proofs.store.buffered.Goals as goal

pub returns-in_err-object-clause-every : goal.returns-in_err-object-clause-every
returns-in_err-object-clause-every c = λ s rest form e. absurd (go s rest form e)
  where
    go : (s : Store) (rest : List CToken) → IsBuffered c.args.view_place s → c.args.input.now ≡ buffered_tokens c.args.view_place s ++ rest → ⊥
    go (store.Take y) rest form e =
        missing (c.in_err-object.ensures.every y rest form e)
    go (store.Copy w) rest form e =
        no_view w _ (front_of (view w) _ rest e) c.sees_word.ensures c.if-sees_word.true
    go (store.Move k) rest form e =
        no_view c.args.view_place _ (front_of (view c.args.view_place) _ rest e) c.sees_word.ensures c.if-sees_word.true
    go s rest form e = absurd form

pub returns-then-sees_word-clause-every : goal.returns-then-sees_word-clause-every
returns-then-sees_word-clause-every c = λ s rest form e. go s rest form e
  where
    go : (s : Store) (rest : List CToken) → IsBuffered c.args.view_place s → c.args.input.now ≡ buffered_tokens c.args.view_place s ++ rest → Some (store.Take c.in_ok-object.object) ≡ Some s
    go (store.Take y) rest form e =
        ap (λ o. Some (store.Take o)) (value_of (c.in_ok-object.ensures.every y rest form e))
    go (store.Copy w) rest form e =
        absurd (no_view w _ (front_of (view w) _ rest e) c.sees_word.ensures c.if-sees_word.true)
    go (store.Move k) rest form e =
        absurd (no_view c.args.view_place _ (front_of (view c.args.view_place) _ rest e) c.sees_word.ensures c.if-sees_word.true)
    go s rest form e = absurd form
