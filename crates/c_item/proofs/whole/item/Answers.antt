use Rattle.std.proofs.Common.{◌≡◌, Some, ◌⊎◌, inl, inr, refl, sym, ap, ◌∙◌}
use Rattle.std.specs.Prelude.{Option}
use Rattle.c_cut.specs.Shown.{item_shown}
use Rattle.c_tree.specs.declared.item.CItem.{CItem}
use Rattle.c_tree.specs.Forms.{IsItem}
use Rattle.c_tree.specs.Items.{item_spelling}
use Rattle.c_item.specs.Kinds.{last_of, IsBodied, IsUnbodied}
use Rattle.c_item.proofs.Ends.{bodied, bodied_ends, false_true, unbodied_ends}
use Rattle.c_item.proofs.Results.{if_ok}
use Rattle.c_item.proofs.whole.item.Goals as goal

pub returns-then-has_body-clause-every : goal.returns-then-has_body-clause-every
returns-then-has_body-clause-every c =
    if_ok c.with_body.result (λ found. (t : CItem) → IsBodied t → item_spelling t ≡ item_shown c.args.tokens.now → found ≡ Some t)
    (λ found. (t : CItem) → IsItem t → item_spelling t ≡ item_shown c.args.tokens.now → found ≡ Some t) (λ found every t form e. go found every t form e (bodied t form)) c.with_body.ensures.every
  where
    go : (found : Option CItem) → ((t : CItem) → IsBodied t → item_spelling t ≡ item_shown c.args.tokens.now → found ≡ Some t) → (t : CItem) → IsItem t → item_spelling t ≡ item_shown c.args.tokens.now
        → IsBodied t ⊎ IsUnbodied t → found ≡ Some t
    go found every t form e (inl b) = every t b e
    go found every t form e (inr u) = absurd (unbodied_ends t form u (ap last_of e ∙ c.if-has_body.ensures.0 refl))

pub returns-else-has_body-clause-every : goal.returns-else-has_body-clause-every
returns-else-has_body-clause-every c =
    if_ok c.without_body.result (λ found. (t : CItem) → IsItem t → IsUnbodied t → item_spelling t ≡ item_shown c.args.tokens.now → found ≡ Some t)
    (λ found. (t : CItem) → IsItem t → item_spelling t ≡ item_shown c.args.tokens.now → found ≡ Some t) (λ found every t form e. go found every t form e (bodied t form)) c.without_body.ensures.every
  where
    go : (found : Option CItem) → ((t : CItem) → IsItem t → IsUnbodied t → item_spelling t ≡ item_shown c.args.tokens.now → found ≡ Some t) → (t : CItem) → IsItem t → item_spelling t ≡ item_shown c.args.tokens.now
        → IsBodied t ⊎ IsUnbodied t → found ≡ Some t
    go found every t form e (inl b) = absurd (false_true (c.if-has_body.ensures.1 (ap last_of (sym e) ∙ bodied_ends t b)))
    go found every t form e (inr u) = every t form u e
