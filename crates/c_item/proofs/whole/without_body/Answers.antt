use Rattle.std.proofs.Common.{◌≡◌, ◌∷◌, List, Some, ◌⊎◌, inl, inr, sym, ap, ◌∙◌}
use Rattle.std.specs.Prelude.{None, Option, IfSome, true, false}
use Rattle.c_token.specs.CTokens.{CToken, word}
use Rattle.c_cut.specs.Shown.{item_shown}
use Rattle.c_tree.specs.declared.item.CItem.{CItem}
use Rattle.c_tree.specs.Forms.{IsItem}
use Rattle.c_tree.specs.Items.{item_spelling}
use Rattle.c_item.specs.Kinds.{declared_tokens, IsDeclared, IsUnbodied}
use Rattle.c_item.proofs.Opens.{no_static}
use Rattle.c_item.proofs.Results.{if_ok}
use Rattle.c_item.proofs.Spelled.{declared_item, declared_spelled, sides}
use Rattle.c_item.proofs.whole.without_body.Goals as goal

tail_same : (x : CToken) (xs ys : List CToken) → x ∷ xs ≡ x ∷ ys → xs ≡ ys
tail_same x xs ys e = cc

pub returns-in-Some-clause-some : goal.returns-in-Some-clause-some
returns-in-Some-clause-some c = if_ok c.unbodied.result (λ found. IfSome found (λ t. IsDeclared true t × (declared_tokens t ≡ item_shown c.in-Some.rest.now))) (λ found. IfSome found (λ t. IsItem t × (item_spelling t ≡ item_shown c.args.tokens.now))) go c.unbodied.ensures.some
  where
    go : (found : Option CItem) → IfSome found (λ t. IsDeclared true t × (declared_tokens t ≡ item_shown c.in-Some.rest.now)) → IfSome found (λ t. IsItem t × (item_spelling t ≡ item_shown c.args.tokens.now))
    go None h = tt
    go (Some t) h = (declared_item true t h.0, declared_spelled true t h.0 ∙ (ap (λ (z : List CToken). word "static" ∷ z) h.1 ∙ sym c.in-Some.ensures))

pub returns-in-Some-clause-every : goal.returns-in-Some-clause-every
returns-in-Some-clause-every c =
    if_ok c.unbodied.result (λ found. (t : CItem) → IsDeclared true t → declared_tokens t ≡ item_shown c.in-Some.rest.now → found ≡ Some t)
    (λ found. (t : CItem) → IsItem t → IsUnbodied t → item_spelling t ≡ item_shown c.args.tokens.now → found ≡ Some t) (λ found every t form u e. go found every t e (sides t form u)) c.unbodied.ensures.every
  where
    go : (found : Option CItem) → ((t : CItem) → IsDeclared true t → declared_tokens t ≡ item_shown c.in-Some.rest.now → found ≡ Some t) → (t : CItem) → item_spelling t ≡ item_shown c.args.tokens.now
        → IsDeclared true t ⊎ IsDeclared false t → found ≡ Some t
    go found every t e (inl d) = every t d (tail_same (word "static") (declared_tokens t) (item_shown c.in-Some.rest.now) (sym (declared_spelled true t d) ∙ (e ∙ c.in-Some.ensures)))
    go found every t e (inr d) = absurd (no_static false t (item_shown c.in-Some.rest.now) d (sym (declared_spelled false t d) ∙ (e ∙ c.in-Some.ensures)))

pub returns-in-None-clause-some : goal.returns-in-None-clause-some
returns-in-None-clause-some c = if_ok c.unbodied-in-None.result (λ found. IfSome found (λ t. IsDeclared false t × (declared_tokens t ≡ item_shown c.args.tokens.now))) (λ found. IfSome found (λ t. IsItem t × (item_spelling t ≡ item_shown c.args.tokens.now))) go c.unbodied-in-None.ensures.some
  where
    go : (found : Option CItem) → IfSome found (λ t. IsDeclared false t × (declared_tokens t ≡ item_shown c.args.tokens.now)) → IfSome found (λ t. IsItem t × (item_spelling t ≡ item_shown c.args.tokens.now))
    go None h = tt
    go (Some t) h = (declared_item false t h.0, declared_spelled false t h.0 ∙ h.1)

pub returns-in-None-clause-every : goal.returns-in-None-clause-every
returns-in-None-clause-every c =
    if_ok c.unbodied-in-None.result (λ found. (t : CItem) → IsDeclared false t → declared_tokens t ≡ item_shown c.args.tokens.now → found ≡ Some t)
    (λ found. (t : CItem) → IsItem t → IsUnbodied t → item_spelling t ≡ item_shown c.args.tokens.now → found ≡ Some t) (λ found every t form u e. go found every t e (sides t form u)) c.unbodied-in-None.ensures.every
  where
    go : (found : Option CItem) → ((t : CItem) → IsDeclared false t → declared_tokens t ≡ item_shown c.args.tokens.now → found ≡ Some t) → (t : CItem) → item_spelling t ≡ item_shown c.args.tokens.now
        → IsDeclared true t ⊎ IsDeclared false t → found ≡ Some t
    go found every t e (inl d) = absurd (c.in-None.ensures (declared_tokens t) (sym e ∙ declared_spelled true t d))
    go found every t e (inr d) = every t d (sym (declared_spelled false t d) ∙ e)
