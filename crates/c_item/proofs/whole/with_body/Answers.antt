use Rattle.std.proofs.Common.{◌≡◌, Some, refl, sym, subst, ap, ◌∙◌}
use Rattle.std.specs.Prelude.{Option, IfSome}
use Rattle.c_cut.specs.Shown.{item_shown}
use Rattle.c_tree.specs.declared.item.CFunction.{CFunction}
use Rattle.c_tree.specs.declared.item.CItem.{CItem}
use Rattle.c_tree.specs.declared.item.CItem.TheVariants as item
use Rattle.c_tree.specs.Forms.{IsFunction}
use Rattle.c_tree.specs.Items.{function_spelling, item_spelling}
use Rattle.c_table.proofs.Steps.{some_same}
use Rattle.c_item.specs.Kinds.{IsBodied}
use Rattle.c_item.proofs.Bodies.{function_item, function_spelled, no_test, test_item, test_spelled}
use Rattle.c_item.proofs.Ends.{false_true}
use Rattle.c_item.proofs.whole.with_body.Goals as goal

pub returns-then-is_format_test-clause-some : goal.returns-then-is_format_test-clause-some
returns-then-is_format_test-clause-some c = (test_item, test_spelled ∙ c.if-is_format_test.ensures.0 refl)

pub returns-then-is_format_test-clause-every : goal.returns-then-is_format_test-clause-every
returns-then-is_format_test-clause-every c = λ t form e. go t form e
  where
    go : (t : CItem) → IsBodied t → item_spelling t ≡ item_shown c.args.tokens.now → Some item.FormatTest ≡ Some t
    go item.FormatTest form e = refl
    go (item.Function f) form e = absurd (no_test f (sym (function_spelled f) ∙ (e ∙ sym (c.if-is_format_test.ensures.0 refl))))
    go _ form e = absurd form

pub returns-in-Some-clause-some : goal.returns-in-Some-clause-some
returns-in-Some-clause-some c =
    let P : Option CFunction → Type 0 = λ z. IfSome z (λ f. IsFunction f × (function_spelling f ≡ item_shown c.args.tokens.now)) in
    let read = subst P c.in-Some.is c.in_ok-read.ensures.some in
    (function_item c.in-Some.read read.0, function_spelled c.in-Some.read ∙ read.1)

pub returns-in-Some-clause-every : goal.returns-in-Some-clause-every
returns-in-Some-clause-every c = λ t form e. go t form e
  where
    go : (t : CItem) → IsBodied t → item_spelling t ≡ item_shown c.args.tokens.now → Some (item.Function c.in-Some.read) ≡ Some t
    go item.FormatTest form e = absurd (false_true (c.if-is_format_test.ensures.1 (sym test_spelled ∙ e)))
    go (item.Function f) form e = ap (λ z. Some (item.Function z)) (some_same _ _ (sym c.in-Some.is ∙ c.in_ok-read.ensures.every f form (sym (function_spelled f) ∙ e)))
    go _ form e = absurd form

pub returns-in-None-clause-every : goal.returns-in-None-clause-every
returns-in-None-clause-every c = λ t form e. absurd (go t form e)
  where
    go : (t : CItem) → IsBodied t → item_spelling t ≡ item_shown c.args.tokens.now → ⊥
    go item.FormatTest form e = false_true (c.if-is_format_test.ensures.1 (sym test_spelled ∙ e))
    go (item.Function f) form e = cc (sym c.in-None.is ∙ c.in_ok-read.ensures.every f form (sym (function_spelled f) ∙ e))
    go _ form e = absurd form
