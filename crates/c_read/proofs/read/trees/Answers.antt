use Rattle.std.proofs.Common.{◌≡◌, suc, List, [], ◌∷◌, length, Some, None, refl, sym, ap, subst, arith, ◌∙◌}
use Rattle.std.specs.Prelude.{ℕ, Bool, true, false, Option, Ok, Err, IfSome}
use Rattle.c_cut.specs.declared.token.Token.{Token}
use Rattle.c_cut.specs.Shown.{item_shown, items_shown}
use Rattle.c_tree.specs.declared.item.CItem.{CItem}
use Rattle.c_read.specs.declared.stop.CStop.TheVariants.{Refused}
use Rattle.c_read.specs.Answers.{Answers}
use Rattle.c_tree.specs.Forms.{IsItem}
use Rattle.c_tree.specs.Items.{item_spelling}
use Rattle.c_tree.specs.Reading.{IsReading}
use Rattle.c_read.proofs.Trees.{front_steps, stop_every, stop_reads, whole_every, whole_reads, IsFront}
use Rattle.c_read.proofs.read.trees.Goals as goal

lost : {A : Type 0} {r : Option A} {a : A} → r ≡ None → r ≡ Some a → ⊥
lost e f = cc

given : {A : Type 0} {r : Option A} {a b : A} → r ≡ Some a → r ≡ Some b → a ≡ b
given e f = cc

zero_apart : {n : ℕ} → suc n ≡ 0 → ⊥
zero_apart e = cc

empty : (xs : List (List Token)) → length xs ≡ 0 → xs ≡ []
empty [] e = refl
empty (x ∷ xs) e = absurd (zero_apart e)

whole_answer : (all found : List CItem) (whole : Bool) → found ≡ all → whole ≡ true → Answers all whole (Ok found)
whole_answer all found whole e f = subst (λ w. Answers all w (Ok found)) (sym f) e

cut_answer : (all : List CItem) (whole : Bool) (number : ℕ) → length all ≡ number → whole ≡ false → Answers all whole (Err (Refused number))
cut_answer all whole number e f = subst (λ w. Answers all w (Err (Refused number))) (sym f) e

pub returns-in_default-2-clause-read : goal.returns-in_default-2-clause-read
returns-in_default-2-clause-read c =
    let items = items_shown c.args.items.now in
    let front = subst (λ (t : List (List Token)). IsFront items c.loop-first.trees.items (items_shown t)) c.in-Some.ensures.cases.0 c.loop-first.invariant in
    let reads = stop_reads items c.loop-first.trees.items (item_shown c.in-Some.first.now) (items_shown c.in-Some.more.now) front
    (λ t form e. lost c.in_default-2.is (c.in_ok-tree.ensures.every t form (e ∙ ap item_shown (sym c.as_slice.ensures)))) in
    let number : length c.loop-first.trees.items ≡ c.len.result = omega (arith, c.len.ensures, c.loop-first.trees.ok.0) in
    (c.loop-first.trees.items, (reads, number))

pub returns-in_default-2-clause-every : goal.returns-in_default-2-clause-every
returns-in_default-2-clause-every c = λ all whole r.
    let items = items_shown c.args.items.now in
    let front = subst (λ (t : List (List Token)). IsFront items c.loop-first.trees.items (items_shown t)) c.in-Some.ensures.cases.0 c.loop-first.invariant in
    let stop = stop_every items c.loop-first.trees.items (item_shown c.in-Some.first.now) (items_shown c.in-Some.more.now) front
    (λ t form e. lost c.in_default-2.is (c.in_ok-tree.ensures.every t form (e ∙ ap item_shown (sym c.as_slice.ensures)))) all whole r in
    let number : length c.loop-first.trees.items ≡ c.len.result = omega (arith, c.len.ensures, c.loop-first.trees.ok.0) in
    cut_answer all whole c.len.result (ap (λ (t : List CItem). length t) (sym stop.same) ∙ number) stop.ends

pub loop-first-preserved : goal.loop-first-preserved
loop-first-preserved c =
    let items = items_shown c.args.items.now in
    let front = subst (λ (t : List (List Token)). IsFront items c.loop-first.trees.items (items_shown t)) c.in-Some.ensures.cases.0 c.loop-first.invariant in
    let some = subst (λ t. IfSome t (λ u. IsItem u × (item_spelling u ≡ item_shown c.as_slice.result.now))) c.in-Some-2.is c.in_ok-tree.ensures.some in
    let step = front_steps items c.loop-first.trees.items (item_shown c.in-Some.first.now) (items_shown c.in-Some.more.now) c.in-Some-2.tree front some.0
    (some.1 ∙ ap item_shown c.as_slice.ensures)
    (λ t form e. given c.in-Some-2.is (c.in_ok-tree.ensures.every t form (e ∙ ap item_shown (sym c.as_slice.ensures)))) in
    subst (λ (t : List CItem). IsFront items t (items_shown c.in-Some.more.now)) (sym c.in_ok-push.ensures.items) step

pub returns-clause-read : goal.returns-clause-read
returns-clause-read c =
    let items = items_shown c.args.items.now in
    let front = subst (λ (t : List (List Token)). IsFront items c.loop-first.trees.items (items_shown t)) (empty c.loop-first.rest.now c.in_default.ensures.cases) c.loop-first.invariant in
    subst (λ (t : List CItem). IsReading items t true) (sym c.from_vec.ensures) (whole_reads items c.loop-first.trees.items front)

pub returns-clause-every : goal.returns-clause-every
returns-clause-every c = λ all whole r.
    let items = items_shown c.args.items.now in
    let front = subst (λ (t : List (List Token)). IsFront items c.loop-first.trees.items (items_shown t)) (empty c.loop-first.rest.now c.in_default.ensures.cases) c.loop-first.invariant in
    let end = whole_every items c.loop-first.trees.items front all whole r in
    whole_answer all c.from_vec.result whole (c.from_vec.ensures ∙ end.same) end.ends
