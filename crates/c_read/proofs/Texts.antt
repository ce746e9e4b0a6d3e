-- From the items of a text to the text.
use Rattle.std.proofs.Common.{◌≡◌, ℕ, ◌<◌, ◌≤◌, ◌^◌, List, length, sym, ap, subst, arith, ◌∙◌}
use Rattle.std.specs.Prelude.{Bool, true, false, Result, Ok, Err}
use Rattle.std.specs.List.{AllByRecursion}
use Rattle.std.proofs.lemmas.List.{length-map}
use Rattle.c_token.specs.CTokens.{CToken, c_tokens}
use Rattle.c_token.specs.Cutting.{c_items}
use Rattle.c_cut.specs.declared.token.Token.{Token}
use Rattle.c_cut.specs.Shown.{item_shown, items_shown}
use Rattle.c_tree.specs.declared.item.CItem.{CItem}
use Rattle.c_tree.specs.Forms.{IsFile, IsItem}
use Rattle.c_tree.specs.Reading.{c_reading, IsReading}
use Rattle.c_read.specs.declared.stop.CStop.{CStop}
use Rattle.c_read.specs.declared.stop.CStop.TheVariants as stop
use Rattle.c_read.specs.Answers.{Answers, IsAnswer}
use Rattle.c_read.proofs.Counts.{few_items}

reads : (bytes : List ℕ) (items : List (List CToken)) (trees : List CItem) (whole : Bool) → items ≡ c_items (c_tokens bytes) → IsReading items trees whole → c_reading bytes trees whole
unfolding c_reading
reads bytes items trees whole e r = subst (λ t. IsReading t trees whole) e r

read : (bytes : List ℕ) (items : List (List CToken)) (trees : List CItem) (whole : Bool) → items ≡ c_items (c_tokens bytes) → c_reading bytes trees whole → IsReading items trees whole
unfolding c_reading
read bytes items trees whole e r = subst (λ t. IsReading t trees whole) (sym e) r

pub text_answer : (bytes : List ℕ) (items : List (List CToken)) (result : Result (List CItem) CStop) → items ≡ c_items (c_tokens bytes) → IsAnswer (IsReading items) result → IsAnswer (c_reading bytes) result
text_answer bytes items (Ok trees) e h = reads bytes items trees true e h
text_answer bytes items (Err (stop.Refused number)) e h = (h.0, (reads bytes items h.0 false e h.1.0, h.1.1))
text_answer bytes items (Err stop.Memory) e h = tt

pub text_every : (bytes : List ℕ) (items : List (List CToken)) (result : Result (List CItem) CStop) → items ≡ c_items (c_tokens bytes)
    → ((all : List CItem) (whole : Bool) → IsReading items all whole → Answers all whole result)
    → (all : List CItem) (whole : Bool) → c_reading bytes all whole → Answers all whole result
text_every bytes items result e h all whole r = h all whole (read bytes items all whole e r)

pub file_form : (trees : List CItem) → AllByRecursion IsItem trees → IsFile (record { items = trees })
unfolding IsFile
file_form trees h = h

pub items_fit : (bytes : List ℕ) (items : List (List Token)) → items_shown items ≡ c_items (c_tokens bytes) → length bytes < 2 ^ 32 → length items ≤ 2 ^ 32
items_fit bytes items e h =
    let few = few_items bytes in
    let same : length items ≡ length (c_items (c_tokens bytes)) = sym (length-map items item_shown) ∙ ap (λ (t : List (List CToken)). length t) e in
    omega arith
