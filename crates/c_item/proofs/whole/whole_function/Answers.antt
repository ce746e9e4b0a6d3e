use Rattle.std.proofs.Common.{◌≡◌, ◌++◌, [], sym, subst, ◌∙◌}
use Rattle.std.specs.Prelude.{Option}
use Rattle.c_tree.specs.declared.item.CFunction.{CFunction}
use Rattle.c_tree.specs.Forms.{IsFunction}
use Rattle.c_tree.specs.Items.{function_spelling}
use Rattle.c_input.specs.Reads.{Finds}
use Rattle.c_input.proofs.Rows.{same_left}
use Rattle.c_item.proofs.Lasts.{append_nil}
use Rattle.c_item.proofs.whole.whole_function.Goals as goal

pub returns-then-is_done-clause-every : goal.returns-then-is_done-clause-every
returns-then-is_done-clause-every c = λ f form e. c.in_ok-found.ensures.every f [] form (c.new-input.ensures ∙ (sym e ∙ sym (append_nil (function_spelling f))))

pub returns-else-is_done-clause-every : goal.returns-else-is_done-clause-every
returns-else-is_done-clause-every c = λ f form e.
    let old : c.new-input.result ≡ function_spelling f ++ [] = c.new-input.ensures ∙ (sym e ∙ sym (append_nil (function_spelling f))) in
    let found = c.in_ok-found.ensures.every f [] form old in
    let P : Option CFunction → Type 0 = λ z. Finds IsFunction function_spelling c.new-input.result z c.function.new.input in
    let read = subst P found c.in_ok-found.ensures.some in
    let done = same_left (function_spelling f) c.function.new.input [] (sym read.1 ∙ old) in
    absurd (cc (c.if-is_done.ensures.1 done))
