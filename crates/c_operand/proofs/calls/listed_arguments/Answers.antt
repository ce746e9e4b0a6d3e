use Rattle.std.proofs.Common.{◌≡◌, ◌∷◌, ◌++◌, [], List, Some, sym, ap, subst, ◌∙◌}
use Rattle.c_tree.specs.declared.statement.Argument.{Argument}
use Rattle.c_tree.specs.Forms.{IsArgument}
use Rattle.c_tree.specs.Statements.{argument_spelling}
use Rattle.c_operand.proofs.Commas.{AreListed, found, item_apart, listed_end, listed_first, listed_lost, listed_none, listed_step}
use Rattle.c_operand.proofs.calls.listed_arguments.Goals as goal

pub returns-in_default-clause-every : goal.returns-in_default-clause-every
returns-in_default-clause-every c = λ all rest f e. absurd
    (listed_none IsArgument argument_spelling c.args.input.now c.in_ok-first.field-0 c.in_default.is
    (item_apart IsArgument argument_spelling c.args.input.now c.in_ok-first.field-0 c.in_ok-first.ensures.every) all rest f e)

pub loop-alloc-init : goal.loop-alloc-init
loop-alloc-init c =
    let items : c.push.new.self.items ≡ c.in-Some.first ∷ [] = c.in_ok-push.ensures.items ∙ ap (λ (t : List Argument). t ++ c.in-Some.first ∷ []) c.new-all.ensures.items in
    let first = found IsArgument argument_spelling c.args.input.now c.in_ok-first.field-0 c.argument.new.input c.in-Some.first c.in-Some.is c.in_ok-first.ensures.some in
    let P : List Argument → Type 0 = λ z. AreListed IsArgument argument_spelling c.args.input.now z c.argument.new.input in
    subst P (sym items)
    (listed_first IsArgument argument_spelling c.args.input.now c.argument.new.input c.in-Some.first c.in_ok-first.field-0 c.in-Some.is first.0 first.1
    (item_apart IsArgument argument_spelling c.args.input.now c.in_ok-first.field-0 c.in_ok-first.ensures.every))

pub returns-in_default-2-clause-every : goal.returns-in_default-2-clause-every
returns-in_default-2-clause-every c = λ all rest f e. absurd
    (listed_lost IsArgument argument_spelling c.args.input.now c.loop-alloc.all.items c.loop-alloc.input c.fixed.new.self c.in_ok-next.field-0 c.loop-alloc.invariant
    c.loop-alloc-test.ensures c.in_default-2.is
    (item_apart IsArgument argument_spelling c.fixed.new.self c.in_ok-next.field-0 c.in_ok-next.ensures.every) all rest f e)

pub loop-alloc-preserved : goal.loop-alloc-preserved
loop-alloc-preserved c =
    let next = found IsArgument argument_spelling c.fixed.new.self c.in_ok-next.field-0 c.argument-in-loop-alloc.new.input c.in-Some-2.next c.in-Some-2.is c.in_ok-next.ensures.some in
    let P : List Argument → Type 0 = λ z. AreListed IsArgument argument_spelling c.args.input.now z c.argument-in-loop-alloc.new.input in
    subst P (sym c.in_ok-push-2.ensures.items)
    (listed_step IsArgument argument_spelling c.args.input.now c.loop-alloc.all.items c.loop-alloc.input c.fixed.new.self c.argument-in-loop-alloc.new.input c.in-Some-2.next
    c.in_ok-next.field-0 c.loop-alloc.invariant c.loop-alloc-test.ensures c.in-Some-2.is next.0 next.1
    (item_apart IsArgument argument_spelling c.fixed.new.self c.in_ok-next.field-0 c.in_ok-next.ensures.every))

pub returns-clause-every : goal.returns-clause-every
returns-clause-every c = λ all rest f e. ap (λ (t : List Argument). Some t)
    (c.from_vec.ensures
    ∙ listed_end IsArgument argument_spelling c.args.input.now c.loop-alloc.all.items c.loop-alloc.input c.loop-alloc.invariant c.loop-alloc-test.ensures.1 all rest f e)
