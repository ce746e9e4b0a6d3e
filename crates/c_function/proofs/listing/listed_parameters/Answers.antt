use Rattle.std.proofs.Common.{◌≡◌, ◌∷◌, ◌++◌, [], List, Some, sym, ap, subst, ◌∙◌}
use Rattle.c_tree.specs.Forms.{IsParameter}
use Rattle.c_tree.specs.declared.item.Parameter.{Parameter}
use Rattle.c_tree.specs.Items.{parameter_spelling}
use Rattle.c_operand.proofs.Commas.{AreListed, item_every, listed_end, listed_first, listed_lost, listed_step}
use Rattle.c_function.proofs.listing.listed_parameters.Goals as goal

pub loop-input-init : goal.loop-input-init
loop-input-init c =
    let items : c.push.new.self.items ≡ c.in-Some.first ∷ [] = c.in_ok-push.ensures.items ∙ ap (λ (t : List Parameter). t ++ c.in-Some.first ∷ []) c.new-parameters.ensures.items in
    let P : List Parameter → Type 0 = λ z. AreListed IsParameter parameter_spelling c.args.input.now z c.parameter.new.input in
    subst P (sym items)
    (listed_first IsParameter parameter_spelling c.args.input.now c.parameter.new.input c.in-Some.first c.parameter.result c.in-Some.is c.in-Some.ensures.some.0 c.in-Some.ensures.some.1
    (item_every IsParameter parameter_spelling c.args.input.now c.parameter.result c.parameter.ensures.every))

pub returns-in_default-parameter-clause-every : goal.returns-in_default-parameter-clause-every
returns-in_default-parameter-clause-every c = λ all rest f e. absurd
    (listed_lost IsParameter parameter_spelling c.args.input.now c.loop-input.parameters.items c.loop-input.input c.fixed.new.self c.parameter-in-loop-input.result c.loop-input.invariant
    c.loop-input-test.ensures c.in_default-parameter.is
    (item_every IsParameter parameter_spelling c.fixed.new.self c.parameter-in-loop-input.result c.parameter-in-loop-input.ensures.every) all rest f e)

pub loop-input-preserved : goal.loop-input-preserved
loop-input-preserved c =
    let P : List Parameter → Type 0 = λ z. AreListed IsParameter parameter_spelling c.args.input.now z c.parameter-in-loop-input.new.input in
    subst P (sym c.in_ok-push-2.ensures.items)
    (listed_step IsParameter parameter_spelling c.args.input.now c.loop-input.parameters.items c.loop-input.input c.fixed.new.self c.parameter-in-loop-input.new.input c.in-Some-parameter.next
    c.parameter-in-loop-input.result c.loop-input.invariant c.loop-input-test.ensures c.in-Some-parameter.is c.in-Some-parameter.ensures.some.0 c.in-Some-parameter.ensures.some.1
    (item_every IsParameter parameter_spelling c.fixed.new.self c.parameter-in-loop-input.result c.parameter-in-loop-input.ensures.every))

pub returns-clause-every : goal.returns-clause-every
returns-clause-every c = λ all rest f e. ap (λ (t : List Parameter). Some t)
    (c.from_vec.ensures
    ∙ listed_end IsParameter parameter_spelling c.args.input.now c.loop-input.parameters.items c.loop-input.input c.loop-input.invariant c.loop-input-test.ensures.1 all rest f e)
