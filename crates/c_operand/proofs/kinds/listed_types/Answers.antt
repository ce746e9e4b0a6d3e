use Rattle.std.proofs.Common.{◌≡◌, ◌∷◌, ◌++◌, [], List, Some, sym, ap, subst, ◌∙◌}
use Rattle.std.specs.Prelude.{⊤}
use Rattle.c_tree.specs.declared.value.CType.{CType}
use Rattle.c_tree.specs.Values.{type_spelling}
use Rattle.c_operand.proofs.Commas.{AreListed, item_every, listed_end, listed_first, listed_lost, listed_step}
use Rattle.c_operand.proofs.kinds.listed_types.Goals as goal

pub loop-input-init : goal.loop-input-init
loop-input-init c =
    let items : c.push.new.self.items ≡ c.in-Some.first ∷ [] = c.in_ok-push.ensures.items ∙ ap (λ (t : List CType). t ++ c.in-Some.first ∷ []) c.new-kinds.ensures.items in
    let P : List CType → Type 0 = λ z. AreListed (λ (_ : CType). ⊤) type_spelling c.args.input.now z c.kind.new.input in
    subst P (sym items)
    (listed_first (λ (_ : CType). ⊤) type_spelling c.args.input.now c.kind.new.input c.in-Some.first c.kind.result c.in-Some.is tt c.in-Some.ensures.some.1
    (item_every (λ (_ : CType). ⊤) type_spelling c.args.input.now c.kind.result c.kind.ensures.every))

pub returns-in_default-kind-clause-every : goal.returns-in_default-kind-clause-every
returns-in_default-kind-clause-every c = λ all rest f e. absurd
    (listed_lost (λ (_ : CType). ⊤) type_spelling c.args.input.now c.loop-input.kinds.items c.loop-input.input c.fixed.new.self c.kind-in-loop-input.result c.loop-input.invariant
    c.loop-input-test.ensures c.in_default-kind.is
    (item_every (λ (_ : CType). ⊤) type_spelling c.fixed.new.self c.kind-in-loop-input.result c.kind-in-loop-input.ensures.every) all rest f e)

pub loop-input-preserved : goal.loop-input-preserved
loop-input-preserved c =
    let P : List CType → Type 0 = λ z. AreListed (λ (_ : CType). ⊤) type_spelling c.args.input.now z c.kind-in-loop-input.new.input in
    subst P (sym c.in_ok-push-2.ensures.items)
    (listed_step (λ (_ : CType). ⊤) type_spelling c.args.input.now c.loop-input.kinds.items c.loop-input.input c.fixed.new.self c.kind-in-loop-input.new.input c.in-Some-kind.next
    c.kind-in-loop-input.result c.loop-input.invariant c.loop-input-test.ensures c.in-Some-kind.is tt c.in-Some-kind.ensures.some.1
    (item_every (λ (_ : CType). ⊤) type_spelling c.fixed.new.self c.kind-in-loop-input.result c.kind-in-loop-input.ensures.every))

pub returns-clause-every : goal.returns-clause-every
returns-clause-every c = λ all rest f e. ap (λ (t : List CType). Some t)
    (c.from_vec.ensures
    ∙ listed_end (λ (_ : CType). ⊤) type_spelling c.args.input.now c.loop-input.kinds.items c.loop-input.input c.loop-input.invariant c.loop-input-test.ensures.1 all rest f e)
