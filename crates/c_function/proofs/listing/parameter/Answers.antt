use Rattle.std.proofs.Common.{◌≡◌, ◌∷◌, [], Some, ◌∙◌}
use Rattle.std.specs.Prelude.{⊤}
use Rattle.c_tree.specs.declared.name.Variable.TheVariants as variable
use Rattle.c_tree.specs.declared.value.CType.{CType}
use Rattle.c_tree.specs.Names.{variable_token}
use Rattle.c_tree.specs.Values.{type_spelling}
use Rattle.c_input.proofs.Rows.{next}
use Rattle.c_function.proofs.Rows.{one_value}
use Rattle.c_operand.proofs.Commas.{append_assoc}
use Rattle.c_function.proofs.listing.parameter.Goals as goal

pub returns-in_err-number-clause-every : goal.returns-in_err-number-clause-every
returns-in_err-number-clause-every c = λ x rest form e.
    let name = variable_token (variable.Parameter x.number) in
    let n = next (λ (_ : CType). ⊤) type_spelling c.args.input.now c.kind.result c.kind.new.input c.in_ok-kind.kind x.kind (name ∷ rest) c.in_ok-kind.was c.kind.ensures.some c.kind.ensures.every tt
    (e ∙ append_assoc (type_spelling x.kind) (name ∷ []) rest) in
    absurd (cc (c.in_err-number.ensures.every x.number rest form n.left))

pub returns-clause-every : goal.returns-clause-every
returns-clause-every c = λ x rest form e.
    let name = variable_token (variable.Parameter x.number) in
    let n = next (λ (_ : CType). ⊤) type_spelling c.args.input.now c.kind.result c.kind.new.input c.in_ok-kind.kind x.kind (name ∷ rest) c.in_ok-kind.was c.kind.ensures.some c.kind.ensures.every tt
    (e ∙ append_assoc (type_spelling x.kind) (name ∷ []) rest) in
    let number : c.in_ok-number.number ≡ x.number = one_value _ _ (c.in_ok-number.ensures.every x.number rest form n.left) in
    λ i. Some (record { kind = n.same i; number = number i })
