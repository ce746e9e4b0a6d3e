use Rattle.std.proofs.Common.{◌≡◌, ◌++◌, ◌∷◌, List, Some, sym, ap, ◌∙◌}
use Rattle.std.specs.Prelude.{⊤}
use Rattle.c_token.specs.CTokens.{CToken}
use Rattle.c_tree.specs.declared.value.CType.{CType}
use Rattle.c_tree.specs.Items.{initial_spelling}
use Rattle.c_tree.specs.Names.{variable_token}
use Rattle.c_tree.specs.Values.{type_spelling}
use Rattle.c_input.proofs.Rows.{next}
use Rattle.c_operand.proofs.Commas.{append_assoc}
use Rattle.c_operand.proofs.Opens.{not_false}
use Rattle.c_function.proofs.Texts.{initials}
use Rattle.c_function.proofs.Rows.{declared_no_place, declared_variable, no_place, one_value, second}
use Rattle.c_function.specs.Parts.{is_place}
use Rattle.c_function.proofs.declared.declaration.Goals as goal

pub returns-in_err-variable-clause-every : goal.returns-in_err-variable-clause-every
returns-in_err-variable-clause-every c = λ x rest form e.
    let n = next (λ (_ : CType). ⊤) type_spelling c.args.input.now c.kind.result c.kind.new.input c.in_ok-kind.kind x.kind (variable_token x.variable ∷ (initial_spelling x.initial ++ rest)) c.in_ok-kind.was
    c.kind.ensures.some c.kind.ensures.every tt (e ∙ append_assoc (type_spelling x.kind) (variable_token x.variable ∷ initial_spelling x.initial) rest) in
    absurd (cc (c.in_err-variable.ensures.every x.variable (initial_spelling x.initial ++ rest) (declared_variable x.variable form) n.left))

pub returns-then-is_place-clause-every : goal.returns-then-is_place-clause-every
returns-then-is_place-clause-every c = λ x rest form e.
    let n = next (λ (_ : CType). ⊤) type_spelling c.args.input.now c.kind.result c.kind.new.input c.in_ok-kind.kind x.kind (variable_token x.variable ∷ (initial_spelling x.initial ++ rest)) c.in_ok-kind.was
    c.kind.ensures.some c.kind.ensures.every tt (e ∙ append_assoc (type_spelling x.kind) (variable_token x.variable ∷ initial_spelling x.initial) rest) in
    let same : c.in_ok-variable.variable ≡ x.variable = one_value _ _ (c.in_ok-variable.ensures.every x.variable (initial_spelling x.initial ++ rest) (declared_variable x.variable form) n.left) in
    absurd (not_false (ap is_place same ∙ declared_no_place x.variable form) (sym c.is_place.ensures ∙ c.if-is_place.true))

pub returns-in_err-initial-clause-every : goal.returns-in_err-initial-clause-every
returns-in_err-initial-clause-every c = λ x rest form e.
    let n = next (λ (_ : CType). ⊤) type_spelling c.args.input.now c.kind.result c.kind.new.input c.in_ok-kind.kind x.kind (variable_token x.variable ∷ (initial_spelling x.initial ++ rest)) c.in_ok-kind.was
    c.kind.ensures.some c.kind.ensures.every tt (e ∙ append_assoc (type_spelling x.kind) (variable_token x.variable ∷ initial_spelling x.initial) rest) in
    let m = second x.variable (initial_spelling x.initial ++ rest) c.kind.new.input c.variable.new.self c.variable.result c.in_ok-variable.variable c.in_ok-variable.was c.variable.ensures.some c.variable.ensures.every (declared_variable x.variable form) n.left in
    absurd (cc (c.in_err-initial.ensures.every x.initial rest tt (m.left ∙ ap (λ (t : List CToken). t ++ rest) (initials x.initial))))

pub returns-clause-every : goal.returns-clause-every
returns-clause-every c = λ x rest form e.
    let n = next (λ (_ : CType). ⊤) type_spelling c.args.input.now c.kind.result c.kind.new.input c.in_ok-kind.kind x.kind (variable_token x.variable ∷ (initial_spelling x.initial ++ rest)) c.in_ok-kind.was
    c.kind.ensures.some c.kind.ensures.every tt (e ∙ append_assoc (type_spelling x.kind) (variable_token x.variable ∷ initial_spelling x.initial) rest) in
    let m = second x.variable (initial_spelling x.initial ++ rest) c.kind.new.input c.variable.new.self c.variable.result c.in_ok-variable.variable c.in_ok-variable.was c.variable.ensures.some c.variable.ensures.every (declared_variable x.variable form) n.left in
    let initial : c.in_ok-initial.initial ≡ x.initial = one_value _ _ (c.in_ok-initial.ensures.every x.initial rest tt (m.left ∙ ap (λ (t : List CToken). t ++ rest) (initials x.initial))) in
    λ i. Some (record { kind = n.same i; variable = m.same i; initial = initial i })

pub returns-clause-some : goal.returns-clause-some
returns-clause-some c =
    let kind = c.in_ok-kind.ensures.some.1 in
    let variable = c.in_ok-variable.ensures.some in
    let initial = c.in_ok-initial.ensures.some.1 in
    let i = c.in_ok-initial.initial in
    let name = variable_token c.in_ok-variable.variable in (
      no_place c.in_ok-variable.variable variable.0 (sym c.is_place.ensures ∙ c.if-is_place.false),
      kind ∙ (ap (λ (t : List CToken). type_spelling c.in_ok-kind.kind ++ t) (variable.1 ∙ ap (λ (t : List CToken). name ∷ t) (initial ∙ ap (λ (t : List CToken). t ++ c.initial.new.input) (sym (initials i))))
          ∙ sym (append_assoc (type_spelling c.in_ok-kind.kind) (name ∷ initial_spelling i) c.initial.new.input)),
    )
