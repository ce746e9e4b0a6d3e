use Rattle.std.proofs.Common.{◌∷◌, Some, ◌∙◌}
use Rattle.std.specs.Prelude.{⊤}
use Rattle.c_token.specs.CTokens.{sign}
use Rattle.c_tree.specs.Items.{types_spelling}
use Rattle.c_input.proofs.Rows.{left_of, next_one, value_of}
use Rattle.c_slots.specs.Slots.{head_tokens}
use Rattle.c_slots.proofs.Firsts.{slot_parts}
use Rattle.c_slots.proofs.Steps.{lost}
use Rattle.c_slots.proofs.slot.slot.Goals as goal

pub returns-in_default-clause-every : goal.returns-in_default-clause-every
returns-in_default-clause-every c = λ x rest form e.
    absurd (cc (c.in_default.ensures.every (record { result = x.result; number = x.number }) _ form (e ∙ slot_parts x rest)))

pub returns-in_default-2-clause-every : goal.returns-in_default-2-clause-every
returns-in_default-2-clause-every c = λ x rest form e.
    let e1 = e ∙ slot_parts x rest in
    let head = c.in-Some.ensures.every (record { result = x.result; number = x.number }) _ form e1 in
    let e2 = left_of head_tokens head c.in-Some.ensures.some.1 e1 in
    absurd (lost c.in_default-2.is (c.in_ok-parameters.ensures.every x.parameters _ tt e2))

pub returns-then-not-fixed-clause-every : goal.returns-then-not-fixed-clause-every
returns-then-not-fixed-clause-every c = λ x rest form e.
    let e1 = e ∙ slot_parts x rest in
    let head = c.in-Some.ensures.every (record { result = x.result; number = x.number }) _ form e1 in
    let e2 = left_of head_tokens head c.in-Some.ensures.some.1 e1 in
    let known = c.in_ok-parameters.ensures.every x.parameters _ tt e2 in
    let n = next_one (λ _. ⊤) types_spelling c.head.new.input c.in_ok-parameters.field-0 c.types.new.input c.in-Some-2.parameters x.parameters (sign ";" ∷ rest)
    c.in-Some-2.is c.in_ok-parameters.ensures.some known e2 in
    absurd (c.if-not-fixed.ensures.1 rest n.left)

pub returns-clause-every : goal.returns-clause-every
returns-clause-every c = λ x rest form e.
    let e1 = e ∙ slot_parts x rest in
    let head = c.in-Some.ensures.every (record { result = x.result; number = x.number }) _ form e1 in
    let e2 = left_of head_tokens head c.in-Some.ensures.some.1 e1 in
    let known = c.in_ok-parameters.ensures.every x.parameters _ tt e2 in
    let n = next_one (λ _. ⊤) types_spelling c.head.new.input c.in_ok-parameters.field-0 c.types.new.input c.in-Some-2.parameters x.parameters (sign ";" ∷ rest)
    c.in-Some-2.is c.in_ok-parameters.ensures.some known e2 in
    let same = value_of head in
    λ i. Some (record { result = (same i).result; number = (same i).number; parameters = n.same i })
