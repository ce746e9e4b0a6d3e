use Rattle.std.proofs.Common.{◌≡◌, ◌∷◌, Some, refl, sym, ap, subst, ◌∙◌}
use Rattle.std.specs.List.{flat_map, AllByRecursion}
use Rattle.c_token.specs.CTokens.{sign}
use Rattle.c_tree.specs.Forms.{AreSlots}
use Rattle.c_input.proofs.Rows.{left_of, next_one, value_of}
use Rattle.c_slots.specs.declared.structs.Opened.{Opened}
use Rattle.c_slots.specs.Slots.{opened_tokens, slot_tokens, IsSlot}
use Rattle.c_slots.proofs.Firsts.{struct_parts}
use Rattle.c_slots.proofs.Numbers.{slots_within}
use Rattle.c_slots.proofs.Steps.{lost, never}
use Rattle.c_slots.proofs.structs.table_struct.Goals as goal

pub returns-in_default-clause-every : goal.returns-in_default-clause-every
returns-in_default-clause-every c = λ x rest form e.
    let e1 = e ∙ struct_parts x rest in
    let opened : Opened = record { class = x.class; base = x.base } in
    absurd (cc (c.in_default.ensures.every opened _ (form.0, form.1) e1))

pub returns-in_default-2-clause-every : goal.returns-in_default-2-clause-every
returns-in_default-2-clause-every c = λ x rest form e.
    let e1 = e ∙ struct_parts x rest in
    let opened : Opened = record { class = x.class; base = x.base } in
    let start = c.in-Some.ensures.every opened _ (form.0, form.1) e1 in
    let e2 = left_of opened_tokens start c.in-Some.ensures.some.1 e1 in
    let known = c.in_ok-slots.ensures.every x.slots _ (slots_within x.base x.slots form.2) refl e2 in
    absurd (lost c.in_default-2.is known)

pub returns-then-not-fixed-clause-every : goal.returns-then-not-fixed-clause-every
returns-then-not-fixed-clause-every c = λ x rest form e.
    let e1 = e ∙ struct_parts x rest in
    let opened : Opened = record { class = x.class; base = x.base } in
    let start = c.in-Some.ensures.every opened _ (form.0, form.1) e1 in
    let e2 = left_of opened_tokens start c.in-Some.ensures.some.1 e1 in
    let known = c.in_ok-slots.ensures.every x.slots _ (slots_within x.base x.slots form.2) refl e2 in
    let n = next_one (λ all. AllByRecursion IsSlot all) (flat_map slot_tokens) c.start.new.input c.in_ok-slots.field-0 c.slots.new.input c.in-Some-2.slots x.slots (sign "}" ∷ sign ";" ∷ rest)
    c.in-Some-2.is c.in_ok-slots.ensures.some known e2 in
    absurd (c.if-not-fixed.ensures.1 rest n.left)

pub returns-then-are_slots-clause-every : goal.returns-then-are_slots-clause-every
returns-then-are_slots-clause-every c = λ x rest form e.
    let e1 = e ∙ struct_parts x rest in
    let opened : Opened = record { class = x.class; base = x.base } in
    let start = c.in-Some.ensures.every opened _ (form.0, form.1) e1 in
    let e2 = left_of opened_tokens start c.in-Some.ensures.some.1 e1 in
    let known = c.in_ok-slots.ensures.every x.slots _ (slots_within x.base x.slots form.2) refl e2 in
    let n = next_one (λ all. AllByRecursion IsSlot all) (flat_map slot_tokens) c.start.new.input c.in_ok-slots.field-0 c.slots.new.input c.in-Some-2.slots x.slots (sign "}" ∷ sign ";" ∷ rest)
    c.in-Some-2.is c.in_ok-slots.ensures.some known e2 in
    let same = value_of start in
    λ i. Some (record { class = (same i).class; base = (same i).base; slots = n.same i })

pub returns-else-are_slots-clause-every : goal.returns-else-are_slots-clause-every
returns-else-are_slots-clause-every c = λ x rest form e.
    let e1 = e ∙ struct_parts x rest in
    let opened : Opened = record { class = x.class; base = x.base } in
    let start = c.in-Some.ensures.every opened _ (form.0, form.1) e1 in
    let e2 = left_of opened_tokens start c.in-Some.ensures.some.1 e1 in
    let known = c.in_ok-slots.ensures.every x.slots _ (slots_within x.base x.slots form.2) refl e2 in
    let n = next_one (λ all. AllByRecursion IsSlot all) (flat_map slot_tokens) c.start.new.input c.in_ok-slots.field-0 c.slots.new.input c.in-Some-2.slots x.slots (sign "}" ∷ sign ";" ∷ rest)
    c.in-Some-2.is c.in_ok-slots.ensures.some known e2 in
    let base : c.in-Some.start.base ≡ x.base = ap (λ (o : Opened). o.base) (value_of start) in
    let there = c.as_slice.ensures ∙ n.same in
    let within = subst (λ all. AllByRecursion IsSlot all) (sym there) (slots_within x.base x.slots form.2) in
    let form = subst (λ b. AreSlots b c.as_slice.result.now) (sym base) (subst (λ all. AreSlots x.base all) (sym there) form.2) in
    absurd (never ((c.if-are_slots.ensures within).1 form))
