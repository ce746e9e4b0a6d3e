use Rattle.std.proofs.Common.{List, Some, refl, sym, ap, subst, ◌∙◌}
use Rattle.c_tree.specs.declared.item.Slot.{Slot}
use Rattle.c_input.proofs.Lists.{item_every, read_end, read_missed, read_step, IsRead}
use Rattle.c_slots.specs.Slots.{slot_tokens, Closes, IsSlot}
use Rattle.c_slots.proofs.Firsts.{slot_no_close}
use Rattle.c_slots.proofs.Steps.{never}
use Rattle.c_slots.proofs.slot.slots.Goals as goal

pub returns-in_default-clause-every : goal.returns-in_default-clause-every
returns-in_default-clause-every c = λ all rest f closes e. absurd
    (read_missed IsSlot slot_tokens Closes c.args.input.now c.loop-alloc.slots.items c.loop-alloc.input c.in_ok-next.field-0 c.loop-alloc.invariant (λ z. never (c.loop-alloc-test.ensures.1 z)) c.in_default.is
    (item_every IsSlot slot_tokens Closes c.loop-alloc.input c.in_ok-next.field-0 c.in_ok-next.ensures.every) all rest f closes e)

pub loop-alloc-preserved : goal.loop-alloc-preserved
loop-alloc-preserved c =
    let P : List Slot → Type 0 = λ z. IsRead IsSlot slot_tokens Closes c.args.input.now z c.slot.new.input in
    subst P (sym c.in_ok-push.ensures.items)
    (read_step IsSlot slot_tokens Closes c.args.input.now c.loop-alloc.slots.items c.loop-alloc.input c.in_ok-next.field-0 c.in-Some.next c.slot.new.input c.loop-alloc.invariant (λ z. never (c.loop-alloc-test.ensures.1 z))
    c.in-Some.is c.in_ok-next.ensures.some (item_every IsSlot slot_tokens Closes c.loop-alloc.input c.in_ok-next.field-0 c.in_ok-next.ensures.every))

pub returns-clause-every : goal.returns-clause-every
returns-clause-every c = λ all rest f closes e. ap (λ (t : List Slot). Some t)
    (c.from_vec.ensures
    ∙ (read_end IsSlot slot_tokens Closes c.args.input.now c.loop-alloc.slots.items c.loop-alloc.input c.loop-alloc.invariant
    (λ y ys fy k. slot_no_close c.loop-alloc.input y ys (c.loop-alloc-test.ensures.0 refl) k) all rest f closes e).same)
