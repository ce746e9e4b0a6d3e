use Rattle.std.proofs.Common.{length}
use Rattle.c_input.proofs.Lists.{IsRead}
use Rattle.c_slots.specs.Slots.{slot_tokens, Closes, IsSlot}
use Rattle.c_slots.proofs.slot.slots.Given as goal

abbrev pub invariant-loop-alloc : goal.invariant-loop-alloc
invariant-loop-alloc l = IsRead IsSlot slot_tokens Closes l.fn.input l.slots.items l.input

abbrev pub decreases-loop-alloc : goal.decreases-loop-alloc
decreases-loop-alloc l = length l.input
