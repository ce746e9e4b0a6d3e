use Rattle.std.proofs.Common.{◌≡◌, ◌+◌, drop}
use Rattle.c_slots.specs.Slots.{are_numbered_from}
use Rattle.c_slots.proofs.numbering.are_numbered_from.Given as goal

abbrev pub invariant-loop-slot : goal.invariant-loop-slot
invariant-loop-slot l = (l.number ≡ l.first + l.slot-index) × (are_numbered_from l.first l.slots ≡ are_numbered_from l.number (drop l.slot-index l.slots))
