use Rattle.std.proofs.Common.{length}
use Rattle.c_input.proofs.Lists.{IsRead}
use Rattle.c_slots.specs.Slots.{Closes}
use Rattle.c_slots.specs.Tables.{behind_comma}
use Rattle.c_tree.specs.Forms.{IsFunctionName}
use Rattle.c_slots.proofs.functions.functions_behind.Given as goal

abbrev pub invariant-loop-alloc : goal.invariant-loop-alloc
invariant-loop-alloc l = IsRead IsFunctionName behind_comma Closes l.fn.input l.functions.items l.input

abbrev pub decreases-loop-alloc : goal.decreases-loop-alloc
decreases-loop-alloc l = length l.input
