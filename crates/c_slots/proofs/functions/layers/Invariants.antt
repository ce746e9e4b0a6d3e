use Rattle.std.proofs.Common.{length}
use Rattle.c_input.proofs.Lists.{IsRead}
use Rattle.c_slots.specs.Tables.{layer_tokens, AreFunctions, EndsTable}
use Rattle.c_slots.proofs.functions.layers.Given as goal

abbrev pub invariant-loop-alloc : goal.invariant-loop-alloc
invariant-loop-alloc l = IsRead AreFunctions layer_tokens EndsTable l.fn.input l.layers.items l.input

abbrev pub decreases-loop-alloc : goal.decreases-loop-alloc
decreases-loop-alloc l = length l.input
