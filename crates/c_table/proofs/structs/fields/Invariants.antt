use Rattle.std.proofs.Common.{◌≡◌, ◌<◌, ◌^◌, length}
use Rattle.c_table.proofs.Fields.{AreRead}
use Rattle.c_table.proofs.structs.fields.Given as goal

abbrev pub invariant-loop-input : goal.invariant-loop-input
invariant-loop-input l = AreRead l.initial.input l.kinds l.input × (l.number ≡ length l.kinds) × (l.number < 2 ^ 32)

abbrev pub decreases-loop-input : goal.decreases-loop-input
decreases-loop-input l = length l.input
