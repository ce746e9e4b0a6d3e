use Rattle.std.proofs.Common.{length}
use Rattle.c_input.proofs.Strings.{IsUndone}
use Rattle.c_input.proofs.quoted.unquoted.Given as goal

abbrev pub invariant-loop-rest : goal.invariant-loop-rest
invariant-loop-rest l = IsUndone l.raw l.bytes.items l.rest

abbrev pub decreases-loop-rest : goal.decreases-loop-rest
decreases-loop-rest l = length l.rest
