use Rattle.std.proofs.Common.{◌≡◌, ◌++◌, drop}
use Rattle.c_state.specs.Calls.{kinds_in}
use Rattle.c_heads.proofs.heads.kinds_in.Given as goal

abbrev pub invariant-loop-kind : goal.invariant-loop-kind
invariant-loop-kind l = kinds_in l.types ≡ l.kinds ++ kinds_in (drop l.kind-index l.types)
