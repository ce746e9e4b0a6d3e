use Rattle.std.proofs.Common.{◌≡◌, ◌++◌, drop}
use Rattle.c_state.specs.Calls.{kinds_of}
use Rattle.c_heads.proofs.heads.kinds_of.Given as goal

abbrev pub invariant-loop-parameter : goal.invariant-loop-parameter
invariant-loop-parameter l = kinds_of l.parameters ≡ l.kinds ++ kinds_of (drop l.parameter-index l.parameters)
