use Rattle.std.proofs.Common.{◌≡◌, ◌++◌, drop, map}
use Rattle.c_state.specs.Calls.{plain_parameter}
use Rattle.c_heads.proofs.heads.plain.Given as goal

abbrev pub invariant-loop-parameter : goal.invariant-loop-parameter
invariant-loop-parameter l = map plain_parameter l.parameters ≡ l.list ++ map plain_parameter (drop l.parameter-index l.parameters)
