use Rattle.std.proofs.Common.{◌≡◌, ◌++◌, drop}
use Rattle.thin_state.specs.Reads.{parameter_kinds_of}
use Rattle.thin_plan.proofs.entering.parameter_kinds_of.Given as goal

abbrev pub invariant-loop-parameter : goal.invariant-loop-parameter
invariant-loop-parameter l = parameter_kinds_of l.parameters ≡ l.kinds ++ parameter_kinds_of (drop l.parameter-index l.parameters)
