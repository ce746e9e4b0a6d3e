use Rattle.std.proofs.Common.{◌≡◌, ◌++◌, drop}
use Rattle.cy_declared.specs.Functions.{param_types}
use Rattle.cy_declared.proofs.signature.note_param_types.Given as goal

abbrev pub invariant-loop-param : goal.invariant-loop-param
invariant-loop-param l = l.initial.out ++ param_types l.known l.set l.«module» l.params ≡ l.out ++ param_types l.known l.set l.«module» (drop l.param-index l.params)
