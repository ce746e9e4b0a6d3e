use Rattle.std.proofs.Common.{◌≡◌, ◌++◌, drop, map}
use Rattle.cy_declared.specs.Shown.{all_typed_shown}
use Rattle.cy_declared.specs.Variables.{typed_param}
use Rattle.cy_declared.proofs.local.note_params.Given as goal

abbrev pub invariant-loop-param : goal.invariant-loop-param
invariant-loop-param l = all_typed_shown l.initial.out.items ++ map (typed_param l.known l.set l.«module») l.params ≡ all_typed_shown l.out.items ++ map (typed_param l.known l.set l.«module») (drop l.param-index l.params)
