use Rattle.std.proofs.Common.{◌≡◌, ◌++◌, drop}
use Rattle.std.specs.List.{flat_map}
use Rattle.cy_declared.specs.Shown.{declarations_shown}
use Rattle.cy_declared.specs.Variables.{variables_in}
use Rattle.cy_declared.proofs.variable.note_variables.Given as goal

abbrev pub invariant-loop-top : goal.invariant-loop-top
invariant-loop-top l = declarations_shown l.initial.out.items ++ flat_map variables_in l.tops ≡ declarations_shown l.out.items ++ flat_map variables_in (drop l.top-index l.tops)
