use Rattle.std.proofs.Common.{◌≡◌, ◌++◌, drop}
use Rattle.cy_declared.specs.Shown.{declarations_shown}
use Rattle.cy_declared.specs.Variables.{declared_by}
use Rattle.type_uses.specs.Shown.{all_shown}
use Rattle.cy_declared.proofs.variable.note_declared_by.Given as goal

abbrev pub invariant-loop-found : goal.invariant-loop-found
invariant-loop-found l = declarations_shown l.initial.out.items ++ declared_by (all_shown l.uses) ≡ declarations_shown l.out.items ++ declared_by (all_shown (drop l.found-index l.uses))
