use Rattle.std.proofs.Common.{◌≡◌, ◌++◌, drop, map}
use Rattle.std.specs.Option.{option_copied}
use Rattle.cy_declared.specs.Shown.{declarations_shown}
use Rattle.cy_declared.proofs.field.note_names.Given as goal

abbrev pub invariant-loop-name : goal.invariant-loop-name
invariant-loop-name l = declarations_shown l.initial.out.items ++ map (λ i. (i, option_copied l.kind)) l.names ≡ declarations_shown l.out.items ++ map (λ i. (i, option_copied l.kind)) (drop l.name-index l.names)
