use Rattle.std.proofs.Common.{◌≡◌, ◌++◌, drop, map}
use Rattle.cy_declared.specs.Shown.{declarations_shown}
use Rattle.cy_declared.specs.Types.{place_type}
use Rattle.cy_declared.proofs.variable.note_types.Given as goal

abbrev pub invariant-loop-declaration : goal.invariant-loop-declaration
invariant-loop-declaration l =
    l.initial.out ++ map (λ d. place_type l.known l.set l.scope d.1) (declarations_shown l.declared)
    ≡ l.out ++ map (λ d. place_type l.known l.set l.scope d.1) (declarations_shown (drop l.declaration-index l.declared))
