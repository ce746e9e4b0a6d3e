use Rattle.std.proofs.Common.{◌≡◌, ◌++◌, drop, map}
use Rattle.cy_declared.specs.Shown.{all_typed_shown, declarations_shown}
use Rattle.cy_declared.specs.Variables.{typed_declaration}
use Rattle.cy_declared.proofs.local.note_declarations.Given as goal

abbrev pub invariant-loop-declaration : goal.invariant-loop-declaration
invariant-loop-declaration l = all_typed_shown l.initial.out.items ++ map (typed_declaration l.known l.set l.scope) (declarations_shown l.declared) ≡ all_typed_shown l.out.items ++ map (typed_declaration l.known l.set l.scope) (declarations_shown (drop l.declaration-index l.declared))
