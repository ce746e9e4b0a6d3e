use Rattle.std.proofs.Common.{◌≡◌, ◌++◌, drop, map}
use Rattle.cy_scope.specs.Files.{modules_from}
use Rattle.cy_scope.specs.Scopes.{module_scope, scopes_shown}
use Rattle.cy_scope.proofs.scopes.note_modules.Given as goal

abbrev pub invariant-loop-place : goal.invariant-loop-place
invariant-loop-place l = scopes_shown l.initial.out ++ map (module_scope l.known l.set) (modules_from 0 l.set.order) ≡ scopes_shown l.out ++ map (module_scope l.known l.set) (modules_from l.place (drop l.place l.set.order))
