use Rattle.std.proofs.Common.{◌≡◌, ◌++◌, drop}
use Rattle.std.specs.List.{flat_map}
use Rattle.cy_scope.specs.Files.{modules_from}
use Rattle.cy_scope.specs.Scopes.{function_scopes, scopes_shown}
use Rattle.cy_scope.proofs.scopes.note_all_functions_of.Given as goal

abbrev pub invariant-loop-place : goal.invariant-loop-place
invariant-loop-place l = scopes_shown l.initial.out ++ flat_map (function_scopes l.set) (modules_from 0 l.set.order) ≡ scopes_shown l.out ++ flat_map (function_scopes l.set) (modules_from l.place (drop l.place l.set.order))
