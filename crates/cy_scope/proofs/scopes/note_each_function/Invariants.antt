use Rattle.std.proofs.Common.{◌≡◌, ◌++◌, drop, map}
use Rattle.cy_mention.specs.FunctionsShown.{functions_shown}
use Rattle.cy_scope.specs.Scopes.{function_scope, scopes_shown}
use Rattle.cy_scope.proofs.scopes.note_each_function.Given as goal

abbrev pub invariant-loop-function : goal.invariant-loop-function
invariant-loop-function l = scopes_shown l.initial.out ++ map (function_scope l.«module») (functions_shown l.functions) ≡ scopes_shown l.out ++ map (function_scope l.«module») (functions_shown (drop l.function-index l.functions))
