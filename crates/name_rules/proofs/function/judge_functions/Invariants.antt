use Rattle.std.proofs.Common.{◌≡◌, ◌++◌, drop}
use Rattle.std.specs.List.{flat_map}
use Rattle.cy_mention.specs.FunctionsShown.{functions_shown}
use Rattle.name_rules.specs.Breaches.{function_refusals}
use Rattle.name_rules.proofs.function.judge_functions.Given as goal

abbrev pub invariant-loop-function : goal.invariant-loop-function
invariant-loop-function l = l.initial.out.items ++ flat_map (function_refusals l.outside.file l.outside.known.now l.outside.names.now) (functions_shown l.functions) ≡ l.out.items ++ flat_map (function_refusals l.outside.file l.outside.known.now l.outside.names.now) (functions_shown (drop l.function-index l.functions))
