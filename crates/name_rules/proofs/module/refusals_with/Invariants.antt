use Rattle.std.proofs.Common.{◌≡◌, ◌++◌, drop}
use Rattle.std.specs.List.{flat_map}
use Rattle.cy_scope.specs.Files.{modules_from}
use Rattle.name_rules.specs.Breaches.{module_refusals}
use Rattle.name_rules.proofs.module.refusals_with.Given as goal

abbrev pub invariant-loop-place : goal.invariant-loop-place
invariant-loop-place l = l.initial.out.items ++ flat_map (module_refusals l.known l.set) (modules_from 0 l.set.order) ≡ l.out.items ++ flat_map (module_refusals l.known l.set) (modules_from l.place (drop l.place l.set.order))
