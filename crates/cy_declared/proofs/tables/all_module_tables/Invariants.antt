use Rattle.std.proofs.Common.{◌≡◌, ◌++◌, drop, map}
use Rattle.cy_declared.specs.Tables.{module_tables}
use Rattle.cy_scope.specs.Files.{modules, modules_from}
use Rattle.cy_declared.proofs.tables.all_module_tables.Given as goal

abbrev pub invariant-loop-place : goal.invariant-loop-place
invariant-loop-place l = map (module_tables l.known l.set) (modules l.set.set) ≡ l.tables ++ map (module_tables l.known l.set) (modules_from l.place (drop l.place l.set.set.order))
