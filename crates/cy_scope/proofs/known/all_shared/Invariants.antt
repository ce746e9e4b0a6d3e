use Rattle.std.proofs.Common.{◌≡◌, ◌++◌, drop, map}
use Rattle.cy_scope.specs.Declarations.{shared_by}
use Rattle.cy_scope.specs.Files.{modules_from}
use Rattle.cy_scope.proofs.known.all_shared.Given as goal

abbrev pub invariant-loop-place : goal.invariant-loop-place
invariant-loop-place l = map (shared_by l.set) (modules_from 0 l.set.order) ≡ l.shared ++ map (shared_by l.set) (modules_from l.place (drop l.place l.set.order))
