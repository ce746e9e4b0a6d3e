use Rattle.std.proofs.Common.{◌≡◌, ◌++◌, drop}
use Rattle.cy_tree.specs.Functions.{class_places}
use Rattle.cy_tree.proofs.file.class_places.Given as goal

abbrev pub invariant-loop-place : goal.invariant-loop-place
invariant-loop-place l = class_places 0 l.tops ≡ l.places.items ++ class_places l.place (drop l.place l.tops)
