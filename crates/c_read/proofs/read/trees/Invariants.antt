use Rattle.std.proofs.Common.{length}
use Rattle.c_cut.specs.Shown.{items_shown}
use Rattle.c_read.proofs.Trees.{IsFront}
use Rattle.c_read.proofs.read.trees.Given as goal

abbrev pub invariant-loop-first : goal.invariant-loop-first
invariant-loop-first l = IsFront (items_shown l.items) l.trees.items (items_shown l.rest)

abbrev pub decreases-loop-first : goal.decreases-loop-first
decreases-loop-first l = length l.rest
