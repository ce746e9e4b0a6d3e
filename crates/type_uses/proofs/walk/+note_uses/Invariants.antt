use Rattle.std.proofs.Common.{◌≡◌, ◌++◌, ◌-◌, ◌≤◌, length, take}
use Rattle.cy_tree.specs.Nodes.{children, nodes}
use Rattle.cy_tree.specs.Seen.{seen}
use Rattle.type_uses.specs.Uses.{all_of}
use Rattle.type_uses.specs.Shown.{all_shown}
use Rattle.type_uses.proofs.Levels.{had}
use Rattle.type_uses.proofs.walk.+note_uses.Given as goal

abbrev pub decreases-note_uses : goal.decreases-note_uses
decreases-note_uses l = nodes (seen l.node)

abbrev pub invariant-loop-child : goal.invariant-loop-child
invariant-loop-child l =
    (l.place ≤ length (children (seen l.node)))
    × (all_shown l.out.items ≡ all_shown l.initial.out.items ++ all_of (had (take l.place (children (seen l.node)))))

abbrev pub decreases-loop-child : goal.decreases-loop-child
decreases-loop-child l = length (children (seen l.node)) - l.place
