use Rattle.std.proofs.Common.{◌≡◌, ◌++◌, ◌-◌, ◌≤◌, length, take}
use Rattle.cy_tree.specs.Nodes.{children, nodes}
use Rattle.cy_tree.specs.Seen.{seen}
use Rattle.cy_mention.specs.Mentions.{all_of}
use Rattle.cy_mention.specs.Shown.{all_shown}
use Rattle.cy_mention.proofs.Walk.{said}
use Rattle.cy_mention.proofs.mention.+note_all.Given as goal

abbrev pub decreases-note_all : goal.decreases-note_all
decreases-note_all l = nodes (seen l.node)

abbrev pub invariant-loop-child : goal.invariant-loop-child
invariant-loop-child l =
    (l.place ≤ length (children (seen l.node)))
    × (all_shown l.out.items ≡ all_shown l.initial.out.items ++ all_of (said (take l.place (children (seen l.node)))))

abbrev pub decreases-loop-child : goal.decreases-loop-child
decreases-loop-child l = length (children (seen l.node)) - l.place
