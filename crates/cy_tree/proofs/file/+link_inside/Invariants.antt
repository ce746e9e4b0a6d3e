use Rattle.std.proofs.Common.{◌≡◌, ◌++◌, ◌-◌, ◌≤◌, length, take, List}
use Rattle.cy_tree.specs.Nodes.{children, nodes}
use Rattle.cy_tree.specs.Seen.{seen}
use Rattle.cy_tree.specs.declared.file.Link.{Link}
use Rattle.cy_tree.proofs.Linking.{AreLinked}
use Rattle.cy_tree.proofs.file.+link_inside.Given as goal

abbrev pub decreases-link_inside : goal.decreases-link_inside
decreases-link_inside l = nodes (seen l.node)

abbrev pub invariant-loop-child : goal.invariant-loop-child
invariant-loop-child l = (done : List Link) × (l.links.items ≡ l.initial.links.items ++ done) × AreLinked (length l.initial.links.items) (seen l.node) l.place done

abbrev pub decreases-loop-child : goal.decreases-loop-child
decreases-loop-child l = length (children (seen l.node)) - l.place
