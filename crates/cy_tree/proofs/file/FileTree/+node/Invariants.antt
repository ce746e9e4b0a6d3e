use Rattle.cy_tree.proofs.file.FileTree.+node.Given as goal

abbrev pub decreases-node : goal.decreases-node
decreases-node l = l.number
