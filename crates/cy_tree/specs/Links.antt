-- How a node is found from its number: by the node it stands in, and its place there. The project's own.
use Rattle.std.specs.Prelude.{◌≡◌, ℕ, suc, ◌<◌, ◌+◌, List, Some, slice_get, length}
use Rattle.cy_tree.specs.declared.file.Link.{Link}
use Rattle.cy_tree.specs.Nodes.{Tree, nodes, children, Numbered}

-- A node with its number, which stands at a place of a node with a smaller number. The tree's own number is `base`, and
-- the link names the outer node by its number counted from there.
pub record IsLinked (base : ℕ) (root : Tree) (k : ℕ) (link : Link) : Type 0 where
  pub node : Tree
  pub number : Numbered root k node
  pub outer : Tree
  pub outer_number : ℕ
  pub outer_is : Numbered root outer_number outer
  pub named : link.outer ≡ base + outer_number
  pub before : outer_number < k
  pub place : slice_get (children outer) link.place ≡ Some node

-- the links of all nodes but the tree itself, in the order of their numbers
pub record AreLinks (base : ℕ) (root : Tree) (links : List Link) : Type 0 where
  pub all : suc (length links) ≡ nodes root
  pub each : (k : ℕ) (link : Link) → slice_get links k ≡ Some link → IsLinked base root (suc k) link
