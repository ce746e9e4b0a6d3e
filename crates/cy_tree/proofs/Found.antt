-- A node is found where its link leads.
use Rattle.std.proofs.Common.{◌≡◌, ◌≢◌, ℕ, suc, ◌-◌, ◌<◌, ◌≤◌, List, Option, Some, None, refl, ap, sym, subst, ◌∙◌, slice_get, arith}
use Rattle.std.specs.Prelude.{IfSome}
use Rattle.std.specs.Option.{option_map}
use Rattle.cy_tree.specs.declared.file.Link.{Link}
use Rattle.cy_tree.specs.declared.node.Node.{Node}
use Rattle.cy_tree.specs.Nodes.{Tree, nodes, children, Numbered, Whole}
use Rattle.cy_tree.specs.Links.{IsLinked, AreLinks}
use Rattle.cy_tree.specs.Seen.{seen}
use Rattle.cy_tree.proofs.Counts.{nodes-some}
use Rattle.cy_tree.proofs.Numbers.{Numbered-within, Numbered-unique}

some_is : {A : Type 0} (x y : A) → Some x ≡ Some y → x ≡ y
some_is x y e = cc

-- the node around a linked one is there
pub outer_there : (root : Tree) (k : ℕ) (link : Link) → IsLinked 0 root k link → link.outer < nodes root
outer_there root k link linked =
    omega (arith, linked.named, Numbered-within root linked.outer_number linked.outer linked.outer_is, nodes-some linked.outer)

pub outer_smaller : (root : Tree) (k : ℕ) (link : Link) → IsLinked 0 root k link → link.outer < k
outer_smaller root k link linked = omega (arith, linked.named, linked.before)

pub linked_there : (root : Tree) (k : ℕ) (link : Link) → IsLinked 0 root k link → k < nodes root
linked_there root k link linked =
    omega (arith, Numbered-within root k linked.node linked.number, nodes-some linked.node)

-- what stands at the link's place in the node around
pub place_is : (root : Tree) (k : ℕ) (link : Link) (t : Tree) → (linked : IsLinked 0 root k link) → Numbered root link.outer t
    → slice_get (children t) link.place ≡ Some linked.node
place_is root k link t linked at =
    let outer_number : link.outer ≡ linked.outer_number = omega (arith, linked.named) in
    let same : linked.outer ≡ t = Numbered-unique root linked.outer_number linked.outer t linked.outer_is (subst (λ n. Numbered root n t) outer_number at) in
    subst (λ u. slice_get (children u) link.place ≡ Some linked.node) same linked.place

pub found_below : (root : Tree) (k : ℕ) (link : Link) (t : Tree) (r : Option Node) → IsLinked 0 root k link → Numbered root link.outer t
    → option_map seen r ≡ slice_get (children t) link.place → IfSome r (λ node. Numbered root k (seen node))
found_below root k link t None linked at e = tt
found_below root k link t (Some node) linked at e =
    subst (λ u. Numbered root k u) (sym (some_is (seen node) linked.node (e ∙ place_is root k link t linked at))) linked.number

pub not_missing : (root : Tree) (k : ℕ) (link : Link) (t : Tree) (r : Option Node) → IsLinked 0 root k link → Numbered root link.outer t
    → option_map seen r ≡ slice_get (children t) link.place → r ≢ None
not_missing root k link t None linked at e = λ _. none_some linked.node (e ∙ place_is root k link t linked at)
  where
    none_some : (u : Tree) → None ≡ Some u → ⊥
    none_some u h = cc
not_missing root k link t (Some node) linked at e = λ h. some_none node h
  where
    some_none : (n : Node) → Some n ≡ None → ⊥
    some_none n h = cc

-- the link of a number is in the list
pub link_found : (root : Tree) (links : List Link) (k : ℕ) (r : Option Link) → AreLinks 0 root links → 0 < k → r ≡ slice_get links (k - 1)
    → IfSome r (λ link. IsLinked 0 root k link)
link_found root links k None all some e = tt
link_found root links k (Some link) all some e =
    subst (λ n. IsLinked 0 root n link) (omega (arith, some)) (all.each (k - 1) link (sym e))
