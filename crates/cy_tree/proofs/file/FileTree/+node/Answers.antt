use Rattle.std.proofs.Common.{◌≡◌, ℕ, ◌≤◌, None, ap, sym, subst, ◌∙◌, arith}
use Rattle.cy_tree.specs.declared.content.Content.{Content}
use Rattle.cy_tree.specs.Nodes.{Tree, FileNode, Numbered, Whole, nodes}
use Rattle.cy_tree.specs.Seen.{seen}
use Rattle.cy_tree.proofs.Found.{found_below, not_missing, linked_there}
use Rattle.cy_tree.proofs.file.FileTree.+node.Goals as goal

whole : (content view : Content) (n : ℕ) → content ≡ view → n ≡ 0 → Numbered (FileNode view) n (FileNode content)
whole content view n same zero =
    subst (λ k. Numbered (FileNode view) k (FileNode content)) (sym zero) (subst (λ c. Numbered (FileNode c) 0 (FileNode content)) same Whole)

pub returns-then-number-eq0-clause-found : goal.returns-then-number-eq0-clause-found
returns-then-number-eq0-clause-found t c = whole c.self.inside.content c.args.self.now c.args.number c.self.view_is c.if-number-eq0.true

pub returns-clause-found : goal.returns-clause-found
returns-clause-found t c =
    found_below (FileNode c.args.self.now) c.args.number c.in_ok-link.link (seen c.in_ok-node.field-0) c.child.result
    c.in_ok-link.ensures.found c.in_ok-node.ensures.found c.child.ensures

pub returns-clause-none : goal.returns-clause-none
returns-clause-none t c =
    let root = FileNode c.args.self.now in
    let missing = not_missing root c.args.number c.in_ok-link.link (seen c.in_ok-node.field-0) c.child.result c.in_ok-link.ensures.found c.in_ok-node.ensures.found c.child.ensures in
    ((λ e. absurd (missing e)), (λ h. absurd (omega (arith, h, linked_there root c.args.number c.in_ok-link.link c.in_ok-link.ensures.found))))
