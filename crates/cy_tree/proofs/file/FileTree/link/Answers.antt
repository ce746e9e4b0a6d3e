use Rattle.std.proofs.Common.{◌≡◌, ◌-◌, List, ap, subst, ◌∙◌, slice_get}
use Rattle.cy_tree.specs.declared.content.Content.{Content}
use Rattle.cy_tree.specs.declared.file.Link.{Link}
use Rattle.cy_tree.specs.Nodes.{FileNode}
use Rattle.cy_tree.specs.Links.{AreLinks}
use Rattle.cy_tree.proofs.Found.{link_found}
use Rattle.cy_tree.proofs.file.FileTree.link.Goals as goal

pub returns-clause-found : goal.returns-clause-found
returns-clause-found c =
    let links = c.self.inside.links.items in
    let all = subst (λ (t : Content). AreLinks 0 (FileNode t) links) c.self.view_is c.self.invariant.0 in
    link_found (FileNode c.args.self.now) links c.args.number c.copied.result all c.requires
    (c.copied.ensures ∙ c.at.ensures ∙ ap (λ (xs : List Link). slice_get xs (c.args.number - 1)) c.as_slice.ensures.value)
