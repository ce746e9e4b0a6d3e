-- The functions, methods and open fields that a file declares, in text order (Cython documentation, "Language Basics", "Extension Types").
use Rattle.std.specs.Prelude.{Bool, true, false, List, [], ◌∷◌}
use Rattle.std.specs.List.{flat_map}
use Rattle.cy_tree.specs.declared.content.Content.{Content}
use Rattle.cy_tree.specs.declared.content.Content.TheVariants as content
use Rattle.cy_tree.specs.declared.decl.Def.{Def}
use Rattle.cy_tree.specs.declared.decl.Heading.{Heading}
use Rattle.cy_tree.specs.declared.decl.Member.{Member}
use Rattle.cy_tree.specs.declared.decl.Member.TheVariants as member
use Rattle.cy_tree.specs.declared.decl.PxdItem.{PxdItem}
use Rattle.cy_tree.specs.declared.decl.PxdItem.TheVariants as item
use Rattle.cy_tree.specs.declared.decl.PxdMember.{PxdMember}
use Rattle.cy_tree.specs.declared.decl.PxdMember.TheVariants as pxd_member
use Rattle.cy_tree.specs.declared.decl.Top.{Top}
use Rattle.cy_tree.specs.declared.decl.Top.TheVariants as top
use Rattle.cy_tree.specs.declared.types.TypeNode.{TypeNode}

-- a function or method, by whether it is a method, or the type of fields that are `public` or `readonly`
pub data Declaration : Type 0 where
  Defined : Bool → Def → Declaration
  Headed : Bool → Heading → Declaration
  Opened : TypeNode → Declaration

abbrev pub in_member : Member → List Declaration
in_member (member.Def d) = Defined true d ∷ []
in_member (member.OpenFields at access kind names) = Opened kind ∷ []
in_member (member.Method f) = Headed true f.heading ∷ []
in_member _ = []

abbrev pub in_top : Top → List Declaration
in_top (top.Class c) = flat_map in_member c.members
in_top (top.Function f) = Headed false f.heading ∷ []
in_top (top.Def d) = Defined false d ∷ []
in_top _ = []

abbrev pub in_pxd_member : PxdMember → List Declaration
in_pxd_member (pxd_member.OpenFields at access kind names) = Opened kind ∷ []
in_pxd_member (pxd_member.Method h) = Headed true h ∷ []
in_pxd_member _ = []

abbrev pub in_item : PxdItem → List Declaration
in_item (item.Class c) = flat_map in_pxd_member c.members
in_item (item.Function h) = Headed false h ∷ []
in_item _ = []

abbrev pub declarations : Content → List Declaration
declarations (content.Implementation tops) = flat_map in_top tops
declarations (content.Definition items) = flat_map in_item items
