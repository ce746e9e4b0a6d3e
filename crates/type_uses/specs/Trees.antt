-- The types that each node of a file has: itself, and with the nodes inside it. The project's own.
use Rattle.std.specs.Prelude.{List, [], ◌∷◌, ◌++◌, map}
use Rattle.cy_tree.specs.declared.content.Content.{Content}
use Rattle.cy_tree.specs.declared.content.Content.TheVariants as content
use Rattle.cy_tree.specs.declared.decl.CFunction.{CFunction}
use Rattle.cy_tree.specs.declared.decl.Def.{Def}
use Rattle.cy_tree.specs.declared.decl.Header.{Header}
use Rattle.cy_tree.specs.declared.decl.Heading.{Heading}
use Rattle.cy_tree.specs.declared.decl.Member.{Member}
use Rattle.cy_tree.specs.declared.decl.Member.TheVariants as member
use Rattle.cy_tree.specs.declared.decl.Param.{Param}
use Rattle.cy_tree.specs.declared.decl.PxdItem.{PxdItem}
use Rattle.cy_tree.specs.declared.decl.PxdItem.TheVariants as item
use Rattle.cy_tree.specs.declared.decl.PxdMember.{PxdMember}
use Rattle.cy_tree.specs.declared.decl.PxdMember.TheVariants as pxd_member
use Rattle.cy_tree.specs.declared.decl.Top.{Top}
use Rattle.cy_tree.specs.declared.decl.Top.TheVariants as top
use Rattle.cy_tree.specs.declared.decl.Variables.{Variables}
use Rattle.cy_tree.specs.declared.expr.Expr.{Expr, Expr-F, out-Expr}
use Rattle.cy_tree.specs.declared.expr.Index.{Index}
use Rattle.cy_tree.specs.declared.expr.Part.{Part}
use Rattle.cy_tree.specs.Nodes.{Tree, FileNode, TopNode, PxdItemNode, ClassNode, PxdClassNode, MemberNode, PxdMemberNode, CFunctionNode, HeadingNode, HeaderNode, DefNode, VariablesNode, ParamNode, DeclaredNode, SuiteNode, LineNode, StmtNode, ArmNode, HandlerNode, SimpleNode, ExprNode, PartNode, IndexNode}
use Rattle.type_uses.specs.Uses.{TypeUse, PlaceType, all_of, names_uses, result_uses, simple_own, type_uses, declared_uses, maybe_uses, expr_uses, index_uses, part_uses, simple_uses, line_uses, stmt_uses, suite_uses, arm_uses, handler_uses}

abbrev pub expr_own : Expr-F Expr Index Part → List TypeUse
expr_own (Expr-F.Cast at kind checked x) = PlaceType kind ∷ []
expr_own _ = []

-- fields have a type
abbrev pub member_own : Member → List TypeUse
member_own (member.OpenFields at access kind names) = PlaceType kind ∷ []
member_own (member.Fields at kind names) = type_uses kind
member_own _ = []

abbrev pub pxd_member_own : PxdMember → List TypeUse
pxd_member_own (pxd_member.OpenFields at access kind names) = PlaceType kind ∷ []
pxd_member_own (pxd_member.Fields at kind names) = type_uses kind
pxd_member_own _ = []

-- what a node has itself
abbrev pub own : Tree → List TypeUse
own (SimpleNode s) = simple_own s
own (ExprNode e) = expr_own (out-Expr e)
own (ParamNode p) = type_uses p.kind
own (HeadingNode h) = result_uses h.result
own (VariablesNode v) = type_uses v.kind ++ names_uses v.kind v.names
own (MemberNode m) = member_own m
own (PxdMemberNode m) = pxd_member_own m
own _ = []

abbrev pub param_uses : Param → List TypeUse
param_uses p = type_uses p.kind ++ maybe_uses p.default

abbrev pub header_uses : Header → List TypeUse
header_uses h = all_of (map param_uses h.params)

abbrev pub heading_uses : Heading → List TypeUse
heading_uses h = result_uses h.result ++ all_of (header_uses h.header ∷ [])

abbrev pub function_uses : CFunction → List TypeUse
function_uses f = all_of (heading_uses f.heading ∷ suite_uses f.body ∷ [])

abbrev pub def_uses : Def → List TypeUse
def_uses d = all_of (map param_uses d.params ++ suite_uses d.body ∷ [])

abbrev pub member_uses : Member → List TypeUse
member_uses (member.Def d) = all_of (def_uses d ∷ [])
member_uses (member.Method f) = all_of (function_uses f ∷ [])
member_uses m = member_own m

abbrev pub pxd_member_uses : PxdMember → List TypeUse
pxd_member_uses (pxd_member.Method h) = all_of (heading_uses h ∷ [])
pxd_member_uses m = pxd_member_own m

abbrev pub variables_uses : Variables → List TypeUse
variables_uses v = (type_uses v.kind ++ names_uses v.kind v.names) ++ all_of (map declared_uses v.names)

abbrev pub top_uses : Top → List TypeUse
top_uses (top.Cimport c) = []
top_uses (top.Class c) = all_of (all_of (map member_uses c.members) ∷ [])
top_uses (top.Function f) = all_of (function_uses f ∷ [])
top_uses (top.Variables v) = all_of (variables_uses v ∷ [])
top_uses (top.Def d) = all_of (def_uses d ∷ [])
top_uses (top.Stmt s) = all_of (stmt_uses s ∷ [])

abbrev pub item_uses : PxdItem → List TypeUse
item_uses (item.Class c) = all_of (all_of (map pxd_member_uses c.members) ∷ [])
item_uses (item.Function h) = all_of (heading_uses h ∷ [])
item_uses _ = []

abbrev pub content_uses : Content → List TypeUse
content_uses (content.Implementation tops) = all_of (map top_uses tops)
content_uses (content.Definition items) = all_of (map item_uses items)

-- what a node has with the nodes inside it
abbrev pub uses : Tree → List TypeUse
uses (FileNode c) = content_uses c
uses (TopNode t) = top_uses t
uses (PxdItemNode i) = item_uses i
uses (ClassNode c) = all_of (map member_uses c.members)
uses (PxdClassNode c) = all_of (map pxd_member_uses c.members)
uses (MemberNode m) = member_uses m
uses (PxdMemberNode m) = pxd_member_uses m
uses (CFunctionNode f) = function_uses f
uses (HeadingNode h) = heading_uses h
uses (HeaderNode h) = header_uses h
uses (DefNode d) = def_uses d
uses (VariablesNode v) = variables_uses v
uses (ParamNode p) = param_uses p
uses (DeclaredNode d) = declared_uses d
uses (SuiteNode s) = suite_uses s
uses (LineNode l) = line_uses l
uses (StmtNode s) = stmt_uses s
uses (ArmNode a) = arm_uses a
uses (HandlerNode h) = handler_uses h
uses (SimpleNode s) = simple_uses s
uses (ExprNode e) = expr_uses e
uses (PartNode p) = part_uses p
uses (IndexNode i) = index_uses i
