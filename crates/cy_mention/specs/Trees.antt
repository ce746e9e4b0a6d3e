-- What each node of a file says of names: itself, and with the nodes inside it. The project's own.
use Rattle.std.specs.Prelude.{List, [], ◌∷◌, ◌++◌, map}
use Rattle.cy_tree.specs.declared.content.Content.{Content}
use Rattle.cy_tree.specs.declared.content.Content.TheVariants as content
use Rattle.cy_tree.specs.declared.decl.CFunction.{CFunction}
use Rattle.cy_tree.specs.declared.decl.Def.{Def}
use Rattle.cy_tree.specs.declared.decl.Header.{Header}
use Rattle.cy_tree.specs.declared.decl.Heading.{Heading}
use Rattle.cy_tree.specs.declared.decl.Member.{Member}
use Rattle.cy_tree.specs.declared.decl.Member.TheVariants as member
use Rattle.cy_tree.specs.declared.decl.Param.{Param}
use Rattle.cy_tree.specs.declared.decl.PxdItem.{PxdItem}
use Rattle.cy_tree.specs.declared.decl.PxdItem.TheVariants as item
use Rattle.cy_tree.specs.declared.decl.PxdMember.{PxdMember}
use Rattle.cy_tree.specs.declared.decl.PxdMember.TheVariants as pxd_member
use Rattle.cy_tree.specs.declared.decl.Top.{Top}
use Rattle.cy_tree.specs.declared.decl.Top.TheVariants as top
use Rattle.cy_tree.specs.declared.decl.Variables.{Variables}
use Rattle.cy_tree.specs.declared.expr.Expr.{Expr, Expr-F, out-Expr}
use Rattle.cy_tree.specs.declared.expr.Index.{Index}
use Rattle.cy_tree.specs.declared.expr.Part.{Part}
use Rattle.cy_tree.specs.declared.stmt.Stmt.{Stmt, Stmt-F, out-Stmt}
use Rattle.cy_tree.specs.declared.stmt.Suite.{Suite}
use Rattle.cy_tree.specs.declared.stmt.Arm.{Arm}
use Rattle.cy_tree.specs.declared.stmt.Handler.{Handler}
use Rattle.cy_tree.specs.Nodes.{Tree, FileNode, TopNode, PxdItemNode, ClassNode, PxdClassNode, MemberNode, PxdMemberNode, CFunctionNode, HeadingNode, HeaderNode, DefNode, VariablesNode, ParamNode, DeclaredNode, SuiteNode, LineNode, StmtNode, ArmNode, HandlerNode, SimpleNode, ExprNode, PartNode, IndexNode}
use Rattle.cy_mention.specs.Mentions.{Mention, Declares, TypeUse, all_of, target, simple_own, handler_name, type_mentions, declared_mentions, maybe_mentions, expr_mentions, index_mentions, part_mentions, simple_mentions, line_mentions, stmt_mentions, suite_mentions, arm_mentions, handler_mentions}

abbrev pub expr_own : Expr-F Expr Index Part → List Mention
expr_own (Expr-F.Cast at kind checked x) = TypeUse kind.name ∷ []
expr_own _ = []

abbrev pub stmt_own : Stmt-F Stmt Suite Arm Handler → List Mention
stmt_own (Stmt-F.ForNode at x over body other) = target x
stmt_own _ = []

-- fields name a type
abbrev pub member_own : Member → List Mention
member_own (member.OpenFields at access kind names) = TypeUse kind.name ∷ []
member_own (member.Fields at kind names) = type_mentions kind
member_own _ = []

abbrev pub pxd_member_own : PxdMember → List Mention
pxd_member_own (pxd_member.OpenFields at access kind names) = TypeUse kind.name ∷ []
pxd_member_own (pxd_member.Fields at kind names) = type_mentions kind
pxd_member_own _ = []

-- what a node says itself
abbrev pub own : Tree → List Mention
own (StmtNode s) = stmt_own (out-Stmt s)
own (HandlerNode h) = handler_name h.name
own (SimpleNode s) = simple_own s
own (DeclaredNode d) = Declares d.name ∷ []
own (ExprNode e) = expr_own (out-Expr e)
own (ParamNode p) = type_mentions p.kind
own (HeadingNode h) = type_mentions h.result
own (VariablesNode v) = type_mentions v.kind
own (MemberNode m) = member_own m
own (PxdMemberNode m) = pxd_member_own m
own _ = []

abbrev pub param_mentions : Param → List Mention
param_mentions p = type_mentions p.kind ++ maybe_mentions p.default

abbrev pub header_mentions : Header → List Mention
header_mentions h = all_of (map param_mentions h.params)

abbrev pub heading_mentions : Heading → List Mention
heading_mentions h = type_mentions h.result ++ all_of (header_mentions h.header ∷ [])

abbrev pub function_mentions : CFunction → List Mention
function_mentions f = all_of (heading_mentions f.heading ∷ suite_mentions f.body ∷ [])

abbrev pub def_mentions : Def → List Mention
def_mentions d = all_of (map param_mentions d.params ++ suite_mentions d.body ∷ [])

abbrev pub member_mentions : Member → List Mention
member_mentions (member.Def d) = all_of (def_mentions d ∷ [])
member_mentions (member.Method f) = all_of (function_mentions f ∷ [])
member_mentions m = member_own m

abbrev pub pxd_member_mentions : PxdMember → List Mention
pxd_member_mentions (pxd_member.Method h) = all_of (heading_mentions h ∷ [])
pxd_member_mentions m = pxd_member_own m

abbrev pub variables_mentions : Variables → List Mention
variables_mentions v = type_mentions v.kind ++ all_of (map declared_mentions v.names)

abbrev pub top_mentions : Top → List Mention
top_mentions (top.Cimport c) = []
top_mentions (top.Class c) = all_of (all_of (map member_mentions c.members) ∷ [])
top_mentions (top.Function f) = all_of (function_mentions f ∷ [])
top_mentions (top.Variables v) = all_of (variables_mentions v ∷ [])
top_mentions (top.Def d) = all_of (def_mentions d ∷ [])
top_mentions (top.Stmt s) = all_of (stmt_mentions s ∷ [])

abbrev pub item_mentions : PxdItem → List Mention
item_mentions (item.Class c) = all_of (all_of (map pxd_member_mentions c.members) ∷ [])
item_mentions (item.Function h) = all_of (heading_mentions h ∷ [])
item_mentions _ = []

abbrev pub content_mentions : Content → List Mention
content_mentions (content.Implementation tops) = all_of (map top_mentions tops)
content_mentions (content.Definition items) = all_of (map item_mentions items)

-- what a node says with the nodes inside it
abbrev pub mentions : Tree → List Mention
mentions (FileNode c) = content_mentions c
mentions (TopNode t) = top_mentions t
mentions (PxdItemNode i) = item_mentions i
mentions (ClassNode c) = all_of (map member_mentions c.members)
mentions (PxdClassNode c) = all_of (map pxd_member_mentions c.members)
mentions (MemberNode m) = member_mentions m
mentions (PxdMemberNode m) = pxd_member_mentions m
mentions (CFunctionNode f) = function_mentions f
mentions (HeadingNode h) = heading_mentions h
mentions (HeaderNode h) = header_mentions h
mentions (DefNode d) = def_mentions d
mentions (VariablesNode v) = variables_mentions v
mentions (ParamNode p) = param_mentions p
mentions (DeclaredNode d) = declared_mentions d
mentions (SuiteNode s) = suite_mentions s
mentions (LineNode l) = line_mentions l
mentions (StmtNode s) = stmt_mentions s
mentions (ArmNode a) = arm_mentions a
mentions (HandlerNode h) = handler_mentions h
mentions (SimpleNode s) = simple_mentions s
mentions (ExprNode e) = expr_mentions e
mentions (PartNode p) = part_mentions p
mentions (IndexNode i) = index_mentions i
