-- The nodes of a file and their numbers: a node is what can hold an expression or a statement. The project's own.
use Rattle.std.specs.Prelude.{◌≡◌, ℕ, suc, ◌+◌, List, [], ◌∷◌, ◌++◌, map, Option, Some, None}
use Rattle.cy_tree.specs.declared.content.Content.{Content}
use Rattle.cy_tree.specs.declared.decl.Top.{Top}
use Rattle.cy_tree.specs.declared.decl.PxdItem.{PxdItem}
use Rattle.cy_tree.specs.declared.decl.Class.{Class}
use Rattle.cy_tree.specs.declared.decl.PxdClass.{PxdClass}
use Rattle.cy_tree.specs.declared.decl.Member.{Member}
use Rattle.cy_tree.specs.declared.decl.PxdMember.{PxdMember}
use Rattle.cy_tree.specs.declared.decl.CFunction.{CFunction}
use Rattle.cy_tree.specs.declared.decl.Heading.{Heading}
use Rattle.cy_tree.specs.declared.decl.Header.{Header}
use Rattle.cy_tree.specs.declared.decl.Def.{Def}
use Rattle.cy_tree.specs.declared.decl.Variables.{Variables}
use Rattle.cy_tree.specs.declared.decl.Param.{Param}
use Rattle.cy_tree.specs.declared.stmt.Declared.{Declared}
use Rattle.cy_tree.specs.declared.stmt.Line.{Line}
use Rattle.cy_tree.specs.declared.stmt.Simple.{Simple}
use Rattle.cy_tree.specs.declared.content.Content.TheVariants as content
use Rattle.cy_tree.specs.declared.decl.Top.TheVariants as top
use Rattle.cy_tree.specs.declared.decl.PxdItem.TheVariants as item
use Rattle.cy_tree.specs.declared.decl.Member.TheVariants as member
use Rattle.cy_tree.specs.declared.decl.PxdMember.TheVariants as pxd_member
use Rattle.cy_tree.specs.declared.stmt.Simple.TheVariants as simple
use Rattle.cy_tree.specs.declared.expr.Expr.{Expr, Expr-F, out-Expr, fold-Expr}
use Rattle.cy_tree.specs.declared.expr.Expr.TheOpen.{Index-F, Part-F}
use Rattle.cy_tree.specs.declared.expr.Index.{Index, out-Index, fold-Index}
use Rattle.cy_tree.specs.declared.expr.Part.{Part, out-Part, fold-Part}
use Rattle.cy_tree.specs.declared.stmt.Stmt.{Stmt, Stmt-F, out-Stmt, fold-Stmt}
use Rattle.cy_tree.specs.declared.stmt.Stmt.TheOpen.{Suite-F, Arm-F, Handler-F}
use Rattle.cy_tree.specs.declared.stmt.Suite.{Suite, out-Suite, fold-Suite}
use Rattle.cy_tree.specs.declared.stmt.Arm.{Arm, out-Arm, fold-Arm}
use Rattle.cy_tree.specs.declared.stmt.Handler.{Handler, out-Handler, fold-Handler}

-- a node
pub data Tree : Type 0 where
  FileNode : Content → Tree
  TopNode : Top → Tree
  PxdItemNode : PxdItem → Tree
  ClassNode : Class → Tree
  PxdClassNode : PxdClass → Tree
  MemberNode : Member → Tree
  PxdMemberNode : PxdMember → Tree
  CFunctionNode : CFunction → Tree
  HeadingNode : Heading → Tree
  HeaderNode : Header → Tree
  DefNode : Def → Tree
  VariablesNode : Variables → Tree
  ParamNode : Param → Tree
  DeclaredNode : Declared → Tree
  SuiteNode : Suite → Tree
  LineNode : Line → Tree
  StmtNode : Stmt → Tree
  ArmNode : Arm → Tree
  HandlerNode : Handler → Tree
  SimpleNode : Simple → Tree
  ExprNode : Expr → Tree
  PartNode : Part → Tree
  IndexNode : Index → Tree

-- what may be there, and the nodes of a list
abbrev pub optional : {A : Type 0} → (A → Tree) → Option A → List Tree
optional node None = []
optional node (Some x) = node x ∷ []

abbrev pub each_pair : List (Expr × Expr) → List Tree
each_pair [] = []
each_pair (p ∷ ps) = ExprNode p.0 ∷ ExprNode p.1 ∷ each_pair ps

abbrev pub expr_children : Expr-F Expr Index Part → List Tree
expr_children (Expr-F.Conditional at value test other) = ExprNode value ∷ ExprNode test ∷ ExprNode other ∷ []
expr_children (Expr-F.Or at xs) = map ExprNode xs
expr_children (Expr-F.And at xs) = map ExprNode xs
expr_children (Expr-F.Not at x) = ExprNode x ∷ []
expr_children (Expr-F.Compare at x op place y) = ExprNode x ∷ ExprNode y ∷ []
expr_children (Expr-F.BitOr at x more) = ExprNode x ∷ map (λ o. ExprNode o.1) more
expr_children (Expr-F.BitXor at x more) = ExprNode x ∷ map (λ o. ExprNode o.1) more
expr_children (Expr-F.BitAnd at x more) = ExprNode x ∷ map (λ o. ExprNode o.1) more
expr_children (Expr-F.Shift at x more) = ExprNode x ∷ map (λ o. ExprNode o.2) more
expr_children (Expr-F.Sum at x more) = ExprNode x ∷ map (λ o. ExprNode o.2) more
expr_children (Expr-F.Term at x more) = ExprNode x ∷ map (λ o. ExprNode o.2) more
expr_children (Expr-F.Unary at op x) = ExprNode x ∷ []
expr_children (Expr-F.Cast at kind checked x) = ExprNode x ∷ []
expr_children (Expr-F.Postfix at x parts) = ExprNode x ∷ map PartNode parts
expr_children (Expr-F.Tuple at xs) = map ExprNode xs
expr_children (Expr-F.ListNode at xs) = map ExprNode xs
expr_children (Expr-F.Dict at pairs) = each_pair pairs
expr_children _ = []

abbrev pub part_children : Part-F Expr Index Part → List Tree
part_children (Part-F.Attribute at name) = []
part_children (Part-F.Call at arguments) = map ExprNode arguments
part_children (Part-F.Item at indexes) = map IndexNode indexes

abbrev pub index_children : Index-F Expr Index Part → List Tree
index_children (Index-F.One x) = ExprNode x ∷ []
index_children (Index-F.Slice at low high) = optional ExprNode low ++ optional ExprNode high

abbrev pub simple_children : Simple → List Tree
simple_children (simple.ReturnNode at value) = optional ExprNode value
simple_children (simple.Raise at value) = optional ExprNode value
simple_children (simple.Del at xs) = map ExprNode xs
simple_children (simple.Cdef at kind names) = map DeclaredNode names
simple_children (simple.Expression x) = ExprNode x ∷ []
simple_children (simple.Augmented target op at value) = ExprNode target ∷ ExprNode value ∷ []
simple_children (simple.Assign targets value) = map ExprNode targets ++ ExprNode value ∷ []
simple_children _ = []

abbrev pub stmt_children : Stmt-F Stmt Suite Arm Handler → List Tree
stmt_children (Stmt-F.Simples line) = LineNode line ∷ []
stmt_children (Stmt-F.IfNode at arms other) = map ArmNode arms ++ optional SuiteNode other
stmt_children (Stmt-F.WhileNode at test body other) = ExprNode test ∷ SuiteNode body ∷ optional SuiteNode other
stmt_children (Stmt-F.ForNode at target over body other) = ExprNode target ∷ ExprNode over ∷ SuiteNode body ∷ optional SuiteNode other
stmt_children (Stmt-F.Try at body handlers other last) =
    SuiteNode body ∷ map HandlerNode handlers ++ (optional SuiteNode other ++ optional SuiteNode last)
stmt_children (Stmt-F.With at word body) = SuiteNode body ∷ []

abbrev pub suite_children : Suite-F Stmt Suite Arm Handler → List Tree
suite_children (Suite-F.Inline line) = LineNode line ∷ []
suite_children (Suite-F.Block statements) = map StmtNode statements

abbrev pub top_children : Top → List Tree
top_children (top.Cimport c) = []
top_children (top.Class c) = ClassNode c ∷ []
top_children (top.Function f) = CFunctionNode f ∷ []
top_children (top.Variables v) = VariablesNode v ∷ []
top_children (top.Def d) = DefNode d ∷ []
top_children (top.Stmt s) = StmtNode s ∷ []

abbrev pub item_children : PxdItem → List Tree
item_children (item.Class c) = PxdClassNode c ∷ []
item_children (item.Function h) = HeadingNode h ∷ []
item_children _ = []

abbrev pub member_children : Member → List Tree
member_children (member.Def d) = DefNode d ∷ []
member_children (member.Method f) = CFunctionNode f ∷ []
member_children _ = []

abbrev pub pxd_member_children : PxdMember → List Tree
pxd_member_children (pxd_member.Method h) = HeadingNode h ∷ []
pxd_member_children _ = []

abbrev pub content_children : Content → List Tree
content_children (content.Implementation tops) = map TopNode tops
content_children (content.Definition items) = map PxdItemNode items

-- the nodes right inside a node, in text order
abbrev pub children : Tree → List Tree
children (FileNode c) = content_children c
children (TopNode t) = top_children t
children (PxdItemNode i) = item_children i
children (ClassNode c) = map MemberNode c.members
children (PxdClassNode c) = map PxdMemberNode c.members
children (MemberNode m) = member_children m
children (PxdMemberNode m) = pxd_member_children m
children (CFunctionNode f) = HeadingNode f.heading ∷ SuiteNode f.body ∷ []
children (HeadingNode h) = HeaderNode h.header ∷ []
children (HeaderNode h) = map ParamNode h.params
children (DefNode d) = map ParamNode d.params ++ SuiteNode d.body ∷ []
children (VariablesNode v) = map DeclaredNode v.names
children (ParamNode p) = optional ExprNode p.default
children (DeclaredNode d) = optional ExprNode d.value
children (SuiteNode s) = suite_children (out-Suite s)
children (LineNode l) = map SimpleNode l.simples
children (StmtNode s) = stmt_children (out-Stmt s)
children (ArmNode a) = ExprNode a.test ∷ SuiteNode a.body ∷ []
children (HandlerNode h) = optional ExprNode h.kind ++ SuiteNode h.body ∷ []
children (SimpleNode s) = simple_children s
children (ExprNode e) = expr_children (out-Expr e)
children (PartNode p) = part_children (out-Part p)
children (IndexNode i) = index_children (out-Index i)

-- how many nodes: one, and those inside

abbrev pub total : List ℕ → ℕ
total [] = 0
total (n ∷ ns) = n + total ns

abbrev pub maybe : Option ℕ → ℕ
maybe None = 0
maybe (Some n) = n

abbrev pub expr_step : Expr-F ℕ ℕ ℕ → ℕ
expr_step (Expr-F.Conditional at value test other) = 1 + (value + (test + other))
expr_step (Expr-F.Or at xs) = 1 + total xs
expr_step (Expr-F.And at xs) = 1 + total xs
expr_step (Expr-F.Not at x) = 1 + x
expr_step (Expr-F.Compare at x op place y) = 1 + (x + y)
expr_step (Expr-F.BitOr at x more) = 1 + (x + total (map (λ o. o.1) more))
expr_step (Expr-F.BitXor at x more) = 1 + (x + total (map (λ o. o.1) more))
expr_step (Expr-F.BitAnd at x more) = 1 + (x + total (map (λ o. o.1) more))
expr_step (Expr-F.Shift at x more) = 1 + (x + total (map (λ o. o.2) more))
expr_step (Expr-F.Sum at x more) = 1 + (x + total (map (λ o. o.2) more))
expr_step (Expr-F.Term at x more) = 1 + (x + total (map (λ o. o.2) more))
expr_step (Expr-F.Unary at op x) = 1 + x
expr_step (Expr-F.Cast at kind checked x) = 1 + x
expr_step (Expr-F.Postfix at x parts) = 1 + (x + total parts)
expr_step (Expr-F.Tuple at xs) = 1 + total xs
expr_step (Expr-F.ListNode at xs) = 1 + total xs
expr_step (Expr-F.Dict at pairs) = 1 + total (map (λ p. p.0 + p.1) pairs)
expr_step _ = 1

abbrev pub part_step : Part-F ℕ ℕ ℕ → ℕ
part_step (Part-F.Attribute at name) = 1
part_step (Part-F.Call at arguments) = 1 + total arguments
part_step (Part-F.Item at indexes) = 1 + total indexes

abbrev pub index_step : Index-F ℕ ℕ ℕ → ℕ
index_step (Index-F.One x) = 1 + x
index_step (Index-F.Slice at low high) = 1 + (maybe low + maybe high)

abbrev pub expr_nodes : Expr → ℕ
expr_nodes = fold-Expr ℕ ℕ ℕ expr_step index_step part_step

abbrev pub part_nodes : Part → ℕ
part_nodes = fold-Part ℕ ℕ ℕ expr_step index_step part_step

abbrev pub index_nodes : Index → ℕ
index_nodes = fold-Index ℕ ℕ ℕ expr_step index_step part_step

abbrev pub maybe_nodes : Option Expr → ℕ
maybe_nodes None = 0
maybe_nodes (Some e) = expr_nodes e

abbrev pub declared_nodes : Declared → ℕ
declared_nodes d = 1 + maybe_nodes d.value

abbrev pub simple_nodes : Simple → ℕ
simple_nodes (simple.ReturnNode at value) = 1 + maybe_nodes value
simple_nodes (simple.Raise at value) = 1 + maybe_nodes value
simple_nodes (simple.Del at xs) = 1 + total (map expr_nodes xs)
simple_nodes (simple.Cdef at kind names) = 1 + total (map declared_nodes names)
simple_nodes (simple.Expression x) = 1 + expr_nodes x
simple_nodes (simple.Augmented target op at value) = 1 + (expr_nodes target + expr_nodes value)
simple_nodes (simple.Assign targets value) = 1 + (total (map expr_nodes targets) + expr_nodes value)
simple_nodes _ = 1

abbrev pub line_nodes : Line → ℕ
line_nodes l = 1 + total (map simple_nodes l.simples)

abbrev pub stmt_step : Stmt-F ℕ ℕ ℕ ℕ → ℕ
stmt_step (Stmt-F.Simples line) = 1 + line_nodes line
stmt_step (Stmt-F.IfNode at arms other) = 1 + (total arms + maybe other)
stmt_step (Stmt-F.WhileNode at test body other) = 1 + (expr_nodes test + (body + maybe other))
stmt_step (Stmt-F.ForNode at target over body other) = 1 + (expr_nodes target + (expr_nodes over + (body + maybe other)))
stmt_step (Stmt-F.Try at body handlers other last) = 1 + (body + (total handlers + (maybe other + maybe last)))
stmt_step (Stmt-F.With at word body) = 1 + body

abbrev pub suite_step : Suite-F ℕ ℕ ℕ ℕ → ℕ
suite_step (Suite-F.Inline line) = 1 + line_nodes line
suite_step (Suite-F.Block statements) = 1 + total statements

abbrev pub arm_step : Arm-F ℕ ℕ ℕ ℕ → ℕ
arm_step a = 1 + (expr_nodes a.test + a.body)

abbrev pub handler_step : Handler-F ℕ ℕ ℕ ℕ → ℕ
handler_step h = 1 + (maybe_nodes h.kind + h.body)

abbrev pub stmt_nodes : Stmt → ℕ
stmt_nodes = fold-Stmt ℕ ℕ ℕ ℕ stmt_step suite_step arm_step handler_step

abbrev pub suite_nodes : Suite → ℕ
suite_nodes = fold-Suite ℕ ℕ ℕ ℕ stmt_step suite_step arm_step handler_step

abbrev pub arm_nodes : Arm → ℕ
arm_nodes = fold-Arm ℕ ℕ ℕ ℕ stmt_step suite_step arm_step handler_step

abbrev pub handler_nodes : Handler → ℕ
handler_nodes = fold-Handler ℕ ℕ ℕ ℕ stmt_step suite_step arm_step handler_step

abbrev pub param_nodes : Param → ℕ
param_nodes p = 1 + maybe_nodes p.default

abbrev pub header_nodes : Header → ℕ
header_nodes h = 1 + total (map param_nodes h.params)

abbrev pub heading_nodes : Heading → ℕ
heading_nodes h = 1 + header_nodes h.header

abbrev pub function_nodes : CFunction → ℕ
function_nodes f = 1 + (heading_nodes f.heading + suite_nodes f.body)

abbrev pub def_nodes : Def → ℕ
def_nodes d = 1 + (total (map param_nodes d.params) + suite_nodes d.body)

abbrev pub variables_nodes : Variables → ℕ
variables_nodes v = 1 + total (map declared_nodes v.names)

abbrev pub member_nodes : Member → ℕ
member_nodes (member.Def d) = 1 + def_nodes d
member_nodes (member.Method f) = 1 + function_nodes f
member_nodes _ = 1

abbrev pub pxd_member_nodes : PxdMember → ℕ
pxd_member_nodes (pxd_member.Method h) = 1 + heading_nodes h
pxd_member_nodes _ = 1

abbrev pub class_nodes : Class → ℕ
class_nodes c = 1 + total (map member_nodes c.members)

abbrev pub pxd_class_nodes : PxdClass → ℕ
pxd_class_nodes c = 1 + total (map pxd_member_nodes c.members)

abbrev pub top_nodes : Top → ℕ
top_nodes (top.Cimport c) = 1
top_nodes (top.Class c) = 1 + class_nodes c
top_nodes (top.Function f) = 1 + function_nodes f
top_nodes (top.Variables v) = 1 + variables_nodes v
top_nodes (top.Def d) = 1 + def_nodes d
top_nodes (top.Stmt s) = 1 + stmt_nodes s

abbrev pub item_nodes : PxdItem → ℕ
item_nodes (item.Class c) = 1 + pxd_class_nodes c
item_nodes (item.Function h) = 1 + heading_nodes h
item_nodes _ = 1

abbrev pub content_nodes : Content → ℕ
content_nodes (content.Implementation tops) = 1 + total (map top_nodes tops)
content_nodes (content.Definition items) = 1 + total (map item_nodes items)

abbrev pub nodes : Tree → ℕ
nodes (FileNode c) = content_nodes c
nodes (TopNode t) = top_nodes t
nodes (PxdItemNode i) = item_nodes i
nodes (ClassNode c) = class_nodes c
nodes (PxdClassNode c) = pxd_class_nodes c
nodes (MemberNode m) = member_nodes m
nodes (PxdMemberNode m) = pxd_member_nodes m
nodes (CFunctionNode f) = function_nodes f
nodes (HeadingNode h) = heading_nodes h
nodes (HeaderNode h) = header_nodes h
nodes (DefNode d) = def_nodes d
nodes (VariablesNode v) = variables_nodes v
nodes (ParamNode p) = param_nodes p
nodes (DeclaredNode d) = declared_nodes d
nodes (SuiteNode s) = suite_nodes s
nodes (LineNode l) = line_nodes l
nodes (StmtNode s) = stmt_nodes s
nodes (ArmNode a) = arm_nodes a
nodes (HandlerNode h) = handler_nodes h
nodes (SimpleNode s) = simple_nodes s
nodes (ExprNode e) = expr_nodes e
nodes (PartNode p) = part_nodes p
nodes (IndexNode i) = index_nodes i

-- the nodes of a tree, numbered by their first tokens, outer before inner: the tree itself is 0, and a node inside
-- a node comes behind it and behind all that stands before it there
pub data Numbered (root : Tree) : ℕ → Tree → Type 0 where
  Whole : Numbered root 0 root
  Inside : {n : ℕ} {t : Tree} → Numbered root n t → (before : List Tree) (c : Tree) (after : List Tree)
      → children t ≡ before ++ c ∷ after → Numbered root (suc (n + total (map nodes before))) c
