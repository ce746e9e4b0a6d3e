-- A node counts for one more than the nodes inside it.
use Rattle.std.proofs.Common.{◌≡◌, ℕ, suc, ◌+◌, ◌≤◌, List, [], ◌∷◌, ◌++◌, map, Option, Some, None, refl, ap, sym, ◌∙◌, arith}
use Rattle.cy_tree.specs.declared.expr.Expr.{Expr, Expr-F, out-Expr, fold_out-Expr}
use Rattle.cy_tree.specs.declared.expr.Expr.TheOpen.{Index-F, Part-F}
use Rattle.cy_tree.specs.declared.expr.Expr.TheFolds.{map-Expr, map-Index, map-Part}
use Rattle.cy_tree.specs.declared.expr.Part.{Part, out-Part, fold_out-Part}
use Rattle.cy_tree.specs.declared.expr.Index.{Index, out-Index, fold_out-Index}
use Rattle.cy_tree.specs.declared.stmt.Stmt.{Stmt, Stmt-F, out-Stmt, fold_out-Stmt}
use Rattle.cy_tree.specs.declared.stmt.Stmt.TheOpen.{Suite-F, Arm-F, Handler-F}
use Rattle.cy_tree.specs.declared.stmt.Stmt.TheFolds.{map-Stmt, map-Suite}
use Rattle.cy_tree.specs.declared.stmt.Suite.{Suite, out-Suite, fold_out-Suite}
use Rattle.cy_tree.specs.declared.stmt.Arm.{Arm, fold_out-Arm}
use Rattle.cy_tree.specs.declared.stmt.Handler.{Handler, fold_out-Handler}
use Rattle.cy_tree.specs.declared.content.Content.TheVariants as content
use Rattle.cy_tree.specs.declared.decl.Top.{Top}
use Rattle.cy_tree.specs.declared.decl.Top.TheVariants as top
use Rattle.cy_tree.specs.declared.decl.PxdItem.{PxdItem}
use Rattle.cy_tree.specs.declared.decl.PxdItem.TheVariants as item
use Rattle.cy_tree.specs.declared.decl.Member.{Member}
use Rattle.cy_tree.specs.declared.decl.Member.TheVariants as member
use Rattle.cy_tree.specs.declared.decl.PxdMember.{PxdMember}
use Rattle.cy_tree.specs.declared.decl.PxdMember.TheVariants as pxd_member
use Rattle.cy_tree.specs.declared.stmt.Simple.{Simple}
use Rattle.cy_tree.specs.declared.stmt.Simple.TheVariants as simple
use Rattle.cy_tree.specs.Nodes.{Tree, total, FileNode, TopNode, PxdItemNode, ClassNode, PxdClassNode, MemberNode, PxdMemberNode, CFunctionNode, HeadingNode, HeaderNode, DefNode, VariablesNode, ParamNode, DeclaredNode, SuiteNode, LineNode, StmtNode, ArmNode, HandlerNode, SimpleNode, ExprNode, PartNode, IndexNode, nodes, children, optional, each_pair, expr_children, part_children, index_children, stmt_children, suite_children, simple_children, maybe, maybe_nodes, expr_step, part_step, index_step, expr_nodes, part_nodes, index_nodes, declared_nodes, simple_nodes, stmt_nodes, suite_nodes, arm_nodes, handler_nodes, stmt_step, suite_step, arm_step, handler_step}

-- the nodes of a list
abbrev pub inside : List Tree → ℕ
inside ts = total (map nodes ts)

each : {A : Type 0} (node : A → Tree) (xs : List A) → inside (map node xs) ≡ total (map (λ x. nodes (node x)) xs)
each node [] = refl
each node (x ∷ xs) = ap (λ n. nodes (node x) + n) (each node xs)

pub inside-append : (xs ys : List Tree) → inside (xs ++ ys) ≡ inside xs + inside ys
inside-append [] ys = omega arith
inside-append (x ∷ xs) ys = omega (arith, inside-append xs ys)

-- operands behind their operators
second : {A : Type 0} (xs : List (A × Expr)) → total (map (λ (o : A × ℕ). o.1) (map (λ (o : A × Expr). (o.0, expr_nodes o.1)) xs)) ≡ inside (map (λ (o : A × Expr). ExprNode o.1) xs)
second [] = refl
second (x ∷ xs) = ap (λ n. expr_nodes x.1 + n) (second xs)

third : {A B : Type 0} (xs : List (A × B × Expr)) → total (map (λ (o : A × B × ℕ). o.2) (map (λ (o : A × B × Expr). (o.0, o.1, expr_nodes o.2)) xs)) ≡ inside (map (λ (o : A × B × Expr). ExprNode o.2) xs)
third [] = refl
third (x ∷ xs) = ap (λ n. expr_nodes x.2 + n) (third xs)

pairs : (xs : List (Expr × Expr)) → total (map (λ (p : ℕ × ℕ). p.0 + p.1) (map (λ (p : Expr × Expr). (expr_nodes p.0, expr_nodes p.1)) xs)) ≡ inside (each_pair xs)
pairs [] = refl
pairs (x ∷ xs) = omega (arith, pairs xs)

abbrev counted : Expr-F Expr Index Part → Expr-F ℕ ℕ ℕ
counted = map-Expr Expr Index Part ℕ ℕ ℕ expr_nodes index_nodes part_nodes

expr_level : (l : Expr-F Expr Index Part) → expr_step (counted l) ≡ 1 + (inside (expr_children l))
expr_level (Expr-F.Conditional at value test other) = omega arith
expr_level (Expr-F.Or at xs) = ap (λ n. 1 + n) (sym (each ExprNode xs))
expr_level (Expr-F.And at xs) = ap (λ n. 1 + n) (sym (each ExprNode xs))
expr_level (Expr-F.Not at x) = omega arith
expr_level (Expr-F.Compare at x op place y) = omega arith
expr_level (Expr-F.BitOr at x more) = ap (λ n. 1 + (expr_nodes x + n)) (second more)
expr_level (Expr-F.BitXor at x more) = ap (λ n. 1 + (expr_nodes x + n)) (second more)
expr_level (Expr-F.BitAnd at x more) = ap (λ n. 1 + (expr_nodes x + n)) (second more)
expr_level (Expr-F.Shift at x more) = ap (λ n. 1 + (expr_nodes x + n)) (third more)
expr_level (Expr-F.Sum at x more) = ap (λ n. 1 + (expr_nodes x + n)) (third more)
expr_level (Expr-F.Term at x more) = ap (λ n. 1 + (expr_nodes x + n)) (third more)
expr_level (Expr-F.Unary at op x) = omega arith
expr_level (Expr-F.Cast at kind checked x) = omega arith
expr_level (Expr-F.Postfix at x parts) = ap (λ n. 1 + (expr_nodes x + n)) (sym (each PartNode parts))
expr_level (Expr-F.Name i) = refl
expr_level (Expr-F.Int at n) = refl
expr_level (Expr-F.Str at t) = refl
expr_level (Expr-F.NoneNode at) = refl
expr_level (Expr-F.TrueNode at) = refl
expr_level (Expr-F.FalseNode at) = refl
expr_level (Expr-F.Tuple at xs) = ap (λ n. 1 + n) (sym (each ExprNode xs))
expr_level (Expr-F.ListNode at xs) = ap (λ n. 1 + n) (sym (each ExprNode xs))
expr_level (Expr-F.Dict at xs) = ap (λ n. 1 + n) (pairs xs)

part_level : (l : Part-F Expr Index Part) → part_step (map-Part Expr Index Part ℕ ℕ ℕ expr_nodes index_nodes part_nodes l) ≡ 1 + (inside (part_children l))
part_level (Part-F.Attribute at name) = refl
part_level (Part-F.Call at xs) = ap (λ n. 1 + n) (sym (each ExprNode xs))
part_level (Part-F.Item at xs) = ap (λ n. 1 + n) (sym (each IndexNode xs))

index_level : (l : Index-F Expr Index Part) → index_step (map-Index Expr Index Part ℕ ℕ ℕ expr_nodes index_nodes part_nodes l) ≡ 1 + (inside (index_children l))
index_level (Index-F.One x) = omega arith
index_level (Index-F.Slice at None None) = refl
index_level (Index-F.Slice at (Some x) None) = omega arith
index_level (Index-F.Slice at None (Some y)) = omega arith
index_level (Index-F.Slice at (Some x) (Some y)) = omega arith

of_expr : (e : Expr) → expr_nodes e ≡ 1 + (inside (expr_children (out-Expr e)))
of_expr e = fold_out-Expr ℕ ℕ ℕ expr_step index_step part_step e ∙ expr_level (out-Expr e)

of_part : (p : Part) → part_nodes p ≡ 1 + (inside (part_children (out-Part p)))
of_part p = fold_out-Part ℕ ℕ ℕ expr_step index_step part_step p ∙ part_level (out-Part p)

of_index : (i : Index) → index_nodes i ≡ 1 + (inside (index_children (out-Index i)))
of_index i = fold_out-Index ℕ ℕ ℕ expr_step index_step part_step i ∙ index_level (out-Index i)

-- statements

abbrev stmt_counted : Stmt-F Stmt Suite Arm Handler → Stmt-F ℕ ℕ ℕ ℕ
stmt_counted = map-Stmt Stmt Suite Arm Handler ℕ ℕ ℕ ℕ stmt_nodes suite_nodes arm_nodes handler_nodes

abbrev suite_counted : Suite-F Stmt Suite Arm Handler → Suite-F ℕ ℕ ℕ ℕ
suite_counted = map-Suite Stmt Suite Arm Handler ℕ ℕ ℕ ℕ stmt_nodes suite_nodes arm_nodes handler_nodes

abbrev suites : Option Suite → ℕ
suites None = 0
suites (Some s) = suite_nodes s

of_optional : (o : Option Expr) → maybe_nodes o ≡ inside (optional ExprNode o)
of_optional None = refl
of_optional (Some e) = omega arith

stmt_level : (l : Stmt-F Stmt Suite Arm Handler) → stmt_step (stmt_counted l) ≡ 1 + (inside (stmt_children l))
stmt_level (Stmt-F.Simples line) = omega arith
stmt_level (Stmt-F.IfNode at arms None) = omega (arith, each ArmNode arms, inside-append (map ArmNode arms) [])
stmt_level (Stmt-F.IfNode at arms (Some s)) = omega (arith, each ArmNode arms, inside-append (map ArmNode arms) (SuiteNode s ∷ []))
stmt_level (Stmt-F.WhileNode at test body None) = omega arith
stmt_level (Stmt-F.WhileNode at test body (Some s)) = omega arith
stmt_level (Stmt-F.ForNode at target over body None) = omega arith
stmt_level (Stmt-F.ForNode at target over body (Some s)) = omega arith
stmt_level (Stmt-F.Try at body handlers None None) = omega (arith, each HandlerNode handlers, inside-append (map HandlerNode handlers) [])
stmt_level (Stmt-F.Try at body handlers (Some s) None) = omega (arith, each HandlerNode handlers, inside-append (map HandlerNode handlers) (SuiteNode s ∷ []))
stmt_level (Stmt-F.Try at body handlers None (Some t)) = omega (arith, each HandlerNode handlers, inside-append (map HandlerNode handlers) (SuiteNode t ∷ []))
stmt_level (Stmt-F.Try at body handlers (Some s) (Some t)) = omega (arith, each HandlerNode handlers, inside-append (map HandlerNode handlers) (SuiteNode s ∷ SuiteNode t ∷ []))
stmt_level (Stmt-F.With at word body) = omega arith

suite_level : (l : Suite-F Stmt Suite Arm Handler) → suite_step (suite_counted l) ≡ 1 + (inside (suite_children l))
suite_level (Suite-F.Inline line) = omega arith
suite_level (Suite-F.Block xs) = ap (λ n. 1 + n) (sym (each StmtNode xs))

of_stmt : (s : Stmt) → stmt_nodes s ≡ 1 + (inside (stmt_children (out-Stmt s)))
of_stmt s = fold_out-Stmt ℕ ℕ ℕ ℕ stmt_step suite_step arm_step handler_step s ∙ stmt_level (out-Stmt s)

of_suite : (s : Suite) → suite_nodes s ≡ 1 + (inside (suite_children (out-Suite s)))
of_suite s = fold_out-Suite ℕ ℕ ℕ ℕ stmt_step suite_step arm_step handler_step s ∙ suite_level (out-Suite s)

of_arm : (a : Arm) → arm_nodes a ≡ 1 + (inside (ExprNode a.test ∷ SuiteNode a.body ∷ []))
of_arm a = omega (arith, fold_out-Arm ℕ ℕ ℕ ℕ stmt_step suite_step arm_step handler_step a)

of_handler : (h : Handler) → handler_nodes h ≡ 1 + (inside (optional ExprNode h.kind ++ SuiteNode h.body ∷ []))
of_handler h = omega (arith, fold_out-Handler ℕ ℕ ℕ ℕ stmt_step suite_step arm_step handler_step h, of_optional h.kind, inside-append (optional ExprNode h.kind) (SuiteNode h.body ∷ []))

of_simple : (s : Simple) → simple_nodes s ≡ 1 + (inside (simple_children s))
of_simple (simple.Pass at) = refl
of_simple (simple.Break at) = refl
of_simple (simple.Continue at) = refl
of_simple (simple.ReturnNode at value) = omega (arith, of_optional value)
of_simple (simple.Raise at value) = omega (arith, of_optional value)
of_simple (simple.Del at xs) = omega (arith, each ExprNode xs)
of_simple (simple.Global at names) = refl
of_simple (simple.Import at items) = refl
of_simple (simple.FromImport at name items) = refl
of_simple (simple.Cdef at kind names) = omega (arith, each DeclaredNode names)
of_simple (simple.Expression x) = omega arith
of_simple (simple.Augmented target op at value) = omega arith
of_simple (simple.Assign targets value) = omega (arith, each ExprNode targets, inside-append (map ExprNode targets) (ExprNode value ∷ []))

-- declarations

of_top : (t : Top) → nodes (TopNode t) ≡ 1 + (inside (children (TopNode t)))
of_top (top.Cimport c) = refl
of_top (top.Class c) = omega arith
of_top (top.Function f) = omega arith
of_top (top.Variables v) = omega arith
of_top (top.Def d) = omega arith
of_top (top.Stmt s) = omega arith

of_item : (i : PxdItem) → nodes (PxdItemNode i) ≡ 1 + (inside (children (PxdItemNode i)))
of_item (item.Cimport c) = refl
of_item (item.Pass at) = refl
of_item (item.Class c) = omega arith
of_item (item.Function h) = omega arith

of_member : (m : Member) → nodes (MemberNode m) ≡ 1 + (inside (children (MemberNode m)))
of_member (member.Pass at) = refl
of_member (member.Docstring at text) = refl
of_member (member.Def d) = omega arith
of_member (member.OpenFields at access kind names) = refl
of_member (member.Fields at kind names) = refl
of_member (member.Method f) = omega arith

of_pxd_member : (m : PxdMember) → nodes (PxdMemberNode m) ≡ 1 + (inside (children (PxdMemberNode m)))
of_pxd_member (pxd_member.Pass at) = refl
of_pxd_member (pxd_member.OpenFields at access kind names) = refl
of_pxd_member (pxd_member.Fields at kind names) = refl
of_pxd_member (pxd_member.Method h) = omega arith

-- one, and those inside
pub nodes-children : (t : Tree) → nodes t ≡ 1 + (inside (children t))
nodes-children (FileNode (content.Implementation tops)) = ap (λ n. 1 + n) (sym (each TopNode tops))
nodes-children (FileNode (content.Definition items)) = ap (λ n. 1 + n) (sym (each PxdItemNode items))
nodes-children (TopNode t) = of_top t
nodes-children (PxdItemNode i) = of_item i
nodes-children (ClassNode c) = ap (λ n. 1 + n) (sym (each MemberNode c.members))
nodes-children (PxdClassNode c) = ap (λ n. 1 + n) (sym (each PxdMemberNode c.members))
nodes-children (MemberNode m) = of_member m
nodes-children (PxdMemberNode m) = of_pxd_member m
nodes-children (CFunctionNode f) = omega arith
nodes-children (HeadingNode h) = omega arith
nodes-children (HeaderNode h) = ap (λ n. 1 + n) (sym (each ParamNode h.params))
nodes-children (DefNode d) = omega (arith, each ParamNode d.params, inside-append (map ParamNode d.params) (SuiteNode d.body ∷ []))
nodes-children (VariablesNode v) = ap (λ n. 1 + n) (sym (each DeclaredNode v.names))
nodes-children (ParamNode p) = ap (λ n. 1 + n) (of_optional p.default)
nodes-children (DeclaredNode d) = ap (λ n. 1 + n) (of_optional d.value)
nodes-children (SuiteNode s) = of_suite s
nodes-children (LineNode l) = ap (λ n. 1 + n) (sym (each SimpleNode l.simples))
nodes-children (StmtNode s) = of_stmt s
nodes-children (ArmNode a) = of_arm a
nodes-children (HandlerNode h) = of_handler h
nodes-children (SimpleNode s) = of_simple s
nodes-children (ExprNode e) = of_expr e
nodes-children (PartNode p) = of_part p
nodes-children (IndexNode i) = of_index i

-- at least one
pub nodes-some : (t : Tree) → 1 ≤ nodes t
nodes-some t = omega (arith, nodes-children t)
