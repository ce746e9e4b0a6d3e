-- A node has the types that it has itself, and then those of the nodes inside it.
use Rattle.std.proofs.Common.{◌≡◌, ℕ, suc, take, slice_get, List, [], ◌∷◌, ◌++◌, map, Option, Some, None, refl, ap, sym, ◌∙◌, append_assoc}
use Rattle.std.proofs.lemmas.List.{map-append, take_all}
use Rattle.cy_tree.proofs.Linking.{is_past, take-suc}
use Rattle.cy_tree.specs.declared.expr.Expr.{Expr, Expr-F, out-Expr, fold_out-Expr}
use Rattle.cy_tree.specs.declared.expr.Expr.TheOpen.{Index-F, Part-F}
use Rattle.cy_tree.specs.declared.expr.Expr.TheFolds.{map-Expr, map-Index, map-Part}
use Rattle.cy_tree.specs.declared.expr.Part.{Part, out-Part, fold_out-Part}
use Rattle.cy_tree.specs.declared.expr.Index.{Index, out-Index, fold_out-Index}
use Rattle.cy_tree.specs.declared.stmt.Stmt.{Stmt, Stmt-F, out-Stmt, fold_out-Stmt}
use Rattle.cy_tree.specs.declared.stmt.Stmt.TheOpen.{Suite-F}
use Rattle.cy_tree.specs.declared.stmt.Stmt.TheFolds.{map-Stmt, map-Suite}
use Rattle.cy_tree.specs.declared.stmt.Suite.{Suite, out-Suite, fold_out-Suite}
use Rattle.cy_tree.specs.declared.stmt.Arm.{Arm, fold_out-Arm}
use Rattle.cy_tree.specs.declared.stmt.Handler.{Handler, fold_out-Handler}
use Rattle.cy_tree.specs.declared.content.Content.TheVariants as content
use Rattle.cy_tree.specs.declared.decl.Top.{Top}
use Rattle.cy_tree.specs.declared.decl.Top.TheVariants as top
use Rattle.cy_tree.specs.declared.decl.PxdItem.{PxdItem}
use Rattle.cy_tree.specs.declared.decl.PxdItem.TheVariants as item
use Rattle.cy_tree.specs.declared.decl.Member.{Member}
use Rattle.cy_tree.specs.declared.decl.Member.TheVariants as member
use Rattle.cy_tree.specs.declared.decl.PxdMember.{PxdMember}
use Rattle.cy_tree.specs.declared.decl.PxdMember.TheVariants as pxd_member
use Rattle.cy_tree.specs.declared.stmt.Simple.{Simple}
use Rattle.cy_tree.specs.declared.stmt.Simple.TheVariants as simple
use Rattle.cy_tree.specs.Nodes.{Tree, FileNode, TopNode, PxdItemNode, ClassNode, PxdClassNode, MemberNode, PxdMemberNode, CFunctionNode, HeadingNode, HeaderNode, DefNode, VariablesNode, ParamNode, DeclaredNode, SuiteNode, LineNode, StmtNode, ArmNode, HandlerNode, SimpleNode, ExprNode, PartNode, IndexNode, children, each_pair, expr_children, part_children, index_children, stmt_children, suite_children, simple_children}
use Rattle.cy_tree.specs.Nodes as node
use Rattle.type_uses.specs.Uses.{TypeUse, all_of, optional, names_uses, type_uses, simple_own, simple_inside, expr_step, index_step, part_step, stmt_step, suite_step, arm_step, handler_step, expr_uses, index_uses, part_uses, stmt_uses, suite_uses, arm_uses, handler_uses}
use Rattle.type_uses.specs.Trees.{own, expr_own, uses}

-- what a list of nodes has
abbrev pub had : List Tree → List (List TypeUse)
had ts = map uses ts

each : {A : Type 0} (node : A → Tree) (xs : List A) → map (λ x. uses (node x)) xs ≡ had (map node xs)
each node [] = refl
each node (x ∷ xs) = ap (λ (ms : List (List TypeUse)). uses (node x) ∷ ms) (each node xs)

second : {A : Type 0} (xs : List (A × Expr)) → map (λ (o : A × List TypeUse). o.1) (map (λ (o : A × Expr). (o.0, expr_uses o.1)) xs) ≡ had (map (λ (o : A × Expr). ExprNode o.1) xs)
second [] = refl
second (x ∷ xs) = ap (λ (ms : List (List TypeUse)). expr_uses x.1 ∷ ms) (second xs)

third : {A B : Type 0} (xs : List (A × B × Expr)) → map (λ (o : A × B × List TypeUse). o.2) (map (λ (o : A × B × Expr). (o.0, o.1, expr_uses o.2)) xs) ≡ had (map (λ (o : A × B × Expr). ExprNode o.2) xs)
third [] = refl
third (x ∷ xs) = ap (λ (ms : List (List TypeUse)). expr_uses x.2 ∷ ms) (third xs)

pairs : (xs : List (Expr × Expr)) → all_of (map (λ (p : List TypeUse × List TypeUse). p.0 ++ p.1) (map (λ (p : Expr × Expr). (expr_uses p.0, expr_uses p.1)) xs)) ≡ all_of (had (each_pair xs))
pairs [] = refl
pairs (x ∷ xs) =
    ap (λ (ms : List TypeUse). (expr_uses x.0 ++ expr_uses x.1) ++ ms) (pairs xs)
    ∙ append_assoc (expr_uses x.0) (expr_uses x.1) (all_of (had (each_pair xs)))

abbrev told : Expr-F Expr Index Part → Expr-F (List TypeUse) (List TypeUse) (List TypeUse)
told = map-Expr Expr Index Part (List TypeUse) (List TypeUse) (List TypeUse) expr_uses index_uses part_uses

expr_level : (l : Expr-F Expr Index Part) → expr_step (told l) ≡ expr_own l ++ all_of (had (expr_children l))
expr_level (Expr-F.Conditional at value test other) = refl
expr_level (Expr-F.Or at xs) = ap all_of (each ExprNode xs)
expr_level (Expr-F.And at xs) = ap all_of (each ExprNode xs)
expr_level (Expr-F.Not at x) = refl
expr_level (Expr-F.Compare at x op place y) = refl
expr_level (Expr-F.BitOr at x more) = ap (λ (ms : List (List TypeUse)). all_of (expr_uses x ∷ ms)) (second more)
expr_level (Expr-F.BitXor at x more) = ap (λ (ms : List (List TypeUse)). all_of (expr_uses x ∷ ms)) (second more)
expr_level (Expr-F.BitAnd at x more) = ap (λ (ms : List (List TypeUse)). all_of (expr_uses x ∷ ms)) (second more)
expr_level (Expr-F.Shift at x more) = ap (λ (ms : List (List TypeUse)). all_of (expr_uses x ∷ ms)) (third more)
expr_level (Expr-F.Sum at x more) = ap (λ (ms : List (List TypeUse)). all_of (expr_uses x ∷ ms)) (third more)
expr_level (Expr-F.Term at x more) = ap (λ (ms : List (List TypeUse)). all_of (expr_uses x ∷ ms)) (third more)
expr_level (Expr-F.Unary at op x) = refl
expr_level (Expr-F.Cast at kind checked x) = refl
expr_level (Expr-F.Postfix at x parts) = ap (λ (ms : List (List TypeUse)). all_of (expr_uses x ∷ ms)) (each PartNode parts)
expr_level (Expr-F.Name i) = refl
expr_level (Expr-F.Int at n) = refl
expr_level (Expr-F.Str at t) = refl
expr_level (Expr-F.NoneNode at) = refl
expr_level (Expr-F.TrueNode at) = refl
expr_level (Expr-F.FalseNode at) = refl
expr_level (Expr-F.Tuple at xs) = ap all_of (each ExprNode xs)
expr_level (Expr-F.ListNode at xs) = ap all_of (each ExprNode xs)
expr_level (Expr-F.Dict at xs) = pairs xs

part_level : (l : Part-F Expr Index Part) → part_step (map-Part Expr Index Part (List TypeUse) (List TypeUse) (List TypeUse) expr_uses index_uses part_uses l) ≡ all_of (had (part_children l))
part_level (Part-F.Attribute at name) = refl
part_level (Part-F.Call at xs) = ap all_of (each ExprNode xs)
part_level (Part-F.Item at xs) = ap all_of (each IndexNode xs)

index_level : (l : Index-F Expr Index Part) → index_step (map-Index Expr Index Part (List TypeUse) (List TypeUse) (List TypeUse) expr_uses index_uses part_uses l) ≡ all_of (had (index_children l))
index_level (Index-F.One x) = refl
index_level (Index-F.Slice at None None) = refl
index_level (Index-F.Slice at (Some x) None) = refl
index_level (Index-F.Slice at None (Some y)) = refl
index_level (Index-F.Slice at (Some x) (Some y)) = refl

of_expr : (e : Expr) → expr_uses e ≡ own (ExprNode e) ++ all_of (had (children (ExprNode e)))
of_expr e = fold_out-Expr (List TypeUse) (List TypeUse) (List TypeUse) expr_step index_step part_step e ∙ expr_level (out-Expr e)

of_part : (p : Part) → part_uses p ≡ all_of (had (children (PartNode p)))
of_part p = fold_out-Part (List TypeUse) (List TypeUse) (List TypeUse) expr_step index_step part_step p ∙ part_level (out-Part p)

of_index : (i : Index) → index_uses i ≡ all_of (had (children (IndexNode i)))
of_index i = fold_out-Index (List TypeUse) (List TypeUse) (List TypeUse) expr_step index_step part_step i ∙ index_level (out-Index i)

-- statements

abbrev stmt_told : Stmt-F Stmt Suite Arm Handler → Stmt-F (List TypeUse) (List TypeUse) (List TypeUse) (List TypeUse)
stmt_told = map-Stmt Stmt Suite Arm Handler (List TypeUse) (List TypeUse) (List TypeUse) (List TypeUse) stmt_uses suite_uses arm_uses handler_uses

abbrev suite_told : Suite-F Stmt Suite Arm Handler → Suite-F (List TypeUse) (List TypeUse) (List TypeUse) (List TypeUse)
suite_told = map-Suite Stmt Suite Arm Handler (List TypeUse) (List TypeUse) (List TypeUse) (List TypeUse) stmt_uses suite_uses arm_uses handler_uses

-- a list of nodes, and those behind it
both : {A : Type 0} (node : A → Tree) (xs : List A) (more : List Tree) → map (λ x. uses (node x)) xs ++ had more ≡ had (map node xs ++ more)
both node xs more = ap (λ (ms : List (List TypeUse)). ms ++ had more) (each node xs) ∙ sym (map-append uses (map node xs) more)

stmt_level : (l : Stmt-F Stmt Suite Arm Handler) → stmt_step (stmt_told l) ≡ all_of (had (stmt_children l))
stmt_level (Stmt-F.Simples line) = refl
stmt_level (Stmt-F.IfNode at arms None) = ap all_of (both ArmNode arms [])
stmt_level (Stmt-F.IfNode at arms (Some s)) = ap all_of (both ArmNode arms (SuiteNode s ∷ []))
stmt_level (Stmt-F.WhileNode at test body None) = refl
stmt_level (Stmt-F.WhileNode at test body (Some s)) = refl
stmt_level (Stmt-F.ForNode at x over body None) = refl
stmt_level (Stmt-F.ForNode at x over body (Some s)) = refl
stmt_level (Stmt-F.Try at body handlers None None) = ap (λ (ms : List (List TypeUse)). all_of (suite_uses body ∷ ms)) (both HandlerNode handlers [])
stmt_level (Stmt-F.Try at body handlers (Some s) None) = ap (λ (ms : List (List TypeUse)). all_of (suite_uses body ∷ ms)) (both HandlerNode handlers (SuiteNode s ∷ []))
stmt_level (Stmt-F.Try at body handlers None (Some t)) = ap (λ (ms : List (List TypeUse)). all_of (suite_uses body ∷ ms)) (both HandlerNode handlers (SuiteNode t ∷ []))
stmt_level (Stmt-F.Try at body handlers (Some s) (Some t)) = ap (λ (ms : List (List TypeUse)). all_of (suite_uses body ∷ ms)) (both HandlerNode handlers (SuiteNode s ∷ SuiteNode t ∷ []))
stmt_level (Stmt-F.With at word body) = refl

suite_level : (l : Suite-F Stmt Suite Arm Handler) → suite_step (suite_told l) ≡ all_of (had (suite_children l))
suite_level (Suite-F.Inline line) = refl
suite_level (Suite-F.Block xs) = ap all_of (each StmtNode xs)

of_stmt : (s : Stmt) → stmt_uses s ≡ own (StmtNode s) ++ all_of (had (children (StmtNode s)))
of_stmt s = fold_out-Stmt (List TypeUse) (List TypeUse) (List TypeUse) (List TypeUse) stmt_step suite_step arm_step handler_step s ∙ stmt_level (out-Stmt s)

of_suite : (s : Suite) → suite_uses s ≡ all_of (had (children (SuiteNode s)))
of_suite s = fold_out-Suite (List TypeUse) (List TypeUse) (List TypeUse) (List TypeUse) stmt_step suite_step arm_step handler_step s ∙ suite_level (out-Suite s)

of_arm : (a : Arm) → arm_uses a ≡ all_of (had (children (ArmNode a)))
of_arm a = fold_out-Arm (List TypeUse) (List TypeUse) (List TypeUse) (List TypeUse) stmt_step suite_step arm_step handler_step a

maybe_expr : (o : Option Expr) → map expr_uses (optional o) ≡ had (node.optional ExprNode o)
maybe_expr None = refl
maybe_expr (Some e) = refl

of_handler : (h : Handler) → handler_uses h ≡ own (HandlerNode h) ++ all_of (had (children (HandlerNode h)))
of_handler h =
    fold_out-Handler (List TypeUse) (List TypeUse) (List TypeUse) (List TypeUse) stmt_step suite_step arm_step handler_step h
    ∙ ap (λ (ms : List (List TypeUse)). all_of (ms ++ suite_uses h.body ∷ [])) (maybe_expr h.kind)
    ∙ ap (λ (ms : List (List TypeUse)). all_of ms) (sym (map-append uses (node.optional ExprNode h.kind) (SuiteNode h.body ∷ [])))

of_simple : (s : Simple) → all_of (simple_inside s) ≡ all_of (had (simple_children s))
of_simple (simple.Pass at) = refl
of_simple (simple.Break at) = refl
of_simple (simple.Continue at) = refl
of_simple (simple.ReturnNode at value) = ap all_of (maybe_expr value)
of_simple (simple.Raise at value) = ap all_of (maybe_expr value)
of_simple (simple.Del at xs) = ap all_of (each ExprNode xs)
of_simple (simple.Global at names) = refl
of_simple (simple.Import at items) = refl
of_simple (simple.FromImport at name items) = refl
of_simple (simple.Cdef at kind names) = ap all_of (each DeclaredNode names)
of_simple (simple.Expression x) = refl
of_simple (simple.Augmented x op at value) = refl
of_simple (simple.Assign targets value) = ap all_of (both ExprNode targets (ExprNode value ∷ []))

-- declarations

of_top : (t : Top) → uses (TopNode t) ≡ all_of (had (children (TopNode t)))
of_top (top.Cimport c) = refl
of_top (top.Class c) = refl
of_top (top.Function f) = refl
of_top (top.Variables v) = refl
of_top (top.Def d) = refl
of_top (top.Stmt s) = refl

of_item : (i : PxdItem) → uses (PxdItemNode i) ≡ all_of (had (children (PxdItemNode i)))
of_item (item.Cimport c) = refl
of_item (item.Pass at) = refl
of_item (item.Class c) = refl
of_item (item.Function h) = refl

of_member : (m : Member) → uses (MemberNode m) ≡ own (MemberNode m) ++ all_of (had (children (MemberNode m)))
of_member (member.Pass at) = refl
of_member (member.Docstring at text) = refl
of_member (member.Def d) = refl
of_member (member.OpenFields at access kind names) = refl
of_member (member.Fields at None names) = refl
of_member (member.Fields at (Some t) names) = refl
of_member (member.Method f) = refl

of_pxd_member : (m : PxdMember) → uses (PxdMemberNode m) ≡ own (PxdMemberNode m) ++ all_of (had (children (PxdMemberNode m)))
of_pxd_member (pxd_member.Pass at) = refl
of_pxd_member (pxd_member.OpenFields at access kind names) = refl
of_pxd_member (pxd_member.Fields at None names) = refl
of_pxd_member (pxd_member.Fields at (Some t) names) = refl
of_pxd_member (pxd_member.Method h) = refl

pub uses-children : (t : Tree) → uses t ≡ own t ++ all_of (had (children t))
uses-children (FileNode (content.Implementation tops)) = ap all_of (each TopNode tops)
uses-children (FileNode (content.Definition items)) = ap all_of (each PxdItemNode items)
uses-children (TopNode t) = of_top t
uses-children (PxdItemNode i) = of_item i
uses-children (ClassNode c) = ap all_of (each MemberNode c.members)
uses-children (PxdClassNode c) = ap all_of (each PxdMemberNode c.members)
uses-children (MemberNode m) = of_member m
uses-children (PxdMemberNode m) = of_pxd_member m
uses-children (CFunctionNode f) = refl
uses-children (HeadingNode h) = refl
uses-children (HeaderNode h) = ap all_of (each ParamNode h.params)
uses-children (DefNode d) = ap all_of (both ParamNode d.params (SuiteNode d.body ∷ []))
uses-children (VariablesNode v) = ap (λ (ms : List (List TypeUse)). (type_uses v.kind ++ names_uses v.kind v.names) ++ all_of ms) (each DeclaredNode v.names)
uses-children (ParamNode p) = ap (λ (ms : List (List TypeUse)). type_uses p.kind ++ all_of ms) (maybe_expr p.default)
uses-children (DeclaredNode d) = ap (λ (ms : List (List TypeUse)). all_of ms) (maybe_expr d.value)
uses-children (SuiteNode s) = of_suite s
uses-children (LineNode l) = ap all_of (each SimpleNode l.simples)
uses-children (StmtNode s) = of_stmt s
uses-children (ArmNode a) = of_arm a
uses-children (HandlerNode h) = of_handler h
uses-children (SimpleNode s) = ap (λ (ms : List TypeUse). simple_own s ++ ms) (of_simple s)
uses-children (ExprNode e) = of_expr e
uses-children (PartNode p) = of_part p
uses-children (IndexNode i) = of_index i

-- a walk over the first children

all_of-append : (xs ys : List (List TypeUse)) → all_of (xs ++ ys) ≡ all_of xs ++ all_of ys
all_of-append [] ys = refl
all_of-append (x ∷ xs) ys = ap (λ (ms : List TypeUse). x ++ ms) (all_of-append xs ys) ∙ sym (append_assoc x (all_of xs) (all_of ys))

nothing_more : (xs : List TypeUse) → xs ++ [] ≡ xs
nothing_more [] = refl
nothing_more (x ∷ xs) = ap (λ (ms : List TypeUse). x ∷ ms) (nothing_more xs)

pub one-more : (start now next : List TypeUse) (ts : List Tree) (place : ℕ) (c : Tree) → slice_get ts place ≡ Some c
    → now ≡ start ++ all_of (had (take place ts)) → next ≡ now ++ uses c → next ≡ start ++ all_of (had (take (suc place) ts))
one-more start now next ts place c at so e =
    e
    ∙ ap (λ (ms : List TypeUse). ms ++ uses c) so
    ∙ append_assoc start (all_of (had (take place ts))) (uses c)
    ∙ ap (λ (ms : List TypeUse). start ++ ms)
    (ap (λ (ms : List TypeUse). all_of (had (take place ts)) ++ ms) (sym (nothing_more (uses c)))
    ∙ sym (all_of-append (had (take place ts)) (uses c ∷ []))
    ∙ ap all_of (sym (map-append uses (take place ts) (c ∷ [])) ∙ ap (λ (us : List Tree). had us) (sym (take-suc ts place c at))))

pub all-had : (before start last : List TypeUse) (t : Tree) (place : ℕ) → slice_get (children t) place ≡ None
    → start ≡ before ++ own t → last ≡ start ++ all_of (had (take place (children t))) → last ≡ before ++ uses t
all-had before start last t place at so e =
    e
    ∙ ap (λ (us : List Tree). start ++ all_of (had us)) (take_all place (children t) (is_past (children t) place at))
    ∙ ap (λ (ms : List TypeUse). ms ++ all_of (had (children t))) so
    ∙ append_assoc before (own t) (all_of (had (children t)))
    ∙ ap (λ (ms : List TypeUse). before ++ ms) (sym (uses-children t))
