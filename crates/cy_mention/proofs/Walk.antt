-- A node says what it says itself, and then what the nodes inside it say.
use Rattle.std.proofs.Common.{◌≡◌, ℕ, suc, take, slice_get, List, [], ◌∷◌, ◌++◌, map, Option, Some, None, refl, ap, sym, ◌∙◌, append_assoc}
use Rattle.std.proofs.lemmas.List.{map-append, take_all}
use Rattle.cy_tree.proofs.Linking.{is_past, take-suc}
use Rattle.cy_tree.specs.declared.expr.Expr.{Expr, Expr-F, out-Expr, fold_out-Expr}
use Rattle.cy_tree.specs.declared.expr.Expr.TheOpen.{Index-F, Part-F}
use Rattle.cy_tree.specs.declared.expr.Expr.TheFolds.{map-Expr, map-Index, map-Part}
use Rattle.cy_tree.specs.declared.expr.Part.{Part, out-Part, fold_out-Part}
use Rattle.cy_tree.specs.declared.expr.Index.{Index, out-Index, fold_out-Index}
use Rattle.cy_tree.specs.declared.stmt.Stmt.{Stmt, Stmt-F, out-Stmt, fold_out-Stmt}
use Rattle.cy_tree.specs.declared.stmt.Stmt.TheOpen.{Suite-F}
use Rattle.cy_tree.specs.declared.stmt.Stmt.TheFolds.{map-Stmt, map-Suite}
use Rattle.cy_tree.specs.declared.stmt.Suite.{Suite, out-Suite, fold_out-Suite}
use Rattle.cy_tree.specs.declared.stmt.Arm.{Arm, fold_out-Arm}
use Rattle.cy_tree.specs.declared.stmt.Handler.{Handler, fold_out-Handler}
use Rattle.cy_tree.specs.declared.content.Content.TheVariants as content
use Rattle.cy_tree.specs.declared.decl.Top.{Top}
use Rattle.cy_tree.specs.declared.decl.Top.TheVariants as top
use Rattle.cy_tree.specs.declared.decl.PxdItem.{PxdItem}
use Rattle.cy_tree.specs.declared.decl.PxdItem.TheVariants as item
use Rattle.cy_tree.specs.declared.decl.Member.{Member}
use Rattle.cy_tree.specs.declared.decl.Member.TheVariants as member
use Rattle.cy_tree.specs.declared.decl.PxdMember.{PxdMember}
use Rattle.cy_tree.specs.declared.decl.PxdMember.TheVariants as pxd_member
use Rattle.cy_tree.specs.declared.stmt.Simple.{Simple}
use Rattle.cy_tree.specs.declared.stmt.Simple.TheVariants as simple
use Rattle.cy_tree.specs.Nodes.{Tree, FileNode, TopNode, PxdItemNode, ClassNode, PxdClassNode, MemberNode, PxdMemberNode, CFunctionNode, HeadingNode, HeaderNode, DefNode, VariablesNode, ParamNode, DeclaredNode, SuiteNode, LineNode, StmtNode, ArmNode, HandlerNode, SimpleNode, ExprNode, PartNode, IndexNode, children, each_pair, expr_children, part_children, index_children, stmt_children, suite_children, simple_children}
use Rattle.cy_tree.specs.Nodes as node
use Rattle.cy_mention.specs.Mentions.{Mention, all_of, optional, type_mentions, simple_own, simple_inside, handler_name, expr_step, index_step, part_step, stmt_step, suite_step, arm_step, handler_step, expr_mentions, index_mentions, part_mentions, stmt_mentions, suite_mentions, arm_mentions, handler_mentions}
use Rattle.cy_mention.specs.Trees.{own, expr_own, stmt_own, mentions}

-- what a list of nodes says
abbrev pub said : List Tree → List (List Mention)
said ts = map mentions ts

each : {A : Type 0} (node : A → Tree) (xs : List A) → map (λ x. mentions (node x)) xs ≡ said (map node xs)
each node [] = refl
each node (x ∷ xs) = ap (λ (ms : List (List Mention)). mentions (node x) ∷ ms) (each node xs)

second : {A : Type 0} (xs : List (A × Expr)) → map (λ (o : A × List Mention). o.1) (map (λ (o : A × Expr). (o.0, expr_mentions o.1)) xs) ≡ said (map (λ (o : A × Expr). ExprNode o.1) xs)
second [] = refl
second (x ∷ xs) = ap (λ (ms : List (List Mention)). expr_mentions x.1 ∷ ms) (second xs)

third : {A B : Type 0} (xs : List (A × B × Expr)) → map (λ (o : A × B × List Mention). o.2) (map (λ (o : A × B × Expr). (o.0, o.1, expr_mentions o.2)) xs) ≡ said (map (λ (o : A × B × Expr). ExprNode o.2) xs)
third [] = refl
third (x ∷ xs) = ap (λ (ms : List (List Mention)). expr_mentions x.2 ∷ ms) (third xs)

pairs : (xs : List (Expr × Expr)) → all_of (map (λ (p : List Mention × List Mention). p.0 ++ p.1) (map (λ (p : Expr × Expr). (expr_mentions p.0, expr_mentions p.1)) xs)) ≡ all_of (said (each_pair xs))
pairs [] = refl
pairs (x ∷ xs) =
    ap (λ (ms : List Mention). (expr_mentions x.0 ++ expr_mentions x.1) ++ ms) (pairs xs)
    ∙ append_assoc (expr_mentions x.0) (expr_mentions x.1) (all_of (said (each_pair xs)))

abbrev told : Expr-F Expr Index Part → Expr-F (List Mention) (List Mention) (List Mention)
told = map-Expr Expr Index Part (List Mention) (List Mention) (List Mention) expr_mentions index_mentions part_mentions

expr_level : (l : Expr-F Expr Index Part) → expr_step (told l) ≡ expr_own l ++ all_of (said (expr_children l))
expr_level (Expr-F.Conditional at value test other) = refl
expr_level (Expr-F.Or at xs) = ap all_of (each ExprNode xs)
expr_level (Expr-F.And at xs) = ap all_of (each ExprNode xs)
expr_level (Expr-F.Not at x) = refl
expr_level (Expr-F.Compare at x op place y) = refl
expr_level (Expr-F.BitOr at x more) = ap (λ (ms : List (List Mention)). all_of (expr_mentions x ∷ ms)) (second more)
expr_level (Expr-F.BitXor at x more) = ap (λ (ms : List (List Mention)). all_of (expr_mentions x ∷ ms)) (second more)
expr_level (Expr-F.BitAnd at x more) = ap (λ (ms : List (List Mention)). all_of (expr_mentions x ∷ ms)) (second more)
expr_level (Expr-F.Shift at x more) = ap (λ (ms : List (List Mention)). all_of (expr_mentions x ∷ ms)) (third more)
expr_level (Expr-F.Sum at x more) = ap (λ (ms : List (List Mention)). all_of (expr_mentions x ∷ ms)) (third more)
expr_level (Expr-F.Term at x more) = ap (λ (ms : List (List Mention)). all_of (expr_mentions x ∷ ms)) (third more)
expr_level (Expr-F.Unary at op x) = refl
expr_level (Expr-F.Cast at kind checked x) = refl
expr_level (Expr-F.Postfix at x parts) = ap (λ (ms : List (List Mention)). all_of (expr_mentions x ∷ ms)) (each PartNode parts)
expr_level (Expr-F.Name i) = refl
expr_level (Expr-F.Int at n) = refl
expr_level (Expr-F.Str at t) = refl
expr_level (Expr-F.NoneNode at) = refl
expr_level (Expr-F.TrueNode at) = refl
expr_level (Expr-F.FalseNode at) = refl
expr_level (Expr-F.Tuple at xs) = ap all_of (each ExprNode xs)
expr_level (Expr-F.ListNode at xs) = ap all_of (each ExprNode xs)
expr_level (Expr-F.Dict at xs) = pairs xs

part_level : (l : Part-F Expr Index Part) → part_step (map-Part Expr Index Part (List Mention) (List Mention) (List Mention) expr_mentions index_mentions part_mentions l) ≡ all_of (said (part_children l))
part_level (Part-F.Attribute at name) = refl
part_level (Part-F.Call at xs) = ap all_of (each ExprNode xs)
part_level (Part-F.Item at xs) = ap all_of (each IndexNode xs)

index_level : (l : Index-F Expr Index Part) → index_step (map-Index Expr Index Part (List Mention) (List Mention) (List Mention) expr_mentions index_mentions part_mentions l) ≡ all_of (said (index_children l))
index_level (Index-F.One x) = refl
index_level (Index-F.Slice at None None) = refl
index_level (Index-F.Slice at (Some x) None) = refl
index_level (Index-F.Slice at None (Some y)) = refl
index_level (Index-F.Slice at (Some x) (Some y)) = refl

of_expr : (e : Expr) → expr_mentions e ≡ own (ExprNode e) ++ all_of (said (children (ExprNode e)))
of_expr e = fold_out-Expr (List Mention) (List Mention) (List Mention) expr_step index_step part_step e ∙ expr_level (out-Expr e)

of_part : (p : Part) → part_mentions p ≡ all_of (said (children (PartNode p)))
of_part p = fold_out-Part (List Mention) (List Mention) (List Mention) expr_step index_step part_step p ∙ part_level (out-Part p)

of_index : (i : Index) → index_mentions i ≡ all_of (said (children (IndexNode i)))
of_index i = fold_out-Index (List Mention) (List Mention) (List Mention) expr_step index_step part_step i ∙ index_level (out-Index i)

-- statements

abbrev stmt_told : Stmt-F Stmt Suite Arm Handler → Stmt-F (List Mention) (List Mention) (List Mention) (List Mention)
stmt_told = map-Stmt Stmt Suite Arm Handler (List Mention) (List Mention) (List Mention) (List Mention) stmt_mentions suite_mentions arm_mentions handler_mentions

abbrev suite_told : Suite-F Stmt Suite Arm Handler → Suite-F (List Mention) (List Mention) (List Mention) (List Mention)
suite_told = map-Suite Stmt Suite Arm Handler (List Mention) (List Mention) (List Mention) (List Mention) stmt_mentions suite_mentions arm_mentions handler_mentions

-- a list of nodes, and those behind it
both : {A : Type 0} (node : A → Tree) (xs : List A) (more : List Tree) → map (λ x. mentions (node x)) xs ++ said more ≡ said (map node xs ++ more)
both node xs more = ap (λ (ms : List (List Mention)). ms ++ said more) (each node xs) ∙ sym (map-append mentions (map node xs) more)

stmt_level : (l : Stmt-F Stmt Suite Arm Handler) → stmt_step (stmt_told l) ≡ stmt_own l ++ all_of (said (stmt_children l))
stmt_level (Stmt-F.Simples line) = refl
stmt_level (Stmt-F.IfNode at arms None) = ap all_of (both ArmNode arms [])
stmt_level (Stmt-F.IfNode at arms (Some s)) = ap all_of (both ArmNode arms (SuiteNode s ∷ []))
stmt_level (Stmt-F.WhileNode at test body None) = refl
stmt_level (Stmt-F.WhileNode at test body (Some s)) = refl
stmt_level (Stmt-F.ForNode at x over body None) = refl
stmt_level (Stmt-F.ForNode at x over body (Some s)) = refl
stmt_level (Stmt-F.Try at body handlers None None) = ap (λ (ms : List (List Mention)). all_of (suite_mentions body ∷ ms)) (both HandlerNode handlers [])
stmt_level (Stmt-F.Try at body handlers (Some s) None) = ap (λ (ms : List (List Mention)). all_of (suite_mentions body ∷ ms)) (both HandlerNode handlers (SuiteNode s ∷ []))
stmt_level (Stmt-F.Try at body handlers None (Some t)) = ap (λ (ms : List (List Mention)). all_of (suite_mentions body ∷ ms)) (both HandlerNode handlers (SuiteNode t ∷ []))
stmt_level (Stmt-F.Try at body handlers (Some s) (Some t)) = ap (λ (ms : List (List Mention)). all_of (suite_mentions body ∷ ms)) (both HandlerNode handlers (SuiteNode s ∷ SuiteNode t ∷ []))
stmt_level (Stmt-F.With at word body) = refl

suite_level : (l : Suite-F Stmt Suite Arm Handler) → suite_step (suite_told l) ≡ all_of (said (suite_children l))
suite_level (Suite-F.Inline line) = refl
suite_level (Suite-F.Block xs) = ap all_of (each StmtNode xs)

of_stmt : (s : Stmt) → stmt_mentions s ≡ own (StmtNode s) ++ all_of (said (children (StmtNode s)))
of_stmt s = fold_out-Stmt (List Mention) (List Mention) (List Mention) (List Mention) stmt_step suite_step arm_step handler_step s ∙ stmt_level (out-Stmt s)

of_suite : (s : Suite) → suite_mentions s ≡ all_of (said (children (SuiteNode s)))
of_suite s = fold_out-Suite (List Mention) (List Mention) (List Mention) (List Mention) stmt_step suite_step arm_step handler_step s ∙ suite_level (out-Suite s)

of_arm : (a : Arm) → arm_mentions a ≡ all_of (said (children (ArmNode a)))
of_arm a = fold_out-Arm (List Mention) (List Mention) (List Mention) (List Mention) stmt_step suite_step arm_step handler_step a

maybe_expr : (o : Option Expr) → map expr_mentions (optional o) ≡ said (node.optional ExprNode o)
maybe_expr None = refl
maybe_expr (Some e) = refl

of_handler : (h : Handler) → handler_mentions h ≡ own (HandlerNode h) ++ all_of (said (children (HandlerNode h)))
of_handler h =
    fold_out-Handler (List Mention) (List Mention) (List Mention) (List Mention) stmt_step suite_step arm_step handler_step h
    ∙ ap (λ (ms : List (List Mention)). handler_name h.name ++ all_of (ms ++ suite_mentions h.body ∷ [])) (maybe_expr h.kind)
    ∙ ap (λ (ms : List (List Mention)). handler_name h.name ++ all_of ms) (sym (map-append mentions (node.optional ExprNode h.kind) (SuiteNode h.body ∷ [])))

of_simple : (s : Simple) → all_of (simple_inside s) ≡ all_of (said (simple_children s))
of_simple (simple.Pass at) = refl
of_simple (simple.Break at) = refl
of_simple (simple.Continue at) = refl
of_simple (simple.ReturnNode at value) = ap all_of (maybe_expr value)
of_simple (simple.Raise at value) = ap all_of (maybe_expr value)
of_simple (simple.Del at xs) = ap all_of (each ExprNode xs)
of_simple (simple.Global at names) = refl
of_simple (simple.Import at items) = refl
of_simple (simple.FromImport at name items) = refl
of_simple (simple.Cdef at kind names) = ap all_of (each DeclaredNode names)
of_simple (simple.Expression x) = refl
of_simple (simple.Augmented x op at value) = refl
of_simple (simple.Assign targets value) = ap all_of (both ExprNode targets (ExprNode value ∷ []))

-- declarations

of_top : (t : Top) → mentions (TopNode t) ≡ all_of (said (children (TopNode t)))
of_top (top.Cimport c) = refl
of_top (top.Class c) = refl
of_top (top.Function f) = refl
of_top (top.Variables v) = refl
of_top (top.Def d) = refl
of_top (top.Stmt s) = refl

of_item : (i : PxdItem) → mentions (PxdItemNode i) ≡ all_of (said (children (PxdItemNode i)))
of_item (item.Cimport c) = refl
of_item (item.Pass at) = refl
of_item (item.Class c) = refl
of_item (item.Function h) = refl

of_member : (m : Member) → mentions (MemberNode m) ≡ own (MemberNode m) ++ all_of (said (children (MemberNode m)))
of_member (member.Pass at) = refl
of_member (member.Docstring at text) = refl
of_member (member.Def d) = refl
of_member (member.OpenFields at access kind names) = refl
of_member (member.Fields at None names) = refl
of_member (member.Fields at (Some t) names) = refl
of_member (member.Method f) = refl

of_pxd_member : (m : PxdMember) → mentions (PxdMemberNode m) ≡ own (PxdMemberNode m) ++ all_of (said (children (PxdMemberNode m)))
of_pxd_member (pxd_member.Pass at) = refl
of_pxd_member (pxd_member.OpenFields at access kind names) = refl
of_pxd_member (pxd_member.Fields at None names) = refl
of_pxd_member (pxd_member.Fields at (Some t) names) = refl
of_pxd_member (pxd_member.Method h) = refl

pub mentions-children : (t : Tree) → mentions t ≡ own t ++ all_of (said (children t))
mentions-children (FileNode (content.Implementation tops)) = ap all_of (each TopNode tops)
mentions-children (FileNode (content.Definition items)) = ap all_of (each PxdItemNode items)
mentions-children (TopNode t) = of_top t
mentions-children (PxdItemNode i) = of_item i
mentions-children (ClassNode c) = ap all_of (each MemberNode c.members)
mentions-children (PxdClassNode c) = ap all_of (each PxdMemberNode c.members)
mentions-children (MemberNode m) = of_member m
mentions-children (PxdMemberNode m) = of_pxd_member m
mentions-children (CFunctionNode f) = refl
mentions-children (HeadingNode h) = refl
mentions-children (HeaderNode h) = ap all_of (each ParamNode h.params)
mentions-children (DefNode d) = ap all_of (both ParamNode d.params (SuiteNode d.body ∷ []))
mentions-children (VariablesNode v) = ap (λ (ms : List (List Mention)). type_mentions v.kind ++ all_of ms) (each DeclaredNode v.names)
mentions-children (ParamNode p) = ap (λ (ms : List (List Mention)). type_mentions p.kind ++ all_of ms) (maybe_expr p.default)
mentions-children (DeclaredNode d) = ap (λ (ms : List (List Mention)). own (DeclaredNode d) ++ all_of ms) (maybe_expr d.value)
mentions-children (SuiteNode s) = of_suite s
mentions-children (LineNode l) = ap all_of (each SimpleNode l.simples)
mentions-children (StmtNode s) = of_stmt s
mentions-children (ArmNode a) = of_arm a
mentions-children (HandlerNode h) = of_handler h
mentions-children (SimpleNode s) = ap (λ (ms : List Mention). simple_own s ++ ms) (of_simple s)
mentions-children (ExprNode e) = of_expr e
mentions-children (PartNode p) = of_part p
mentions-children (IndexNode i) = of_index i

-- a walk over the first children

all_of-append : (xs ys : List (List Mention)) → all_of (xs ++ ys) ≡ all_of xs ++ all_of ys
all_of-append [] ys = refl
all_of-append (x ∷ xs) ys = ap (λ (ms : List Mention). x ++ ms) (all_of-append xs ys) ∙ sym (append_assoc x (all_of xs) (all_of ys))

nothing_more : (xs : List Mention) → xs ++ [] ≡ xs
nothing_more [] = refl
nothing_more (x ∷ xs) = ap (λ (ms : List Mention). x ∷ ms) (nothing_more xs)

pub one-more : (start now next : List Mention) (ts : List Tree) (place : ℕ) (c : Tree) → slice_get ts place ≡ Some c
    → now ≡ start ++ all_of (said (take place ts)) → next ≡ now ++ mentions c → next ≡ start ++ all_of (said (take (suc place) ts))
one-more start now next ts place c at so e =
    e
    ∙ ap (λ (ms : List Mention). ms ++ mentions c) so
    ∙ append_assoc start (all_of (said (take place ts))) (mentions c)
    ∙ ap (λ (ms : List Mention). start ++ ms)
    (ap (λ (ms : List Mention). all_of (said (take place ts)) ++ ms) (sym (nothing_more (mentions c)))
    ∙ sym (all_of-append (said (take place ts)) (mentions c ∷ []))
    ∙ ap all_of (sym (map-append mentions (take place ts) (c ∷ [])) ∙ ap (λ (us : List Tree). said us) (sym (take-suc ts place c at))))

pub all-said : (before start last : List Mention) (t : Tree) (place : ℕ) → slice_get (children t) place ≡ None
    → start ≡ before ++ own t → last ≡ start ++ all_of (said (take place (children t))) → last ≡ before ++ mentions t
all-said before start last t place at so e =
    e
    ∙ ap (λ (us : List Tree). start ++ all_of (said us)) (take_all place (children t) (is_past (children t) place at))
    ∙ ap (λ (ms : List Mention). ms ++ all_of (said (children t))) so
    ∙ append_assoc before (own t) (all_of (said (children t)))
    ∙ ap (λ (ms : List Mention). before ++ ms) (sym (mentions-children t))
