-- What expressions and statements say of names: what a node says itself, then what the nodes inside it say (Python language reference, 4.2.1, "Binding of names";
-- Cython documentation, "Language Basics").
use Rattle.std.specs.Prelude.{List, [], ◌∷◌, ◌++◌, Option, Some, None, map}
use Rattle.std.specs.List.{flat_map}
use Rattle.cy_tree.specs.declared.decl.ImportItem.{ImportItem}
use Rattle.cy_tree.specs.declared.expr.Expr.{Expr, Expr-F, out-Expr, fold-Expr}
use Rattle.cy_tree.specs.declared.expr.Expr.TheOpen.{Index-F, Part-F}
use Rattle.cy_tree.specs.declared.expr.Index.{Index, fold-Index}
use Rattle.cy_tree.specs.declared.expr.Part.{Part, fold-Part}
use Rattle.cy_tree.specs.declared.stmt.Declared.{Declared}
use Rattle.cy_tree.specs.declared.stmt.Line.{Line}
use Rattle.cy_tree.specs.declared.stmt.Simple.{Simple}
use Rattle.cy_tree.specs.declared.stmt.Simple.TheVariants as simple
use Rattle.cy_tree.specs.declared.stmt.Stmt.{Stmt, Stmt-F, fold-Stmt}
use Rattle.cy_tree.specs.declared.stmt.Stmt.TheOpen.{Suite-F, Arm-F, Handler-F}
use Rattle.cy_tree.specs.declared.stmt.Suite.{Suite, fold-Suite}
use Rattle.cy_tree.specs.declared.stmt.Arm.{Arm, fold-Arm}
use Rattle.cy_tree.specs.declared.stmt.Handler.{Handler, fold-Handler}
use Rattle.cy_tree.specs.declared.types.Ident.{Ident}
use Rattle.cy_tree.specs.declared.types.TypeName.{TypeName}
use Rattle.cy_tree.specs.declared.types.TypeNode.{TypeNode}

-- what is said of a name, or of a type's name
pub data Mention : Type 0 where
  -- a target of an assignment, an augmented assignment, `for` or `import`
  Target : Ident → Mention
  -- behind `as` in a handler, or behind `del`
  Bound : Ident → Mention
  -- declared by `cdef`
  Declares : Ident → Mention
  -- named by `global`
  Globals : Ident → Mention
  -- stands as a type
  TypeUse : TypeName → Mention

abbrev pub all_of : List (List Mention) → List Mention
all_of [] = []
all_of (ms ∷ more) = ms ++ all_of more

abbrev pub optional : {A : Type 0} → Option A → List A
optional None = []
optional (Some x) = x ∷ []

-- ---- expressions: the types that stand in their casts

abbrev pub expr_step : Expr-F (List Mention) (List Mention) (List Mention) → List Mention
expr_step (Expr-F.Conditional at value test other) = all_of (value ∷ test ∷ other ∷ [])
expr_step (Expr-F.Or at xs) = all_of xs
expr_step (Expr-F.And at xs) = all_of xs
expr_step (Expr-F.Not at x) = all_of (x ∷ [])
expr_step (Expr-F.Compare at x op place y) = all_of (x ∷ y ∷ [])
expr_step (Expr-F.BitOr at x more) = all_of (x ∷ map (λ o. o.1) more)
expr_step (Expr-F.BitXor at x more) = all_of (x ∷ map (λ o. o.1) more)
expr_step (Expr-F.BitAnd at x more) = all_of (x ∷ map (λ o. o.1) more)
expr_step (Expr-F.Shift at x more) = all_of (x ∷ map (λ o. o.2) more)
expr_step (Expr-F.Sum at x more) = all_of (x ∷ map (λ o. o.2) more)
expr_step (Expr-F.Term at x more) = all_of (x ∷ map (λ o. o.2) more)
expr_step (Expr-F.Unary at op x) = all_of (x ∷ [])
expr_step (Expr-F.Cast at kind checked x) = TypeUse kind.name ∷ all_of (x ∷ [])
expr_step (Expr-F.Postfix at x parts) = all_of (x ∷ parts)
expr_step (Expr-F.Tuple at xs) = all_of xs
expr_step (Expr-F.ListNode at xs) = all_of xs
expr_step (Expr-F.Dict at pairs) = all_of (map (λ p. p.0 ++ p.1) pairs)
expr_step _ = []

abbrev pub index_step : Index-F (List Mention) (List Mention) (List Mention) → List Mention
index_step (Index-F.One x) = all_of (x ∷ [])
index_step (Index-F.Slice at low high) = all_of (optional low ++ optional high)

abbrev pub part_step : Part-F (List Mention) (List Mention) (List Mention) → List Mention
part_step (Part-F.Attribute at name) = []
part_step (Part-F.Call at arguments) = all_of arguments
part_step (Part-F.Item at indexes) = all_of indexes

abbrev pub expr_mentions : Expr → List Mention
expr_mentions = fold-Expr (List Mention) (List Mention) (List Mention) expr_step index_step part_step

abbrev pub index_mentions : Index → List Mention
index_mentions = fold-Index (List Mention) (List Mention) (List Mention) expr_step index_step part_step

abbrev pub part_mentions : Part → List Mention
part_mentions = fold-Part (List Mention) (List Mention) (List Mention) expr_step index_step part_step

abbrev pub maybe_mentions : Option Expr → List Mention
maybe_mentions o = all_of (map expr_mentions (optional o))

-- ---- simple statements

-- the NAME that an expression is, if it is one
abbrev pub name_of : Expr-F Expr Index Part → List Ident
name_of (Expr-F.Name i) = i ∷ []
name_of _ = []

-- a target of an assignment or a `for`, and what `del` unbinds, where it is a NAME
abbrev pub target : Expr → List Mention
target e = map Target (name_of (out-Expr e))

abbrev pub unbound : Expr → List Mention
unbound e = map Bound (name_of (out-Expr e))

-- the name that an import binds
abbrev pub alias_or : Option Ident → Ident → Ident
alias_or None name = name
alias_or (Some alias) name = alias

abbrev pub imported : ImportItem → Mention
imported i = Target (alias_or i.alias i.name)

abbrev pub type_mentions : Option TypeNode → List Mention
type_mentions None = []
type_mentions (Some t) = TypeUse t.name ∷ []

-- what a simple statement says itself
abbrev pub simple_own : Simple → List Mention
simple_own (simple.Del at xs) = flat_map unbound xs
simple_own (simple.Global at names) = map Globals names
simple_own (simple.Import at items) = map imported items
simple_own (simple.FromImport at outer items) = map imported items
simple_own (simple.Cdef at kind names) = type_mentions kind
simple_own (simple.Augmented x op at value) = target x
simple_own (simple.Assign targets value) = flat_map target targets
simple_own _ = []

abbrev pub declared_mentions : Declared → List Mention
declared_mentions d = Declares d.name ∷ maybe_mentions d.value

-- and what the expressions in it say
abbrev pub simple_inside : Simple → List (List Mention)
simple_inside (simple.ReturnNode at value) = map expr_mentions (optional value)
simple_inside (simple.Raise at value) = map expr_mentions (optional value)
simple_inside (simple.Del at xs) = map expr_mentions xs
simple_inside (simple.Cdef at kind names) = map declared_mentions names
simple_inside (simple.Expression x) = expr_mentions x ∷ []
simple_inside (simple.Augmented x op at value) = expr_mentions x ∷ expr_mentions value ∷ []
simple_inside (simple.Assign targets value) = map expr_mentions targets ++ expr_mentions value ∷ []
simple_inside _ = []

abbrev pub simple_mentions : Simple → List Mention
simple_mentions s = simple_own s ++ all_of (simple_inside s)

abbrev pub line_mentions : Line → List Mention
line_mentions l = all_of (map simple_mentions l.simples)

-- ---- statements

abbrev pub handler_name : Option Ident → List Mention
handler_name None = []
handler_name (Some i) = Bound i ∷ []

abbrev pub stmt_step : Stmt-F (List Mention) (List Mention) (List Mention) (List Mention) → List Mention
stmt_step (Stmt-F.Simples line) = all_of (line_mentions line ∷ [])
stmt_step (Stmt-F.IfNode at arms other) = all_of (arms ++ optional other)
stmt_step (Stmt-F.WhileNode at test body other) = all_of (expr_mentions test ∷ body ∷ optional other)
stmt_step (Stmt-F.ForNode at x over body other) = target x ++ all_of (expr_mentions x ∷ expr_mentions over ∷ body ∷ optional other)
stmt_step (Stmt-F.Try at body handlers other last) = all_of (body ∷ handlers ++ (optional other ++ optional last))
stmt_step (Stmt-F.With at word body) = all_of (body ∷ [])

abbrev pub suite_step : Suite-F (List Mention) (List Mention) (List Mention) (List Mention) → List Mention
suite_step (Suite-F.Inline line) = all_of (line_mentions line ∷ [])
suite_step (Suite-F.Block statements) = all_of statements

abbrev pub arm_step : Arm-F (List Mention) (List Mention) (List Mention) (List Mention) → List Mention
arm_step a = all_of (expr_mentions a.test ∷ a.body ∷ [])

abbrev pub handler_step : Handler-F (List Mention) (List Mention) (List Mention) (List Mention) → List Mention
handler_step h = handler_name h.name ++ all_of (map expr_mentions (optional h.kind) ++ h.body ∷ [])

abbrev pub stmt_mentions : Stmt → List Mention
stmt_mentions = fold-Stmt (List Mention) (List Mention) (List Mention) (List Mention) stmt_step suite_step arm_step handler_step

abbrev pub suite_mentions : Suite → List Mention
suite_mentions = fold-Suite (List Mention) (List Mention) (List Mention) (List Mention) stmt_step suite_step arm_step handler_step

abbrev pub arm_mentions : Arm → List Mention
arm_mentions = fold-Arm (List Mention) (List Mention) (List Mention) (List Mention) stmt_step suite_step arm_step handler_step

abbrev pub handler_mentions : Handler → List Mention
handler_mentions = fold-Handler (List Mention) (List Mention) (List Mention) (List Mention) stmt_step suite_step arm_step handler_step
