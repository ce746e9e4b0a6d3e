-- Where types stand in expressions, statements and declarations, and the names that `cdef` declares with them (Cython documentation,
-- "Language Basics", C types): what a node has itself, then what the nodes inside it have.
use Rattle.std.specs.Prelude.{List, [], ◌∷◌, ◌++◌, Option, Some, None, map}
use Rattle.cy_tree.specs.declared.expr.Expr.{Expr, Expr-F, fold-Expr}
use Rattle.cy_tree.specs.declared.expr.Expr.TheOpen.{Index-F, Part-F}
use Rattle.cy_tree.specs.declared.expr.Index.{Index, fold-Index}
use Rattle.cy_tree.specs.declared.expr.Part.{Part, fold-Part}
use Rattle.cy_tree.specs.declared.stmt.Declared.{Declared}
use Rattle.cy_tree.specs.declared.stmt.Line.{Line}
use Rattle.cy_tree.specs.declared.stmt.Simple.{Simple}
use Rattle.cy_tree.specs.declared.stmt.Simple.TheVariants as simple
use Rattle.cy_tree.specs.declared.stmt.Stmt.{Stmt, Stmt-F, fold-Stmt}
use Rattle.cy_tree.specs.declared.stmt.Stmt.TheOpen.{Suite-F, Arm-F, Handler-F}
use Rattle.cy_tree.specs.declared.stmt.Suite.{Suite, fold-Suite}
use Rattle.cy_tree.specs.declared.stmt.Arm.{Arm, fold-Arm}
use Rattle.cy_tree.specs.declared.stmt.Handler.{Handler, fold-Handler}
use Rattle.cy_tree.specs.declared.types.Ident.{Ident}
use Rattle.cy_tree.specs.declared.types.TypeNode.{TypeNode}

-- a type that stands somewhere, or a name that `cdef` declares
pub data TypeUse : Type 0 where
  -- the type of a parameter, a field, a variable or a cast
  PlaceType : TypeNode → TypeUse
  -- the result of a C function or method
  ResultType : TypeNode → TypeUse
  -- a name that a `cdef` of a module or of a body declares, with its type
  Declares : Ident → Option TypeNode → TypeUse

abbrev pub all_of : List (List TypeUse) → List TypeUse
all_of [] = []
all_of (us ∷ more) = us ++ all_of more

abbrev pub optional : {A : Type 0} → Option A → List A
optional None = []
optional (Some x) = x ∷ []

abbrev pub type_uses : Option TypeNode → List TypeUse
type_uses None = []
type_uses (Some t) = PlaceType t ∷ []

abbrev pub result_uses : Option TypeNode → List TypeUse
result_uses None = []
result_uses (Some t) = ResultType t ∷ []

abbrev pub names_uses : Option TypeNode → List Declared → List TypeUse
names_uses kind names = map (λ d. Declares d.name kind) names

-- ---- expressions: the types that stand in their casts

abbrev pub expr_step : Expr-F (List TypeUse) (List TypeUse) (List TypeUse) → List TypeUse
expr_step (Expr-F.Conditional at value test other) = all_of (value ∷ test ∷ other ∷ [])
expr_step (Expr-F.Or at xs) = all_of xs
expr_step (Expr-F.And at xs) = all_of xs
expr_step (Expr-F.Not at x) = all_of (x ∷ [])
expr_step (Expr-F.Compare at x op place y) = all_of (x ∷ y ∷ [])
expr_step (Expr-F.BitOr at x more) = all_of (x ∷ map (λ o. o.1) more)
expr_step (Expr-F.BitXor at x more) = all_of (x ∷ map (λ o. o.1) more)
expr_step (Expr-F.BitAnd at x more) = all_of (x ∷ map (λ o. o.1) more)
expr_step (Expr-F.Shift at x more) = all_of (x ∷ map (λ o. o.2) more)
expr_step (Expr-F.Sum at x more) = all_of (x ∷ map (λ o. o.2) more)
expr_step (Expr-F.Term at x more) = all_of (x ∷ map (λ o. o.2) more)
expr_step (Expr-F.Unary at op x) = all_of (x ∷ [])
expr_step (Expr-F.Cast at kind checked x) = PlaceType kind ∷ all_of (x ∷ [])
expr_step (Expr-F.Postfix at x parts) = all_of (x ∷ parts)
expr_step (Expr-F.Tuple at xs) = all_of xs
expr_step (Expr-F.ListNode at xs) = all_of xs
expr_step (Expr-F.Dict at pairs) = all_of (map (λ p. p.0 ++ p.1) pairs)
expr_step _ = []

abbrev pub index_step : Index-F (List TypeUse) (List TypeUse) (List TypeUse) → List TypeUse
index_step (Index-F.One x) = all_of (x ∷ [])
index_step (Index-F.Slice at low high) = all_of (optional low ++ optional high)

abbrev pub part_step : Part-F (List TypeUse) (List TypeUse) (List TypeUse) → List TypeUse
part_step (Part-F.Attribute at name) = []
part_step (Part-F.Call at arguments) = all_of arguments
part_step (Part-F.Item at indexes) = all_of indexes

abbrev pub expr_uses : Expr → List TypeUse
expr_uses = fold-Expr (List TypeUse) (List TypeUse) (List TypeUse) expr_step index_step part_step

abbrev pub index_uses : Index → List TypeUse
index_uses = fold-Index (List TypeUse) (List TypeUse) (List TypeUse) expr_step index_step part_step

abbrev pub part_uses : Part → List TypeUse
part_uses = fold-Part (List TypeUse) (List TypeUse) (List TypeUse) expr_step index_step part_step

abbrev pub maybe_uses : Option Expr → List TypeUse
maybe_uses o = all_of (map expr_uses (optional o))

-- ---- simple statements

-- what a simple statement has itself
abbrev pub simple_own : Simple → List TypeUse
simple_own (simple.Cdef at kind names) = type_uses kind ++ names_uses kind names
simple_own _ = []

abbrev pub declared_uses : Declared → List TypeUse
declared_uses d = maybe_uses d.value

-- and what the expressions in it have
abbrev pub simple_inside : Simple → List (List TypeUse)
simple_inside (simple.ReturnNode at value) = map expr_uses (optional value)
simple_inside (simple.Raise at value) = map expr_uses (optional value)
simple_inside (simple.Del at xs) = map expr_uses xs
simple_inside (simple.Cdef at kind names) = map declared_uses names
simple_inside (simple.Expression x) = expr_uses x ∷ []
simple_inside (simple.Augmented x op at value) = expr_uses x ∷ expr_uses value ∷ []
simple_inside (simple.Assign targets value) = map expr_uses targets ++ expr_uses value ∷ []
simple_inside _ = []

abbrev pub simple_uses : Simple → List TypeUse
simple_uses s = simple_own s ++ all_of (simple_inside s)

abbrev pub line_uses : Line → List TypeUse
line_uses l = all_of (map simple_uses l.simples)

-- ---- statements

abbrev pub stmt_step : Stmt-F (List TypeUse) (List TypeUse) (List TypeUse) (List TypeUse) → List TypeUse
stmt_step (Stmt-F.Simples line) = all_of (line_uses line ∷ [])
stmt_step (Stmt-F.IfNode at arms other) = all_of (arms ++ optional other)
stmt_step (Stmt-F.WhileNode at test body other) = all_of (expr_uses test ∷ body ∷ optional other)
stmt_step (Stmt-F.ForNode at x over body other) = all_of (expr_uses x ∷ expr_uses over ∷ body ∷ optional other)
stmt_step (Stmt-F.Try at body handlers other last) = all_of (body ∷ handlers ++ (optional other ++ optional last))
stmt_step (Stmt-F.With at word body) = all_of (body ∷ [])

abbrev pub suite_step : Suite-F (List TypeUse) (List TypeUse) (List TypeUse) (List TypeUse) → List TypeUse
suite_step (Suite-F.Inline line) = all_of (line_uses line ∷ [])
suite_step (Suite-F.Block statements) = all_of statements

abbrev pub arm_step : Arm-F (List TypeUse) (List TypeUse) (List TypeUse) (List TypeUse) → List TypeUse
arm_step a = all_of (expr_uses a.test ∷ a.body ∷ [])

abbrev pub handler_step : Handler-F (List TypeUse) (List TypeUse) (List TypeUse) (List TypeUse) → List TypeUse
handler_step h = all_of (map expr_uses (optional h.kind) ++ h.body ∷ [])

abbrev pub stmt_uses : Stmt → List TypeUse
stmt_uses = fold-Stmt (List TypeUse) (List TypeUse) (List TypeUse) (List TypeUse) stmt_step suite_step arm_step handler_step

abbrev pub suite_uses : Suite → List TypeUse
suite_uses = fold-Suite (List TypeUse) (List TypeUse) (List TypeUse) (List TypeUse) stmt_step suite_step arm_step handler_step

abbrev pub arm_uses : Arm → List TypeUse
arm_uses = fold-Arm (List TypeUse) (List TypeUse) (List TypeUse) (List TypeUse) stmt_step suite_step arm_step handler_step

abbrev pub handler_uses : Handler → List TypeUse
handler_uses = fold-Handler (List TypeUse) (List TypeUse) (List TypeUse) (List TypeUse) stmt_step suite_step arm_step handler_step
