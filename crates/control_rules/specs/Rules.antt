-- The rules on statements alone, by their numbers: each lists where it is broken (Python language reference, 7 and 8; Cython documentation,
-- "Language Basics"). Each is a function of what is around a statement for that one rule.
use Rattle.std.specs.Prelude.{ℕ, Bool, true, false, not, List, [], ◌∷◌, ◌++◌, Option, Some, None}
use Rattle.std.specs.List.{flat_map}
use Rattle.cy_base.specs.declared.place.Phase.TheVariants.{Static}
use Rattle.cy_base.specs.declared.place.Refusal.{Refusal}
use Rattle.cy_tree.specs.declared.content.Content.{Content}
use Rattle.cy_tree.specs.declared.content.Content.TheVariants as content
use Rattle.cy_tree.specs.declared.decl.Member.{Member}
use Rattle.cy_tree.specs.declared.decl.Member.TheVariants as member
use Rattle.cy_tree.specs.declared.decl.Top.{Top}
use Rattle.cy_tree.specs.declared.decl.Top.TheVariants as top
use Rattle.cy_tree.specs.declared.expr.Expr.{Expr}
use Rattle.cy_tree.specs.declared.stmt.Line.{Line}
use Rattle.cy_tree.specs.declared.stmt.Simple.{Simple}
use Rattle.cy_tree.specs.declared.stmt.Simple.TheVariants as simple
use Rattle.cy_tree.specs.declared.stmt.Stmt.{Stmt, Stmt-F, fold-Stmt}
use Rattle.cy_tree.specs.declared.stmt.Stmt.TheOpen.{Suite-F, Arm-F, Handler-F}
use Rattle.cy_tree.specs.declared.stmt.Suite.{Suite, fold-Suite}
use Rattle.first_breach.specs.First.{broken_if}

abbrev pub breaks : ℕ → ℕ → ℕ → Refusal
breaks file number offset = record { rule = record { phase = Static; number = number }; file = file; offset = offset }

-- the breaches in a part, by whether something is around it: a loop, a function, ..
abbrev pub Inside : Type 0
Inside = Bool → List Refusal

abbrev pub in_each : List Inside → Inside
in_each [] around = []
in_each (part ∷ parts) around = part around ++ in_each parts around

abbrev pub in_maybe : Option Inside → Inside
in_maybe None around = []
in_maybe (Some part) around = part around

abbrev pub on_line : (Simple → Inside) → Line → Inside
on_line rule line around = flat_map (λ s. rule s around) line.simples

-- where nothing changes around the parts
abbrev pub stmt_step : (Simple → Inside) → Stmt-F Inside Inside Inside Inside → Inside
stmt_step rule (Stmt-F.Simples line) around = on_line rule line around
stmt_step rule (Stmt-F.IfNode at arms other) around = in_each arms around ++ in_maybe other around
stmt_step rule (Stmt-F.WhileNode at test body other) around = body around ++ in_maybe other around
stmt_step rule (Stmt-F.ForNode at x over body other) around = body around ++ in_maybe other around
stmt_step rule (Stmt-F.Try at body handlers other last) around =
    body around ++ (in_each handlers around ++ (in_maybe other around ++ in_maybe last around))
stmt_step rule (Stmt-F.With at word body) around = body around

abbrev pub suite_step : (Simple → Inside) → Suite-F Inside Inside Inside Inside → Inside
suite_step rule (Suite-F.Inline line) around = on_line rule line around
suite_step rule (Suite-F.Block statements) around = in_each statements around

abbrev pub arm_step : Arm-F Inside Inside Inside Inside → Inside
arm_step a around = a.body around

abbrev pub handler_step : Handler-F Inside Inside Inside Inside → Inside
handler_step h around = h.body around

-- ---- 7: `break` or `continue` outside a loop, which is the first suite of `while` and `for`; around its `else` suite is what is around it

abbrev pub outside_loop : ℕ → Simple → Inside
outside_loop file (simple.Break at) in_loop = broken_if (not in_loop) (breaks file 7 at)
outside_loop file (simple.Continue at) in_loop = broken_if (not in_loop) (breaks file 7 at)
outside_loop file _ in_loop = []

abbrev pub loop_step : ℕ → Stmt-F Inside Inside Inside Inside → Inside
loop_step file (Stmt-F.WhileNode at test body other) in_loop = body true ++ in_maybe other in_loop
loop_step file (Stmt-F.ForNode at x over body other) in_loop = body true ++ in_maybe other in_loop
loop_step file s in_loop = stmt_step (outside_loop file) s in_loop

abbrev pub loop_stmt : ℕ → Stmt → Inside
loop_stmt file = fold-Stmt Inside Inside Inside Inside (loop_step file) (suite_step (outside_loop file)) arm_step handler_step

abbrev pub loop_suite : ℕ → Suite → Inside
loop_suite file = fold-Suite Inside Inside Inside Inside (loop_step file) (suite_step (outside_loop file)) arm_step handler_step

-- ---- 8: `return` outside a function, which has no other function in it

abbrev pub outside_function : ℕ → Simple → Inside
outside_function file (simple.ReturnNode at value) in_function = broken_if (not in_function) (breaks file 8 at)
outside_function file _ in_function = []

abbrev pub return_stmt : ℕ → Stmt → Inside
return_stmt file = fold-Stmt Inside Inside Inside Inside (stmt_step (outside_function file)) (suite_step (outside_function file)) arm_step handler_step

abbrev pub return_suite : ℕ → Suite → Inside
return_suite file = fold-Suite Inside Inside Inside Inside (stmt_step (outside_function file)) (suite_step (outside_function file)) arm_step handler_step

-- ---- 9: a bare `raise` outside the suite of a handler; the other suites of its `try` are none

abbrev pub outside_handler : ℕ → Simple → Inside
outside_handler file (simple.Raise at None) in_handler = broken_if (not in_handler) (breaks file 9 at)
outside_handler file _ in_handler = []

abbrev pub raise_step : Handler-F Inside Inside Inside Inside → Inside
raise_step h in_handler = h.body true

abbrev pub raise_stmt : ℕ → Stmt → Inside
raise_stmt file = fold-Stmt Inside Inside Inside Inside (stmt_step (outside_handler file)) (suite_step (outside_handler file)) arm_step raise_step

abbrev pub raise_suite : ℕ → Suite → Inside
raise_suite file = fold-Suite Inside Inside Inside Inside (stmt_step (outside_handler file)) (suite_step (outside_handler file)) arm_step raise_step

-- ---- 25: a `cdef` statement inside `if`, a loop, `try` or `with`: in any of its suites

abbrev pub inside_compound : ℕ → Simple → Inside
inside_compound file (simple.Cdef at kind names) in_compound = broken_if in_compound (breaks file 25 at)
inside_compound file _ in_compound = []

abbrev pub cdef_step : ℕ → Stmt-F Inside Inside Inside Inside → Inside
cdef_step file (Stmt-F.Simples line) in_compound = on_line (inside_compound file) line in_compound
cdef_step file s in_compound = stmt_step (inside_compound file) s true

abbrev pub cdef_stmt : ℕ → Stmt → Inside
cdef_stmt file = fold-Stmt Inside Inside Inside Inside (cdef_step file) (suite_step (inside_compound file)) arm_step handler_step

abbrev pub cdef_suite : ℕ → Suite → Inside
cdef_suite file = fold-Suite Inside Inside Inside Inside (cdef_step file) (suite_step (inside_compound file)) arm_step handler_step

-- ---- 27: a bare `except` that isn't last; a handler's breaches are by whether it is last

abbrev pub all_of : List (List Refusal) → List Refusal
all_of [] = []
all_of (part ∷ parts) = part ++ all_of parts

abbrev pub maybe_of : Option (List Refusal) → List Refusal
maybe_of None = []
maybe_of (Some part) = part

abbrev pub is_empty : List Inside → Bool
is_empty [] = true
is_empty (handler ∷ more) = false

abbrev pub of_handlers : List Inside → List Refusal
of_handlers [] = []
of_handlers (handler ∷ more) = handler (is_empty more) ++ of_handlers more

abbrev pub not_last : ℕ → ℕ → Option Expr → Inside
not_last file at None is_last = broken_if (not is_last) (breaks file 27 at)
not_last file at (Some kind) is_last = []

abbrev pub bare_stmt_step : Stmt-F (List Refusal) (List Refusal) (List Refusal) Inside → List Refusal
bare_stmt_step (Stmt-F.Simples line) = []
bare_stmt_step (Stmt-F.IfNode at arms other) = all_of arms ++ maybe_of other
bare_stmt_step (Stmt-F.WhileNode at test body other) = body ++ maybe_of other
bare_stmt_step (Stmt-F.ForNode at x over body other) = body ++ maybe_of other
bare_stmt_step (Stmt-F.Try at body handlers other last) = body ++ (of_handlers handlers ++ (maybe_of other ++ maybe_of last))
bare_stmt_step (Stmt-F.With at word body) = body

abbrev pub bare_suite_step : Suite-F (List Refusal) (List Refusal) (List Refusal) Inside → List Refusal
bare_suite_step (Suite-F.Inline line) = []
bare_suite_step (Suite-F.Block statements) = all_of statements

abbrev pub bare_arm_step : Arm-F (List Refusal) (List Refusal) (List Refusal) Inside → List Refusal
bare_arm_step a = a.body

abbrev pub bare_step : ℕ → Handler-F (List Refusal) (List Refusal) (List Refusal) Inside → Inside
bare_step file h is_last = not_last file h.at h.kind is_last ++ h.body

abbrev pub bare_stmt : ℕ → Stmt → List Refusal
bare_stmt file = fold-Stmt (List Refusal) (List Refusal) (List Refusal) Inside bare_stmt_step bare_suite_step bare_arm_step (bare_step file)

abbrev pub bare_suite : ℕ → Suite → List Refusal
bare_suite file = fold-Suite (List Refusal) (List Refusal) (List Refusal) Inside bare_stmt_step bare_suite_step bare_arm_step (bare_step file)

-- ---- a file

-- where statements stand: at module level, and in the bodies of functions and methods
abbrev pub in_member : (Suite → List Refusal) → Member → List Refusal
in_member body (member.Def d) = body d.body
in_member body (member.Method f) = body f.body
in_member body _ = []

abbrev pub in_top : (Stmt → List Refusal) → (Suite → List Refusal) → Top → List Refusal
in_top statement body (top.Class c) = flat_map (in_member body) c.members
in_top statement body (top.Function f) = body f.body
in_top statement body (top.Def d) = body d.body
in_top statement body (top.Stmt s) = statement s
in_top statement body _ = []

abbrev pub in_content : (Stmt → List Refusal) → (Suite → List Refusal) → Content → List Refusal
in_content statement body (content.Implementation tops) = flat_map (in_top statement body) tops
in_content statement body (content.Definition items) = []

abbrev pub loop_breaches : ℕ → Content → List Refusal
loop_breaches file = in_content (λ s. loop_stmt file s false) (λ b. loop_suite file b false)

abbrev pub return_breaches : ℕ → Content → List Refusal
return_breaches file = in_content (λ s. return_stmt file s false) (λ b. return_suite file b true)

abbrev pub raise_breaches : ℕ → Content → List Refusal
raise_breaches file = in_content (λ s. raise_stmt file s false) (λ b. raise_suite file b false)

abbrev pub cdef_breaches : ℕ → Content → List Refusal
cdef_breaches file = in_content (λ s. cdef_stmt file s false) (λ b. cdef_suite file b false)

abbrev pub bare_breaches : ℕ → Content → List Refusal
bare_breaches file = in_content (bare_stmt file) (bare_suite file)

-- the five rules, one behind the other
abbrev pub control_breaches : ℕ → Content → List Refusal
control_breaches file c = loop_breaches file c ++ (return_breaches file c ++ (raise_breaches file c ++ (cdef_breaches file c ++ bare_breaches file c)))
