-- What the five rules say of one part in what is around it. The project's own.
use Rattle.std.specs.Prelude.{ℕ, true, false, List, [], ◌++◌, Option, map}
use Rattle.std.specs.List.{flat_map}
use Rattle.std.specs.Option.{option_map}
use Rattle.cy_base.specs.declared.place.Refusal.{Refusal}
use Rattle.cy_tree.specs.declared.decl.Member.{Member}
use Rattle.cy_tree.specs.declared.decl.Top.{Top}
use Rattle.cy_tree.specs.declared.stmt.Simple.{Simple}
use Rattle.cy_tree.specs.declared.stmt.Stmt.{Stmt}
use Rattle.cy_tree.specs.declared.stmt.Suite.{Suite}
use Rattle.cy_tree.specs.declared.stmt.Arm.{Arm, fold-Arm}
use Rattle.cy_tree.specs.declared.stmt.Handler.{Handler, fold-Handler}
use Rattle.first_breach.specs.First.{IsLeastWith}
use Rattle.control_rules.specs.declared.around.Around.{Around}
use Rattle.control_rules.specs.Rules.{in_each, in_maybe, outside_loop, outside_function, outside_handler, inside_compound, all_of, maybe_of, of_handlers, in_member, in_top, loop_stmt, loop_suite, return_stmt, return_suite, raise_stmt, raise_suite, cdef_stmt, cdef_suite, bare_stmt, bare_suite, loop_step, stmt_step, suite_step, arm_step, handler_step, raise_step, cdef_step, bare_stmt_step, bare_suite_step, bare_arm_step, bare_step, Inside}

-- each rule in an arm and in a handler

abbrev pub loop_arm : ℕ → Arm → Inside
loop_arm file = fold-Arm Inside Inside Inside Inside (loop_step file) (suite_step (outside_loop file)) arm_step handler_step

abbrev pub loop_handler : ℕ → Handler → Inside
loop_handler file = fold-Handler Inside Inside Inside Inside (loop_step file) (suite_step (outside_loop file)) arm_step handler_step

abbrev pub return_arm : ℕ → Arm → Inside
return_arm file = fold-Arm Inside Inside Inside Inside (stmt_step (outside_function file)) (suite_step (outside_function file)) arm_step handler_step

abbrev pub return_handler : ℕ → Handler → Inside
return_handler file = fold-Handler Inside Inside Inside Inside (stmt_step (outside_function file)) (suite_step (outside_function file)) arm_step handler_step

abbrev pub raise_arm : ℕ → Arm → Inside
raise_arm file = fold-Arm Inside Inside Inside Inside (stmt_step (outside_handler file)) (suite_step (outside_handler file)) arm_step raise_step

abbrev pub raise_handler : ℕ → Handler → Inside
raise_handler file = fold-Handler Inside Inside Inside Inside (stmt_step (outside_handler file)) (suite_step (outside_handler file)) arm_step raise_step

abbrev pub cdef_arm : ℕ → Arm → Inside
cdef_arm file = fold-Arm Inside Inside Inside Inside (cdef_step file) (suite_step (inside_compound file)) arm_step handler_step

abbrev pub cdef_handler : ℕ → Handler → Inside
cdef_handler file = fold-Handler Inside Inside Inside Inside (cdef_step file) (suite_step (inside_compound file)) arm_step handler_step

abbrev pub bare_arm : ℕ → Arm → List Refusal
bare_arm file = fold-Arm (List Refusal) (List Refusal) (List Refusal) Inside bare_stmt_step bare_suite_step bare_arm_step (bare_step file)

abbrev pub bare_handler : ℕ → Handler → Inside
bare_handler file = fold-Handler (List Refusal) (List Refusal) (List Refusal) Inside bare_stmt_step bare_suite_step bare_arm_step (bare_step file)

-- what is around the statements of a module, and those of a function
abbrev pub in_module : Around
in_module = record { in_loop = false; in_function = false; in_handler = false; in_compound = false }

abbrev pub in_body : Around
in_body = record { in_loop = false; in_function = true; in_handler = false; in_compound = false }

-- what is around the parts of a compound statement, the first suite of a loop, and the suite of a handler
abbrev pub compound : Around → Around
compound around = record around { in_compound = true }

abbrev pub looping : Around → Around
looping around = record around { in_loop = true; in_compound = true }

abbrev pub handling : Around → Around
handling around = record around { in_handler = true }

-- from the least of any broken rules to the least of these and of five lists more
pub record IsNoted (least : Option Refusal) (a b c d e : List Refusal) (result : Option Refusal) : Type 0 where
  pub whole : IsLeastWith least (a ++ (b ++ (c ++ (d ++ e)))) result

abbrev pub SimpleNoted : ℕ → Around → Simple → Option Refusal → Option Refusal → Type 0
SimpleNoted file around s least result =
    IsNoted least
    (outside_loop file s around.in_loop)
    (outside_function file s around.in_function)
    (outside_handler file s around.in_handler)
    (inside_compound file s around.in_compound)
    []
    result

abbrev pub SimplesNoted : ℕ → Around → List Simple → Option Refusal → Option Refusal → Type 0
SimplesNoted file around ss least result =
    IsNoted least
    (flat_map (λ s. outside_loop file s around.in_loop) ss)
    (flat_map (λ s. outside_function file s around.in_function) ss)
    (flat_map (λ s. outside_handler file s around.in_handler) ss)
    (flat_map (λ s. inside_compound file s around.in_compound) ss)
    []
    result

abbrev pub StmtNoted : ℕ → Around → Stmt → Option Refusal → Option Refusal → Type 0
StmtNoted file around s least result =
    IsNoted least
    (loop_stmt file s around.in_loop)
    (return_stmt file s around.in_function)
    (raise_stmt file s around.in_handler)
    (cdef_stmt file s around.in_compound)
    (bare_stmt file s)
    result

abbrev pub SuiteNoted : ℕ → Around → Suite → Option Refusal → Option Refusal → Type 0
SuiteNoted file around b least result =
    IsNoted least
    (loop_suite file b around.in_loop)
    (return_suite file b around.in_function)
    (raise_suite file b around.in_handler)
    (cdef_suite file b around.in_compound)
    (bare_suite file b)
    result

abbrev pub StmtsNoted : ℕ → Around → List Stmt → Option Refusal → Option Refusal → Type 0
StmtsNoted file around ss least result =
    IsNoted least
    (in_each (map (loop_stmt file) ss) around.in_loop)
    (in_each (map (return_stmt file) ss) around.in_function)
    (in_each (map (raise_stmt file) ss) around.in_handler)
    (in_each (map (cdef_stmt file) ss) around.in_compound)
    (all_of (map (bare_stmt file) ss))
    result

abbrev pub ArmsNoted : ℕ → Around → List Arm → Option Refusal → Option Refusal → Type 0
ArmsNoted file around xs least result =
    IsNoted least
    (in_each (map (loop_arm file) xs) around.in_loop)
    (in_each (map (return_arm file) xs) around.in_function)
    (in_each (map (raise_arm file) xs) around.in_handler)
    (in_each (map (cdef_arm file) xs) around.in_compound)
    (all_of (map (bare_arm file) xs))
    result

abbrev pub MaybeNoted : ℕ → Around → Option Suite → Option Refusal → Option Refusal → Type 0
MaybeNoted file around o least result =
    IsNoted least
    (in_maybe (option_map (loop_suite file) o) around.in_loop)
    (in_maybe (option_map (return_suite file) o) around.in_function)
    (in_maybe (option_map (raise_suite file) o) around.in_handler)
    (in_maybe (option_map (cdef_suite file) o) around.in_compound)
    (maybe_of (option_map (bare_suite file) o))
    result

abbrev pub HandlersNoted : ℕ → Around → List Handler → Option Refusal → Option Refusal → Type 0
HandlersNoted file around hs least result =
    IsNoted least
    (in_each (map (loop_handler file) hs) around.in_loop)
    (in_each (map (return_handler file) hs) around.in_function)
    (in_each (map (raise_handler file) hs) around.in_handler)
    (in_each (map (cdef_handler file) hs) around.in_compound)
    (of_handlers (map (bare_handler file) hs))
    result

abbrev pub MemberNoted : ℕ → Member → Option Refusal → Option Refusal → Type 0
MemberNoted file m least result =
    IsNoted least
    (in_member (λ b. loop_suite file b false) m)
    (in_member (λ b. return_suite file b true) m)
    (in_member (λ b. raise_suite file b false) m)
    (in_member (λ b. cdef_suite file b false) m)
    (in_member (bare_suite file) m)
    result

abbrev pub MembersNoted : ℕ → List Member → Option Refusal → Option Refusal → Type 0
MembersNoted file ms least result =
    IsNoted least
    (flat_map (in_member (λ b. loop_suite file b false)) ms)
    (flat_map (in_member (λ b. return_suite file b true)) ms)
    (flat_map (in_member (λ b. raise_suite file b false)) ms)
    (flat_map (in_member (λ b. cdef_suite file b false)) ms)
    (flat_map (in_member (bare_suite file)) ms)
    result

abbrev pub TopNoted : ℕ → Top → Option Refusal → Option Refusal → Type 0
TopNoted file t least result =
    IsNoted least
    (in_top (λ s. loop_stmt file s false) (λ b. loop_suite file b false) t)
    (in_top (λ s. return_stmt file s false) (λ b. return_suite file b true) t)
    (in_top (λ s. raise_stmt file s false) (λ b. raise_suite file b false) t)
    (in_top (λ s. cdef_stmt file s false) (λ b. cdef_suite file b false) t)
    (in_top (bare_stmt file) (bare_suite file) t)
    result

abbrev pub TopsNoted : ℕ → List Top → Option Refusal → Option Refusal → Type 0
TopsNoted file ts least result =
    IsNoted least
    (flat_map (in_top (λ s. loop_stmt file s false) (λ b. loop_suite file b false)) ts)
    (flat_map (in_top (λ s. return_stmt file s false) (λ b. return_suite file b true)) ts)
    (flat_map (in_top (λ s. raise_stmt file s false) (λ b. raise_suite file b false)) ts)
    (flat_map (in_top (λ s. cdef_stmt file s false) (λ b. cdef_suite file b false)) ts)
    (flat_map (in_top (bare_stmt file) (bare_suite file)) ts)
    result
