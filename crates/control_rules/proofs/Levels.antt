-- What is noted at a statement, a suite, an arm and a handler, from what is noted at its parts.
use Rattle.std.proofs.Common.{◌≡◌, ℕ, zero, suc, ◌≤◌, nat_eq, Bool, List, [], ◌∷◌, map, length, drop, Option, Some, None, refl, ap, sym, ◌∙◌, subst, arith}
use Rattle.cy_base.specs.declared.place.Refusal.{Refusal}
use Rattle.cy_tree.specs.declared.expr.Expr.{Expr}
use Rattle.cy_tree.specs.declared.stmt.Line.{Line}
use Rattle.cy_tree.specs.declared.stmt.LockWord.{LockWord}
use Rattle.cy_tree.specs.declared.stmt.Stmt.{Stmt, Stmt-F, roll-Stmt, fold-roll-Stmt}
use Rattle.cy_tree.specs.declared.stmt.Stmt.TheVariants as stmt
use Rattle.cy_tree.specs.declared.stmt.Suite.TheVariants as suite
use Rattle.cy_tree.specs.declared.stmt.Stmt.TheOpen.{Suite-F}
use Rattle.cy_tree.specs.declared.stmt.Stmt.TheFolds.{map-Stmt, map-Suite}
use Rattle.cy_tree.specs.declared.stmt.Suite.{Suite, roll-Suite, fold-roll-Suite}
use Rattle.cy_tree.specs.declared.stmt.Arm.{Arm, fold_out-Arm}
use Rattle.cy_tree.specs.declared.stmt.Handler.{Handler, fold_out-Handler}
use Rattle.control_rules.specs.declared.around.Around.{Around}
use Rattle.control_rules.specs.Rules.{Inside, stmt_step, suite_step, arm_step, handler_step, loop_step, outside_loop, outside_function, outside_handler, inside_compound, raise_step, cdef_step, bare_stmt_step, bare_suite_step, bare_arm_step, bare_step, loop_stmt, loop_suite, return_stmt, return_suite, raise_stmt, raise_suite, cdef_stmt, cdef_suite, bare_stmt, bare_suite, is_empty, not_last}
use Rattle.control_rules.specs.Walk.{IsNoted, ArmsNoted, HandlersNoted, MaybeNoted, SimplesNoted, StmtNoted, StmtsNoted, SuiteNoted, compound, handling, looping, loop_arm, loop_handler, return_arm, return_handler, raise_arm, raise_handler, cdef_arm, cdef_handler, bare_arm, bare_handler}
use Rattle.control_rules.proofs.Five.{both, equal}

abbrev pub StmtLevelNoted : ℕ → Around → Stmt-F Stmt Suite Arm Handler → Option Refusal → Option Refusal → Type 0
StmtLevelNoted file around l least result =
    IsNoted least
    ((loop_step file) (map-Stmt Stmt Suite Arm Handler Inside Inside Inside Inside (loop_stmt file) (loop_suite file) (loop_arm file) (loop_handler file) l) around.in_loop)
    ((stmt_step (outside_function file)) (map-Stmt Stmt Suite Arm Handler Inside Inside Inside Inside (return_stmt file) (return_suite file) (return_arm file) (return_handler file) l) around.in_function)
    ((stmt_step (outside_handler file)) (map-Stmt Stmt Suite Arm Handler Inside Inside Inside Inside (raise_stmt file) (raise_suite file) (raise_arm file) (raise_handler file) l) around.in_handler)
    ((cdef_step file) (map-Stmt Stmt Suite Arm Handler Inside Inside Inside Inside (cdef_stmt file) (cdef_suite file) (cdef_arm file) (cdef_handler file) l) around.in_compound)
    (bare_stmt_step (map-Stmt Stmt Suite Arm Handler (List Refusal) (List Refusal) (List Refusal) Inside (bare_stmt file) (bare_suite file) (bare_arm file) (bare_handler file) l))
    result

stmt-out : (file : ℕ) (around : Around) (l : Stmt-F Stmt Suite Arm Handler) (least result : Option Refusal) → StmtLevelNoted file around l least result → StmtNoted file around (roll-Stmt l) least result
stmt-out file around l least result it = equal
    (ap (λ (f : Inside). f around.in_loop) (fold-roll-Stmt Inside Inside Inside Inside (loop_step file) (suite_step (outside_loop file)) arm_step handler_step l))
    (ap (λ (f : Inside). f around.in_function) (fold-roll-Stmt Inside Inside Inside Inside (stmt_step (outside_function file)) (suite_step (outside_function file)) arm_step handler_step l))
    (ap (λ (f : Inside). f around.in_handler) (fold-roll-Stmt Inside Inside Inside Inside (stmt_step (outside_handler file)) (suite_step (outside_handler file)) arm_step raise_step l))
    (ap (λ (f : Inside). f around.in_compound) (fold-roll-Stmt Inside Inside Inside Inside (cdef_step file) (suite_step (inside_compound file)) arm_step handler_step l))
    (fold-roll-Stmt (List Refusal) (List Refusal) (List Refusal) Inside bare_stmt_step bare_suite_step bare_arm_step (bare_step file) l)
    it

pub stmt-at : (file : ℕ) (around : Around) (x : Stmt) (l : Stmt-F Stmt Suite Arm Handler) → x ≡ roll-Stmt l → {least result : Option Refusal} → StmtLevelNoted file around l least result → StmtNoted file around x least result
stmt-at file around x l e {least} {result} it = subst (λ (y : Stmt). StmtNoted file around y least result) (sym e) (stmt-out file around l least result it)

abbrev pub SuiteLevelNoted : ℕ → Around → Suite-F Stmt Suite Arm Handler → Option Refusal → Option Refusal → Type 0
SuiteLevelNoted file around l least result =
    IsNoted least
    ((suite_step (outside_loop file)) (map-Suite Stmt Suite Arm Handler Inside Inside Inside Inside (loop_stmt file) (loop_suite file) (loop_arm file) (loop_handler file) l) around.in_loop)
    ((suite_step (outside_function file)) (map-Suite Stmt Suite Arm Handler Inside Inside Inside Inside (return_stmt file) (return_suite file) (return_arm file) (return_handler file) l) around.in_function)
    ((suite_step (outside_handler file)) (map-Suite Stmt Suite Arm Handler Inside Inside Inside Inside (raise_stmt file) (raise_suite file) (raise_arm file) (raise_handler file) l) around.in_handler)
    ((suite_step (inside_compound file)) (map-Suite Stmt Suite Arm Handler Inside Inside Inside Inside (cdef_stmt file) (cdef_suite file) (cdef_arm file) (cdef_handler file) l) around.in_compound)
    (bare_suite_step (map-Suite Stmt Suite Arm Handler (List Refusal) (List Refusal) (List Refusal) Inside (bare_stmt file) (bare_suite file) (bare_arm file) (bare_handler file) l))
    result

suite-out : (file : ℕ) (around : Around) (l : Suite-F Stmt Suite Arm Handler) (least result : Option Refusal) → SuiteLevelNoted file around l least result → SuiteNoted file around (roll-Suite l) least result
suite-out file around l least result it = equal
    (ap (λ (f : Inside). f around.in_loop) (fold-roll-Suite Inside Inside Inside Inside (loop_step file) (suite_step (outside_loop file)) arm_step handler_step l))
    (ap (λ (f : Inside). f around.in_function) (fold-roll-Suite Inside Inside Inside Inside (stmt_step (outside_function file)) (suite_step (outside_function file)) arm_step handler_step l))
    (ap (λ (f : Inside). f around.in_handler) (fold-roll-Suite Inside Inside Inside Inside (stmt_step (outside_handler file)) (suite_step (outside_handler file)) arm_step raise_step l))
    (ap (λ (f : Inside). f around.in_compound) (fold-roll-Suite Inside Inside Inside Inside (cdef_step file) (suite_step (inside_compound file)) arm_step handler_step l))
    (fold-roll-Suite (List Refusal) (List Refusal) (List Refusal) Inside bare_stmt_step bare_suite_step bare_arm_step (bare_step file) l)
    it

pub suite-at : (file : ℕ) (around : Around) (x : Suite) (l : Suite-F Stmt Suite Arm Handler) → x ≡ roll-Suite l → {least result : Option Refusal} → SuiteLevelNoted file around l least result → SuiteNoted file around x least result
suite-at file around x l e {least} {result} it = subst (λ (y : Suite). SuiteNoted file around y least result) (sym e) (suite-out file around l least result it)

-- ---- arms and handlers

abbrev pub ArmNoted : ℕ → Around → Arm → Option Refusal → Option Refusal → Type 0
ArmNoted file around a least result =
    IsNoted least (loop_arm file a around.in_loop) (return_arm file a around.in_function) (raise_arm file a around.in_handler) (cdef_arm file a around.in_compound) (bare_arm file a) result

pub arm-noted : (file : ℕ) (around : Around) (a : Arm) (body : Suite) → body ≡ a.body → {least result : Option Refusal} → SuiteNoted file around body least result → ArmNoted file around a least result
arm-noted file around a body is {least} {result} it = equal
    (ap (λ (f : Inside). f around.in_loop) (fold_out-Arm Inside Inside Inside Inside (loop_step file) (suite_step (outside_loop file)) arm_step handler_step a))
    (ap (λ (f : Inside). f around.in_function) (fold_out-Arm Inside Inside Inside Inside (stmt_step (outside_function file)) (suite_step (outside_function file)) arm_step handler_step a))
    (ap (λ (f : Inside). f around.in_handler) (fold_out-Arm Inside Inside Inside Inside (stmt_step (outside_handler file)) (suite_step (outside_handler file)) arm_step raise_step a))
    (ap (λ (f : Inside). f around.in_compound) (fold_out-Arm Inside Inside Inside Inside (cdef_step file) (suite_step (inside_compound file)) arm_step handler_step a))
    (fold_out-Arm (List Refusal) (List Refusal) (List Refusal) Inside bare_stmt_step bare_suite_step bare_arm_step (bare_step file) a)
    (subst (λ (b : Suite). SuiteNoted file around b least result) is it)

abbrev pub HandlerNoted : ℕ → Around → Handler → Bool → Option Refusal → Option Refusal → Type 0
HandlerNoted file around h is_last least result =
    IsNoted least (loop_handler file h around.in_loop) (return_handler file h around.in_function) (raise_handler file h around.in_handler) (cdef_handler file h around.in_compound) (bare_handler file h is_last) result

pub handler-noted : (file : ℕ) (around inner : Around) (h : Handler) (body : Suite) (is_last : Bool) → inner ≡ handling around → body ≡ h.body → {least next result : Option Refusal}
    → IsNoted least [] [] [] [] (not_last file h.at h.kind is_last) next → SuiteNoted file inner body next result → HandlerNoted file around h is_last least result
handler-noted file around inner h body is_last around_is is {least} {next} {result} first then =
    let inside : SuiteNoted file (handling around) h.body next result = subst (λ (b : Suite). SuiteNoted file (handling around) b next result) is (subst (λ (i : Around). SuiteNoted file i body next result) around_is then) in
    equal
    (ap (λ (f : Inside). f around.in_loop) (fold_out-Handler Inside Inside Inside Inside (loop_step file) (suite_step (outside_loop file)) arm_step handler_step h))
    (ap (λ (f : Inside). f around.in_function) (fold_out-Handler Inside Inside Inside Inside (stmt_step (outside_function file)) (suite_step (outside_function file)) arm_step handler_step h))
    (ap (λ (f : Inside). f around.in_handler) (fold_out-Handler Inside Inside Inside Inside (stmt_step (outside_handler file)) (suite_step (outside_handler file)) arm_step raise_step h))
    (ap (λ (f : Inside). f around.in_compound) (fold_out-Handler Inside Inside Inside Inside (cdef_step file) (suite_step (inside_compound file)) arm_step handler_step h))
    (ap (λ (f : Inside). f is_last) (fold_out-Handler (List Refusal) (List Refusal) (List Refusal) Inside bare_stmt_step bare_suite_step bare_arm_step (bare_step file) h))
    (both first inside)

-- a handler is the last where none is behind it
pub last-is : (f : Handler → Inside) (hs : List Handler) (n : ℕ) → n ≤ length hs → is_empty (map f (drop n hs)) ≡ nat_eq n (length hs)
last-is f [] zero within = refl
last-is f [] (suc n) within = absurd (omega (arith, within))
last-is f (h ∷ hs) zero within = grind arith
last-is f (h ∷ hs) (suc n) within = grind (arith, last-is f hs n (omega (arith, within)))

-- ---- each form of a statement and of a suite, where `inner` is what is around its parts

pub inline-noted : (file : ℕ) (around : Around) (b : Suite) (line : Line) → b ≡ suite.Inline line → {least result : Option Refusal} → SimplesNoted file around line.simples least result → SuiteNoted file around b least result
inline-noted file around b line is it = suite-at file around b (Suite-F.Inline line) (is ∙ sym (suite.rolls-Inline line)) it

pub block-noted : (file : ℕ) (around : Around) (b : Suite) (stmts seen : List Stmt) → b ≡ suite.Block stmts → seen ≡ stmts → {least result : Option Refusal} → StmtsNoted file around seen least result → SuiteNoted file around b least result
block-noted file around b stmts seen is same {least} {result} it = suite-at file around b (Suite-F.Block stmts) (is ∙ sym (suite.rolls-Block stmts)) (subst (λ (ss : List Stmt). StmtsNoted file around ss least result) same it)

pub simples-noted : (file : ℕ) (around : Around) (s : Stmt) (line : Line) → s ≡ stmt.Simples line → {least result : Option Refusal} → SimplesNoted file around line.simples least result → StmtNoted file around s least result
simples-noted file around s line is it = stmt-at file around s (Stmt-F.Simples line) (is ∙ sym (stmt.rolls-Simples line)) it

suite-in : (file : ℕ) (inner wanted : Around) (body seen : Suite) → inner ≡ wanted → seen ≡ body → {least result : Option Refusal} → SuiteNoted file inner seen least result → SuiteNoted file wanted body least result
suite-in file inner wanted body seen e same {least} {result} it = subst (λ (b : Suite). SuiteNoted file wanted b least result) same (subst (λ (i : Around). SuiteNoted file i seen least result) e it)

maybe-in : (file : ℕ) (inner wanted : Around) (other : Option Suite) → inner ≡ wanted → {least result : Option Refusal} → MaybeNoted file inner other least result → MaybeNoted file wanted other least result
maybe-in file inner wanted other e {least} {result} it = subst (λ (i : Around). MaybeNoted file i other least result) e it

arms-in : (file : ℕ) (inner wanted : Around) (arms seen : List Arm) → inner ≡ wanted → seen ≡ arms → {least result : Option Refusal} → ArmsNoted file inner seen least result → ArmsNoted file wanted arms least result
arms-in file inner wanted arms seen e same {least} {result} it = subst (λ (xs : List Arm). ArmsNoted file wanted xs least result) same (subst (λ (i : Around). ArmsNoted file i seen least result) e it)

handlers-in : (file : ℕ) (inner wanted : Around) (handlers seen : List Handler) → inner ≡ wanted → seen ≡ handlers → {least result : Option Refusal} → HandlersNoted file inner seen least result → HandlersNoted file wanted handlers least result
handlers-in file inner wanted handlers seen e same {least} {result} it = subst (λ (xs : List Handler). HandlersNoted file wanted xs least result) same (subst (λ (i : Around). HandlersNoted file i seen least result) e it)

pub if-noted : (file : ℕ) (around inner : Around) (s : Stmt) (at : ℕ) (arms seen : List Arm) (other : Option Suite) → s ≡ stmt.IfNode at arms other → inner ≡ compound around → seen ≡ arms → {least next result : Option Refusal}
    → ArmsNoted file inner seen least next → MaybeNoted file inner other next result → StmtNoted file around s least result
if-noted file around inner s at arms seen None is e same first then =
    stmt-at file around s (Stmt-F.IfNode at arms None) (is ∙ sym (stmt.rolls-IfNode at arms None)) (both (arms-in file inner (compound around) arms seen e same first) (maybe-in file inner (compound around) None e then))
if-noted file around inner s at arms seen (Some x) is e same first then =
    stmt-at file around s (Stmt-F.IfNode at arms (Some x)) (is ∙ sym (stmt.rolls-IfNode at arms (Some x))) (both (arms-in file inner (compound around) arms seen e same first) (maybe-in file inner (compound around) (Some x) e then))

pub while-noted : (file : ℕ) (around inner turning : Around) (s : Stmt) (at : ℕ) (test : Expr) (body seen : Suite) (other : Option Suite) → s ≡ stmt.WhileNode at test body other → inner ≡ compound around → turning ≡ looping around → seen ≡ body
    → {least next result : Option Refusal} → SuiteNoted file turning seen least next → MaybeNoted file inner other next result → StmtNoted file around s least result
while-noted file around inner turning s at test body seen None is e f same first then =
    stmt-at file around s (Stmt-F.WhileNode at test body None) (is ∙ sym (stmt.rolls-WhileNode at test body None)) (both (suite-in file turning (looping around) body seen f same first) (maybe-in file inner (compound around) None e then))
while-noted file around inner turning s at test body seen (Some x) is e f same first then =
    stmt-at file around s (Stmt-F.WhileNode at test body (Some x)) (is ∙ sym (stmt.rolls-WhileNode at test body (Some x))) (both (suite-in file turning (looping around) body seen f same first) (maybe-in file inner (compound around) (Some x) e then))

pub for-noted : (file : ℕ) (around inner turning : Around) (s : Stmt) (at : ℕ) (x over : Expr) (body seen : Suite) (other : Option Suite) → s ≡ stmt.ForNode at x over body other → inner ≡ compound around → turning ≡ looping around → seen ≡ body
    → {least next result : Option Refusal} → SuiteNoted file turning seen least next → MaybeNoted file inner other next result → StmtNoted file around s least result
for-noted file around inner turning s at x over body seen None is e f same first then =
    stmt-at file around s (Stmt-F.ForNode at x over body None) (is ∙ sym (stmt.rolls-ForNode at x over body None)) (both (suite-in file turning (looping around) body seen f same first) (maybe-in file inner (compound around) None e then))
for-noted file around inner turning s at x over body seen (Some t) is e f same first then =
    stmt-at file around s (Stmt-F.ForNode at x over body (Some t)) (is ∙ sym (stmt.rolls-ForNode at x over body (Some t))) (both (suite-in file turning (looping around) body seen f same first) (maybe-in file inner (compound around) (Some t) e then))

pub try-noted : (file : ℕ) (around inner : Around) (s : Stmt) (at : ℕ) (body seen_body : Suite) (handlers seen : List Handler) (other last : Option Suite) → s ≡ stmt.Try at body handlers other last → inner ≡ compound around → seen_body ≡ body → seen ≡ handlers
    → {least one two three result : Option Refusal} → SuiteNoted file inner seen_body least one → HandlersNoted file inner seen one two → MaybeNoted file inner other two three → MaybeNoted file inner last three result → StmtNoted file around s least result
try-noted file around inner s at body seen_body handlers seen None None is e same_body same p q r u =
    stmt-at file around s (Stmt-F.Try at body handlers None None) (is ∙ sym (stmt.rolls-Try at body handlers None None))
    (both (suite-in file inner (compound around) body seen_body e same_body p) (both (handlers-in file inner (compound around) handlers seen e same q) (both (maybe-in file inner (compound around) None e r) (maybe-in file inner (compound around) None e u))))
try-noted file around inner s at body seen_body handlers seen None (Some y) is e same_body same p q r u =
    stmt-at file around s (Stmt-F.Try at body handlers None (Some y)) (is ∙ sym (stmt.rolls-Try at body handlers None (Some y)))
    (both (suite-in file inner (compound around) body seen_body e same_body p) (both (handlers-in file inner (compound around) handlers seen e same q) (both (maybe-in file inner (compound around) None e r) (maybe-in file inner (compound around) (Some y) e u))))
try-noted file around inner s at body seen_body handlers seen (Some x) None is e same_body same p q r u =
    stmt-at file around s (Stmt-F.Try at body handlers (Some x) None) (is ∙ sym (stmt.rolls-Try at body handlers (Some x) None))
    (both (suite-in file inner (compound around) body seen_body e same_body p) (both (handlers-in file inner (compound around) handlers seen e same q) (both (maybe-in file inner (compound around) (Some x) e r) (maybe-in file inner (compound around) None e u))))
try-noted file around inner s at body seen_body handlers seen (Some x) (Some y) is e same_body same p q r u =
    stmt-at file around s (Stmt-F.Try at body handlers (Some x) (Some y)) (is ∙ sym (stmt.rolls-Try at body handlers (Some x) (Some y)))
    (both (suite-in file inner (compound around) body seen_body e same_body p) (both (handlers-in file inner (compound around) handlers seen e same q) (both (maybe-in file inner (compound around) (Some x) e r) (maybe-in file inner (compound around) (Some y) e u))))

pub with-noted : (file : ℕ) (around inner : Around) (s : Stmt) (at : ℕ) (word : LockWord) (body seen : Suite) → s ≡ stmt.With at word body → inner ≡ compound around → seen ≡ body → {least result : Option Refusal}
    → SuiteNoted file inner seen least result → StmtNoted file around s least result
with-noted file around inner s at word body seen is e same it =
    stmt-at file around s (Stmt-F.With at word body) (is ∙ sym (stmt.rolls-With at word body)) (suite-in file inner (compound around) body seen e same it)
