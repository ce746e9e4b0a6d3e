-- The spelling of a tree is one item, and the spellings of trees are cut into themselves.
use Rattle.std.proofs.Common.{◌≡◌, ℕ, zero, Bool, true, false, ◌&&◌, List, [], ◌∷◌, ◌++◌, map, refl, ap, ◌∙◌, append_assoc}
use Rattle.std.specs.Prelude.{Option, Some, None, is_none, unwrap_or, if◌then◌else◌, codes}
use Rattle.std.specs.List.{flat_map, list_all, AllByRecursion}
use Rattle.c_token.specs.CTokens.{CToken, Word, sign, word, c_tokens}
use Rattle.c_token.specs.Cutting.{Role, Plain, Parenthesis, Semicolon, Opens, Closes, EndsLine, role_of, Outside, Inside, item_start, place_after, c_items}
use Rattle.thin_state.specs.CReading.{spelling, listed_spelling, type_spelling, value_spelling, target_spelling, comparison_spelling, goto_spelling, statement_spelling, line_spelling, declaration_spelling, initial_spelling, parameter_spelling, head_spelling, body_spelling, method_spelling, call_spelling, destination_spelling, void_or, plain_head_spelling, IsItemInForm, IsReading, numbered_name, row_name, function_name}
use Rattle.thin_state.specs.declared.tree.CType.{CType}
use Rattle.thin_state.specs.declared.tree.CType.TheVariants as type
use Rattle.thin_state.specs.declared.tree.Variable.{Variable}
use Rattle.thin_state.specs.declared.tree.CValue.{CValue}
use Rattle.thin_state.specs.declared.tree.CValue.TheVariants as value
use Rattle.thin_state.specs.declared.tree.Comparison.{Comparison}
use Rattle.thin_state.specs.declared.tree.Comparison.TheVariants as comparison
use Rattle.thin_state.specs.declared.tree.Target.{Target}
use Rattle.thin_state.specs.declared.tree.Target.TheVariants as target
use Rattle.thin_state.specs.declared.tree.CStmt.{CStmt}
use Rattle.thin_state.specs.declared.tree.CStmt.TheVariants as stmt
use Rattle.thin_state.specs.declared.tree.Line.{Line}
use Rattle.thin_state.specs.declared.tree.Line.TheVariants as line
use Rattle.thin_state.specs.declared.tree.InitialValue.{InitialValue}
use Rattle.thin_state.specs.declared.tree.InitialValue.TheVariants as initial
use Rattle.thin_state.specs.declared.tree.Declaration.{Declaration}
use Rattle.thin_state.specs.declared.tree.Parameter.{Parameter}
use Rattle.thin_state.specs.declared.tree.CHead.{CHead}
use Rattle.thin_state.specs.declared.tree.CHead.TheVariants as head
use Rattle.thin_state.specs.declared.tree.CFunction.{CFunction}
use Rattle.thin_state.specs.declared.tree.MethodRow.{MethodRow}
use Rattle.thin_state.specs.declared.tree.CItem.{CItem}
use Rattle.thin_state.specs.declared.tree.CItem.TheVariants as item
use Rattle.c_token.proofs.Cut.{is_end, is_item_from, cut_item}

-- ---- tests of every token

both : (a b : Bool) → a ≡ true → b ≡ true → (a && b) ≡ true
both true b h k = k
both false b h k = h

left : (a b : Bool) → (a && b) ≡ true → a ≡ true
left true b h = refl
left false b h = h

right : (a b : Bool) → (a && b) ≡ true → b ≡ true
right true b h = h
right false b h = cc

all_append : (test : CToken → Bool) (xs ys : List CToken) → list_all test xs ≡ true → list_all test ys ≡ true → list_all test (xs ++ ys) ≡ true
all_append test [] ys h k = k
all_append test (x ∷ xs) ys h k =
    both (test x) (list_all test (xs ++ ys)) (left (test x) (list_all test xs) h) (all_append test xs ys (right (test x) (list_all test xs) h) k)

all_flat : {A : Type 0} (test : CToken → Bool) (spell : A → List CToken) → ((x : A) → list_all test (spell x) ≡ true)
    → (xs : List A) → list_all test (flat_map spell xs) ≡ true
all_flat test spell h [] = refl
all_flat test spell h (x ∷ xs) = all_append test (spell x) (flat_map spell xs) (h x) (all_flat test spell h xs)

all_listed : {A : Type 0} (test : CToken → Bool) (spell : A → List CToken) → test (sign ",") ≡ true → ((x : A) → list_all test (spell x) ≡ true)
    → (xs : List A) → list_all test (listed_spelling spell xs) ≡ true
all_listed test spell comma h [] = refl
all_listed test spell comma h (x ∷ xs) =
    all_append test (spell x) (flat_map (λ y. sign "," ∷ spell y) xs) (h x)
    (all_flat test (λ y. sign "," ∷ spell y) (λ y. both (test (sign ",")) (list_all test (spell y)) comma (h y)) xs)

-- ---- tokens that leave their place as it is

abbrev stays_inside : Role → Bool
stays_inside Plain = true
stays_inside Parenthesis = true
stays_inside Semicolon = true
stays_inside _ = false

abbrev is_level : CToken → Bool
is_level token = stays_inside (role_of token)

inside_step : (role : Role) (depth : ℕ) (body : Bool) → stays_inside role ≡ true → place_after role (Inside depth body) ≡ Some (Inside depth body)
inside_step Plain depth body h = refl
inside_step Parenthesis depth body h = refl
inside_step Semicolon depth body h = refl
inside_step Opens depth body h = cc
inside_step Closes depth body h = cc
inside_step EndsLine depth body h = cc

inside_skip : (depth : ℕ) (body : Bool) (xs ys : List CToken) → list_all is_level xs ≡ true
    → is_item_from (Inside depth body) (xs ++ ys) ≡ is_item_from (Inside depth body) ys
inside_skip depth body [] ys h = refl
inside_skip depth body (x ∷ xs) ys h =
    ap (λ next. if is_none next then is_end (xs ++ ys) else is_item_from (unwrap_or next item_start) (xs ++ ys))
    (inside_step (role_of x) depth body (left (is_level x) (list_all is_level xs) h))
    ∙ inside_skip depth body xs ys (right (is_level x) (list_all is_level xs) h)

abbrev stays_outside : Role → Bool
stays_outside Plain = true
stays_outside _ = false

abbrev is_plain : CToken → Bool
is_plain token = stays_outside (role_of token)

outside_step : (role : Role) (closed : Bool) → stays_outside role ≡ true → place_after role (Outside closed) ≡ Some (Outside false)
outside_step Plain closed h = refl
outside_step Parenthesis closed h = cc
outside_step Semicolon closed h = cc
outside_step Opens closed h = cc
outside_step Closes closed h = cc
outside_step EndsLine closed h = cc

-- up to a closing bracket outside braces
outside_skip : (closed : Bool) (xs ys : List CToken) → list_all is_plain xs ≡ true
    → is_item_from (Outside closed) (xs ++ (sign ")" ∷ ys)) ≡ is_item_from (Outside true) ys
outside_skip closed [] ys h = refl
outside_skip closed (x ∷ xs) ys h =
    ap (λ next. if is_none next then is_end (xs ++ (sign ")" ∷ ys)) else is_item_from (unwrap_or next item_start) (xs ++ (sign ")" ∷ ys)))
    (outside_step (role_of x) closed (left (is_plain x) (list_all is_plain xs) h))
    ∙ outside_skip false xs ys (right (is_plain x) (list_all is_plain xs) h)

-- ---- the parts of a function

value_level : (v : CValue) → list_all is_level (value_spelling v) ≡ true
value_level (value.Variable x) = refl
value_level (value.Place x) = refl
value_level (value.Argument j) = refl
value_level (value.Int n) = refl
value_level (value.Str bytes) = refl
value_level value.Null = refl
value_level (value.ExceptionType e) = refl
value_level value.Definition = refl

call_level : (name : List ℕ) (values : List CValue) → list_all is_level (call_spelling name values) ≡ true
call_level name values =
    all_append is_level (listed_spelling value_spelling values) (sign ")" ∷ sign ";" ∷ []) (all_listed is_level value_spelling refl value_level values) refl

destined_level : (x : Option Variable) (call : List CToken) → list_all is_level call ≡ true → list_all is_level (destination_spelling x ++ call) ≡ true
destined_level None call h = h
destined_level (Some x) call h = h

target_level : (x : Target) (more : List CToken) → list_all is_level more ≡ true → list_all is_level (target_spelling x ∷ more) ≡ true
target_level (target.Variable x) more h = h
target_level (target.Place x) more h = h

comparison_level : (c : Comparison) (more : List CToken) → list_all is_level more ≡ true → list_all is_level (comparison_spelling c ∷ more) ≡ true
comparison_level comparison.Equal more h = h
comparison_level comparison.NotEqual more h = h

value_level_then : (v : CValue) (more : List CToken) → list_all is_level more ≡ true → list_all is_level (value_spelling v ++ more) ≡ true
value_level_then v more h = all_append is_level (value_spelling v) more (value_level v) h

statement_level : (s : CStmt) → list_all is_level (statement_spelling s) ≡ true
statement_level (stmt.Assign x v) = target_level x (sign "=" ∷ (value_spelling v ++ (sign ";" ∷ []))) (value_level_then v _ refl)
statement_level (stmt.Api x f values) = destined_level x _ (call_level (row_name f) values)
statement_level (stmt.Call x f values) = destined_level x _ (call_level (function_name f) values)
statement_level (stmt.Incref v) = value_level_then v _ refl
statement_level (stmt.Decref v) = value_level_then v _ refl
statement_level (stmt.GotoIf a c b label) =
    value_level_then a _ (comparison_level c (value_spelling b ++ (sign ")" ∷ goto_spelling label)) (value_level_then b (sign ")" ∷ goto_spelling label) refl))
statement_level (stmt.Goto label) = refl
statement_level (stmt.Return v) = value_level_then v _ refl

line_level : (l : Line) → list_all is_level (line_spelling l) ≡ true
line_level (line.Label label) = refl
line_level (line.Statement s) = statement_level s

type_level : (t : CType) → list_all is_level (type_spelling t) ≡ true
type_level type.Int = refl
type_level type.PySsizeT = refl
type_level type.PyObject = refl

initial_level : (i : InitialValue) → list_all is_level (initial_spelling i) ≡ true
initial_level initial.Nothing = refl
initial_level initial.Null = refl
initial_level initial.Zero = refl

declaration_level : (d : Declaration) → list_all is_level (declaration_spelling d) ≡ true
declaration_level d = all_append is_level (type_spelling d.kind) _ (type_level d.kind) (initial_level d.initial)

-- ---- heads

type_plain : (t : CType) → list_all is_plain (type_spelling t) ≡ true
type_plain type.Int = refl
type_plain type.PySsizeT = refl
type_plain type.PyObject = refl

parameter_plain : (p : Parameter) → list_all is_plain (parameter_spelling p) ≡ true
parameter_plain p = all_append is_plain (type_spelling p.kind) _ (type_plain p.kind) refl

void_plain : (between : List CToken) → list_all is_plain between ≡ true → list_all is_plain (void_or between) ≡ true
void_plain [] h = refl
void_plain (token ∷ more) h = h

plain_head_item : (kind : CType) (m k : ℕ) (between rest : List CToken) → list_all is_plain between ≡ true
    → is_item_from item_start (plain_head_spelling kind m k between ++ rest) ≡ is_item_from (Outside true) rest
plain_head_item kind m k between rest h =
    let front : List CToken = type_spelling kind ++ (Word (numbered_name (codes "cyc_f_") m k) ∷ sign "(" ∷ void_or between) in
    let same : plain_head_spelling kind m k between ++ rest ≡ front ++ (sign ")" ∷ rest) = simp append_assoc in
    ap (is_item_from item_start) same
    ∙ outside_skip false front rest
    (all_append is_plain (type_spelling kind) _ (type_plain kind) (void_plain between h))

head_item : (h : CHead) (rest : List CToken) → is_item_from item_start (head_spelling h ++ rest) ≡ is_item_from (Outside true) rest
unfolding c_tokens
head_item (head.Plain m k kind parameters) rest =
    plain_head_item kind m k (listed_spelling parameter_spelling parameters) rest (all_listed is_plain parameter_spelling refl parameter_plain parameters)
head_item (head.Wrapper m k) rest = refl
head_item (head.Initializer name) rest = refl

function_item : (f : CFunction) → is_item_from item_start (head_spelling f.head ++ body_spelling f) ≡ true
function_item f =
    head_item f.head (body_spelling f)
    ∙ (inside_skip zero true (flat_map declaration_spelling f.declarations) (flat_map line_spelling f.lines ++ (sign "}" ∷ []))
    (all_flat is_level declaration_spelling declaration_level f.declarations)
    ∙ inside_skip zero true (flat_map line_spelling f.lines) (sign "}" ∷ []) (all_flat is_level line_spelling line_level f.lines))

-- ---- tables

method_item : (m : MethodRow) (rest : List CToken) → is_item_from (Inside zero false) (method_spelling m ++ rest) ≡ is_item_from (Inside zero false) rest
unfolding c_tokens
method_item m rest = refl

methods_item : (rows : List MethodRow) (rest : List CToken)
    → is_item_from (Inside zero false) (flat_map method_spelling rows ++ rest) ≡ is_item_from (Inside zero false) rest
methods_item [] rest = refl
methods_item (m ∷ rows) rest =
    ap (is_item_from (Inside zero false)) (append_assoc (method_spelling m) (flat_map method_spelling rows) rest)
    ∙ (method_item m (flat_map method_spelling rows ++ rest) ∙ methods_item rows rest)

static_item : (kind : CType) (name : List ℕ) → is_item_from item_start (word "static" ∷ (type_spelling kind ++ (Word name ∷ sign ";" ∷ []))) ≡ true
static_item type.Int name = refl
static_item type.PySsizeT name = refl
static_item type.PyObject name = refl

-- a tree's spelling is one item
pub spelling_item : (tree : CItem) → is_item_from item_start (spelling tree) ≡ true
unfolding spelling
spelling_item item.DefineClean = refl
spelling_item item.IncludePython = refl
spelling_item item.IncludeSet = refl
spelling_item item.ViewType = refl
spelling_item item.RootStruct = refl
spelling_item item.FormatTest = refl
spelling_item (item.Prototype kind m k kinds) =
    plain_head_item kind m k (listed_spelling type_spelling kinds) (sign ";" ∷ []) (all_listed is_plain type_spelling refl type_plain kinds)
spelling_item (item.Static kind x) = static_item kind _
spelling_item (item.Function f) = function_item f
spelling_item (item.Methods rows) = methods_item rows (c_tokens (codes "{NULL, NULL, 0, NULL} };"))
spelling_item (item.ModuleDefinition name) = refl

-- the spellings of trees are cut into themselves
pub cut_spellings : (trees : List CItem) → c_items (flat_map spelling trees) ≡ map spelling trees
unfolding c_items
cut_spellings [] = refl
cut_spellings (tree ∷ trees) =
    cut_item item_start (spelling tree) (flat_map spelling trees) (spelling_item tree) ∙ ap (λ items. spelling tree ∷ items) (cut_spellings trees)

-- and trees in form are read from their spellings, to the end
pub read_spellings : (trees : List CItem) → AllByRecursion IsItemInForm trees → IsReading (map spelling trees) trees true
unfolding IsReading
read_spellings [] h = refl
read_spellings (tree ∷ trees) h = (h.0, refl, read_spellings trees h.1)
