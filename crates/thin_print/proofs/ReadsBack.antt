-- The text of a file reads back as its trees.
use Rattle.std.proofs.Common.{◌≡◌, ℕ, Bool, true, false, List, [], ◌∷◌, ◌++◌, refl, sym, ap, ◌∙◌, subst, append_assoc, append-nil, arith, decimal}
use Rattle.std.specs.Prelude.{Option, Some, None, codes, ⊤}
use Rattle.std.specs.List.{flat_map, AllByRecursion}
use Rattle.c_token.specs.CTokens.{CToken, Word, sign, word, Fresh, Text, Between, InWord, InQuotes, c_tokens, tokens_from}
use Rattle.c_token.specs.Cutting.{c_items}
use Rattle.c_token.specs.Spelled.{IsNumberInForm}
use Rattle.thin_state.specs.CReading.{c_reading, spelling, type_spelling, variable_spelling, place_name, function_name, row_name, exception_name, numbered_name, string_spelling, value_spelling, comparison_spelling, target_spelling, destination_spelling, listed_spelling, call_spelling, goto_spelling, label_spelling, statement_spelling, line_spelling, initial_spelling, declaration_spelling, parameter_spelling, void_or, plain_head_spelling, head_spelling, body_spelling, method_spelling, IsVariableInForm, IsPlaceInForm, IsFunctionNameInForm, IsValueInForm, IsTargetInForm, IsDestinationInForm, IsStatementInForm, IsLineInForm, IsDeclarationInForm, IsParameterInForm, IsHeadInForm, IsFunctionInForm, IsMethodInForm, IsItemInForm, IsFileInForm, IsReading}
use Rattle.thin_state.proofs.Items.{cut_spellings, read_spellings}
use Rattle.thin_state.proofs.Unique.{operand_value, type_spelling_first, parameter_spelling_first, reading_unique}
use Rattle.c_token.proofs.Tokens.{Stops, StopsSign, stops_sign, begun, word_tokens, star_tokens, name_append, name_words, decimal_name, number_tokens, join_tokens, string_tokens}
use Rattle.thin_print.specs.CText.{fixed_text, listed, type_text, type_before, variable_text, place_text, numbered, function_text, row_text, exception_text, byte_text, string_text, value_text, comparison_text, target_text, destination_text, arguments_text, goto_text, statement_text, line_text, initial_text, declaration_text, parameter_text, or_void, head_text, body_text, method_text, item_text, file_text}
use Rattle.thin_state.specs.declared.BinaryOp.TheVariants as op
use Rattle.c_token.specs.declared.exception.Exception.{Exception}
use Rattle.c_token.specs.declared.exception.Exception.TheVariants as exception
use Rattle.thin_state.specs.declared.CType.{CType}
use Rattle.thin_state.specs.declared.CType.TheVariants as type
use Rattle.thin_state.specs.declared.Variable.{Variable}
use Rattle.thin_state.specs.declared.Variable.TheVariants as variable
use Rattle.thin_state.specs.declared.Place.{Place}
use Rattle.thin_state.specs.declared.Place.TheVariants as place
use Rattle.thin_state.specs.declared.FunctionName.{FunctionName}
use Rattle.thin_state.specs.declared.FunctionName.TheVariants as function
use Rattle.thin_state.specs.declared.ApiRow.{ApiRow}
use Rattle.thin_state.specs.declared.ApiRow.TheVariants as row
use Rattle.thin_state.specs.declared.CValue.{CValue}
use Rattle.thin_state.specs.declared.CValue.TheVariants as value
use Rattle.thin_state.specs.declared.Comparison.{Comparison}
use Rattle.thin_state.specs.declared.Comparison.TheVariants as comparison
use Rattle.thin_state.specs.declared.Target.{Target}
use Rattle.thin_state.specs.declared.Target.TheVariants as target
use Rattle.thin_state.specs.declared.CStmt.{CStmt}
use Rattle.thin_state.specs.declared.CStmt.TheVariants as stmt
use Rattle.thin_state.specs.declared.Line.{Line}
use Rattle.thin_state.specs.declared.Line.TheVariants as line
use Rattle.thin_state.specs.declared.InitialValue.{InitialValue}
use Rattle.thin_state.specs.declared.InitialValue.TheVariants as initial
use Rattle.thin_state.specs.declared.Declaration.{Declaration}
use Rattle.thin_state.specs.declared.Parameter.{Parameter}
use Rattle.thin_state.specs.declared.CHead.{CHead}
use Rattle.thin_state.specs.declared.CHead.TheVariants as head
use Rattle.thin_state.specs.declared.CFunction.{CFunction}
use Rattle.thin_state.specs.declared.MethodRow.{MethodRow}
use Rattle.thin_state.specs.declared.CItem.{CItem}
use Rattle.thin_state.specs.declared.CItem.TheVariants as item
use Rattle.thin_state.specs.declared.CFile.{CFile}
use Rattle.thin_print.specs.declared.Fixed.TheVariants as fixed

-- ---- names

variable_tokens : (begins : Bool) (x : Variable) (rest : List ℕ) → IsVariableInForm x → Stops rest
    → tokens_from (Between (begun begins)) (variable_text x ++ rest) ≡ variable_spelling x ∷ tokens_from (Between Text) rest
unfolding tokens_from
variable_tokens begins (variable.Parameter j) rest h k = word_tokens begins (codes "p") (decimal j) rest (decimal_name j h) k
variable_tokens begins (variable.Local j) rest h k = word_tokens begins (codes "v") (decimal j) rest (decimal_name j h) k
variable_tokens begins (variable.Temporary j) rest h k = word_tokens begins (codes "t") (decimal j) rest (decimal_name j h) k
variable_tokens begins variable.Returned rest h k = word_tokens begins (codes "r") [] rest tt k
variable_tokens begins variable.SelfObject rest h k = word_tokens begins (codes "self") [] rest tt k
variable_tokens begins variable.Arguments rest h k = word_tokens begins (codes "args") [] rest tt k
variable_tokens begins variable.ArgumentCount rest h k = word_tokens begins (codes "nargs") [] rest tt k

variable_stops : (x : Variable) (more rest : List ℕ) → StopsSign ((variable_text x ++ more) ++ rest)
variable_stops (variable.Parameter j) more rest = refl
variable_stops (variable.Local j) more rest = refl
variable_stops (variable.Temporary j) more rest = refl
variable_stops variable.Returned more rest = refl
variable_stops variable.SelfObject more rest = refl
variable_stops variable.Arguments more rest = refl
variable_stops variable.ArgumentCount more rest = refl

place_tokens : (begins : Bool) (x : Place) (rest : List ℕ) → IsPlaceInForm x → Stops rest
    → tokens_from (Between (begun begins)) (place_text x ++ rest) ≡ Word (place_name x) ∷ tokens_from (Between Text) rest
unfolding tokens_from
place_tokens begins place.Module rest h k = word_tokens begins (codes "cyc_m") [] rest tt k
place_tokens begins place.Dictionary rest h k = word_tokens begins (codes "cyc_d") [] rest tt k
place_tokens begins place.Builtins rest h k = word_tokens begins (codes "cyc_b") [] rest tt k
place_tokens begins place.Ready rest h k = word_tokens begins (codes "cyc_r") [] rest tt k
place_tokens begins (place.Constant j) rest h k = word_tokens begins (codes "cyc_c_") (decimal j) rest (decimal_name j h) k
place_tokens begins (place.Global j) rest h k = word_tokens begins (codes "cyc_g_") (decimal j) rest (decimal_name j h) k

place_stops : (x : Place) (more rest : List ℕ) → StopsSign ((place_text x ++ more) ++ rest)
place_stops place.Module more rest = refl
place_stops place.Dictionary more rest = refl
place_stops place.Builtins more rest = refl
place_stops place.Ready more rest = refl
place_stops (place.Constant j) more rest = refl
place_stops (place.Global j) more rest = refl

-- the numbers of a name in a word whose letters have been read
numbers_tokens : (begins : Bool) (letters : List ℕ) (m k : ℕ) (rest : List ℕ) → IsNumberInForm m → IsNumberInForm k → Stops rest
    → tokens_from (InWord (begun begins) letters) ((decimal m ++ (codes "_" ++ decimal k)) ++ rest) ≡ Word (numbered_name letters m k) ∷ tokens_from (Between Text) rest
numbers_tokens begins letters m k rest h i stops =
    word_tokens begins letters (decimal m ++ (codes "_" ++ decimal k)) rest (name_append (decimal m) (codes "_" ++ decimal k) (decimal_name m h) (refl, decimal_name k i)) stops

function_tokens : (begins : Bool) (f : FunctionName) (rest : List ℕ) → IsFunctionNameInForm f → Stops rest
    → tokens_from (Between (begun begins)) (function_text f ++ rest) ≡ Word (function_name f) ∷ tokens_from (Between Text) rest
unfolding tokens_from
function_tokens begins (function.Plain m k) rest h stops = numbers_tokens begins (codes "cyc_f_") m k rest h.0 h.1 stops
function_tokens begins (function.Wrapper m k) rest h stops = numbers_tokens begins (codes "cyc_w_") m k rest h.0 h.1 stops
function_tokens begins (function.Initializer name) rest h stops = word_tokens begins (codes "PyInit_") name rest (name_words name h) stops

row_tokens : (begins : Bool) (f : ApiRow) (rest : List ℕ) → Stops rest
    → tokens_from (Between (begun begins)) (row_text f ++ rest) ≡ Word (row_name f) ∷ tokens_from (Between Text) rest
unfolding tokens_from
row_tokens begins (row.Number op.Add) rest k = word_tokens begins (codes "PyNumber_Add") [] rest tt k
row_tokens begins row.ModuleCreate rest k = word_tokens begins (codes "PyModule_Create") [] rest tt k
row_tokens begins row.ModuleGetDict rest k = word_tokens begins (codes "PyModule_GetDict") [] rest tt k
row_tokens begins row.ImportModule rest k = word_tokens begins (codes "PyImport_ImportModule") [] rest tt k
row_tokens begins row.ErrSetString rest k = word_tokens begins (codes "PyErr_SetString") [] rest tt k

exception_tokens : (e : Exception) (rest : List ℕ) → Stops rest
    → tokens_from (Between Text) ((codes "PyExc_" ++ exception_text e) ++ rest) ≡ Word (exception_name e) ∷ tokens_from (Between Text) rest
unfolding tokens_from
exception_tokens exception.BaseException rest k = word_tokens true (codes "PyExc_BaseException") [] rest tt k
exception_tokens exception.TypeError rest k = word_tokens true (codes "PyExc_TypeError") [] rest tt k
exception_tokens exception.NotImplementedError rest k = word_tokens true (codes "PyExc_NotImplementedError") [] rest tt k
exception_tokens exception.OverflowError rest k = word_tokens true (codes "PyExc_OverflowError") [] rest tt k
exception_tokens exception.ZeroDivisionError rest k = word_tokens true (codes "PyExc_ZeroDivisionError") [] rest tt k
exception_tokens exception.ValueError rest k = word_tokens true (codes "PyExc_ValueError") [] rest tt k
exception_tokens exception.IndexError rest k = word_tokens true (codes "PyExc_IndexError") [] rest tt k
exception_tokens exception.AttributeError rest k = word_tokens true (codes "PyExc_AttributeError") [] rest tt k
exception_tokens exception.SystemError rest k = word_tokens true (codes "PyExc_SystemError") [] rest tt k
exception_tokens exception.NameError rest k = word_tokens true (codes "PyExc_NameError") [] rest tt k
exception_tokens exception.UnboundLocalError rest k = word_tokens true (codes "PyExc_UnboundLocalError") [] rest tt k

-- ---- types

type_before_tokens : (begins : Bool) (kind : CType) (rest : List ℕ) → StopsSign rest
    → tokens_from (Between (begun begins)) (type_before kind ++ rest) ≡ type_spelling kind ++ tokens_from (Between Text) rest
unfolding tokens_from
type_before_tokens false type.Int rest k = refl
type_before_tokens false type.PySsizeT rest k = refl
type_before_tokens false type.PyObject rest k = ap (λ t. word "PyObject" ∷ t) (star_tokens rest k)
type_before_tokens true type.Int rest k = refl
type_before_tokens true type.PySsizeT rest k = refl
type_before_tokens true type.PyObject rest k = ap (λ t. word "PyObject" ∷ t) (star_tokens rest k)

type_tokens : (kind : CType) → ⊤ → (rest : List ℕ) → Stops rest
    → tokens_from (Between Text) (type_text kind ++ rest) ≡ type_spelling kind ++ tokens_from (Between Text) rest
unfolding tokens_from
type_tokens type.Int h rest k = word_tokens true (codes "int") [] rest tt k
type_tokens type.PySsizeT h rest k = word_tokens true (codes "Py_ssize_t") [] rest tt k
type_tokens type.PyObject h rest k = ap (λ t. word "PyObject" ∷ t) (star_tokens rest (stops_sign rest k))

-- ---- operands

string_text_tokens : (bytes rest : List ℕ)
    → tokens_from (Between Text) (string_text bytes ++ rest) ≡ string_spelling bytes ∷ tokens_from (Between Text) rest
unfolding tokens_from
string_text_tokens bytes rest =
    ap (tokens_from (InQuotes Text 34 [])) (append_assoc (flat_map byte_text bytes) (codes "\"") rest) ∙ string_tokens bytes rest

argument_tokens : (j : ℕ) (rest : List ℕ) → IsNumberInForm j
    → tokens_from (Between Text) ((codes "args[" ++ (decimal j ++ codes "]")) ++ rest)
    ≡ word "args" ∷ sign "[" ∷ Word (decimal j) ∷ sign "]" ∷ tokens_from (Between Text) rest
unfolding tokens_from
argument_tokens j rest h =
    ap (λ t. word "args" ∷ sign "[" ∷ t)
    (join_tokens (Between Text) (Between Text) (Between Text) (decimal j) (codes "]") rest (Word (decimal j) ∷ []) (sign "]" ∷ [])
    (number_tokens true j (codes "]" ++ rest) h (refl, refl)) refl)

value_tokens : (v : CValue) → IsValueInForm v → (rest : List ℕ) → Stops rest
    → tokens_from (Between Text) (value_text v ++ rest) ≡ value_spelling v ++ tokens_from (Between Text) rest
unfolding tokens_from
value_tokens (value.Variable x) h rest k = variable_tokens true x rest h k
value_tokens (value.Place x) h rest k = place_tokens true x rest h k
value_tokens (value.Argument j) h rest k = argument_tokens j rest h
value_tokens (value.Int n) h rest k = number_tokens true n rest (omega arith) k
value_tokens (value.Str bytes) h rest k = string_text_tokens bytes rest
value_tokens value.Null h rest k = word_tokens true (codes "NULL") [] rest tt k
value_tokens (value.ExceptionType e) h rest k = exception_tokens e rest k
value_tokens value.Definition h rest k = ap (λ t. sign "&" ∷ t) (word_tokens true (codes "cyc_def") [] rest tt k)

-- ---- lists with commas

module _ {A : Type 0} (text : A → List ℕ) (spell : A → List CToken) (IsInForm : A → Type 0)
    (reads : (x : A) → IsInForm x → (rest : List ℕ) → Stops rest → tokens_from (Between Text) (text x ++ rest) ≡ spell x ++ tokens_from (Between Text) rest) where
  more_stops : (xs : List A) (rest : List ℕ) → Stops rest → Stops (flat_map (λ x. codes ", " ++ text x) xs ++ rest)
  more_stops [] rest k = k
  more_stops (x ∷ xs) rest k = (refl, refl)

  more_tokens : (xs : List A) → AllByRecursion IsInForm xs → (rest : List ℕ) → Stops rest
      → tokens_from (Between Text) (flat_map (λ x. codes ", " ++ text x) xs ++ rest) ≡ flat_map (λ x. sign "," ∷ spell x) xs ++ tokens_from (Between Text) rest
  unfolding tokens_from
  more_tokens [] h rest k = refl
  more_tokens (x ∷ xs) h rest k =
      ap (λ t. sign "," ∷ t)
      (join_tokens (Between Text) (Between Text) (Between Text) (text x) (flat_map (λ x. codes ", " ++ text x) xs) rest (spell x) (flat_map (λ x. sign "," ∷ spell x) xs)
      (reads x h.0 (flat_map (λ x. codes ", " ++ text x) xs ++ rest) (more_stops xs rest k)) (more_tokens xs h.1 rest k))

  listed_tokens : (xs : List A) → AllByRecursion IsInForm xs → (rest : List ℕ) → Stops rest
      → tokens_from (Between Text) (listed text xs ++ rest) ≡ listed_spelling spell xs ++ tokens_from (Between Text) rest
  listed_tokens [] h rest k = refl
  listed_tokens (x ∷ xs) h rest k =
      join_tokens (Between Text) (Between Text) (Between Text) (text x) (flat_map (λ x. codes ", " ++ text x) xs) rest (spell x) (flat_map (λ x. sign "," ∷ spell x) xs)
      (reads x h.0 (flat_map (λ x. codes ", " ++ text x) xs ++ rest) (more_stops xs rest k)) (more_tokens xs h.1 rest k)

-- ---- statements

target_tokens : (x : Target) (rest : List ℕ) → IsTargetInForm x → Stops rest
    → tokens_from (Between Fresh) (target_text x ++ rest) ≡ target_spelling x ∷ tokens_from (Between Text) rest
target_tokens (target.Variable x) rest h k = variable_tokens false x rest h k
target_tokens (target.Place x) rest h k = place_tokens false x rest h k

comparison_tokens : (c : Comparison) (rest : List ℕ)
    → tokens_from (Between Text) (comparison_text c ++ rest) ≡ comparison_spelling c ∷ tokens_from (Between Text) rest
unfolding tokens_from
comparison_tokens comparison.Equal rest = refl
comparison_tokens comparison.NotEqual rest = refl

comparison_stops : (c : Comparison) (more rest : List ℕ) → Stops ((comparison_text c ++ more) ++ rest)
comparison_stops comparison.Equal more rest = (refl, refl)
comparison_stops comparison.NotEqual more rest = (refl, refl)

arguments_tokens : (values : List CValue) (rest : List ℕ) → AllByRecursion IsValueInForm values
    → tokens_from (Between Text) (arguments_text values ++ rest)
    ≡ (sign "(" ∷ (listed_spelling value_spelling values ++ (sign ")" ∷ sign ";" ∷ []))) ++ tokens_from (Between Fresh) rest
unfolding tokens_from
arguments_tokens values rest h =
    ap (λ t. sign "(" ∷ t)
    (join_tokens (Between Text) (Between Text) (Between Fresh) (listed value_text values) (codes ");\n") rest (listed_spelling value_spelling values) (sign ")" ∷ sign ";" ∷ [])
    (listed_tokens value_text value_spelling IsValueInForm value_tokens values h (codes ");\n" ++ rest) (refl, refl)) refl)

-- a call, given how its name is read
call_tokens : (begins : Bool) (text name : List ℕ) (values : List CValue) (rest : List ℕ)
    → ((more : List ℕ) → Stops more → tokens_from (Between (begun begins)) (text ++ more) ≡ Word name ∷ tokens_from (Between Text) more)
    → AllByRecursion IsValueInForm values
    → tokens_from (Between (begun begins)) ((text ++ arguments_text values) ++ rest) ≡ call_spelling name values ++ tokens_from (Between Fresh) rest
call_tokens begins text name values rest named h =
    join_tokens (Between (begun begins)) (Between Text) (Between Fresh) text (arguments_text values) rest (Word name ∷ []) (sign "(" ∷ (listed_spelling value_spelling values ++ (sign ")" ∷ sign ";" ∷ [])))
    (named (arguments_text values ++ rest) (refl, refl)) (arguments_tokens values rest h)

destined_tokens : (x : Option Variable) (call : List ℕ) (spelled : List CToken) (rest : List ℕ) → IsDestinationInForm x
    → ((begins : Bool) → tokens_from (Between (begun begins)) (call ++ rest) ≡ spelled ++ tokens_from (Between Fresh) rest)
    → tokens_from (Between Fresh) ((destination_text x ++ call) ++ rest) ≡ (destination_spelling x ++ spelled) ++ tokens_from (Between Fresh) rest
unfolding tokens_from
destined_tokens None call spelled rest h called = called false
destined_tokens (Some x) call spelled rest h called =
    join_tokens (Between Fresh) (Between Text) (Between Fresh) (variable_text x ++ codes " = ") call rest (variable_spelling x ∷ sign "=" ∷ []) spelled
    (join_tokens (Between Fresh) (Between Text) (Between Text) (variable_text x) (codes " = ") (call ++ rest) (variable_spelling x ∷ []) (sign "=" ∷ [])
    (variable_tokens false x (codes " = " ++ (call ++ rest)) h (refl, refl)) refl)
    (called true)

-- an operand and a fixed end of the statement
value_end : (v : CValue) (end : List ℕ) (spelled : List CToken) (rest : List ℕ) → IsValueInForm v → Stops (end ++ rest)
    → tokens_from (Between Text) (end ++ rest) ≡ spelled ++ tokens_from (Between Fresh) rest
    → tokens_from (Between Text) ((value_text v ++ end) ++ rest) ≡ (value_spelling v ++ spelled) ++ tokens_from (Between Fresh) rest
value_end v end spelled rest h stops ended =
    join_tokens (Between Text) (Between Text) (Between Fresh) (value_text v) end rest (value_spelling v) spelled (value_tokens v h (end ++ rest) stops) ended

label_tokens : (begins : Bool) (label : ℕ) (end : List ℕ) (spelled : List CToken) (rest : List ℕ) → IsNumberInForm label → Stops (end ++ rest)
    → tokens_from (Between Text) (end ++ rest) ≡ spelled ++ tokens_from (Between Fresh) rest
    → tokens_from (InWord (begun begins) (codes "L")) ((decimal label ++ end) ++ rest) ≡ (label_spelling label ∷ spelled) ++ tokens_from (Between Fresh) rest
label_tokens begins label end spelled rest h stops ended =
    join_tokens (InWord (begun begins) (codes "L")) (Between Text) (Between Fresh) (decimal label) end rest (label_spelling label ∷ []) spelled
    (word_tokens begins (codes "L") (decimal label) (end ++ rest) (decimal_name label h) stops) ended

goto_tokens : (begins : Bool) (label : ℕ) (rest : List ℕ) → IsNumberInForm label
    → tokens_from (Between (begun begins)) (goto_text label ++ rest) ≡ goto_spelling label ++ tokens_from (Between Fresh) rest
unfolding tokens_from
goto_tokens false label rest h = ap (λ t. word "goto" ∷ t) (label_tokens true label (codes ";\n") (sign ";" ∷ []) rest h (refl, refl) refl)
goto_tokens true label rest h = ap (λ t. word "goto" ∷ t) (label_tokens true label (codes ";\n") (sign ";" ∷ []) rest h (refl, refl) refl)

assign_tokens : (x : Target) (v : CValue) (rest : List ℕ) → IsTargetInForm x → IsValueInForm v
    → tokens_from (Between Fresh) (statement_text (stmt.Assign x v) ++ rest) ≡ statement_spelling (stmt.Assign x v) ++ tokens_from (Between Fresh) rest
unfolding tokens_from
assign_tokens x v rest h k =
    join_tokens (Between Fresh) (Between Text) (Between Fresh) (target_text x) (codes " = " ++ (value_text v ++ codes ";\n")) rest (target_spelling x ∷ []) (sign "=" ∷ (value_spelling v ++ (sign ";" ∷ [])))
    (target_tokens x ((codes " = " ++ (value_text v ++ codes ";\n")) ++ rest) h (refl, refl))
    (ap (λ t. sign "=" ∷ t) (value_end v (codes ";\n") (sign ";" ∷ []) rest k (refl, refl) refl))

test_tokens : (a : CValue) (c : Comparison) (b : CValue) (label : ℕ) (rest : List ℕ) → IsValueInForm a → IsValueInForm b → IsNumberInForm label
    → tokens_from (Between Fresh) (statement_text (stmt.GotoIf a c b label) ++ rest) ≡ statement_spelling (stmt.GotoIf a c b label) ++ tokens_from (Between Fresh) rest
unfolding tokens_from
test_tokens a c b label rest h i j =
    let end : List ℕ = codes ") " ++ goto_text label in
    let spelled : List CToken = sign ")" ∷ goto_spelling label in
    ap (λ t. word "if" ∷ sign "(" ∷ t)
    (value_end a (comparison_text c ++ (value_text b ++ end)) (comparison_spelling c ∷ (value_spelling b ++ spelled)) rest h
    (comparison_stops c (value_text b ++ end) rest)
    (join_tokens (Between Text) (Between Text) (Between Fresh) (comparison_text c) (value_text b ++ end) rest (comparison_spelling c ∷ []) (value_spelling b ++ spelled)
    (comparison_tokens c ((value_text b ++ end) ++ rest))
    (value_end b end spelled rest i (refl, refl) (ap (λ t. sign ")" ∷ t) (goto_tokens true label rest j)))))

statement_tokens : (s : CStmt) (rest : List ℕ) → IsStatementInForm s
    → tokens_from (Between Fresh) (statement_text s ++ rest) ≡ statement_spelling s ++ tokens_from (Between Fresh) rest
unfolding tokens_from
statement_tokens (stmt.Assign x v) rest h = assign_tokens x v rest h.0 (operand_value v h.1)
statement_tokens (stmt.Api x f values) rest h =
    destined_tokens x (row_text f ++ arguments_text values) (call_spelling (row_name f) values) rest h.0
    (λ begins. call_tokens begins (row_text f) (row_name f) values rest (row_tokens begins f) h.1)
statement_tokens (stmt.Call x f values) rest h =
    destined_tokens x (function_text f ++ arguments_text values) (call_spelling (function_name f) values) rest h.0
    (λ begins. call_tokens begins (function_text f) (function_name f) values rest (λ more stops. function_tokens begins f more h.1 stops) h.2)
statement_tokens (stmt.Incref v) rest h =
    ap (λ t. word "Py_INCREF" ∷ sign "(" ∷ t) (value_end v (codes ");\n") (sign ")" ∷ sign ";" ∷ []) rest h (refl, refl) refl)
statement_tokens (stmt.Decref v) rest h =
    ap (λ t. word "Py_DECREF" ∷ sign "(" ∷ t) (value_end v (codes ");\n") (sign ")" ∷ sign ";" ∷ []) rest h (refl, refl) refl)
statement_tokens (stmt.GotoIf a c b label) rest h = test_tokens a c b label rest (operand_value a h.0) (operand_value b h.1) h.2
statement_tokens (stmt.Goto label) rest h = goto_tokens false label rest h
statement_tokens (stmt.Return v) rest h =
    ap (λ t. word "return" ∷ t) (value_end v (codes ";\n") (sign ";" ∷ []) rest (operand_value v h) (refl, refl) refl)

line_tokens : (l : Line) (rest : List ℕ) → IsLineInForm l
    → tokens_from (Between Fresh) (line_text l ++ rest) ≡ line_spelling l ++ tokens_from (Between Fresh) rest
unfolding tokens_from
line_tokens (line.Label label) rest h = label_tokens false label (codes ":\n") (sign ":" ∷ []) rest h (refl, refl) refl
line_tokens (line.Statement s) rest h = statement_tokens s rest h

-- ---- declarations and heads

initial_tokens : (i : InitialValue) (rest : List ℕ)
    → tokens_from (Between Text) (initial_text i ++ rest) ≡ initial_spelling i ++ tokens_from (Between Fresh) rest
unfolding tokens_from
initial_tokens initial.Nothing rest = refl
initial_tokens initial.Null rest = refl
initial_tokens initial.Zero rest = refl

initial_stops : (i : InitialValue) (rest : List ℕ) → Stops (initial_text i ++ rest)
initial_stops initial.Nothing rest = (refl, refl)
initial_stops initial.Null rest = (refl, refl)
initial_stops initial.Zero rest = (refl, refl)

declaration_tokens : (d : Declaration) (rest : List ℕ) → IsDeclarationInForm d
    → tokens_from (Between Fresh) (declaration_text d ++ rest) ≡ declaration_spelling d ++ tokens_from (Between Fresh) rest
unfolding tokens_from
declaration_tokens d rest h =
    join_tokens (Between Fresh) (Between Text) (Between Fresh) (type_before d.kind) (variable_text d.variable ++ initial_text d.initial) rest (type_spelling d.kind) (variable_spelling d.variable ∷ initial_spelling d.initial)
    (type_before_tokens false d.kind ((variable_text d.variable ++ initial_text d.initial) ++ rest) (variable_stops d.variable (initial_text d.initial) rest))
    (join_tokens (Between Text) (Between Text) (Between Fresh) (variable_text d.variable) (initial_text d.initial) rest (variable_spelling d.variable ∷ []) (initial_spelling d.initial)
    (variable_tokens true d.variable (initial_text d.initial ++ rest) h (initial_stops d.initial rest)) (initial_tokens d.initial rest))

parameter_tokens : (p : Parameter) → IsParameterInForm p → (rest : List ℕ) → Stops rest
    → tokens_from (Between Text) (parameter_text p ++ rest) ≡ parameter_spelling p ++ tokens_from (Between Text) rest
parameter_tokens p h rest k =
    join_tokens (Between Text) (Between Text) (Between Text) (type_before p.kind) (codes "p" ++ decimal p.number) rest (type_spelling p.kind) (variable_spelling (variable.Parameter p.number) ∷ [])
    (type_before_tokens true p.kind ((codes "p" ++ decimal p.number) ++ rest) refl)
    (variable_tokens true (variable.Parameter p.number) rest h k)

-- a type before something is no empty text
type_text_first : (kind : CType) (more : List ℕ) → or_void (type_text kind ++ more) ≡ type_text kind ++ more
type_text_first type.Int more = refl
type_text_first type.PySsizeT more = refl
type_text_first type.PyObject more = refl

type_before_first : (kind : CType) (name more : List ℕ) → or_void ((type_before kind ++ name) ++ more) ≡ (type_before kind ++ name) ++ more
type_before_first type.Int name more = refl
type_before_first type.PySsizeT name more = refl
type_before_first type.PyObject name more = refl

kinds_tokens : (kinds : List CType) (rest : List ℕ) → Stops rest
    → tokens_from (Between Text) (or_void (listed type_text kinds) ++ rest) ≡ void_or (listed_spelling type_spelling kinds) ++ tokens_from (Between Text) rest
unfolding tokens_from
kinds_tokens [] rest k = word_tokens true (codes "void") [] rest tt k
kinds_tokens (kind ∷ kinds) rest k =
    rw (type_text_first kind (flat_map (λ x. codes ", " ++ type_text x) kinds), type_spelling_first kind (flat_map (λ x. sign "," ∷ type_spelling x) kinds))
    (listed_tokens type_text type_spelling (λ x. ⊤) type_tokens (kind ∷ kinds) (all_types (kind ∷ kinds)) rest k)
  where
    all_types : (xs : List CType) → AllByRecursion (λ x. ⊤) xs
    all_types [] = tt
    all_types (x ∷ xs) = (tt, all_types xs)

parameters_tokens : (parameters : List Parameter) (rest : List ℕ) → AllByRecursion IsParameterInForm parameters → Stops rest
    → tokens_from (Between Text) (or_void (listed parameter_text parameters) ++ rest) ≡ void_or (listed_spelling parameter_spelling parameters) ++ tokens_from (Between Text) rest
unfolding tokens_from
parameters_tokens [] rest h k = word_tokens true (codes "void") [] rest tt k
parameters_tokens (p ∷ parameters) rest h k =
    rw (
      type_before_first p.kind (codes "p" ++ decimal p.number) (flat_map (λ x. codes ", " ++ parameter_text x) parameters),
      parameter_spelling_first p.kind (variable_spelling (variable.Parameter p.number) ∷ []) (flat_map (λ x. sign "," ∷ parameter_spelling x) parameters),
    )
    (listed_tokens parameter_text parameter_spelling IsParameterInForm parameter_tokens (p ∷ parameters) h rest k)

-- a head of a C function or a prototype, given how what stands between its brackets is read
plain_head_tokens : (kind : CType) (m k : ℕ) (text end : List ℕ) (between spelled : List CToken) (rest : List ℕ)
    → IsNumberInForm m → IsNumberInForm k
    → tokens_from (Between Text) ((text ++ end) ++ rest) ≡ (between ++ spelled) ++ tokens_from (Between Fresh) rest
    → tokens_from (Between Fresh) ((type_before kind ++ (numbered (codes "cyc_f_") m k ++ (codes "(" ++ (text ++ end)))) ++ rest)
    ≡ (type_spelling kind ++ (Word (numbered_name (codes "cyc_f_") m k) ∷ sign "(" ∷ (between ++ spelled))) ++ tokens_from (Between Fresh) rest
unfolding tokens_from
plain_head_tokens kind m k text end between spelled rest h i inner =
    join_tokens (Between Fresh) (Between Text) (Between Fresh) (type_before kind) (numbered (codes "cyc_f_") m k ++ (codes "(" ++ (text ++ end))) rest (type_spelling kind) (Word (numbered_name (codes "cyc_f_") m k) ∷ sign "(" ∷ (between ++ spelled))
    (type_before_tokens false kind ((numbered (codes "cyc_f_") m k ++ (codes "(" ++ (text ++ end))) ++ rest) refl)
    (join_tokens (Between Text) (Between Text) (Between Fresh) (numbered (codes "cyc_f_") m k) (codes "(" ++ (text ++ end)) rest (Word (numbered_name (codes "cyc_f_") m k) ∷ []) (sign "(" ∷ (between ++ spelled))
    (numbers_tokens true (codes "cyc_f_") m k ((codes "(" ++ (text ++ end)) ++ rest) h i (refl, refl))
    (ap (λ t. sign "(" ∷ t) inner))

prototype_tokens : (kind : CType) (m k : ℕ) (kinds : List CType) (rest : List ℕ) → IsNumberInForm m → IsNumberInForm k
    → tokens_from (Between Fresh) (item_text (item.Prototype kind m k kinds) ++ rest)
    ≡ (plain_head_spelling kind m k (listed_spelling type_spelling kinds) ++ (sign ";" ∷ [])) ++ tokens_from (Between Fresh) rest
unfolding tokens_from
prototype_tokens kind m k kinds rest h i =
    plain_head_tokens kind m k (or_void (listed type_text kinds)) (codes ");\n") (void_or (listed_spelling type_spelling kinds)) (sign ")" ∷ sign ";" ∷ []) rest h i
    (join_tokens (Between Text) (Between Text) (Between Fresh) (or_void (listed type_text kinds)) (codes ");\n") rest (void_or (listed_spelling type_spelling kinds)) (sign ")" ∷ sign ";" ∷ [])
    (kinds_tokens kinds (codes ");\n" ++ rest) (refl, refl)) refl)
    ∙ ap (λ t. t ++ tokens_from (Between Fresh) rest) (simp append_assoc)

head_tokens : (h : CHead) (rest : List ℕ) → IsHeadInForm h
    → tokens_from (Between Fresh) (head_text h ++ rest) ≡ head_spelling h ++ tokens_from (Between Fresh) rest
unfolding tokens_from fixed_text c_tokens
head_tokens (head.Plain m k kind parameters) rest h =
    plain_head_tokens kind m k (or_void (listed parameter_text parameters)) (codes ")\n") (void_or (listed_spelling parameter_spelling parameters)) (sign ")" ∷ []) rest h.0 h.1
    (join_tokens (Between Text) (Between Text) (Between Fresh) (or_void (listed parameter_text parameters)) (codes ")\n") rest (void_or (listed_spelling parameter_spelling parameters)) (sign ")" ∷ [])
    (parameters_tokens parameters (codes ")\n" ++ rest) h.2 (refl, refl)) refl)
head_tokens (head.Wrapper m k) rest h =
    ap (λ t. word "static" ∷ word "PyObject" ∷ sign "*" ∷ t)
    (join_tokens (Between Text) (Between Text) (Between Fresh) (numbered (codes "cyc_w_") m k) (fixed_text fixed.WrapperParameters) rest (Word (numbered_name (codes "cyc_w_") m k) ∷ [])
    (c_tokens (codes "(PyObject *self, PyObject *const *args, Py_ssize_t nargs)"))
    (numbers_tokens true (codes "cyc_w_") m k (fixed_text fixed.WrapperParameters ++ rest) h.0 h.1 (refl, refl)) refl)
head_tokens (head.Initializer name) rest h =
    ap (λ t. word "PyMODINIT_FUNC" ∷ t)
    (join_tokens (InWord Text (codes "PyInit_")) (Between Text) (Between Fresh) name (codes "(void)\n") rest (Word (codes "PyInit_" ++ name) ∷ []) (c_tokens (codes "(void)"))
    (word_tokens true (codes "PyInit_") name (codes "(void)\n" ++ rest) (name_words name h) (refl, refl)) refl)

-- ---- items

-- lines after one another
flat_tokens : {A : Type 0} (text : A → List ℕ) (spell : A → List CToken) (IsInForm : A → Type 0)
    → ((x : A) (rest : List ℕ) → IsInForm x → tokens_from (Between Fresh) (text x ++ rest) ≡ spell x ++ tokens_from (Between Fresh) rest)
    → (xs : List A) (rest : List ℕ) → AllByRecursion IsInForm xs
    → tokens_from (Between Fresh) (flat_map text xs ++ rest) ≡ flat_map spell xs ++ tokens_from (Between Fresh) rest
flat_tokens text spell IsInForm reads [] rest h = refl
flat_tokens text spell IsInForm reads (x ∷ xs) rest h =
    join_tokens (Between Fresh) (Between Fresh) (Between Fresh) (text x) (flat_map text xs) rest (spell x) (flat_map spell xs)
    (reads x (flat_map text xs ++ rest) h.0) (flat_tokens text spell IsInForm reads xs rest h.1)

body_tokens : (f : CFunction) (rest : List ℕ) → AllByRecursion IsDeclarationInForm f.declarations → AllByRecursion IsLineInForm f.lines
    → tokens_from (Between Fresh) (body_text f ++ rest) ≡ body_spelling f ++ tokens_from (Between Fresh) rest
unfolding tokens_from
body_tokens f rest h k =
    ap (λ t. sign "{" ∷ t)
    (join_tokens (Between Fresh) (Between Fresh) (Between Fresh) (flat_map declaration_text f.declarations) (flat_map line_text f.lines ++ codes "}\n") rest (flat_map declaration_spelling f.declarations) (flat_map line_spelling f.lines ++ (sign "}" ∷ []))
    (flat_tokens declaration_text declaration_spelling IsDeclarationInForm declaration_tokens f.declarations ((flat_map line_text f.lines ++ codes "}\n") ++ rest) h)
    (join_tokens (Between Fresh) (Between Fresh) (Between Fresh) (flat_map line_text f.lines) (codes "}\n") rest (flat_map line_spelling f.lines) (sign "}" ∷ [])
    (flat_tokens line_text line_spelling IsLineInForm line_tokens f.lines (codes "}\n" ++ rest) k) refl))

method_tokens : (m : MethodRow) (rest : List ℕ) → IsMethodInForm m
    → tokens_from (Between Fresh) (method_text m ++ rest) ≡ method_spelling m ++ tokens_from (Between Fresh) rest
unfolding tokens_from fixed_text c_tokens
method_tokens m rest h =
    let name : List ℕ = numbered (codes "cyc_w_") m.module m.index in
    ap (λ t. sign "{" ∷ t)
    (join_tokens (Between Text) (Between Text) (Between Fresh) (string_text m.name) (fixed_text fixed.MethodCast ++ (name ++ fixed_text fixed.MethodFlags)) rest (string_spelling m.name ∷ [])
    (c_tokens (codes ", (PyCFunction)(void (*)(void))") ++ (Word name ∷ c_tokens (codes ", METH_FASTCALL, NULL},")))
    (string_text_tokens m.name ((fixed_text fixed.MethodCast ++ (name ++ fixed_text fixed.MethodFlags)) ++ rest))
    (join_tokens (Between Text) (Between Text) (Between Fresh) (fixed_text fixed.MethodCast) (name ++ fixed_text fixed.MethodFlags) rest (c_tokens (codes ", (PyCFunction)(void (*)(void))")) (Word name ∷ c_tokens (codes ", METH_FASTCALL, NULL},"))
    refl
    (join_tokens (Between Text) (Between Text) (Between Fresh) name (fixed_text fixed.MethodFlags) rest (Word name ∷ []) (c_tokens (codes ", METH_FASTCALL, NULL},"))
    (numbers_tokens true (codes "cyc_w_") m.module m.index (fixed_text fixed.MethodFlags ++ rest) h.1 h.2 (refl, refl)) refl)))

static_tokens : (kind : CType) (x : Place) (rest : List ℕ) → IsPlaceInForm x
    → tokens_from (Between Fresh) (item_text (item.Static kind x) ++ rest)
    ≡ (word "static" ∷ (type_spelling kind ++ (Word (place_name x) ∷ sign ";" ∷ []))) ++ tokens_from (Between Fresh) rest
unfolding tokens_from
static_tokens kind x rest h =
    ap (λ t. word "static" ∷ t)
    (join_tokens (Between Text) (Between Text) (Between Fresh) (type_before kind) (place_text x ++ codes ";\n") rest (type_spelling kind) (Word (place_name x) ∷ sign ";" ∷ [])
    (type_before_tokens true kind ((place_text x ++ codes ";\n") ++ rest) (place_stops x (codes ";\n") rest))
    (join_tokens (Between Text) (Between Text) (Between Fresh) (place_text x) (codes ";\n") rest (Word (place_name x) ∷ []) (sign ";" ∷ [])
    (place_tokens true x (codes ";\n" ++ rest) h (refl, refl)) refl))

methods_tokens : (rows : List MethodRow) (rest : List ℕ) → AllByRecursion IsMethodInForm rows
    → tokens_from (Between Fresh) (item_text (item.Methods rows) ++ rest) ≡ spelling (item.Methods rows) ++ tokens_from (Between Fresh) rest
unfolding tokens_from fixed_text c_tokens spelling
methods_tokens rows rest h =
    join_tokens (Between Fresh) (Between Fresh) (Between Fresh) (fixed_text fixed.MethodsStart) (flat_map method_text rows ++ fixed_text fixed.MethodsEnd) rest (c_tokens (codes "static PyMethodDef cyc_md[] = {"))
    (flat_map method_spelling rows ++ c_tokens (codes "{NULL, NULL, 0, NULL} };"))
    refl
    (join_tokens (Between Fresh) (Between Fresh) (Between Fresh) (flat_map method_text rows) (fixed_text fixed.MethodsEnd) rest (flat_map method_spelling rows) (c_tokens (codes "{NULL, NULL, 0, NULL} };"))
    (flat_tokens method_text method_spelling IsMethodInForm method_tokens rows (fixed_text fixed.MethodsEnd ++ rest) h) refl)

definition_tokens : (name rest : List ℕ)
    → tokens_from (Between Fresh) (item_text (item.ModuleDefinition name) ++ rest) ≡ spelling (item.ModuleDefinition name) ++ tokens_from (Between Fresh) rest
unfolding tokens_from fixed_text c_tokens spelling
definition_tokens name rest =
    join_tokens (Between Fresh) (Between Text) (Between Fresh) (fixed_text fixed.DefinitionStart) (string_text name ++ fixed_text fixed.DefinitionEnd) rest (c_tokens (codes "static struct PyModuleDef cyc_def = { PyModuleDef_HEAD_INIT,"))
    (string_spelling name ∷ c_tokens (codes ", NULL, -1, cyc_md };"))
    refl
    (join_tokens (Between Text) (Between Text) (Between Fresh) (string_text name) (fixed_text fixed.DefinitionEnd) rest (string_spelling name ∷ []) (c_tokens (codes ", NULL, -1, cyc_md };"))
    (string_text_tokens name (fixed_text fixed.DefinitionEnd ++ rest)) refl)

function_item_tokens : (f : CFunction) (rest : List ℕ) → IsFunctionInForm f
    → tokens_from (Between Fresh) ((head_text f.head ++ body_text f) ++ rest) ≡ (head_spelling f.head ++ body_spelling f) ++ tokens_from (Between Fresh) rest
function_item_tokens f rest h =
    join_tokens (Between Fresh) (Between Fresh) (Between Fresh) (head_text f.head) (body_text f) rest (head_spelling f.head) (body_spelling f)
    (head_tokens f.head (body_text f ++ rest) h.0) (body_tokens f rest h.1 h.2)

-- the function that tests formats, line by line
format_text : (rest : List ℕ) → fixed_text fixed.FormatTest ++ rest
    ≡ codes "static int cyc_fmt(const char *f, const char *set)\n" ++ (codes "{\n    if (f == NULL) f = \"B\";\n"
    ++ (codes "    if (f[0] == '@') f = f + 1;\n" ++ (codes "    return f[0] != 0 && f[1] == 0 && strchr(set, f[0]) != NULL;\n" ++ (codes "}\n" ++ rest))))
unfolding fixed_text
format_text rest = refl

format_head : (rest : List ℕ) → tokens_from (Between Fresh) (codes "static int cyc_fmt(const char *f, const char *set)\n" ++ rest)
    ≡ c_tokens (codes "static int cyc_fmt(const char *f, const char *set)") ++ tokens_from (Between Fresh) rest
unfolding tokens_from c_tokens
format_head rest = refl

format_default : (rest : List ℕ) → tokens_from (Between Fresh) (codes "{\n    if (f == NULL) f = \"B\";\n" ++ rest)
    ≡ c_tokens (codes "{ if (f == NULL) f = \"B\";") ++ tokens_from (Between Fresh) rest
unfolding tokens_from c_tokens
format_default rest = refl

format_at_sign : (rest : List ℕ) → tokens_from (Between Fresh) (codes "    if (f[0] == '@') f = f + 1;\n" ++ rest)
    ≡ c_tokens (codes "if (f[0] == '@') f = f + 1;") ++ tokens_from (Between Fresh) rest
unfolding tokens_from c_tokens
format_at_sign rest = refl

format_letter : (rest : List ℕ) → tokens_from (Between Fresh) (codes "    return f[0] != 0 && f[1] == 0 && strchr(set, f[0]) != NULL;\n" ++ rest)
    ≡ c_tokens (codes "return f[0] != 0 && f[1] == 0 && strchr(set, f[0]) != NULL;") ++ tokens_from (Between Fresh) rest
unfolding tokens_from c_tokens
format_letter rest = refl

format_end : (rest : List ℕ) → tokens_from (Between Fresh) (codes "}\n" ++ rest) ≡ c_tokens (codes "}") ++ tokens_from (Between Fresh) rest
unfolding tokens_from c_tokens
format_end rest = refl

format_tokens : (rest : List ℕ) → tokens_from (Between Fresh) (fixed_text fixed.FormatTest ++ rest)
    ≡ spelling item.FormatTest ++ tokens_from (Between Fresh) rest
unfolding spelling
format_tokens rest =
    let last : List ℕ = codes "}\n" ++ rest in
    let letter : List ℕ = codes "    return f[0] != 0 && f[1] == 0 && strchr(set, f[0]) != NULL;\n" ++ last in
    let at_sign : List ℕ = codes "    if (f[0] == '@') f = f + 1;\n" ++ letter in
    ap (tokens_from (Between Fresh)) (format_text rest)
    ∙ (format_head (codes "{\n    if (f == NULL) f = \"B\";\n" ++ at_sign)
    ∙ (ap (λ t. c_tokens (codes "static int cyc_fmt(const char *f, const char *set)") ++ t)
    (format_default at_sign
    ∙ ap (λ t. c_tokens (codes "{ if (f == NULL) f = \"B\";") ++ t)
    (format_at_sign letter
    ∙ ap (λ t. c_tokens (codes "if (f[0] == '@') f = f + 1;") ++ t)
    (format_letter last
    ∙ ap (λ t. c_tokens (codes "return f[0] != 0 && f[1] == 0 && strchr(set, f[0]) != NULL;") ++ t) (format_end rest))))
    ∙ simp append_assoc))

item_tokens : (tree : CItem) (rest : List ℕ) → IsItemInForm tree
    → tokens_from (Between Fresh) (item_text tree ++ rest) ≡ spelling tree ++ tokens_from (Between Fresh) rest
unfolding tokens_from fixed_text c_tokens spelling IsItemInForm
item_tokens item.DefineClean rest h = refl
item_tokens item.IncludePython rest h = refl
item_tokens item.IncludeSet rest h = refl
item_tokens item.ViewType rest h = refl
item_tokens item.RootStruct rest h = refl
item_tokens item.FormatTest rest h = format_tokens rest
item_tokens (item.Prototype kind m k kinds) rest h = prototype_tokens kind m k kinds rest h.0 h.1
item_tokens (item.Static kind x) rest h = static_tokens kind x rest h
item_tokens (item.Function f) rest h = function_item_tokens f rest h
item_tokens (item.Methods rows) rest h = methods_tokens rows rest h
item_tokens (item.ModuleDefinition name) rest h = definition_tokens name rest

-- the text of trees has the tokens of their spellings
file_tokens : (trees : List CItem) → AllByRecursion IsItemInForm trees → c_tokens (flat_map item_text trees) ≡ flat_map spelling trees
unfolding c_tokens tokens_from
file_tokens trees h =
    ap (tokens_from (Between Fresh)) (sym (append-nil (flat_map item_text trees)))
    ∙ (flat_tokens item_text spelling IsItemInForm item_tokens trees [] h ∙ append-nil (flat_map spelling trees))

-- the text of a file in form reads back as its trees, to its end
pub file_reads : (file : CFile) → IsFileInForm file → c_reading (file_text file) file.items true
unfolding c_reading IsFileInForm
file_reads file h =
    subst (λ items. IsReading items file.items true)
    (sym (ap c_items (file_tokens file.items h) ∙ cut_spellings file.items))
    (read_spellings file.items h)

-- and as no other trees
pub file_reads_alone : (file : CFile) → IsFileInForm file → (trees : List CItem) (whole : Bool)
    → c_reading (file_text file) trees whole → (trees ≡ file.items) × (whole ≡ true)
unfolding c_reading
file_reads_alone file h trees whole reading =
    reading_unique (c_items (c_tokens (file_text file))) trees file.items whole true reading (file_reads file h)
