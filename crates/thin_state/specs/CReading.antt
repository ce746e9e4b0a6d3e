-- The C trees that a text holds: its items, and how a tree is spelled as tokens. The project's own profile of C
-- (ISO/IEC 9899:2011).
use Rattle.std.specs.Prelude.{◌≡◌, ℕ, ◌<◌, ◌≤◌, List, [], ◌∷◌, ◌++◌, Bool, true, false, Option, Some, None, codes, decimal, ⊤}
use Rattle.std.specs.List.{flat_map, AllByRecursion}
use Rattle.c_token.specs.Cutting.{c_items}
use Rattle.c_token.specs.Spelled.{quoted_byte, IsNumberInForm, IsNameInForm}
use Rattle.c_token.specs.CTokens.{CToken, Word, Str, word, sign, c_tokens}
use Rattle.thin_state.specs.declared.space.BinaryOp.TheVariants as op
use Rattle.c_token.specs.declared.exception.Exception.{Exception}
use Rattle.c_token.specs.declared.exception.Exception.TheVariants as exception
use Rattle.thin_state.specs.declared.tree.CType.{CType}
use Rattle.thin_state.specs.declared.tree.CType.TheVariants as type
use Rattle.thin_state.specs.declared.tree.Variable.{Variable}
use Rattle.thin_state.specs.declared.tree.Variable.TheVariants as variable
use Rattle.thin_state.specs.declared.tree.Place.{Place}
use Rattle.thin_state.specs.declared.tree.Place.TheVariants as place
use Rattle.thin_state.specs.declared.tree.FunctionName.{FunctionName}
use Rattle.thin_state.specs.declared.tree.FunctionName.TheVariants as function
use Rattle.thin_state.specs.declared.tree.ApiRow.{ApiRow}
use Rattle.thin_state.specs.declared.tree.ApiRow.TheVariants as row
use Rattle.thin_state.specs.declared.tree.CValue.{CValue}
use Rattle.thin_state.specs.declared.tree.CValue.TheVariants as value
use Rattle.thin_state.specs.declared.tree.Comparison.{Comparison}
use Rattle.thin_state.specs.declared.tree.Comparison.TheVariants as comparison
use Rattle.thin_state.specs.declared.tree.Target.{Target}
use Rattle.thin_state.specs.declared.tree.Target.TheVariants as target
use Rattle.thin_state.specs.declared.tree.CStmt.{CStmt}
use Rattle.thin_state.specs.declared.tree.CStmt.TheVariants as stmt
use Rattle.thin_state.specs.declared.tree.Line.{Line}
use Rattle.thin_state.specs.declared.tree.Line.TheVariants as line
use Rattle.thin_state.specs.declared.tree.InitialValue.{InitialValue}
use Rattle.thin_state.specs.declared.tree.InitialValue.TheVariants as initial
use Rattle.thin_state.specs.declared.tree.Declaration.{Declaration}
use Rattle.thin_state.specs.declared.tree.Parameter.{Parameter}
use Rattle.thin_state.specs.declared.tree.CHead.{CHead}
use Rattle.thin_state.specs.declared.tree.CHead.TheVariants as head
use Rattle.thin_state.specs.declared.tree.CFunction.{CFunction}
use Rattle.thin_state.specs.declared.tree.MethodRow.{MethodRow}
use Rattle.thin_state.specs.declared.tree.CItem.{CItem}
use Rattle.thin_state.specs.declared.tree.CItem.TheVariants as item
use Rattle.thin_state.specs.declared.tree.CFile.{CFile}

-- ---- the spelling of trees

-- the spellings, with a comma between them
abbrev pub listed_spelling : {A : Type 0} → (A → List CToken) → List A → List CToken
listed_spelling spell [] = []
listed_spelling spell (first ∷ more) = spell first ++ flat_map (λ x. sign "," ∷ spell x) more

abbrev pub type_spelling : CType → List CToken
type_spelling type.Int = word "int" ∷ []
type_spelling type.PySsizeT = word "Py_ssize_t" ∷ []
type_spelling type.PyObject = word "PyObject" ∷ sign "*" ∷ []

-- letters and a decimal number
abbrev pub lettered_name : List ℕ → ℕ → List ℕ
lettered_name letters j = letters ++ decimal j

-- letters, the number of a module, `_` and the number of what it is in the module
abbrev pub numbered_name : List ℕ → ℕ → ℕ → List ℕ
numbered_name letters m k = letters ++ (decimal m ++ (codes "_" ++ decimal k))

abbrev pub variable_name : Variable → List ℕ
variable_name (variable.Parameter j) = lettered_name (codes "p") j
variable_name (variable.Local j) = lettered_name (codes "v") j
variable_name (variable.Temporary j) = lettered_name (codes "t") j
variable_name variable.Returned = codes "r"
variable_name variable.SelfObject = codes "self"
variable_name variable.Arguments = codes "args"
variable_name variable.ArgumentCount = codes "nargs"

abbrev pub place_name : Place → List ℕ
place_name place.Module = codes "cyc_m"
place_name place.Dictionary = codes "cyc_d"
place_name place.Builtins = codes "cyc_b"
place_name place.Ready = codes "cyc_r"
place_name (place.Constant j) = lettered_name (codes "cyc_c_") j
place_name (place.Global j) = lettered_name (codes "cyc_g_") j

abbrev pub function_name : FunctionName → List ℕ
function_name (function.Plain m k) = numbered_name (codes "cyc_f_") m k
function_name (function.Wrapper m k) = numbered_name (codes "cyc_w_") m k
function_name (function.Initializer name) = codes "PyInit_" ++ name

abbrev pub row_name : ApiRow → List ℕ
row_name (row.Number op.Add) = codes "PyNumber_Add"
row_name row.ModuleCreate = codes "PyModule_Create"
row_name row.ModuleGetDict = codes "PyModule_GetDict"
row_name row.ImportModule = codes "PyImport_ImportModule"
row_name row.ErrSetString = codes "PyErr_SetString"

abbrev pub exception_name : Exception → List ℕ
exception_name exception.BaseException = codes "PyExc_BaseException"
exception_name exception.TypeError = codes "PyExc_TypeError"
exception_name exception.NotImplementedError = codes "PyExc_NotImplementedError"
exception_name exception.OverflowError = codes "PyExc_OverflowError"
exception_name exception.ZeroDivisionError = codes "PyExc_ZeroDivisionError"
exception_name exception.ValueError = codes "PyExc_ValueError"
exception_name exception.IndexError = codes "PyExc_IndexError"
exception_name exception.AttributeError = codes "PyExc_AttributeError"
exception_name exception.SystemError = codes "PyExc_SystemError"
exception_name exception.NameError = codes "PyExc_NameError"
exception_name exception.UnboundLocalError = codes "PyExc_UnboundLocalError"

abbrev pub string_spelling : List ℕ → CToken
string_spelling bytes = Str (flat_map quoted_byte bytes)

abbrev pub variable_spelling : Variable → CToken
variable_spelling x = Word (variable_name x)

abbrev pub value_spelling : CValue → List CToken
value_spelling (value.Variable x) = variable_spelling x ∷ []
value_spelling (value.Place x) = Word (place_name x) ∷ []
value_spelling (value.Argument j) = word "args" ∷ sign "[" ∷ Word (decimal j) ∷ sign "]" ∷ []
value_spelling (value.Int n) = Word (decimal n) ∷ []
value_spelling (value.Str bytes) = string_spelling bytes ∷ []
value_spelling value.Null = word "NULL" ∷ []
value_spelling (value.ExceptionType e) = Word (exception_name e) ∷ []
value_spelling value.Definition = sign "&" ∷ word "cyc_def" ∷ []

abbrev pub comparison_spelling : Comparison → CToken
comparison_spelling comparison.Equal = sign "=="
comparison_spelling comparison.NotEqual = sign "!="

abbrev pub target_spelling : Target → CToken
target_spelling (target.Variable x) = variable_spelling x
target_spelling (target.Place x) = Word (place_name x)

-- `x =` before a call, or nothing
abbrev pub destination_spelling : Option Variable → List CToken
destination_spelling None = []
destination_spelling (Some x) = variable_spelling x ∷ sign "=" ∷ []

abbrev pub call_spelling : List ℕ → List CValue → List CToken
call_spelling name values =
    Word name ∷ sign "(" ∷ (listed_spelling value_spelling values ++ (sign ")" ∷ sign ";" ∷ []))

abbrev pub label_spelling : ℕ → CToken
label_spelling label = Word (lettered_name (codes "L") label)

abbrev pub goto_spelling : ℕ → List CToken
goto_spelling label = word "goto" ∷ label_spelling label ∷ sign ";" ∷ []

-- a statement
abbrev pub statement_spelling : CStmt → List CToken
statement_spelling (stmt.Assign x v) = target_spelling x ∷ sign "=" ∷ (value_spelling v ++ (sign ";" ∷ []))
statement_spelling (stmt.Api x f values) = destination_spelling x ++ call_spelling (row_name f) values
statement_spelling (stmt.Call x f values) = destination_spelling x ++ call_spelling (function_name f) values
statement_spelling (stmt.Incref v) =
    word "Py_INCREF" ∷ sign "(" ∷ (value_spelling v ++ (sign ")" ∷ sign ";" ∷ []))
statement_spelling (stmt.Decref v) =
    word "Py_DECREF" ∷ sign "(" ∷ (value_spelling v ++ (sign ")" ∷ sign ";" ∷ []))
statement_spelling (stmt.GotoIf a c b label) =
    word "if" ∷ sign "(" ∷ (value_spelling a ++ (comparison_spelling c ∷ (value_spelling b ++ (sign ")" ∷ goto_spelling label))))
statement_spelling (stmt.Goto label) = goto_spelling label
statement_spelling (stmt.Return v) = word "return" ∷ (value_spelling v ++ (sign ";" ∷ []))

abbrev pub line_spelling : Line → List CToken
line_spelling (line.Label label) = label_spelling label ∷ sign ":" ∷ []
line_spelling (line.Statement s) = statement_spelling s

abbrev pub initial_spelling : InitialValue → List CToken
initial_spelling initial.Nothing = sign ";" ∷ []
initial_spelling initial.Null = sign "=" ∷ word "NULL" ∷ sign ";" ∷ []
initial_spelling initial.Zero = sign "=" ∷ word "0" ∷ sign ";" ∷ []

abbrev pub declaration_spelling : Declaration → List CToken
declaration_spelling d = type_spelling d.kind ++ (variable_spelling d.variable ∷ initial_spelling d.initial)

abbrev pub parameter_spelling : Parameter → List CToken
parameter_spelling p = type_spelling p.kind ++ (variable_spelling (variable.Parameter p.number) ∷ [])

-- what stands between the brackets of a head or a prototype: the tokens, or `void` where there are none
abbrev pub void_or : List CToken → List CToken
void_or [] = word "void" ∷ []
void_or (token ∷ more) = token ∷ more

-- a result type, the name of a C function and what stands between its brackets
abbrev pub plain_head_spelling : CType → ℕ → ℕ → List CToken → List CToken
plain_head_spelling kind m k between =
    type_spelling kind ++ (Word (numbered_name (codes "cyc_f_") m k) ∷ sign "(" ∷ (void_or between ++ (sign ")" ∷ [])))

abbrev pub head_spelling : CHead → List CToken
head_spelling (head.Plain m k kind parameters) =
    plain_head_spelling kind m k (listed_spelling parameter_spelling parameters)
head_spelling (head.Wrapper m k) =
    c_tokens (codes "static PyObject *")
    ++ (Word (numbered_name (codes "cyc_w_") m k) ∷ c_tokens (codes "(PyObject *self, PyObject *const *args, Py_ssize_t nargs)"))
head_spelling (head.Initializer name) =
    word "PyMODINIT_FUNC" ∷ Word (codes "PyInit_" ++ name) ∷ c_tokens (codes "(void)")

abbrev pub body_spelling : CFunction → List CToken
body_spelling f =
    sign "{" ∷ (flat_map declaration_spelling f.declarations ++ (flat_map line_spelling f.lines ++ (sign "}" ∷ [])))

-- a row of the method table, with the comma after it
abbrev pub method_spelling : MethodRow → List CToken
method_spelling m =
    sign "{" ∷ string_spelling m.name ∷ (c_tokens (codes ", (PyCFunction)(void (*)(void))")
    ++ (Word (numbered_name (codes "cyc_w_") m.module m.index) ∷ c_tokens (codes ", METH_FASTCALL, NULL},")))

-- the tokens of a tree
unfoldable pub spelling : CItem → List CToken
unfolding c_tokens
spelling item.DefineClean = c_tokens (codes "#define PY_SSIZE_T_CLEAN")
spelling item.IncludePython = c_tokens (codes "#include <Python.h>")
spelling item.IncludeSet = c_tokens (codes "#include \"cyc_set.h\"")
spelling item.ViewType =
    c_tokens (codes "typedef struct { PyObject *mv; char *buf; Py_ssize_t n[3]; Py_ssize_t s[3]; } cyc_view;")
spelling item.RootStruct = c_tokens (codes "struct cyc_root { PyObject_HEAD const void *vt; };")
spelling item.FormatTest =
    c_tokens (codes "static int cyc_fmt(const char *f, const char *set)")
    ++ (c_tokens (codes "{ if (f == NULL) f = \"B\";")
    ++ (c_tokens (codes "if (f[0] == '@') f = f + 1;")
    ++ (c_tokens (codes "return f[0] != 0 && f[1] == 0 && strchr(set, f[0]) != NULL;") ++ c_tokens (codes "}"))))
spelling (item.Prototype kind m k kinds) =
    plain_head_spelling kind m k (listed_spelling type_spelling kinds) ++ (sign ";" ∷ [])
spelling (item.Static kind x) = word "static" ∷ (type_spelling kind ++ (Word (place_name x) ∷ sign ";" ∷ []))
spelling (item.Function f) = head_spelling f.head ++ body_spelling f
spelling (item.Methods rows) =
    c_tokens (codes "static PyMethodDef cyc_md[] = {")
    ++ (flat_map method_spelling rows ++ c_tokens (codes "{NULL, NULL, 0, NULL} };"))
spelling (item.ModuleDefinition name) =
    c_tokens (codes "static struct PyModuleDef cyc_def = { PyModuleDef_HEAD_INIT,")
    ++ (string_spelling name ∷ c_tokens (codes ", NULL, -1, cyc_md };"))

-- ---- trees in form

-- the bytes of a string
abbrev pub IsStringInForm : List ℕ → Type 0
IsStringInForm bytes = AllByRecursion (λ b. b < 256) bytes

abbrev pub IsVariableInForm : Variable → Type 0
IsVariableInForm (variable.Parameter j) = IsNumberInForm j
IsVariableInForm (variable.Local j) = IsNumberInForm j
IsVariableInForm (variable.Temporary j) = IsNumberInForm j
IsVariableInForm variable.Returned = ⊤
IsVariableInForm variable.SelfObject = ⊤
IsVariableInForm variable.Arguments = ⊤
IsVariableInForm variable.ArgumentCount = ⊤

abbrev pub IsPlaceInForm : Place → Type 0
IsPlaceInForm place.Module = ⊤
IsPlaceInForm place.Dictionary = ⊤
IsPlaceInForm place.Builtins = ⊤
IsPlaceInForm place.Ready = ⊤
IsPlaceInForm (place.Constant j) = IsNumberInForm j
IsPlaceInForm (place.Global j) = IsNumberInForm j

abbrev pub IsFunctionNameInForm : FunctionName → Type 0
IsFunctionNameInForm (function.Plain m k) = IsNumberInForm m × IsNumberInForm k
IsFunctionNameInForm (function.Wrapper m k) = IsNumberInForm m × IsNumberInForm k
IsFunctionNameInForm (function.Initializer name) = IsNameInForm name

-- an operand; an integer literal without suffix is an `int` of at most 2147483647 (ISO/IEC 9899:2011 6.4.4.1)
abbrev pub IsValueInForm : CValue → Type 0
IsValueInForm (value.Variable x) = IsVariableInForm x
IsValueInForm (value.Place x) = IsPlaceInForm x
IsValueInForm (value.Argument j) = IsNumberInForm j
IsValueInForm (value.Int n) = n ≤ 2147483647
IsValueInForm (value.Str bytes) = IsStringInForm bytes
IsValueInForm value.Null = ⊤
IsValueInForm (value.ExceptionType e) = ⊤
IsValueInForm value.Definition = ⊤

-- an operand that stands by itself: a string literal stands only among the arguments of a call
abbrev pub IsOperandInForm : CValue → Type 0
IsOperandInForm (value.Str bytes) = ⊥
IsOperandInForm v = IsValueInForm v

abbrev pub IsTargetInForm : Target → Type 0
IsTargetInForm (target.Variable x) = IsVariableInForm x
IsTargetInForm (target.Place x) = IsPlaceInForm x

abbrev pub IsDestinationInForm : Option Variable → Type 0
IsDestinationInForm None = ⊤
IsDestinationInForm (Some x) = IsVariableInForm x

abbrev pub IsStatementInForm : CStmt → Type 0
IsStatementInForm (stmt.Assign x v) = IsTargetInForm x × IsOperandInForm v
IsStatementInForm (stmt.Api x f values) = IsDestinationInForm x × AllByRecursion IsValueInForm values
IsStatementInForm (stmt.Call x f values) =
    IsDestinationInForm x × IsFunctionNameInForm f × AllByRecursion IsValueInForm values
IsStatementInForm (stmt.Incref v) = IsValueInForm v
IsStatementInForm (stmt.Decref v) = IsValueInForm v
IsStatementInForm (stmt.GotoIf a c b label) = IsOperandInForm a × IsOperandInForm b × IsNumberInForm label
IsStatementInForm (stmt.Goto label) = IsNumberInForm label
IsStatementInForm (stmt.Return v) = IsOperandInForm v

abbrev pub IsLineInForm : Line → Type 0
IsLineInForm (line.Label label) = IsNumberInForm label
IsLineInForm (line.Statement s) = IsStatementInForm s

-- each run of labels is followed by a statement (ISO/IEC 9899:2011 6.8.1)
abbrev pub LabelsStand : List Line → Type 0
LabelsStand [] = ⊤
LabelsStand (line.Label label ∷ []) = ⊥
LabelsStand (line.Label label ∷ next ∷ lines) = LabelsStand (next ∷ lines)
LabelsStand (line.Statement s ∷ lines) = LabelsStand lines

abbrev pub IsDeclarationInForm : Declaration → Type 0
IsDeclarationInForm d = IsVariableInForm d.variable

abbrev pub IsParameterInForm : Parameter → Type 0
IsParameterInForm p = IsNumberInForm p.number

abbrev pub IsHeadInForm : CHead → Type 0
IsHeadInForm (head.Plain m k kind parameters) =
    IsNumberInForm m × IsNumberInForm k × AllByRecursion IsParameterInForm parameters
IsHeadInForm (head.Wrapper m k) = IsNumberInForm m × IsNumberInForm k
IsHeadInForm (head.Initializer name) = IsNameInForm name

abbrev pub IsFunctionInForm : CFunction → Type 0
IsFunctionInForm f =
    IsHeadInForm f.head × AllByRecursion IsDeclarationInForm f.declarations × AllByRecursion IsLineInForm f.lines × LabelsStand f.lines

abbrev pub IsMethodInForm : MethodRow → Type 0
IsMethodInForm m = IsStringInForm m.name × IsNumberInForm m.module × IsNumberInForm m.index

-- a tree of the profile
unfoldable pub IsItemInForm : CItem → Type 0
IsItemInForm item.DefineClean = ⊤
IsItemInForm item.IncludePython = ⊤
IsItemInForm item.IncludeSet = ⊤
IsItemInForm item.ViewType = ⊤
IsItemInForm item.RootStruct = ⊤
IsItemInForm item.FormatTest = ⊤
IsItemInForm (item.Prototype kind m k kinds) = IsNumberInForm m × IsNumberInForm k
IsItemInForm (item.Static kind x) = IsPlaceInForm x
IsItemInForm (item.Function f) = IsFunctionInForm f
IsItemInForm (item.Methods rows) = AllByRecursion IsMethodInForm rows
IsItemInForm (item.ModuleDefinition name) = IsStringInForm name

-- a file whose items are trees of the profile
unfoldable pub IsFileInForm : CFile → Type 0
IsFileInForm file = AllByRecursion IsItemInForm file.items

-- ---- the reading

-- The trees that items spell, up to the end or to the first item that no tree spells; the last part says whether it is
-- the end.
unfoldable pub IsReading : List (List CToken) → List CItem → Bool → Type 0
IsReading [] [] whole = whole ≡ true
IsReading [] (tree ∷ trees) whole = ⊥
IsReading (tokens ∷ items) (tree ∷ trees) whole =
    IsItemInForm tree × (spelling tree ≡ tokens) × IsReading items trees whole
IsReading (tokens ∷ items) [] whole =
    (whole ≡ false) × ((tree : CItem) → IsItemInForm tree → spelling tree ≡ tokens → ⊥)

-- the C trees that a text holds, and whether it holds nothing else
unfoldable pub c_reading : List ℕ → List CItem → Bool → Type 0
unfolding c_tokens c_items IsReading
c_reading text trees whole = IsReading (c_items (c_tokens text)) trees whole
