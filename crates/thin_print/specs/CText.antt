-- The layout of the written C: the text of each tree. The project's own layout of C (ISO/IEC 9899:2011).
use Rattle.std.specs.Prelude.{ℕ, ◌+◌, ◌/◌, ◌%◌, ◌||◌, List, [], ◌∷◌, ◌++◌, Option, Some, None, nat_lt, nat_eq, if◌then◌else◌, codes, decimal}
use Rattle.std.specs.List.{flat_map}
use Rattle.thin_state.specs.declared.BinaryOp.TheVariants as op
use Rattle.c_token.specs.declared.exception.Exception.{Exception}
use Rattle.c_token.specs.declared.exception.Exception.TheVariants as exception
use Rattle.thin_state.specs.declared.CType.{CType}
use Rattle.thin_state.specs.declared.CType.TheVariants as type
use Rattle.thin_state.specs.declared.Variable.{Variable}
use Rattle.thin_state.specs.declared.Variable.TheVariants as variable
use Rattle.thin_state.specs.declared.Place.{Place}
use Rattle.thin_state.specs.declared.Place.TheVariants as place
use Rattle.thin_state.specs.declared.FunctionName.{FunctionName}
use Rattle.thin_state.specs.declared.FunctionName.TheVariants as function
use Rattle.thin_state.specs.declared.ApiRow.{ApiRow}
use Rattle.thin_state.specs.declared.ApiRow.TheVariants as row
use Rattle.thin_state.specs.declared.CValue.{CValue}
use Rattle.thin_state.specs.declared.CValue.TheVariants as value
use Rattle.thin_state.specs.declared.Comparison.{Comparison}
use Rattle.thin_state.specs.declared.Comparison.TheVariants as comparison
use Rattle.thin_state.specs.declared.Target.{Target}
use Rattle.thin_state.specs.declared.Target.TheVariants as target
use Rattle.thin_state.specs.declared.CStmt.{CStmt}
use Rattle.thin_state.specs.declared.CStmt.TheVariants as stmt
use Rattle.thin_state.specs.declared.Line.{Line}
use Rattle.thin_state.specs.declared.Line.TheVariants as line
use Rattle.thin_state.specs.declared.InitialValue.{InitialValue}
use Rattle.thin_state.specs.declared.InitialValue.TheVariants as initial
use Rattle.thin_state.specs.declared.Declaration.{Declaration}
use Rattle.thin_state.specs.declared.Parameter.{Parameter}
use Rattle.thin_state.specs.declared.CHead.{CHead}
use Rattle.thin_state.specs.declared.CHead.TheVariants as head
use Rattle.thin_state.specs.declared.CFunction.{CFunction}
use Rattle.thin_state.specs.declared.MethodRow.{MethodRow}
use Rattle.thin_state.specs.declared.CItem.{CItem}
use Rattle.thin_state.specs.declared.CItem.TheVariants as item
use Rattle.thin_state.specs.declared.CFile.{CFile}
use Rattle.thin_print.specs.declared.Fixed.{Fixed}
use Rattle.thin_print.specs.declared.Fixed.TheVariants as fixed

-- the texts that are the same in every file
unfoldable pub fixed_text : Fixed → List ℕ
fixed_text fixed.ViewType =
    codes "typedef struct { PyObject *mv; char *buf; Py_ssize_t n[3]; Py_ssize_t s[3]; } cyc_view;\n"
fixed_text fixed.RootStruct = codes "struct cyc_root { PyObject_HEAD const void *vt; };\n"
fixed_text fixed.FormatTest =
    codes "static int cyc_fmt(const char *f, const char *set)\n{\n    if (f == NULL) f = \"B\";\n    if (f[0] == '@') f = f + 1;\n    return f[0] != 0 && f[1] == 0 && strchr(set, f[0]) != NULL;\n}\n"
fixed_text fixed.WrapperStart = codes "static PyObject *"
fixed_text fixed.WrapperParameters = codes "(PyObject *self, PyObject *const *args, Py_ssize_t nargs)\n"
fixed_text fixed.InitializerStart = codes "PyMODINIT_FUNC PyInit_"
fixed_text fixed.MethodsStart = codes "static PyMethodDef cyc_md[] = {\n"
fixed_text fixed.MethodsEnd = codes "    {NULL, NULL, 0, NULL}\n};\n"
fixed_text fixed.MethodCast = codes ", (PyCFunction)(void (*)(void))"
fixed_text fixed.MethodFlags = codes ", METH_FASTCALL, NULL},\n"
fixed_text fixed.DefinitionStart = codes "static struct PyModuleDef cyc_def = { PyModuleDef_HEAD_INIT, "
fixed_text fixed.DefinitionEnd = codes ", NULL, -1, cyc_md };\n"

-- the texts, with a comma and a space between them
abbrev pub listed : {A : Type 0} → (A → List ℕ) → List A → List ℕ
listed text [] = []
listed text (first ∷ more) = text first ++ flat_map (λ x. codes ", " ++ text x) more

-- a type by itself
abbrev pub type_text : CType → List ℕ
type_text type.Int = codes "int"
type_text type.PySsizeT = codes "Py_ssize_t"
type_text type.PyObject = codes "PyObject *"

-- a type before a name
abbrev pub type_before : CType → List ℕ
type_before type.Int = codes "int "
type_before type.PySsizeT = codes "Py_ssize_t "
type_before type.PyObject = codes "PyObject *"

abbrev pub variable_text : Variable → List ℕ
variable_text (variable.Parameter j) = codes "p" ++ decimal j
variable_text (variable.Local j) = codes "v" ++ decimal j
variable_text (variable.Temporary j) = codes "t" ++ decimal j
variable_text variable.Returned = codes "r"
variable_text variable.SelfObject = codes "self"
variable_text variable.Arguments = codes "args"
variable_text variable.ArgumentCount = codes "nargs"

abbrev pub place_text : Place → List ℕ
place_text place.Module = codes "cyc_m"
place_text place.Dictionary = codes "cyc_d"
place_text place.Builtins = codes "cyc_b"
place_text place.Ready = codes "cyc_r"
place_text (place.Constant j) = codes "cyc_c_" ++ decimal j
place_text (place.Global j) = codes "cyc_g_" ++ decimal j

-- a name with the numbers of its module and of itself
abbrev pub numbered : List ℕ → ℕ → ℕ → List ℕ
numbered letters m k = letters ++ (decimal m ++ (codes "_" ++ decimal k))

abbrev pub function_text : FunctionName → List ℕ
function_text (function.Plain m k) = numbered (codes "cyc_f_") m k
function_text (function.Wrapper m k) = numbered (codes "cyc_w_") m k
function_text (function.Initializer name) = codes "PyInit_" ++ name

abbrev pub row_text : ApiRow → List ℕ
row_text (row.Number op.Add) = codes "PyNumber_Add"
row_text row.ModuleCreate = codes "PyModule_Create"
row_text row.ModuleGetDict = codes "PyModule_GetDict"
row_text row.ImportModule = codes "PyImport_ImportModule"
row_text row.ErrSetString = codes "PyErr_SetString"

abbrev pub exception_text : Exception → List ℕ
exception_text exception.BaseException = codes "BaseException"
exception_text exception.TypeError = codes "TypeError"
exception_text exception.NotImplementedError = codes "NotImplementedError"
exception_text exception.OverflowError = codes "OverflowError"
exception_text exception.ZeroDivisionError = codes "ZeroDivisionError"
exception_text exception.ValueError = codes "ValueError"
exception_text exception.IndexError = codes "IndexError"
exception_text exception.AttributeError = codes "AttributeError"
exception_text exception.SystemError = codes "SystemError"
exception_text exception.NameError = codes "NameError"
exception_text exception.UnboundLocalError = codes "UnboundLocalError"

-- a byte of a string: a printable one, or a backslash and three octal digits (ISO/IEC 9899:2011 6.4.4.4)
abbrev pub byte_text : ℕ → List ℕ
byte_text b =
    if (nat_lt b 32 || nat_lt 126 b) || (nat_eq b 34 || nat_eq b 92)
    then 92 ∷ (48 + b / 64) ∷ (48 + b / 8 % 8) ∷ (48 + b % 8) ∷ []
    else b ∷ []

-- a string literal
abbrev pub string_text : List ℕ → List ℕ
string_text bytes = codes "\"" ++ (flat_map byte_text bytes ++ codes "\"")

abbrev pub value_text : CValue → List ℕ
value_text (value.Variable x) = variable_text x
value_text (value.Place x) = place_text x
value_text (value.Argument j) = codes "args[" ++ (decimal j ++ codes "]")
value_text (value.Int n) = decimal n
value_text (value.Str bytes) = string_text bytes
value_text value.Null = codes "NULL"
value_text (value.ExceptionType e) = codes "PyExc_" ++ exception_text e
value_text value.Definition = codes "&cyc_def"

abbrev pub comparison_text : Comparison → List ℕ
comparison_text comparison.Equal = codes " == "
comparison_text comparison.NotEqual = codes " != "

abbrev pub target_text : Target → List ℕ
target_text (target.Variable x) = variable_text x
target_text (target.Place x) = place_text x

-- `x = ` before a call, or nothing
abbrev pub destination_text : Option Variable → List ℕ
destination_text None = []
destination_text (Some x) = variable_text x ++ codes " = "

abbrev pub arguments_text : List CValue → List ℕ
arguments_text values = codes "(" ++ (listed value_text values ++ codes ");\n")

abbrev pub goto_text : ℕ → List ℕ
goto_text label = codes "goto L" ++ (decimal label ++ codes ";\n")

abbrev pub statement_text : CStmt → List ℕ
statement_text (stmt.Assign x v) = target_text x ++ (codes " = " ++ (value_text v ++ codes ";\n"))
statement_text (stmt.Api x f values) = destination_text x ++ (row_text f ++ arguments_text values)
statement_text (stmt.Call x f values) = destination_text x ++ (function_text f ++ arguments_text values)
statement_text (stmt.Incref v) = codes "Py_INCREF(" ++ (value_text v ++ codes ");\n")
statement_text (stmt.Decref v) = codes "Py_DECREF(" ++ (value_text v ++ codes ");\n")
statement_text (stmt.GotoIf a c b label) =
    codes "if (" ++ (value_text a ++ (comparison_text c ++ (value_text b ++ (codes ") " ++ goto_text label))))
statement_text (stmt.Goto label) = goto_text label
statement_text (stmt.Return v) = codes "return " ++ (value_text v ++ codes ";\n")

abbrev pub line_text : Line → List ℕ
line_text (line.Label label) = codes "L" ++ (decimal label ++ codes ":\n")
line_text (line.Statement s) = codes "    " ++ statement_text s

abbrev pub initial_text : InitialValue → List ℕ
initial_text initial.Nothing = codes ";\n"
initial_text initial.Null = codes " = NULL;\n"
initial_text initial.Zero = codes " = 0;\n"

abbrev pub declaration_text : Declaration → List ℕ
declaration_text d = codes "    " ++ (type_before d.kind ++ (variable_text d.variable ++ initial_text d.initial))

abbrev pub parameter_text : Parameter → List ℕ
parameter_text p = type_before p.kind ++ (codes "p" ++ decimal p.number)

-- what stands between the brackets of a head or a prototype
abbrev pub or_void : List ℕ → List ℕ
or_void [] = codes "void"
or_void (c ∷ cs) = c ∷ cs

abbrev pub head_text : CHead → List ℕ
head_text (head.Plain m k kind parameters) =
    type_before kind ++ (numbered (codes "cyc_f_") m k ++ (codes "(" ++ (or_void (listed parameter_text parameters) ++ codes ")\n")))
head_text (head.Wrapper m k) =
    fixed_text fixed.WrapperStart ++ (numbered (codes "cyc_w_") m k ++ fixed_text fixed.WrapperParameters)
head_text (head.Initializer name) = fixed_text fixed.InitializerStart ++ (name ++ codes "(void)\n")

abbrev pub body_text : CFunction → List ℕ
body_text f = codes "{\n" ++ (flat_map declaration_text f.declarations ++ (flat_map line_text f.lines ++ codes "}\n"))

abbrev pub method_text : MethodRow → List ℕ
method_text m =
    codes "    {" ++ (string_text m.name ++ (fixed_text fixed.MethodCast ++ (numbered (codes "cyc_w_") m.module m.index ++ fixed_text fixed.MethodFlags)))

abbrev pub item_text : CItem → List ℕ
item_text item.DefineClean = codes "#define PY_SSIZE_T_CLEAN\n"
item_text item.IncludePython = codes "#include <Python.h>\n"
item_text item.IncludeSet = codes "#include \"cyc_set.h\"\n"
item_text item.ViewType = fixed_text fixed.ViewType
item_text item.RootStruct = fixed_text fixed.RootStruct
item_text item.FormatTest = fixed_text fixed.FormatTest
item_text (item.Prototype kind m k kinds) =
    type_before kind ++ (numbered (codes "cyc_f_") m k ++ (codes "(" ++ (or_void (listed type_text kinds) ++ codes ");\n")))
item_text (item.Static kind x) = codes "static " ++ (type_before kind ++ (place_text x ++ codes ";\n"))
item_text (item.Function f) = head_text f.head ++ body_text f
item_text (item.Methods rows) =
    fixed_text fixed.MethodsStart ++ (flat_map method_text rows ++ fixed_text fixed.MethodsEnd)
item_text (item.ModuleDefinition name) =
    fixed_text fixed.DefinitionStart ++ (string_text name ++ fixed_text fixed.DefinitionEnd)

-- the text of a file
abbrev pub file_text : CFile → List ℕ
file_text file = flat_map item_text file.items
