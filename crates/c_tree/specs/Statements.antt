-- How statements are spelled. The project's own profile of C (ISO/IEC 9899:2011; Python/C API manual).
use Rattle.std.specs.Prelude.{ℕ, List, [], ◌∷◌, ◌++◌, Option, Some, None, decimal}
use Rattle.c_token.specs.CTokens.{CToken, Word, word, sign}
use Rattle.c_tree.specs.declared.name.Numbered.{Numbered}
use Rattle.c_tree.specs.declared.name.Variable.{Variable}
use Rattle.c_tree.specs.declared.statement.Argument.{Argument}
use Rattle.c_tree.specs.declared.statement.Argument.TheVariants as argument
use Rattle.c_tree.specs.declared.statement.BinaryOp.{BinaryOp}
use Rattle.c_tree.specs.declared.statement.BinaryOp.TheVariants as op
use Rattle.c_tree.specs.declared.statement.CStmt.{CStmt}
use Rattle.c_tree.specs.declared.statement.CStmt.TheVariants as stmt
use Rattle.c_tree.specs.declared.statement.CTest.{CTest}
use Rattle.c_tree.specs.declared.statement.CTest.TheVariants as test
use Rattle.c_tree.specs.declared.statement.Callee.{Callee}
use Rattle.c_tree.specs.declared.statement.Callee.TheVariants as callee
use Rattle.c_tree.specs.declared.statement.Extent.{Extent}
use Rattle.c_tree.specs.declared.statement.Extent.TheVariants as extent
use Rattle.c_tree.specs.declared.statement.FieldPlace.{FieldPlace}
use Rattle.c_tree.specs.declared.statement.ViewNumber.{ViewNumber}
use Rattle.c_tree.specs.declared.statement.ViewNumber.TheVariants as number
use Rattle.c_tree.specs.declared.statement.ViewPlace.{ViewPlace}
use Rattle.c_tree.specs.declared.statement.ViewPlace.TheVariants as place
use Rattle.c_tree.specs.declared.value.CType.{CType}
use Rattle.c_tree.specs.Names.{text, function_name, name_token, variable_token, letter_token, listed}
use Rattle.c_tree.specs.Values.{type_spelling, string, value_spelling}

abbrev pub op_spelling : BinaryOp → CToken
op_spelling op.Add = sign "+"
op_spelling op.Subtract = sign "-"
op_spelling op.Multiply = sign "*"
op_spelling op.Divide = sign "/"
op_spelling op.Remainder = sign "%"
op_spelling op.BitAnd = sign "&"
op_spelling op.BitOr = sign "|"
op_spelling op.BitXor = sign "^"
op_spelling op.ShiftLeft = sign "<<"
op_spelling op.ShiftRight = sign ">>"
op_spelling op.Less = sign "<"
op_spelling op.LessEqual = sign "<="
op_spelling op.Equal = sign "=="
op_spelling op.NotEqual = sign "!="
op_spelling op.Greater = sign ">"
op_spelling op.GreaterEqual = sign ">="

-- two operands with an operator between them
abbrev pub between : BinaryOp → List CToken → List CToken → List CToken
between o a b = a ++ (op_spelling o ∷ b)

abbrev pub callee_name : Callee → List ℕ
callee_name (callee.Function f) = function_name f
callee_name (callee.Named name) = name

abbrev pub argument_spelling : Argument → List CToken
argument_spelling (argument.Value k) = value_spelling k
argument_spelling (argument.Str bytes) = string bytes ∷ []

abbrev pub arguments : List Argument → List CToken
arguments all = sign "(" ∷ (listed argument_spelling all ++ (sign ")" ∷ []))

-- `((struct cyc_o_0_1 *)y)->f2`
abbrev pub field : FieldPlace → List CToken
field p = text "((struct " ++ (name_token "cyc_o_" p.class ∷ (text " *)" ++ (variable_token p.object ∷ (text ")->" ++ (letter_token "f" p.field ∷ [])))))

-- `((struct cyc_root *)y)->vt`
abbrev pub table_of : Variable → List CToken
table_of y = text "((struct cyc_root *)" ++ (variable_token y ∷ text ")->vt")

-- `((const struct cyc_vt_0_1 *)((struct cyc_root *)y)->vt)->m2`
abbrev pub method_of : Numbered → Variable → ℕ → List CToken
method_of n y j = text "((const struct " ++ (name_token "cyc_vt_" n ∷ (text " *)" ++ (table_of y ++ (text ")->" ++ (letter_token "m" j ∷ [])))))

abbrev pub view : ViewPlace → List CToken
view (place.Variable x) = variable_token x ∷ []
view (place.Field p) = field p

abbrev pub extent_name : Extent → CToken
extent_name extent.Length = word "n"
extent_name extent.Stride = word "s"

abbrev pub index : ℕ → List CToken
index j = sign "[" ∷ Word (decimal j) ∷ sign "]" ∷ []

-- `v.n[0]`, `v.s[0]`
abbrev pub extent_of : ViewPlace → Extent → ℕ → List CToken
extent_of v e j = view v ++ (sign "." ∷ extent_name e ∷ index j)

-- `PyMemoryView_GET_BUFFER(y)->`
abbrev pub buffer_of : Variable → List CToken
buffer_of y = text "PyMemoryView_GET_BUFFER(" ++ (variable_token y ∷ text ")->")

abbrev pub number_spelling : ViewNumber → List CToken
number_spelling number.Dimensions = text "ndim"
number_spelling number.ItemSize = text "itemsize"
number_spelling number.Readonly = text "readonly"
number_spelling (number.Shape j) = word "shape" ∷ index j
number_spelling (number.Stride j) = word "strides" ∷ index j

-- `*(T *)(v.buf + y)`
abbrev pub element : CType → Variable → Variable → List CToken
element kind v y = text "*(" ++ (type_spelling kind ++ (text " *)(" ++ (variable_token v ∷ (text ".buf + " ++ (variable_token y ∷ text ")")))))

-- `x = ..;`
abbrev pub assigned : Variable → List CToken → List CToken
assigned x k = variable_token x ∷ sign "=" ∷ (k ++ (sign ";" ∷ []))

-- `.. = ..;`
abbrev pub stored : List CToken → List CToken → List CToken
stored to k = to ++ (sign "=" ∷ (k ++ (sign ";" ∷ [])))

-- `x = ..;`, or without `x =`
abbrev pub given : Option Variable → List CToken → List CToken
given (Some x) k = assigned x k
given None k = k ++ (sign ";" ∷ [])

abbrev pub test_spelling : CTest → List CToken
test_spelling (test.Compare a o b) = text "if (" ++ (between o (value_spelling a) (value_spelling b) ++ text ")")
test_spelling test.ErrorSet = text "if (PyErr_Occurred())"
test_spelling test.Always = []

-- a statement
unfoldable pub statement_spelling : CStmt → List CToken
statement_spelling (stmt.Assign x k) = assigned x (value_spelling k)
statement_spelling (stmt.Binary x a o b) = assigned x (between o (value_spelling a) (value_spelling b))
statement_spelling (stmt.Invert x k) = assigned x (sign "~" ∷ value_spelling k)
statement_spelling (stmt.Cast x kind k) = assigned x (sign "(" ∷ (type_spelling kind ++ (sign ")" ∷ value_spelling k)))
statement_spelling (stmt.Call x f all) = given x (Word (callee_name f) ∷ arguments all)
statement_spelling (stmt.LoadField x p) = assigned x (field p)
statement_spelling (stmt.StoreField p k) = stored (field p) (value_spelling k)
statement_spelling (stmt.StoreTable y n) = stored (table_of y) (sign "&" ∷ name_token "cyc_t_" n ∷ [])
statement_spelling (stmt.CallMethod x n y j all) = given x (method_of n y j ++ arguments all)
statement_spelling (stmt.IsNative x y n) =
    assigned x (text "PyCFunction_Check(" ++ (variable_token y ∷ (text ") && PyCFunction_GetFunction(" ++ (variable_token y ∷ (text ") == (PyCFunction)(void (*)(void))" ++ (name_token "cyc_w_" n ∷ []))))))
statement_spelling (stmt.HasHeapType x y) = assigned x (text "PyType_HasFeature(Py_TYPE(" ++ (variable_token y ∷ text "), Py_TPFLAGS_HEAPTYPE)"))
statement_spelling (stmt.Goto t j) = test_spelling t ++ (word "goto" ∷ letter_token "L" j ∷ sign ";" ∷ [])
statement_spelling (stmt.Return None) = text "return;"
statement_spelling (stmt.Return (Some k)) = word "return" ∷ (value_spelling k ++ (sign ";" ∷ []))
statement_spelling (stmt.Free x) = text "Py_TYPE(" ++ (variable_token x ∷ (text ")->tp_free(" ++ (variable_token x ∷ text ");")))
statement_spelling (stmt.ViewNumber x y n) = assigned x (buffer_of y ++ number_spelling n)
statement_spelling (stmt.IsIndirect x y) = assigned x (buffer_of y ++ text "suboffsets != NULL")
statement_spelling (stmt.HasFormat x y letters) = assigned x (text "cyc_fmt(" ++ (buffer_of y ++ (text "format, " ++ (string letters ∷ text ")"))))
statement_spelling (stmt.TakeBuffer v y) = stored (view v ++ text ".buf") (text "(char *)" ++ (buffer_of y ++ text "buf"))
statement_spelling (stmt.CopyBuffer v w) = stored (view v ++ text ".buf") (view w ++ text ".buf")
statement_spelling (stmt.MoveBuffer v k) = stored (view v ++ text ".buf") (view v ++ (text ".buf + " ++ value_spelling k))
statement_spelling (stmt.StoreMemory v k) = stored (view v ++ text ".mv") (value_spelling k)
statement_spelling (stmt.LoadMemory x v) = assigned x (view v ++ text ".mv")
statement_spelling (stmt.StoreExtent v e j k) = stored (extent_of v e j) (value_spelling k)
statement_spelling (stmt.LoadExtent x v e j) = assigned x (extent_of v e j)
statement_spelling (stmt.LoadElement x kind v y) = assigned x (element kind v y)
statement_spelling (stmt.StoreElement kind v y k) = stored (element kind v y) (value_spelling k)
