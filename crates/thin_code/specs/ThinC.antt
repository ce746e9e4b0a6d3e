-- The C that is written for a thin file. The project's own; the statements follow the Python/C API manual.
use Rattle.std.specs.Prelude.{ℕ, List, [], ◌∷◌, Option, Some, None, unwrap_or, length, map, replicate, ◌++◌, codes}
use Rattle.std.specs.List.{position, range_with_len}
use Rattle.std.specs.Str.{bytes_eq}
use Rattle.thin_state.specs.declared.BinaryOp.TheVariants as op
use Rattle.c_token.specs.declared.exception.Exception.TheVariants as exception
use Rattle.thin_state.specs.declared.CType.TheVariants as type
use Rattle.thin_state.specs.declared.Variable.{Variable}
use Rattle.thin_state.specs.declared.Variable.TheVariants as variable
use Rattle.thin_state.specs.declared.Place.{Place}
use Rattle.thin_state.specs.declared.Place.TheVariants as place
use Rattle.thin_state.specs.declared.FunctionName.TheVariants as function
use Rattle.thin_state.specs.declared.ApiRow.{ApiRow}
use Rattle.thin_state.specs.declared.ApiRow.TheVariants as row
use Rattle.thin_state.specs.declared.CValue.{CValue}
use Rattle.thin_state.specs.declared.CValue.TheVariants as value
use Rattle.thin_state.specs.declared.Comparison.TheVariants as comparison
use Rattle.thin_state.specs.declared.Target.TheVariants as target
use Rattle.thin_state.specs.declared.CStmt.TheVariants as stmt
use Rattle.thin_state.specs.declared.Line.{Line}
use Rattle.thin_state.specs.declared.Line.TheVariants as line
use Rattle.thin_state.specs.declared.InitialValue.TheVariants as initial
use Rattle.thin_state.specs.declared.Declaration.{Declaration}
use Rattle.thin_state.specs.declared.Parameter.{Parameter}
use Rattle.thin_state.specs.declared.CHead.TheVariants as head
use Rattle.thin_state.specs.declared.CFunction.{CFunction}
use Rattle.thin_state.specs.declared.CItem.{CItem}
use Rattle.thin_state.specs.declared.CItem.TheVariants as item
use Rattle.thin_state.specs.declared.CFile.{CFile}
use Rattle.cy_mean.specs.declared.ThinFunction.{ThinFunction}
use Rattle.cy_mean.specs.Texts.{arity_text}

-- 0, 1, .. : the numbers below a count
abbrev pub numbers_below : ℕ → List ℕ
numbers_below count = range_with_len 0 count

abbrev pub object_parameter : ℕ → Parameter
object_parameter j = record { kind = type.PyObject; number = j }

-- `PyObject *x = NULL;`
abbrev pub null_object : Variable → Declaration
null_object x = record { kind = type.PyObject; variable = x; initial = initial.Null }

-- `if (tJ == NULL) goto L0;`
abbrev pub leave_if_null : ℕ → Line
leave_if_null j = line.Statement (stmt.GotoIf (value.Variable (variable.Temporary j)) comparison.Equal value.Null 0)

-- the function: the sum of two parameters, by their numbers
abbrev pub sum_lines : ℕ → ℕ → List Line
sum_lines left right =
    line.Statement (stmt.Api (Some (variable.Temporary 0)) (row.Number op.Add) (value.Variable (variable.Parameter left) ∷ value.Variable (variable.Parameter right) ∷ []))
    ∷ leave_if_null 0
    ∷ line.Statement (stmt.Assign (target.Variable variable.Returned) (value.Variable (variable.Temporary 0)))
    ∷ line.Label 0
    ∷ line.Statement (stmt.Return (value.Variable variable.Returned))
    ∷ []

abbrev pub sum_function : ℕ → ℕ → ℕ → CFunction
sum_function count left right = record {
  head = head.Plain 0 0 type.PyObject (map object_parameter (numbers_below count));
  declarations = null_object variable.Returned ∷ null_object (variable.Temporary 0) ∷ [];
  lines = sum_lines left right;
}

-- the error of a wrong number of arguments
abbrev pub wrong_count : List ℕ → ℕ → Line
wrong_count name count =
    line.Statement (stmt.Api None row.ErrSetString (value.ExceptionType exception.TypeError ∷ value.Str (arity_text name count) ∷ []))

-- the wrapper: the test of the number of arguments, and the call
abbrev pub wrapper_lines : List ℕ → ℕ → List Line
wrapper_lines name count =
    line.Statement (stmt.GotoIf (value.Variable variable.ArgumentCount) comparison.NotEqual (value.Int count) 0)
    ∷ line.Statement (stmt.Call (Some variable.Returned) (function.Plain 0 0) (map value.Argument (numbers_below count)))
    ∷ line.Statement (stmt.Return (value.Variable variable.Returned))
    ∷ line.Label 0
    ∷ wrong_count name count
    ∷ line.Statement (stmt.Return (value.Variable variable.Returned))
    ∷ []

abbrev pub wrapper_function : List ℕ → ℕ → CFunction
wrapper_function name count = record {
  head = head.Wrapper 0 0;
  declarations = null_object variable.Returned ∷ [];
  lines = wrapper_lines name count;
}

-- a call of an API function, whose result goes into a temporary
abbrev pub ask : ℕ → ApiRow → CValue → Line
ask j f argument = line.Statement (stmt.Api (Some (variable.Temporary j)) f (argument ∷ []))

abbrev pub temporary : ℕ → CValue
temporary j = value.Variable (variable.Temporary j)

-- a temporary's reference goes to a place of the file
abbrev pub keep : Place → ℕ → Line
keep x j = line.Statement (stmt.Assign (target.Place x) (temporary j))

-- the initialisation, in three parts: the module and its dictionary, the builtins, and the result
abbrev pub module_lines : List Line
module_lines =
    ask 0 row.ModuleCreate value.Definition
    ∷ leave_if_null 0
    ∷ keep place.Module 0
    ∷ ask 0 row.ModuleGetDict (value.Place place.Module)
    ∷ line.Statement (stmt.Incref (temporary 0))
    ∷ keep place.Dictionary 0
    ∷ []

abbrev pub builtins_lines : List Line
builtins_lines =
    ask 0 row.ImportModule (value.Str (codes "builtins"))
    ∷ leave_if_null 0
    ∷ ask 1 row.ModuleGetDict (temporary 0)
    ∷ line.Statement (stmt.Incref (temporary 1))
    ∷ keep place.Builtins 1
    ∷ line.Statement (stmt.Decref (temporary 0))
    ∷ []

abbrev pub ready_lines : List Line
ready_lines =
    line.Statement (stmt.Assign (target.Place place.Ready) (value.Int 1))
    ∷ line.Statement (stmt.Incref (value.Place place.Module))
    ∷ line.Statement (stmt.Assign (target.Variable variable.Returned) (value.Place place.Module))
    ∷ line.Label 0
    ∷ line.Statement (stmt.Return (value.Variable variable.Returned))
    ∷ []

abbrev pub initialiser_lines : List Line
initialiser_lines = (module_lines ++ builtins_lines) ++ ready_lines

abbrev pub initialiser_function : List ℕ → CFunction
initialiser_function name = record {
  head = head.Initializer name;
  declarations = null_object variable.Returned ∷ null_object (variable.Temporary 0) ∷ null_object (variable.Temporary 1) ∷ [];
  lines = initialiser_lines;
}

abbrev pub header_items : ℕ → List CItem
header_items count =
    item.DefineClean
    ∷ item.IncludePython
    ∷ item.ViewType
    ∷ item.RootStruct
    ∷ item.FormatTest
    ∷ item.Prototype type.PyObject 0 0 (replicate count type.PyObject)
    ∷ []

-- the place of a name among the parameters
abbrev pub position_of : List ℕ → List (List ℕ) → Option ℕ
position_of name parameters = position (λ p. bytes_eq p name) parameters

-- the number of a parameter
abbrev pub number_of : List ℕ → List (List ℕ) → ℕ
number_of name parameters = unwrap_or (position_of name parameters) 0

abbrev pub place_items : List CItem
place_items =
    item.IncludeSet
    ∷ item.Static type.PyObject place.Module
    ∷ item.Static type.PyObject place.Dictionary
    ∷ item.Static type.PyObject place.Builtins
    ∷ item.Static type.Int place.Ready
    ∷ []

-- the method table of one function
abbrev pub methods_item : List ℕ → CItem
methods_item name = item.Methods (record { name = name; «module» = 0; index = 0 } ∷ [])

abbrev pub module_items : List ℕ → ThinFunction → List CItem
module_items name thin =
    let count = length thin.parameters in
    place_items
    ++ item.Function (sum_function count (number_of thin.left thin.parameters) (number_of thin.right thin.parameters))
    ∷ item.Function (wrapper_function thin.name count)
    ∷ methods_item thin.name
    ∷ item.ModuleDefinition name
    ∷ item.Function (initialiser_function name)
    ∷ []

-- the header and the file of the module
abbrev pub thin_files : List ℕ → ThinFunction → List CFile
thin_files name thin =
    record { items = header_items (length thin.parameters) } ∷ record { items = module_items name thin } ∷ []
