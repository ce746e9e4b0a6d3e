-- What operands read, and the functions and tables that the linked files give.
use Rattle.std.specs.Prelude.{ℕ, zero, suc, Bool, true, false, ◌&&◌, ◌||◌, List, [], ◌∷◌, ◌++◌, Option, Some, None, ℤ, pos, map, if◌then◌else◌, nat_eq, drop, slice_get, slice_index_or}
use Rattle.std.specs.Str.{bytes_eq}
use Rattle.thin_state.specs.declared.space.Obj.{Obj}
use Rattle.thin_state.specs.declared.space.Obj.TheVariants as obj
use Rattle.thin_state.specs.declared.space.Callee.{Callee}
use Rattle.thin_state.specs.declared.space.Callee.TheVariants as callee
use Rattle.thin_state.specs.declared.tree.Variable.{Variable}
use Rattle.thin_state.specs.declared.tree.Variable.TheVariants as variable
use Rattle.thin_state.specs.declared.tree.Place.TheVariants as place
use Rattle.thin_state.specs.declared.tree.FunctionName.{FunctionName}
use Rattle.thin_state.specs.declared.tree.FunctionName.TheVariants as function
use Rattle.thin_state.specs.declared.tree.CValue.{CValue}
use Rattle.thin_state.specs.declared.tree.CValue.TheVariants as operand
use Rattle.thin_state.specs.declared.tree.Line.{Line}
use Rattle.thin_state.specs.declared.tree.Line.TheVariants as line
use Rattle.thin_state.specs.declared.tree.InitialValue.{InitialValue}
use Rattle.thin_state.specs.declared.tree.InitialValue.TheVariants as initial
use Rattle.thin_state.specs.declared.tree.Declaration.{Declaration}
use Rattle.thin_state.specs.declared.tree.Parameter.{Parameter}
use Rattle.thin_state.specs.declared.tree.CHead.{CHead}
use Rattle.thin_state.specs.declared.tree.CHead.TheVariants as head
use Rattle.thin_state.specs.declared.tree.CFunction.{CFunction}
use Rattle.thin_state.specs.declared.tree.MethodRow.{MethodRow}
use Rattle.thin_state.specs.declared.tree.CItem.{CItem}
use Rattle.thin_state.specs.declared.tree.CItem.TheVariants as item
use Rattle.thin_state.specs.declared.tree.CFile.{CFile}
use Rattle.thin_state.specs.declared.state.Kind.{Kind}
use Rattle.thin_state.specs.declared.state.Kind.TheVariants as kind
use Rattle.thin_state.specs.declared.state.Value.{Value}
use Rattle.thin_state.specs.declared.state.Value.TheVariants as value
use Rattle.thin_state.specs.declared.state.Reading.{Reading}
use Rattle.thin_state.specs.declared.state.Cell.{Cell}
use Rattle.thin_state.specs.declared.state.Spot.{Spot}
use Rattle.thin_state.specs.declared.state.Entered.{Entered}
use Rattle.thin_state.specs.declared.state.Doing.TheVariants as doing
use Rattle.thin_state.specs.State.{kind_of, is_module_variable, wrap_int, converts, converted, lookup, spot, spots_at, Frame, CState}

-- what follows a label among the lines
abbrev pub after_label : List Line → ℕ → Option (List Line)
after_label [] l = None
after_label (line.Label k ∷ ls) l = if nat_eq k l then Some ls else after_label ls l
after_label (line.Statement s ∷ ls) l = after_label ls l

-- the module that a file defines, by its module definition
abbrev pub module_name : List CItem → Option (List ℕ)
module_name [] = None
module_name (item.ModuleDefinition n ∷ is) = Some n
module_name (i ∷ is) = module_name is

-- the items of a file, by its number
abbrev pub no_file : CFile
no_file = record { items = [] }

abbrev pub items_at : List CFile → ℕ → List CItem
items_at files k = (slice_index_or files k no_file).items

-- operands

abbrev pub some_reading : Kind → Value → Option Reading
some_reading k v = Some (record { kind = k; value = v })

abbrev pub cell_reading : Option Cell → Option Reading
cell_reading None = None
cell_reading (Some c) = some_reading c.kind c.value

abbrev pub spot_reading : Option Spot → Option Reading
spot_reading None = None
spot_reading (Some s) = some_reading s.kind s.value

abbrev pub object_reading : Option Obj → Option Reading
object_reading None = None
object_reading (Some o) = some_reading kind.PyObject (value.Object o)

abbrev pub object_at : List Obj → ℕ → Option Reading
object_at os j = object_reading (slice_get os j)

abbrev pub argument_of : Value → ℕ → Option Reading
argument_of (value.Arguments os) j = object_at os j
argument_of _ j = None

-- `args[J]`: nothing where there is no `args`, or J is outside its count
abbrev pub argument_at : Option Cell → ℕ → Option Reading
argument_at None j = None
argument_at (Some c) j = argument_of c.value j

abbrev pub definition_reading : Option (List ℕ) → Option Reading
definition_reading None = None
definition_reading (Some n) = some_reading kind.Definition (value.Definition n)

-- what an operand gives, with its type; nothing where it names what isn't there
abbrev pub read : List CFile → CState → Frame → CValue → Option Reading
read files c f (operand.Variable x) = cell_reading (lookup f.variables x)
read files c f (operand.Place p) = spot_reading (spot (spots_at c.places f.file) p)
read files c f (operand.Argument j) = argument_at (lookup f.variables variable.Arguments) j
read files c f (operand.Int n) = some_reading kind.Int (value.Number (wrap_int (pos n)))
read files c f (operand.Str t) = some_reading kind.Text (value.Text t)
read files c f operand.Null = some_reading kind.Null value.Null
read files c f (operand.ExceptionType e) = some_reading kind.PyObject (value.Object (obj.ExceptionType e))
read files c f operand.Definition = definition_reading (module_name (items_at files f.file))

abbrev pub one_more_reading : Option Reading → Option (List Reading) → Option (List Reading)
one_more_reading (Some v) (Some vs) = Some (v ∷ vs)
one_more_reading _ _ = None

abbrev pub read_each : List CFile → CState → Frame → List CValue → Option (List Reading)
read_each files c f [] = Some []
read_each files c f (k ∷ ks) = one_more_reading (read files c f k) (read_each files c f ks)

-- whether an operand is a module variable that holds an object: it is read with the lock, and makes a loan
abbrev pub reads_module_variable : CValue → Reading → Bool
reads_module_variable (operand.Place p) v = is_module_variable p v.kind
reads_module_variable _ v = false

abbrev pub any_module_variable : List CValue → List Reading → Bool
any_module_variable (k ∷ ks) (v ∷ vs) = reads_module_variable k v || any_module_variable ks vs
any_module_variable _ _ = false

abbrev pub object_in : Value → List Obj
object_in (value.Object o) = o ∷ []
object_in _ = []

-- the loan that reading an operand makes
abbrev pub lends : CValue → Reading → List Obj
lends k v = if reads_module_variable k v then object_in v.value else []

-- the loans after the operands of a statement were read
abbrev pub loans_after : List CValue → List Reading → List Obj → List Obj
loans_after (k ∷ ks) (v ∷ vs) loans = loans_after ks vs (lends k v ++ loans)
loans_after _ _ loans = loans

abbrev pub is_set : Value → Bool
is_set value.Unset = false
is_set _ = true

abbrev pub all_set : List Reading → Bool
all_set [] = true
all_set (v ∷ vs) = is_set v.value && all_set vs

abbrev pub is_null : Value → Bool
is_null value.Null = true
is_null _ = false

abbrev pub any_null : List Reading → Bool
any_null [] = false
any_null (v ∷ vs) = is_null v.value || any_null vs

-- the objects that are passed with a value: itself, or each of `args`
abbrev pub passed_with : Value → List Obj
passed_with (value.Object o) = o ∷ []
passed_with (value.Arguments os) = os
passed_with _ = []

abbrev pub passed : List Reading → List Obj
passed [] = []
passed (v ∷ vs) = passed_with v.value ++ passed vs

-- whether operands have the number and the types that are wanted
abbrev pub fits : List Kind → List Reading → Bool
fits [] [] = true
fits (k ∷ ks) (v ∷ vs) = converts v.kind k && fits ks vs
fits _ _ = false

-- whether a result of a type can go to a variable, where it goes to one
abbrev pub accepts : Option Cell → Kind → Bool
accepts None k = false
accepts (Some c) k = converts k c.kind

abbrev pub receives : List Cell → Option Variable → Kind → Bool
receives cells None k = true
receives cells (Some x) k = accepts (lookup cells x) k

-- functions

-- where a function stands: its file and its definition
pub data Found : Type 0 where
  FoundFunction : ℕ → CFunction → Found
  NotFound : Found

abbrev pub is_plain : ℕ → ℕ → CHead → Bool
is_plain m j (head.Plain n i t ps) = nat_eq m n && nat_eq j i
is_plain m j _ = false

abbrev pub is_wrapper : ℕ → ℕ → CHead → Bool
is_wrapper m j (head.Wrapper n i) = nat_eq m n && nat_eq j i
is_wrapper m j _ = false

abbrev pub is_initializer : CHead → Bool
is_initializer (head.Initializer n) = true
is_initializer _ = false

-- the first function of a file with a head, else another
abbrev pub function_in : ℕ → (CHead → Bool) → List CItem → Found → Found
function_in k test [] other = other
function_in k test (item.Function f ∷ is) other = if test f.head then FoundFunction k f else function_in k test is other
function_in k test (i ∷ is) other = function_in k test is other

-- the first of all files, in their order
abbrev pub function_among : ℕ → (CHead → Bool) → List CFile → Found
function_among k test [] = NotFound
function_among k test (f ∷ fs) = function_in k test f.items (function_among (suc k) test fs)

abbrev pub wrapper_at : List CFile → ℕ → ℕ → ℕ → Found
wrapper_at files k m j = function_in k (is_wrapper m j) (items_at files k) NotFound

-- the function that C in a file names: a wrapper is static there, and an initialisation isn't called
abbrev pub function_named : List CFile → ℕ → FunctionName → Found
function_named files k (function.Plain m j) = function_among 0 (is_plain m j) files
function_named files k (function.Wrapper m j) = wrapper_at files k m j
function_named files k (function.Initializer n) = NotFound

-- the types of a function
abbrev pub parameter_kinds_of : List Parameter → List Kind
parameter_kinds_of [] = []
parameter_kinds_of (p ∷ ps) = kind_of p.kind ∷ parameter_kinds_of ps

abbrev pub parameter_kinds : CHead → List Kind
parameter_kinds (head.Plain m j t ps) = parameter_kinds_of ps
parameter_kinds (head.Wrapper m j) = kind.PyObject ∷ kind.Arguments ∷ kind.PySsizeT ∷ []
parameter_kinds (head.Initializer n) = []

abbrev pub result_kind : CHead → Kind
result_kind (head.Plain m j t ps) = kind_of t
result_kind (head.Wrapper m j) = kind.PyObject
result_kind (head.Initializer n) = kind.PyObject

-- the frame of a function: its variables before its parameters
abbrev pub zero_of : Kind → Value
zero_of kind.Int = value.Number (pos zero)
zero_of kind.PySsizeT = value.Number (pos zero)
zero_of _ = value.Null

abbrev pub initial_value : Kind → InitialValue → Value
initial_value k initial.Nothing = value.Unset
initial_value k _ = zero_of k

abbrev pub declared_cell : Declaration → Cell
declared_cell d = record { variable = d.variable; kind = kind_of d.kind; value = initial_value (kind_of d.kind) d.initial }

abbrev pub plain_cells : List Parameter → List Value → List Cell
plain_cells (p ∷ ps) (v ∷ vs) =
    record { variable = variable.Parameter p.number; kind = kind_of p.kind; value = converted (kind_of p.kind) v } ∷ plain_cells ps vs
plain_cells _ _ = []

abbrev pub wrapper_cells : List Value → List Cell
wrapper_cells (a ∷ b ∷ c ∷ []) =
    record { variable = variable.SelfObject; kind = kind.PyObject; value = a }
    ∷ record { variable = variable.Arguments; kind = kind.Arguments; value = b }
    ∷ record { variable = variable.ArgumentCount; kind = kind.PySsizeT; value = c } ∷ []
wrapper_cells _ = []

abbrev pub parameter_cells : CHead → List Value → List Cell
parameter_cells (head.Plain m j t ps) vs = plain_cells ps vs
parameter_cells (head.Wrapper m j) vs = wrapper_cells vs
parameter_cells (head.Initializer n) vs = []

abbrev pub values_of : List Reading → List Value
values_of [] = []
values_of (v ∷ vs) = v.value ∷ values_of vs

abbrev pub frame_of : ℕ → CFunction → List Value → List Obj → Entered → Bool → Frame
frame_of k fn vs lent by lock = record {
  file = k;
  function = fn;
  code = fn.lines;
  variables = map declared_cell fn.declarations ++ parameter_cells fn.head vs;
  own = [];
  lent = lent;
  entered = by;
  doing = doing.Runs;
  lock = lock;
}

-- the outside's names

abbrev pub is_one : ℤ → Bool
is_one (pos n) = nat_eq n 1
is_one _ = false

abbrev pub holds_one : Value → Bool
holds_one (value.Number z) = is_one z
holds_one _ = false

abbrev pub spot_holds_one : Option Spot → Bool
spot_holds_one None = false
spot_holds_one (Some s) = holds_one s.value

-- whether the functions of a file's module may be entered: `cyc_r` holds 1
abbrev pub is_ready : List Spot → Bool
is_ready ss = spot_holds_one (spot ss place.Ready)

abbrev pub method_row : List MethodRow → List ℕ → Option MethodRow
method_row [] name = None
method_row (r ∷ rs) name = if bytes_eq r.name name then Some r else method_row rs name

abbrev pub method_in : List CItem → List ℕ → Option MethodRow
method_in [] name = None
method_in (item.Methods rs ∷ is) name = method_row rs name
method_in (i ∷ is) name = method_in is name

abbrev pub wrapper_of : List CFile → ℕ → Option MethodRow → Found
wrapper_of files k None = NotFound
wrapper_of files k (Some r) = wrapper_at files k r.module r.index

abbrev pub is_named : Option (List ℕ) → List ℕ → Bool
is_named None name = false
is_named (Some n) name = bytes_eq n name

-- the first file that defines the module
abbrev pub module_from : ℕ → List CFile → List ℕ → Option ℕ
module_from k [] name = None
module_from k (f ∷ fs) name = if is_named (module_name f.items) name then Some k else module_from (suc k) fs name

abbrev pub entered_in : List CFile → List (List Spot) → List ℕ → Option ℕ → Found
entered_in files places name None = NotFound
entered_in files places name (Some k) =
    if is_ready (spots_at places k) then wrapper_of files k (method_in (items_at files k) name) else NotFound

-- the function that an entry enters, where it fits; a method never does, as there is no class yet
abbrev pub entered_by : List CFile → List (List Spot) → Callee → Found
entered_by files places (callee.Function p) = entered_in files places p.name (module_from 0 files p.module)
entered_by files places (callee.Method p) = NotFound

-- the next initialisation: the first one of the first file from a number on that has one
abbrev pub initializer_from : ℕ → List CFile → Found
initializer_from begun files = function_among begun is_initializer (drop begun files)

abbrev pub initializer_name : CHead → List ℕ
initializer_name (head.Initializer n) = n
initializer_name _ = []
