-- What operands give. The project's own, after ISO/IEC 9899:2011 6.5.
use Rattle.std.specs.Prelude.{ℕ, Bool, true, false, not, ◌||◌, List, [], ◌∷◌, ◌++◌, Option, Some, None, pos, nat_eq, slice_get, if◌then◌else◌}
use Rattle.api_model.specs.declared.object.ClassName.{ClassName}
use Rattle.api_model.specs.declared.object.Obj.{Obj}
use Rattle.api_model.specs.declared.object.Obj.TheVariants as obj
use Rattle.api_model.specs.declared.object.Allocation.TheVariants as allocation
use Rattle.c_tree.specs.declared.name.Variable.{Variable}
use Rattle.c_tree.specs.declared.name.Variable.TheVariants as variable
use Rattle.c_tree.specs.declared.name.FixedParameter.TheVariants as fixed
use Rattle.c_tree.specs.declared.value.CValue.{CValue}
use Rattle.c_tree.specs.declared.value.CValue.TheVariants as operand
use Rattle.c_tree.specs.declared.value.Literal.{Literal}
use Rattle.c_tree.specs.declared.value.Literal.TheVariants as literal
use Rattle.c_tree.specs.declared.statement.Argument.{Argument}
use Rattle.c_tree.specs.declared.statement.Argument.TheVariants as argument
use Rattle.c_tree.specs.declared.item.TypeObject.{TypeObject}
use Rattle.c_tree.specs.declared.item.CFile.{CFile}
use Rattle.cy_num.specs.declared.types.CNum.TheVariants as number
use Rattle.c_value.specs.declared.kind.Kind.{Kind}
use Rattle.c_value.specs.declared.kind.Kind.TheVariants as kind
use Rattle.c_value.specs.declared.value.ItemPlace.{ItemPlace}
use Rattle.c_value.specs.declared.value.Value.{Value}
use Rattle.c_value.specs.declared.value.Value.TheVariants as value
use Rattle.c_value.specs.declared.value.Reading.{Reading}
use Rattle.c_value.specs.declared.space.Spot.{Spot}
use Rattle.c_value.specs.declared.frame.Cell.{Cell}
use Rattle.c_state.specs.Linked.{module_name, type_at, type_named}
use Rattle.c_value.specs.Values.{converts, objects_in}
use Rattle.c_state.specs.State.{is_module_variable, spots_at}
use Rattle.c_state.specs.declared.state.Frame.{Frame}
use Rattle.c_state.specs.declared.state.State.{State}
use Rattle.c_frame.specs.Cells.{lookup}
use Rattle.c_frame.specs.Spots.{spot}

abbrev pub gives : Kind → Value → Option Reading
gives k v = Some (record { kind = k; value = v })

abbrev pub cell_reading : Option Cell → Option Reading
cell_reading None = None
cell_reading (Some c) = gives c.kind c.value

abbrev pub spot_reading : Option Spot → Option Reading
spot_reading None = None
spot_reading (Some s) = gives s.kind s.value

abbrev pub object_reading : Option Obj → Option Reading
object_reading None = None
object_reading (Some o) = gives kind.Object (value.Object o)

abbrev pub argument_of : Value → ℕ → Option Reading
argument_of (value.Arguments os) j = object_reading (slice_get os j)
argument_of _ j = None

-- `args[J]`: nothing where there is no `args`, or J is outside its count
abbrev pub argument_at : Option Cell → ℕ → Option Reading
argument_at None j = None
argument_at (Some c) j = argument_of c.value j

abbrev pub literal_reading : Literal → Reading
literal_reading (literal.Int z) = record { kind = kind.Number number.I32; value = value.Number z }
literal_reading (literal.Unsigned n) = record { kind = kind.Number number.U32; value = value.Number (pos n) }
literal_reading (literal.Long z) = record { kind = kind.Number number.I64; value = value.Number z }
literal_reading (literal.UnsignedLong n) = record { kind = kind.Number number.U64; value = value.Number (pos n) }

abbrev pub definition_reading : Option (List ℕ) → Option Reading
definition_reading None = None
definition_reading (Some n) = gives kind.Definition (value.Definition n)

-- a name of two parts, `module.Class`: what stands before its first dot, and what behind it
abbrev pub before_dot : List ℕ → List ℕ
before_dot [] = []
before_dot (b ∷ bs) = if nat_eq b 46 then [] else b ∷ before_dot bs

abbrev pub behind_dot : List ℕ → List ℕ
behind_dot [] = []
behind_dot (b ∷ bs) = if nat_eq b 46 then bs else behind_dot bs

abbrev pub class_named : List ℕ → ClassName
class_named name = record { «module» = before_dot name; class = behind_dot name }

abbrev pub class_object_of : Option TypeObject → Option Reading
class_object_of None = None
class_object_of (Some t) = gives kind.Object (value.Object (obj.Class (class_named t.name)))

abbrev pub class_object : List CFile → Option ItemPlace → Option Reading
class_object files None = None
class_object files (Some t) = class_object_of (type_at files t)

abbrev pub type_address : Option ItemPlace → Option Reading
type_address None = None
type_address (Some t) = gives kind.TypeObject (value.TypeObject t allocation.Static)

-- a variable of the frame, or a place of its file
abbrev pub variable_reading : State → Frame → Variable → Option Reading
variable_reading c f (variable.Place p) = spot_reading (spot (spots_at c f.file) p)
variable_reading c f x = cell_reading (lookup f.variables x)

-- what an operand gives, with its type; nothing where it names what isn't there
abbrev pub read : List CFile → State → Frame → CValue → Option Reading
read files c f (operand.Variable x) = variable_reading c f x
read files c f (operand.Argument j) = argument_at (lookup f.variables (variable.Fixed fixed.Arguments)) j
read files c f (operand.Literal l) = Some (literal_reading l)
read files c f operand.Null = gives kind.Null value.Null
read files c f operand.NoneObject = gives kind.Object (value.Object obj.NoneNode)
read files c f operand.TrueObject = gives kind.Object (value.Object obj.TrueNode)
read files c f operand.FalseObject = gives kind.Object (value.Object obj.FalseNode)
read files c f (operand.Exception e) = gives kind.Object (value.Object (obj.ExceptionType e))
read files c f (operand.ClassObject n) = class_object files (type_named files f.file n)
read files c f (operand.TypeAddress n) = type_address (type_named files f.file n)
read files c f operand.Definition = definition_reading (module_name files f.file)

abbrev pub read_argument : List CFile → State → Frame → Argument → Option Reading
read_argument files c f (argument.Value k) = read files c f k
read_argument files c f (argument.Str t) = gives kind.Text (value.Text t)

abbrev pub one_more_reading : Option Reading → Option (List Reading) → Option (List Reading)
one_more_reading (Some v) (Some vs) = Some (v ∷ vs)
one_more_reading _ _ = None

abbrev pub read_each : List CFile → State → Frame → List Argument → Option (List Reading)
read_each files c f [] = Some []
read_each files c f (k ∷ ks) = one_more_reading (read_argument files c f k) (read_each files c f ks)

-- ---- module variables

-- whether an operand is a module variable that holds objects
abbrev pub is_global : Variable → Kind → Bool
is_global (variable.Place p) k = is_module_variable p k
is_global _ k = false

abbrev pub reads_global : CValue → Reading → Bool
reads_global (operand.Variable x) v = is_global x v.kind
reads_global _ v = false

abbrev pub argument_reads_global : Argument → Reading → Bool
argument_reads_global (argument.Value k) v = reads_global k v
argument_reads_global (argument.Str t) v = false

abbrev pub any_global : List Argument → List Reading → Bool
any_global (k ∷ ks) (v ∷ vs) = argument_reads_global k v || any_global ks vs
any_global _ _ = false

-- the loans that reading operands makes
abbrev pub lends : CValue → Reading → List Obj
lends k v = if reads_global k v then objects_in v.value else []

abbrev pub argument_lends : Argument → Reading → List Obj
argument_lends k v = if argument_reads_global k v then objects_in v.value else []

abbrev pub lends_each : List Argument → List Reading → List Obj
lends_each (k ∷ ks) (v ∷ vs) = argument_lends k v ++ lends_each ks vs
lends_each _ _ = []

-- whether what is read may be read as far as the lock goes
abbrev pub may_read : State → CValue → Reading → Bool
may_read c k v = not (reads_global k v) || c.shared.lock

abbrev pub may_read_each : State → List Argument → List Reading → Bool
may_read_each c ks vs = not (any_global ks vs) || c.shared.lock

-- ---- where a result goes

abbrev pub kind_of_reading : Option Reading → Option Kind
kind_of_reading None = None
kind_of_reading (Some v) = Some v.kind

-- the type of a variable or place, if it is there
abbrev pub target_kind : State → Frame → Variable → Option Kind
target_kind c f x = kind_of_reading (variable_reading c f x)

abbrev pub takes_kind : Option Kind → Kind → Bool
takes_kind None k = false
takes_kind (Some wanted) k = converts k wanted

-- whether a value of a type can go to a variable or place
abbrev pub takes : State → Frame → Variable → Kind → Bool
takes c f x k = takes_kind (target_kind c f x) k

-- whether a result of a type can go where it is sent, if it is sent anywhere
abbrev pub receives : State → Frame → Option Variable → Kind → Bool
receives c f None k = true
receives c f (Some x) k = takes c f x k
