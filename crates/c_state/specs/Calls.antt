-- Calls of the functions of the files, directly or through a method table (ISO/IEC 9899:2011 6.5.2.2).
use Rattle.std.specs.Prelude.{ℕ, Bool, true, false, ◌&&◌, List, [], ◌∷◌, ◌++◌, Option, Some, None, map, slice_get, if◌then◌else◌}
use Rattle.api_model.specs.declared.object.Obj.{Obj}
use Rattle.c_tree.specs.declared.name.Numbered.{Numbered}
use Rattle.c_tree.specs.declared.name.FixedParameter.TheVariants as fixed
use Rattle.c_tree.specs.declared.name.FunctionName.{FunctionName}
use Rattle.c_tree.specs.declared.name.FunctionName.TheVariants as function
use Rattle.c_tree.specs.declared.name.Variable.{Variable}
use Rattle.c_tree.specs.declared.name.Variable.TheVariants as variable
use Rattle.c_tree.specs.declared.value.CResult.{CResult}
use Rattle.c_tree.specs.declared.value.CResult.TheVariants as result
use Rattle.c_tree.specs.declared.statement.Argument.{Argument}
use Rattle.c_tree.specs.declared.item.Parameter.{Parameter}
use Rattle.c_tree.specs.declared.item.Declaration.{Declaration}
use Rattle.c_tree.specs.declared.item.StructTable.{StructTable}
use Rattle.c_tree.specs.declared.item.Slot.{Slot}
use Rattle.c_tree.specs.declared.value.CType.{CType}
use Rattle.c_tree.specs.declared.item.CHead.{CHead}
use Rattle.c_tree.specs.declared.item.CHead.TheVariants as head
use Rattle.c_tree.specs.declared.item.CFunction.{CFunction}
use Rattle.c_tree.specs.declared.item.CFile.{CFile}
use Rattle.c_value.specs.declared.step.FaultKind.TheVariants as fault
use Rattle.c_value.specs.declared.kind.Kind.{Kind}
use Rattle.c_value.specs.declared.kind.Kind.TheVariants as kind
use Rattle.c_value.specs.declared.value.Value.{Value}
use Rattle.c_value.specs.declared.value.Reading.{Reading}
use Rattle.c_value.specs.declared.space.Instance.{Instance}
use Rattle.c_value.specs.declared.frame.Cell.{Cell}
use Rattle.c_value.specs.declared.frame.Entered.{Entered}
use Rattle.c_value.specs.declared.frame.Entered.TheVariants as entered
use Rattle.c_value.specs.declared.frame.Doing.TheVariants as doing
use Rattle.c_value.specs.declared.value.ItemPlace.{ItemPlace}
use Rattle.c_state.specs.Linked.{function_named, function_at, table_named, table_at, functions_of, slot_of, begins_with, item_count}
use Rattle.c_value.specs.Values.{same_kind, kind_of, int, size, converted, initial_value, is_object, all_set, passed, values_of, fits}
use Rattle.c_state.specs.State.{all_held, instance_of}
use Rattle.c_value.specs.declared.change.Flow.TheVariants as flow
use Rattle.c_value.specs.declared.change.Planned.{Planned}
use Rattle.c_value.specs.declared.change.Planned.TheVariants.{Does}
use Rattle.c_value.specs.declared.change.Change.{Change}
use Rattle.c_state.specs.Planned.{need, need_some, need_strictly, nothing}
use Rattle.c_state.specs.Reads.{receives, lends, lends_each, may_read, may_read_each}
use Rattle.c_state.specs.Fields.{object_variable, uses}
use Rattle.c_state.specs.declared.state.Frame.{Frame}
use Rattle.c_state.specs.declared.state.State.{State}

-- ---- the types of a function

abbrev pub plain_parameter : Parameter → Variable × Kind
plain_parameter p = (variable.Parameter p.number, kind_of p.kind)

abbrev pub self_parameter : Variable × Kind
self_parameter = (variable.Fixed fixed.SelfObject, kind.Object)

-- the parameters of a function, each with its type
abbrev pub parameters : CHead → List (Variable × Kind)
parameters (head.Plain n r ps) = map plain_parameter ps
parameters (head.Overridable n r ps) = map plain_parameter ps
parameters (head.Wrapper n) = self_parameter ∷ (variable.Fixed fixed.Arguments, kind.Arguments) ∷ (variable.Fixed fixed.ArgumentCount, size) ∷ []
parameters (head.New n) = (variable.Fixed fixed.Type, kind.TypeObject) ∷ (variable.Fixed fixed.Arguments, kind.Object) ∷ (variable.Fixed fixed.Keywords, kind.Object) ∷ []
parameters (head.Init n) = self_parameter ∷ (variable.Fixed fixed.Arguments, kind.Object) ∷ (variable.Fixed fixed.Keywords, kind.Object) ∷ []
parameters (head.Dealloc n) = self_parameter ∷ []
parameters (head.Len n) = self_parameter ∷ []
parameters (head.Item n) = self_parameter ∷ (variable.Fixed fixed.Key, kind.Object) ∷ []
parameters (head.Has n) = self_parameter ∷ (variable.Fixed fixed.Key, kind.Object) ∷ []
parameters (head.Getter n) = self_parameter ∷ (variable.Fixed fixed.Closure, kind.Closure) ∷ []
parameters (head.Setter n) = self_parameter ∷ (variable.Fixed fixed.Value, kind.Object) ∷ (variable.Fixed fixed.Closure, kind.Closure) ∷ []
parameters head.Body = []
parameters (head.Initializer n) = []

abbrev pub kinds_of : List (Variable × Kind) → List Kind
kinds_of [] = []
kinds_of ((x, k) ∷ ps) = k ∷ kinds_of ps

abbrev pub result_by : CResult → Option Kind
result_by result.Void = None
result_by (result.Value t) = Some (kind_of t)

-- the type of a function's result, if it has one
abbrev pub result_kind : CHead → Option Kind
result_kind (head.Plain n r ps) = result_by r
result_kind (head.Overridable n r ps) = result_by r
result_kind (head.Wrapper n) = Some kind.Object
result_kind (head.New n) = Some kind.Object
result_kind (head.Init n) = Some int
result_kind (head.Dealloc n) = None
result_kind (head.Len n) = Some size
result_kind (head.Item n) = Some kind.Object
result_kind (head.Has n) = Some int
result_kind (head.Getter n) = Some kind.Object
result_kind (head.Setter n) = Some int
result_kind head.Body = Some int
result_kind (head.Initializer n) = Some kind.Object

-- ---- the frame of a function: its variables before its parameters

abbrev pub declared_cell : Declaration → Cell
declared_cell d = record { variable = d.variable; kind = kind_of d.kind; value = initial_value (kind_of d.kind) d.initial }

abbrev pub parameter_cells : List (Variable × Kind) → List Value → List Cell
parameter_cells ((x, k) ∷ ps) (v ∷ vs) = record { variable = x; kind = k; value = converted k v } ∷ parameter_cells ps vs
parameter_cells _ _ = []

abbrev pub frame_of : ℕ → CFunction → List Value → Entered → Bool → Frame
frame_of k fn vs by lock = record {
  file = k;
  function = fn;
  code = fn.lines;
  variables = map declared_cell fn.declarations ++ parameter_cells (parameters fn.head) vs;
  entered = by;
  doing = doing.Runs;
  lock = lock;
}

-- ---- calls

-- whether a result can go where the call sends it: a `void` function gives none
abbrev pub receives_result : State → Frame → Option Variable → Option Kind → Bool
receives_result c f None k = true
receives_result c f (Some x) None = false
receives_result c f (Some x) (Some k) = receives c f (Some x) k

-- a function is entered from C, and the newest frame waits for its result
abbrev pub calling : ItemPlace → Option Variable → List Reading → List Obj → Change
calling p x vs os = record nothing {
  lends = os;
  flow = flow.Calls x (record { function = p; values = values_of vs; lent = passed vs; by = entered.FromC });
}

-- whether the operands are those of a function, and its result can go where it is sent
abbrev pub suits : State → Frame → Option Variable → List Reading → CHead → Bool
suits c f x vs h = fits (kinds_of (parameters h)) vs && receives_result c f x (result_kind h)

abbrev pub suits_found : State → Frame → Option Variable → List Reading → Option CFunction → Bool
suits_found c f x vs None = false
suits_found c f x vs (Some fn) = suits c f x vs fn.head

abbrev pub call_found : List CFile → State → Frame → Option Variable → List Argument → List Reading → ItemPlace → Planned
call_found files c f x ks vs p =
    need (suits_found c f x vs (function_at files p)) fault.Stuck
    (need (all_set vs) fault.Undefined
    (need_strictly c (may_read_each c ks vs) fault.Unlocked
    (need_strictly c (all_held c (passed vs)) fault.Unheld
    (Does (calling p x vs (lends_each ks vs))))))

-- an initialisation function has no name of the profile
abbrev pub callable : List CFile → ℕ → FunctionName → Option ItemPlace
callable files k (function.Initializer n) = None
callable files k name = function_named files k name

-- `x = cyc_f_M_K(k, ..);`
abbrev pub call : List CFile → State → Frame → Option Variable → FunctionName → List Argument → List Reading → Planned
call files c f x name ks vs = need_some (callable files f.file name) fault.Stuck (call_found files c f x ks vs)

-- ---- `x = ((const struct V *)((struct cyc_root *)y)->vt)->mJ(k, ..);`

abbrev pub kinds_in : List CType → List Kind
kinds_in ts = map kind_of ts

-- whether operands and the result suit a slot
abbrev pub suits_slot : State → Frame → Option Variable → List Reading → Option Slot → Bool
suits_slot c f x vs None = false
suits_slot c f x vs (Some s) = fits (kinds_in s.parameters) vs && receives_result c f x (result_by s.result)

abbrev pub same_kinds : List Kind → List Kind → Bool
same_kinds [] [] = true
same_kinds (j ∷ js) (k ∷ ks) = same_kind j k && same_kinds js ks
same_kinds _ _ = false

abbrev pub same_result : Option Kind → Option Kind → Bool
same_result None None = true
same_result (Some j) (Some k) = same_kind j k
same_result _ _ = false

-- whether a function is of the type of a slot
abbrev pub has_type : Option Slot → Option CFunction → Bool
has_type (Some s) (Some fn) =
    same_kinds (kinds_in s.parameters) (kinds_of (parameters fn.head)) && same_result (result_by s.result) (result_kind fn.head)
has_type _ _ = false

-- the method table of an instance, where its struct is that of a class, or begins with it
abbrev pub if_begins : List CFile → Numbered → ItemPlace → Option StructTable → Option ItemPlace
if_begins files class p None = None
if_begins files class p (Some t) = if begins_with files (item_count files) t.class class then Some p else None

abbrev pub table_with : List CFile → Numbered → Option ItemPlace → Option ItemPlace
table_with files class None = None
table_with files class (Some p) = if_begins files class p (table_at files p)

abbrev pub table_in : List CFile → Option Numbered → Option ItemPlace
table_in files None = None
table_in files (Some class) = table_named files class

abbrev pub table_of : List CFile → Numbered → Option Instance → Option ItemPlace
table_of files class None = None
table_of files class (Some i) = table_with files class (table_in files i.table)

abbrev pub slot_name : Option StructTable → ℕ → Option FunctionName
slot_name None j = None
slot_name (Some t) j = slice_get (functions_of t) j

abbrev pub named_by : List CFile → ℕ → Option FunctionName → Option ItemPlace
named_by files k None = None
named_by files k (Some name) = callable files k name

-- the function in a slot of a method table: a name of the file in which the table stands
abbrev pub slot_function : List CFile → ItemPlace → ℕ → Option ItemPlace
slot_function files p j = named_by files p.file (slot_name (table_at files p) j)

-- the function of the slot is entered
abbrev pub call_slot : List CFile → State → Option Variable → Variable → Reading → List Argument → List Reading → Option Slot → ItemPlace → Planned
call_slot files c x object y ks vs s p =
    need (has_type s (function_at files p)) fault.Stuck
    (need (all_set vs) fault.Undefined
    (need_strictly c (may_read c (object_variable object) y && may_read_each c ks vs) fault.Unlocked
    (need_strictly c (uses c y && all_held c (passed vs)) fault.Unheld
    (Does (calling p x vs (lends (object_variable object) y ++ lends_each ks vs))))))

abbrev pub call_method : List CFile → State → Frame → Option Variable → Numbered → Variable → ℕ → Reading → List Argument → List Reading → Planned
call_method files c f x class object j y ks vs =
    need (is_object y.kind && suits_slot c f x vs (slot_of files class j)) fault.Stuck
    (need_some (table_of files class (instance_of c y.value)) fault.BadField (λ t.
    need_some (slot_function files t j) fault.Stuck (call_slot files c x object y ks vs (slot_of files class j))))
