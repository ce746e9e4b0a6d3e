-- What calling entries enter: a name of the outside is resolved through the written module definition, method tables and type
-- objects (Python/C API manual, "Module Objects", "Type Objects"). An entry fits where the module's or the class's own text
-- gives what it names, its functions may be entered, and `self` is an instance of the class. The project's own.
use Rattle.std.specs.Prelude.{ℕ, Bool, false, List, [], ◌∷◌, ◌++◌, Option, Some, None, pos, nat_eq, map, codes, if◌then◌else◌, true}
use Rattle.std.specs.Str.{bytes_eq}
use Rattle.api_model.specs.declared.object.Allocation.{Allocation}
use Rattle.api_model.specs.declared.object.Allocation.TheVariants as allocation
use Rattle.api_model.specs.declared.object.Callee.{Callee}
use Rattle.api_model.specs.declared.object.Callee.TheVariants as callee
use Rattle.api_model.specs.declared.object.ClassName.{ClassName}
use Rattle.api_model.specs.declared.object.FunctionPath.{FunctionPath}
use Rattle.api_model.specs.declared.object.MemberPath.{MemberPath}
use Rattle.api_model.specs.declared.object.Obj.{Obj}
use Rattle.api_model.specs.declared.entry.Entry.{Entry}
use Rattle.api_model.specs.declared.entry.Entry.TheVariants as entry
use Rattle.api_model.specs.declared.event.Event.{Event}
use Rattle.api_model.specs.declared.event.Event.TheVariants as event
use Rattle.c_tree.specs.declared.name.Numbered.{Numbered}
use Rattle.c_tree.specs.declared.name.FieldNumber.{FieldNumber}
use Rattle.c_tree.specs.declared.name.FunctionName.{FunctionName}
use Rattle.c_tree.specs.declared.name.FunctionName.TheVariants as function
use Rattle.c_tree.specs.declared.name.Place.TheVariants as place
use Rattle.c_tree.specs.declared.name.TableName.TheVariants as table
use Rattle.c_tree.specs.declared.item.MethodRow.{MethodRow}
use Rattle.c_tree.specs.declared.item.PropertyRow.{PropertyRow}
use Rattle.c_tree.specs.declared.item.TypeObject.{TypeObject}
use Rattle.c_tree.specs.declared.item.CFile.{CFile}
use Rattle.c_value.specs.declared.value.ItemPlace.{ItemPlace}
use Rattle.c_value.specs.declared.value.Value.{Value}
use Rattle.c_value.specs.declared.value.Value.TheVariants as value
use Rattle.c_value.specs.declared.space.Spot.{Spot}
use Rattle.c_value.specs.declared.frame.Entered.TheVariants as entered
use Rattle.c_state.specs.Linked.{function_named, type_at, module_file, methods_named, method_row, properties_named, property_row, sequence_named, mapping_named, class_named_in}
use Rattle.c_value.specs.declared.change.Change.{Change}
use Rattle.c_value.specs.declared.change.Flow.TheVariants as flow
use Rattle.c_state.specs.Planned.{nothing}
use Rattle.c_state.specs.State.{spots_at, instance_of}
use Rattle.c_state.specs.Answered.{read_in}
use Rattle.c_state.specs.Direct.{count_of, is_instance}
use Rattle.c_state.specs.declared.state.State.{State}
use Rattle.c_frame.specs.Spots.{spot}

-- a call from outside: the function, the values of its parameters, what is lent to it, and its trace line
pub record OutsideCall : Type 0 where
  pub function : ItemPlace
  pub values : List Value
  pub lent : List Obj
  pub line : Event

-- the parts of a call before its function is looked up
pub record Wanted : Type 0 where
  pub name : FunctionName
  pub values : List Value
  pub lent : List Obj

abbrev pub found_call : Wanted → Event → Option ItemPlace → Option OutsideCall
found_call w line None = None
found_call w line (Some p) = Some (record { function = p; values = w.values; lent = w.lent; line = line })

abbrev pub call_in : List CFile → ℕ → Event → Option Wanted → Option OutsideCall
call_in files k line None = None
call_in files k line (Some w) = found_call w line (function_named files k w.name)

-- ---- modules

abbrev pub is_one : Value → Bool
is_one (value.Number (pos n)) = nat_eq n 1
is_one _ = false

abbrev pub spot_is_one : Option Spot → Bool
spot_is_one None = false
spot_is_one (Some s) = is_one s.value

-- whether the functions of a file's module may be entered: `cyc_r` holds 1
abbrev pub is_ready : State → ℕ → Bool
is_ready c k = spot_is_one (spot (spots_at c k) place.Ready)

-- what a module gives, where its functions may be entered
abbrev pub in_module : {A : Type 0} → List CFile → State → List ℕ → (ℕ → Option A) → Option A
in_module {A = A} files c name more = by_file (module_file files name)
  where
    by_file : Option ℕ → Option A
    by_file None = None
    by_file (Some k) = if is_ready c k then more k else None

-- ---- functions

abbrev pub wrapper_call : Value → List Obj → List Obj → Option MethodRow → Option Wanted
wrapper_call self args lent None = None
wrapper_call self args lent (Some r) =
    Some (record { name = function.Wrapper r.wrapper; values = self ∷ value.Arguments args ∷ count_of args ∷ []; lent = lent })

-- `module.f`: its `self` is NULL
abbrev pub function_call : List CFile → State → FunctionPath → List Obj → Event → Option OutsideCall
function_call files c p args line =
    in_module files c p.module (λ k.
    call_in files k line (wrapper_call value.Null args args (method_row (methods_named files k table.OfFile) p.name)))

-- ---- classes

abbrev pub class_name : List ℕ → List ℕ → List ℕ
class_name m class = m ++ 46 ∷ class

-- a class that a module gives: its place, and its type object
abbrev pub in_class : {A : Type 0} → List CFile → State → List ℕ → List ℕ → (ItemPlace → TypeObject → Option A) → Option A
in_class {A = A} files c m class more = in_module files c m (λ k. by_place (class_named_in files k (class_name m class)))
  where
    by_type : ItemPlace → Option TypeObject → Option A
    by_type p None = None
    by_type p (Some t) = more p t

    by_place : Option ItemPlace → Option A
    by_place None = None
    by_place (Some p) = by_type p (type_at files p)

-- what is called with `self`, the first object, where it is an instance of the class
abbrev pub with_self : {A : Type 0} → List CFile → State → ItemPlace → List Obj → (Obj → List Obj → Option A) → Option A
with_self files c p [] more = None
with_self files c p (o ∷ os) more = if is_instance files (instance_of c (value.Object o)) p allocation.Static then more o os else None

-- a slot function with its objects
abbrev pub slot_call : (Numbered → FunctionName) → Option Numbered → List Value → List Obj → Option Wanted
slot_call name None values lent = None
slot_call name (Some n) values lent = Some (record { name = name n; values = values; lent = lent })

abbrev pub first_of : Option Numbered → Option Numbered → Option Numbered
first_of None other = other
first_of (Some n) other = Some n

abbrev pub sequence_of : List CFile → ℕ → TypeObject → Option Numbered × Option Numbered
sequence_of files k t = by_name t.sequence
  where
    by_name : Option Numbered → Option Numbered × Option Numbered
    by_name None = (None, None)
    by_name (Some n) = sequence_named files k n

abbrev pub mapping_of : List CFile → ℕ → TypeObject → Option Numbered × Option Numbered
mapping_of files k t = by_name t.mapping
  where
    by_name : Option Numbered → Option Numbered × Option Numbered
    by_name None = (None, None)
    by_name (Some n) = mapping_named files k n

abbrev pub methods_of : List CFile → ℕ → TypeObject → List MethodRow
methods_of files k t = by_name t.methods
  where
    by_name : Option Numbered → List MethodRow
    by_name None = []
    by_name (Some n) = methods_named files k (table.OfClass n)

abbrev pub properties_of : List CFile → ℕ → TypeObject → List PropertyRow
properties_of files k t = by_name t.properties
  where
    by_name : Option Numbered → List PropertyRow
    by_name None = []
    by_name (Some n) = properties_named files k n

-- `__init__`: the objects behind `self` are a tuple, and there are no keywords
abbrev pub init_call : TypeObject → Obj → List Obj → Option Wanted
init_call t o os = slot_call function.Init t.init (value.Object o ∷ value.Tuple os ∷ value.Null ∷ []) (o ∷ os)

-- `__len__` with `self` alone
abbrev pub len_call : List CFile → ℕ → TypeObject → Obj → List Obj → Option Wanted
len_call files k t o [] = slot_call function.Len (first_of (sequence_of files k t).0 (mapping_of files k t).0) (value.Object o ∷ []) (o ∷ [])
len_call files k t o os = None

-- `__getitem__` and `__contains__` with one object more
abbrev pub item_call : List CFile → ℕ → TypeObject → Obj → List Obj → Option Wanted
item_call files k t o (key ∷ []) = slot_call function.Item (mapping_of files k t).1 (value.Object o ∷ value.Object key ∷ []) (o ∷ key ∷ [])
item_call files k t o os = None

abbrev pub has_call : List CFile → ℕ → TypeObject → Obj → List Obj → Option Wanted
has_call files k t o (key ∷ []) = slot_call function.Has (sequence_of files k t).1 (value.Object o ∷ value.Object key ∷ []) (o ∷ key ∷ [])
has_call files k t o os = None

-- a method by its name; `__cinit__` has none
abbrev pub method_call : List CFile → ℕ → TypeObject → List ℕ → Obj → List Obj → Option Wanted
method_call files k t name o os =
    if bytes_eq name (codes "__init__") then init_call t o os else
    if bytes_eq name (codes "__cinit__") then None else
    if bytes_eq name (codes "__len__") then len_call files k t o os else
    if bytes_eq name (codes "__getitem__") then item_call files k t o os else
    if bytes_eq name (codes "__contains__") then has_call files k t o os else
    wrapper_call (value.Object o) os (o ∷ os) (method_row (methods_of files k t) name)

abbrev pub member_call : List CFile → State → MemberPath → List Obj → Event → Option OutsideCall
member_call files c p args line =
    in_class files c p.module p.class (λ here t.
    with_self files c here args (λ o os. call_in files here.file line (method_call files here.file t p.name o os)))

-- `new module.Class`: the type that is made is the class, or a heap type below it
abbrev pub new_call : List CFile → State → ClassName → Allocation → Event → Option OutsideCall
new_call files c n a line =
    in_class files c n.module n.class (λ here t.
    call_in files here.file line (slot_call function.New t.new (value.TypeObject here a ∷ value.Null ∷ value.Null ∷ []) []))

-- ---- properties

abbrev pub getter_of : Obj → Option PropertyRow → Option Wanted
getter_of o None = None
getter_of o (Some r) = Some (record { name = function.Getter r.getter; values = value.Object o ∷ value.Null ∷ []; lent = o ∷ [] })

abbrev pub setter_of : Obj → Value → List Obj → Option PropertyRow → Option Wanted
setter_of o v lent None = None
setter_of o v lent (Some r) = by_setter r.setter
  where
    by_setter : Option FieldNumber → Option Wanted
    by_setter None = None
    by_setter (Some n) = Some (record { name = function.Setter n; values = value.Object o ∷ v ∷ value.Null ∷ []; lent = lent })

abbrev pub property_call : List CFile → State → MemberPath → Obj → Event → (Obj → Option PropertyRow → Option Wanted) → Option OutsideCall
property_call files c p self line more =
    in_class files c p.module p.class (λ here t.
    with_self files c here (self ∷ []) (λ o os.
    call_in files here.file line (more o (property_row (properties_of files here.file t) p.name))))

abbrev pub set_value : Obj → Obj → Option PropertyRow → Option Wanted
set_value v o r = setter_of o (value.Object v) (o ∷ v ∷ []) r

-- a setter is entered with NULL where the value is taken away
abbrev pub unset_value : Obj → Option PropertyRow → Option Wanted
unset_value o r = setter_of o value.Null (o ∷ []) r

-- ---- entries

abbrev pub callee_call : List CFile → State → Callee → List Obj → Event → Option OutsideCall
callee_call files c (callee.Function p) args line = function_call files c p args line
callee_call files c (callee.Method p) args line = member_call files c p args line

-- the call that an entry makes, where it is a calling entry that fits; what it names is read first
abbrev pub call_of : List CFile → State → Entry → Option OutsideCall
call_of files c (entry.Enter name args) = callee_call files c name (map (read_in c) args) (event.Enter name (map (read_in c) args))
call_of files c (entry.New n a) = new_call files c n a (event.EnterNew n a)
call_of files c (entry.Get p o) = property_call files c p (read_in c o) (event.EnterGet p (read_in c o)) getter_of
call_of files c (entry.Set p o v) =
    property_call files c p (read_in c o) (event.EnterSet p (read_in c o) (read_in c v)) (set_value (read_in c v))
call_of files c (entry.Unset p o) = property_call files c p (read_in c o) (event.EnterUnset p (read_in c o)) unset_value
call_of files c e = None

-- the call begins
abbrev pub entering_call : OutsideCall → Change
entering_call o = record nothing {
  takes = true;
  event = Some o.line;
  flow = flow.Enters (record { function = o.function; values = o.values; lent = o.lent; by = entered.FromOutside });
}
