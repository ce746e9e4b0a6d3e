-- Statements on instances: fields, method tables, the mark of heap types, the end of an instance (Cython documentation,
-- "Extension Types"; Python/C API manual, "Type Objects", `tp_free`).
use Rattle.std.specs.Prelude.{Bool, true, false, not, ◌&&◌, ◌||◌, List, [], ◌∷◌, Option, Some, None, is_none, ◌++◌, ℕ}
use Rattle.std.specs.List.{list_all}
use Rattle.api_model.specs.declared.object.Obj.{Obj}
use Rattle.api_model.specs.declared.object.Obj.TheVariants as obj
use Rattle.api_model.specs.declared.object.Allocation.{Allocation}
use Rattle.api_model.specs.declared.object.Allocation.TheVariants as allocation
use Rattle.c_tree.specs.declared.name.Numbered.{Numbered}
use Rattle.c_tree.specs.declared.name.Variable.{Variable}
use Rattle.c_tree.specs.declared.value.CValue.{CValue}
use Rattle.c_tree.specs.declared.value.CValue.TheVariants as operand
use Rattle.c_tree.specs.declared.statement.FieldPlace.{FieldPlace}
use Rattle.c_tree.specs.declared.item.CFile.{CFile}
use Rattle.c_value.specs.declared.step.FaultKind.TheVariants as fault
use Rattle.c_value.specs.declared.kind.Kind.{Kind}
use Rattle.c_value.specs.declared.value.Value.{Value}
use Rattle.c_value.specs.declared.value.Value.TheVariants as value
use Rattle.c_value.specs.declared.value.Reading.{Reading}
use Rattle.c_value.specs.declared.space.Part.{Part}
use Rattle.c_value.specs.declared.space.Instance.{Instance}
use Rattle.c_value.specs.declared.change.SpaceChange.TheVariants as space
use Rattle.c_ledger.specs.OfNewest.{owned}
use Rattle.c_value.specs.Values.{converts, int, is_object, is_set, is_null, has_objects, objects_in}
use Rattle.c_state.specs.State.{all_held, instance_of}
use Rattle.c_value.specs.declared.change.Planned.{Planned}
use Rattle.c_value.specs.declared.change.Planned.TheVariants.{Fault, Does}
use Rattle.c_value.specs.declared.change.Change.{Change}
use Rattle.c_state.specs.Planned.{need, need_some, need_strictly, nothing, lending}
use Rattle.c_state.specs.Reads.{variable_reading, lends, may_read, takes}
use Rattle.c_state.specs.Stores.{give, is_tuple, may_store_to, may_write_to, owns_moved, field_kind, field_value}
use Rattle.c_state.specs.Assignments.{truth}
use Rattle.c_state.specs.declared.state.Frame.{Frame}
use Rattle.c_state.specs.declared.state.State.{State}

-- a field is read and stored with the lock where it holds objects
abbrev pub field_open : State → Kind → Bool
field_open c k = not (has_objects k) || c.shared.lock

-- the instance's variable, which is held where it is used
abbrev pub uses : State → Reading → Bool
uses c y = all_held c (objects_in y.value)

abbrev pub object_variable : Variable → CValue
object_variable x = operand.Variable x

-- `x = ((struct S *)y)->fJ;`
abbrev pub load_field : State → Frame → Variable → FieldPlace → Reading → Kind → Planned
load_field c f x p y k =
    need (is_object y.kind && (takes c f x k && may_store_to c f x)) fault.Stuck
    (need_some (field_value c y.value p.class p.field) fault.BadField (λ v.
    (need_strictly c (may_read c (object_variable p.object) y && (field_open c k && may_write_to c f x)) fault.Unlocked
    (need_strictly c (uses c y) fault.Unheld
    (give c f x v (lending (lends (object_variable p.object) y ++ objects_in v)))))))

-- the number of the instance that a value is
abbrev pub in_instance : Value → (ℕ → Planned) → Planned
in_instance (value.Object (obj.Inst k)) more = more k
in_instance v more = Fault fault.BadField

-- a value moves into a field
abbrev pub field_change : ℕ → FieldPlace → Value → Value → List Obj → Change
field_change k p v old os =
    record nothing { lends = os; loses = objects_in v; gets_back = objects_in old; space = space.Field k p.class p.field v }

-- `((struct S *)y)->fJ = k;`
abbrev pub store_field : State → FieldPlace → Reading → Kind → CValue → Reading → Planned
store_field c p y k a v =
    need (is_object y.kind && (converts v.kind k && not (is_tuple v.value))) fault.Stuck
    (need_some (field_value c y.value p.class p.field) fault.BadField (λ old.
    (need (is_set v.value) fault.Undefined
    (need_strictly c (may_read c (object_variable p.object) y && (may_read c a v && field_open c k)) fault.Unlocked
    (need_strictly c (uses c y && owns_moved (owned c.thread.ledger) v.value) fault.Unheld
    (in_instance y.value (λ k. Does (field_change k p v.value old (lends (object_variable p.object) y ++ lends a v)))))))))

-- `((struct cyc_root *)y)->vt = &cyc_t_M_K;`
abbrev pub store_table : State → Variable → Numbered → Reading → Planned
store_table c x class y =
    need (is_object y.kind) fault.Stuck
    (need_some (instance_of c y.value) fault.BadField (λ i.
    (need_strictly c (may_read c (object_variable x) y) fault.Unlocked
    (need_strictly c (uses c y) fault.Unheld
    (in_instance y.value (λ k. Does (record nothing { lends = lends (object_variable x) y; space = space.Table k class })))))))

-- `x = PyType_HasFeature(Py_TYPE(y), Py_TPFLAGS_HEAPTYPE);`
abbrev pub is_heap : Option Instance → Bool
is_heap None = false
is_heap (Some i) = by_allocation i.allocation
  where
    by_allocation : Allocation → Bool
    by_allocation allocation.Heap = true
    by_allocation allocation.Static = false

-- an object is needed
abbrev pub is_plain : Reading → Bool
is_plain y = is_object y.kind && not (is_null y.value || is_tuple y.value)

abbrev pub has_heap_type : State → Frame → Variable → Variable → Reading → Planned
has_heap_type c f x object y =
    need (is_plain y && (takes c f x int && may_store_to c f x)) fault.Stuck
    (need (is_set y.value) fault.Undefined
    (need_strictly c c.shared.lock fault.Unlocked
    (need (is_none c.thread.error) fault.ErrorSet
    (need_strictly c (uses c y) fault.Unheld
    (give c f x (truth (is_heap (instance_of c y.value))) (lending (lends (object_variable object) y)))))))

-- `Py_TYPE(x)->tp_free(x);`: no object or view field holds a reference any more
abbrev pub field_is_empty : Kind × Value → Bool
field_is_empty (k, v) = no_objects (objects_in v)
  where
    no_objects : List Obj → Bool
    no_objects [] = true
    no_objects (o ∷ os) = false

abbrev pub part_is_empty : Part → Bool
part_is_empty p = list_all field_is_empty p.fields

abbrev pub is_empty : Instance → Bool
is_empty i = list_all part_is_empty i.parts

abbrev pub free : State → Variable → Reading → Planned
free c x y =
    need (is_object y.kind) fault.Stuck
    (need_some (instance_of c y.value) fault.BadField (λ i.
    (need_strictly c (may_read c (object_variable x) y) fault.Unlocked
    (need_strictly c (uses c y) fault.Unheld
    (need_strictly c (is_empty i) fault.Unbalanced
    (in_instance y.value (λ k. Does (record nothing { lends = lends (object_variable x) y; space = space.Freed k }))))))))

abbrev pub field_statement : List CFile → State → Frame → FieldPlace → (Reading → Kind → Planned) → Planned
field_statement files c f p more =
    need_some (variable_reading c f p.object) fault.Stuck (λ y. need_some (field_kind files p.class p.field) fault.Stuck (more y))
