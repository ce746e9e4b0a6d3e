-- The parts of a `cyc_view`, in a variable or in a field. `mv` in a field or a module variable is a reference that it holds.
-- The project's own.
use Rattle.std.specs.Prelude.{ℕ, zero, suc, Bool, true, false, not, ◌&&◌, ◌||◌, List, [], Option, Some, None, ℤ, pos, ◌+ℤ◌, is_none, if◌then◌else◌, ◌++◌}
use Rattle.cy_num.specs.declared.types.CNum.TheVariants as number
use Rattle.cy_num.specs.Wrapping.{wrap}
use Rattle.api_model.specs.declared.object.Obj.{Obj}
use Rattle.api_model.specs.declared.object.Obj.TheVariants as obj
use Rattle.c_tree.specs.declared.name.Variable.{Variable}
use Rattle.c_tree.specs.declared.name.Variable.TheVariants as variable
use Rattle.c_tree.specs.declared.value.CValue.{CValue}
use Rattle.c_tree.specs.declared.statement.FieldPlace.{FieldPlace}
use Rattle.c_tree.specs.declared.statement.ViewPlace.{ViewPlace}
use Rattle.c_tree.specs.declared.statement.ViewPlace.TheVariants as where_it_is
use Rattle.c_tree.specs.declared.statement.Extent.{Extent}
use Rattle.c_tree.specs.declared.item.CFile.{CFile}
use Rattle.c_value.specs.declared.step.FaultKind.TheVariants as fault
use Rattle.c_value.specs.declared.kind.Kind.{Kind}
use Rattle.c_value.specs.declared.kind.Kind.TheVariants as kind
use Rattle.c_value.specs.declared.value.Memory.{Memory}
use Rattle.c_value.specs.declared.value.Buffer.{Buffer}
use Rattle.c_value.specs.declared.value.Buffer.TheVariants as buffer
use Rattle.c_value.specs.declared.value.ViewValue.{ViewValue}
use Rattle.c_value.specs.declared.value.Value.{Value}
use Rattle.c_value.specs.declared.value.Value.TheVariants as value
use Rattle.c_value.specs.declared.value.Reading.{Reading}
use Rattle.c_value.specs.Values.{is_buffer_set, is_memory_set, size, is_number, is_object, is_view, is_set, unset_view, objects_in, memory_value, as_memory, extents_at, with_extent, extents_of, with_extents}
use Rattle.c_ledger.specs.OfNewest.{owned}
use Rattle.c_value.specs.declared.change.Planned.{Planned}
use Rattle.c_value.specs.declared.change.Planned.TheVariants.{Fault, Does}
use Rattle.c_value.specs.declared.change.Change.{Change}
use Rattle.c_state.specs.Planned.{need, need_some, need_strictly, lending}
use Rattle.c_value.specs.declared.change.SpaceChange.TheVariants as space
use Rattle.c_state.specs.Reads.{variable_reading, lends, may_read}
use Rattle.c_state.specs.Stores.{give, is_tuple, may_store_to, may_write_to, owns_moved, field_kind, field_value}
use Rattle.c_state.specs.Fields.{object_variable, uses}
use Rattle.c_state.specs.Buffers.{goes_to, told_by}
use Rattle.c_state.specs.declared.state.Frame.{Frame}
use Rattle.c_state.specs.declared.state.State.{State}

-- ---- where a view is

abbrev pub is_view_reading : Option Reading → Bool
is_view_reading None = false
is_view_reading (Some v) = is_view v.kind

abbrev pub is_object_reading : Option Reading → Bool
is_object_reading None = false
is_object_reading (Some v) = is_object v.kind

abbrev pub is_view_kind : Option Kind → Bool
is_view_kind None = false
is_view_kind (Some k) = is_view k

-- a constant place is stored into once
abbrev pub may_store_at : State → Frame → ViewPlace → Bool
may_store_at c f (where_it_is.Variable x) = may_store_to c f x
may_store_at c f (where_it_is.Field p) = true

-- whether it is a view by its type
abbrev pub is_view_place : List CFile → State → Frame → ViewPlace → Bool
is_view_place files c f (where_it_is.Variable x) = is_view_reading (variable_reading c f x)
is_view_place files c f (where_it_is.Field p) =
    is_object_reading (variable_reading c f p.object) && is_view_kind (field_kind files p.class p.field)

abbrev pub value_read : Option Reading → Value
value_read None = value.Unset
value_read (Some v) = v.value

abbrev pub field_here : State → Frame → FieldPlace → Option Value
field_here c f p = field_value c (value_read (variable_reading c f p.object)) p.class p.field

-- whether a field's instance has it
abbrev pub is_there : State → Frame → ViewPlace → Bool
is_there c f (where_it_is.Variable x) = true
is_there c f (where_it_is.Field p) = not (is_none (field_here c f p))

abbrev pub reads_openly : State → Variable → Option Reading → Bool
reads_openly c x None = true
reads_openly c x (Some v) = may_read c (object_variable x) v

-- whether the lock allows to read and store its parts
abbrev pub is_open : State → Frame → ViewPlace → Bool
is_open c f (where_it_is.Variable x) = reads_openly c x (variable_reading c f x)
is_open c f (where_it_is.Field p) = c.shared.lock

abbrev pub uses_read : State → Option Reading → Bool
uses_read c None = true
uses_read c (Some y) = uses c y

-- whether a field's instance is held
abbrev pub is_held : State → Frame → ViewPlace → Bool
is_held c f (where_it_is.Variable x) = true
is_held c f (where_it_is.Field p) = uses_read c (variable_reading c f p.object)

abbrev pub view_in : Value → ViewValue
view_in (value.View v) = v
view_in _ = unset_view

abbrev pub or_unset : Option Value → Value
or_unset None = value.Unset
or_unset (Some v) = v

abbrev pub view_at : State → Frame → ViewPlace → ViewValue
view_at c f (where_it_is.Variable x) = view_in (value_read (variable_reading c f x))
view_at c f (where_it_is.Field p) = view_in (or_unset (field_here c f p))

-- whether `mv` there is a reference that a field or a module variable holds
abbrev pub is_shared : ViewPlace → Bool
is_shared (where_it_is.Variable (variable.Place p)) = true
is_shared (where_it_is.Variable x) = false
is_shared (where_it_is.Field p) = true

-- the loans of the instance's variable
abbrev pub lends_read : Variable → Option Reading → List Obj
lends_read x None = []
lends_read x (Some v) = lends (object_variable x) v

abbrev pub lends_at : State → Frame → ViewPlace → List Obj
lends_at c f (where_it_is.Variable x) = []
lends_at c f (where_it_is.Field p) = lends_read p.object (variable_reading c f p.object)

-- the loan that reading a part makes, where `mv` is a reference that is held there
abbrev pub reads_at : State → Frame → ViewPlace → List Obj
reads_at c f p = if is_shared p then objects_in (memory_value (view_at c f p).memory) else []

-- a view goes there, beside other changes
abbrev pub view_field : Value → FieldPlace → ViewValue → Change → Planned
view_field (value.Object (obj.Inst k)) p v d = Does (record d { space = space.Field k p.class p.field (value.View v) })
view_field y p v d = Fault fault.BadField

abbrev pub set_view : State → Frame → ViewPlace → ViewValue → Change → Planned
set_view c f (where_it_is.Variable x) v d = Does (record d { gives = Some (x, value.View v) })
set_view c f (where_it_is.Field p) v d = view_field (value_read (variable_reading c f p.object)) p v d

-- ---- `buf`

abbrev pub with_buffer : Buffer → ViewValue → ViewValue
with_buffer b v = record v { buffer = b }

abbrev pub buffer_of : Value → Option Buffer
buffer_of (value.Object (obj.View k)) = Some (buffer.At k (pos 0))
buffer_of _ = None

-- `v.buf = (char *)PyMemoryView_GET_BUFFER(y)->buf;`
abbrev pub take_buffer : List CFile → State → Frame → ViewPlace → Variable → Reading → Planned
take_buffer files c f p object y =
    told_by c y (is_view_place files c f p && may_store_at c f p) (is_there c f p) (buffer_of y.value) (λ b.
    need_strictly c (is_held c f p) fault.Unheld
    (set_view c f p (with_buffer b (view_at c f p)) (lending (lends (object_variable object) y ++ lends_at c f p))))

-- `v.buf = w.buf;`
abbrev pub copy_buffer : List CFile → State → Frame → ViewPlace → ViewPlace → Planned
copy_buffer files c f p q =
    need (is_view_place files c f p && (may_store_at c f p && is_view_place files c f q)) fault.Stuck
    (need (is_there c f p && is_there c f q) fault.BadField
    (need (is_buffer_set (view_at c f q).buffer) fault.Undefined
    (need_strictly c (is_open c f p && is_open c f q) fault.Unlocked
    (need_strictly c (is_held c f p && is_held c f q) fault.Unheld
    (set_view c f p (with_buffer (view_at c f q).buffer (view_at c f p)) (lending (lends_at c f q ++ (reads_at c f q ++ lends_at c f p))))))))

abbrev pub moved_by : Buffer → Value → Option Buffer
moved_by (buffer.At k at) (value.Number z) = Some (buffer.At k (at +ℤ z))
moved_by _ _ = None

-- `v.buf = v.buf + k;`, which is undefined at NULL (ISO/IEC 9899:2011 6.5.6)
abbrev pub move_buffer : List CFile → State → Frame → ViewPlace → CValue → Reading → Planned
move_buffer files c f p k v =
    need (is_view_place files c f p && (may_store_at c f p && is_number v.kind)) fault.Stuck
    (need (is_there c f p) fault.BadField
    (need_some (moved_by (view_at c f p).buffer v.value) fault.Undefined (λ b.
    (need_strictly c (is_open c f p && may_read c k v) fault.Unlocked
    (need_strictly c (is_held c f p) fault.Unheld
    (set_view c f p (with_buffer b (view_at c f p)) (lending (lends_at c f p ++ reads_at c f p))))))))

-- ---- `mv`

abbrev pub with_memory : Memory → ViewValue → ViewValue
with_memory m v = record v { memory = m }

abbrev pub owns_stored : State → ViewPlace → Value → Bool
owns_stored c p v = not (is_shared p) || owns_moved (owned c.thread.ledger) v

-- where it is a reference that is held, one moves in and one comes back
abbrev pub memory_moved : State → Frame → ViewPlace → Value → Change → Change
memory_moved c f p v d =
    if is_shared p then record d { loses = objects_in v; gets_back = objects_in (memory_value (view_at c f p).memory) } else d

abbrev pub store_memory_of : State → Frame → ViewPlace → CValue → Reading → Option Memory → Planned
store_memory_of c f p k v None = Fault fault.Stuck
store_memory_of c f p k v (Some m) =
    set_view c f p (with_memory m (view_at c f p)) (memory_moved c f p v.value (lending (lends k v ++ lends_at c f p)))

-- `v.mv = k;`
abbrev pub store_memory : List CFile → State → Frame → ViewPlace → CValue → Reading → Planned
store_memory files c f p k v =
    need (is_view_place files c f p && (may_store_at c f p && (is_object v.kind && not (is_tuple v.value)))) fault.Stuck
    (need (is_there c f p) fault.BadField
    (need (is_set v.value) fault.Undefined
    (need_strictly c (is_open c f p && may_read c k v) fault.Unlocked
    (need_strictly c (is_held c f p && owns_stored c p v.value) fault.Unheld
    (store_memory_of c f p k v (as_memory v.value))))))

-- `x = v.mv;`
abbrev pub load_memory : List CFile → State → Frame → Variable → ViewPlace → Planned
load_memory files c f x p =
    need (is_view_place files c f p && goes_to c f x kind.Object) fault.Stuck
    (need (is_there c f p) fault.BadField
    (need (is_memory_set (view_at c f p).memory) fault.Undefined
    (need_strictly c (is_open c f p && may_write_to c f x) fault.Unlocked
    (need_strictly c (is_held c f p) fault.Unheld
    (give c f x (memory_value (view_at c f p).memory) (lending (lends_at c f p ++ reads_at c f p)))))))

-- ---- `n[J]` and `s[J]`

abbrev pub is_extent : ℕ → Bool
is_extent zero = true
is_extent (suc zero) = true
is_extent (suc (suc zero)) = true
is_extent _ = false

abbrev pub stored_number : Value → Option ℤ
stored_number (value.Number z) = Some (wrap number.I64 z)
stored_number _ = None

abbrev pub with_number_at : Extent → ℕ → ℤ → ViewValue → ViewValue
with_number_at e j z v = with_extents v e (with_extent (extents_of v e) j z)

-- `v.n[J] = k;`
abbrev pub store_extent : List CFile → State → Frame → ViewPlace → Extent → ℕ → CValue → Reading → Planned
store_extent files c f p e j k v =
    need (is_view_place files c f p && (may_store_at c f p && (is_extent j && is_number v.kind))) fault.Stuck
    (need (is_there c f p) fault.BadField
    (need_some (stored_number v.value) fault.Undefined (λ z.
    (need_strictly c (is_open c f p && may_read c k v) fault.Unlocked
    (need_strictly c (is_held c f p) fault.Unheld
    (set_view c f p (with_number_at e j z (view_at c f p)) (lending (lends_at c f p))))))))

abbrev pub number_at : Option (Option ℤ) → Option ℤ
number_at None = None
number_at (Some z) = z

-- `x = v.n[J];`
abbrev pub load_extent : List CFile → State → Frame → Variable → ViewPlace → Extent → ℕ → Planned
load_extent files c f x p e j =
    need (is_view_place files c f p && (is_extent j && goes_to c f x size)) fault.Stuck
    (need (is_there c f p) fault.BadField
    (need_some (number_at (extents_at (extents_of (view_at c f p) e) j)) fault.Undefined (λ z.
    (need_strictly c (is_open c f p && may_write_to c f x) fault.Unlocked
    (need_strictly c (is_held c f p) fault.Unheld
    (give c f x (value.Number z) (lending (lends_at c f p ++ reads_at c f p))))))))
