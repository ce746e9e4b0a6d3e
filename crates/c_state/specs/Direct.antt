-- Calls of the Python/C API that ask nothing: counts, the exception that is set, the lock, tests, the arguments of an
-- `__init__` (Python/C API manual, "Reference Counting", "Exception Handling", "Thread State and the Global Interpreter Lock").
use Rattle.std.specs.Prelude.{Bool, true, false, not, ◌&&◌, ◌||◌, List, [], ◌∷◌, Option, Some, None, ℤ, pos, negsuc, nat_eq, length, is_none, is_some, slice_get, ◌++◌, option_to_list}
use Rattle.api_model.specs.declared.object.Obj.{Obj}
use Rattle.api_model.specs.declared.object.Obj.TheVariants as obj
use Rattle.api_model.specs.declared.event.Event.TheVariants as event
use Rattle.api_model.specs.declared.rows.ApiRow.{ApiRow}
use Rattle.c_tree.specs.declared.name.Variable.{Variable}
use Rattle.c_tree.specs.declared.statement.Argument.{Argument}
use Rattle.c_tree.specs.declared.item.CFile.{CFile}
use Rattle.c_value.specs.declared.api.Api.{Api}
use Rattle.c_value.specs.declared.api.Api.TheVariants as api
use Rattle.api_model.specs.declared.object.Allocation.{Allocation}
use Rattle.api_model.specs.declared.object.Allocation.TheVariants as allocation
use Rattle.c_value.specs.declared.change.Remembered.{Remembered}
use Rattle.c_value.specs.declared.change.ErrorChange.TheVariants as error
use Rattle.c_value.specs.declared.change.Remembering.TheVariants as remembering
use Rattle.c_value.specs.declared.step.FaultKind.TheVariants as fault
use Rattle.c_value.specs.declared.value.ItemPlace.{ItemPlace}
use Rattle.c_value.specs.declared.value.Value.{Value}
use Rattle.c_value.specs.declared.value.Value.TheVariants as value
use Rattle.c_value.specs.declared.value.Reading.{Reading}
use Rattle.c_value.specs.declared.space.Instance.{Instance}
use Rattle.c_state.specs.Linked.{is_below, item_count}
use Rattle.c_value.specs.Values.{is_set, is_object, all_set, fits}
use Rattle.c_ledger.specs.Ledger.{has}
use Rattle.c_ledger.specs.OfNewest.{owned}
use Rattle.c_state.specs.State.{held, instance_of}
use Rattle.c_value.specs.declared.change.Planned.{Planned}
use Rattle.c_value.specs.declared.change.Planned.TheVariants.{Fault, Does}
use Rattle.c_value.specs.declared.change.Change.{Change}
use Rattle.c_state.specs.Planned.{need, need_some, need_strictly, nothing, lending}
use Rattle.c_state.specs.Reads.{lends_each}
use Rattle.c_state.specs.Stores.{give_to, is_tuple, result_may_store}
use Rattle.c_state.specs.Assignments.{truth}
use Rattle.c_state.specs.Rows.{operands, suit_row, values_by, given_by, receives_row, clean_fault, may_run}
use Rattle.c_state.specs.declared.state.Frame.{Frame}
use Rattle.c_state.specs.declared.state.State.{State}

-- the tests of every such row but those on its objects: its operands, where its result goes, the lock, the exception
abbrev pub suit_direct : State → Frame → Option Variable → Api → ApiRow → List Reading → Bool
suit_direct c f x a r vs =
    suit_row a vs && (receives_row c f x (given_by r.gives a) && result_may_store c f x)

abbrev pub allowed : State → Frame → Option Variable → Api → ApiRow → List Reading → Planned → Planned
allowed c f x a r vs more =
    need (suit_direct c f x a r vs) fault.Stuck
    (need (all_set vs) fault.Undefined
    (need_strictly c (c.shared.lock || not r.lock) fault.Unlocked
    (need (may_run c a r) (clean_fault r) more)))

-- ---- counts

abbrev pub owns : State → Obj → Bool
owns c o = has (owned c.thread.ledger) o

-- `Py_INCREF(k);` of what is held or lent since the last operation
abbrev pub incref : State → List Obj → List Value → Planned
incref c os (value.Object o ∷ []) =
    need_strictly c (held c o || has (c.thread.ledger.loans ++ os) o) fault.Unheld (Does (record nothing { lends = os; gains = o ∷ [] }))
incref c os vs = Fault fault.Stuck

abbrev pub losing : List Obj → Obj → Change
losing os o = record nothing { ends_loans = true; loses = o ∷ [] }

-- `Py_DECREF(k);`
abbrev pub decref : State → List Obj → List Value → Planned
decref c os (value.Object o ∷ []) = need_strictly c (owns c o) fault.Unheld (Does (losing os o))
decref c os vs = Fault fault.Stuck

-- `Py_XDECREF(k);` takes NULL, and does nothing there
abbrev pub xdecref_of : State → List Obj → Value → Planned
xdecref_of c os value.Null = Does (lending os)
xdecref_of c os v = decref c os (v ∷ [])

abbrev pub xdecref : State → Frame → Option Variable → List Obj → List Reading → Planned
xdecref c f x os (v ∷ []) =
    need (is_object v.kind && (not (is_tuple v.value) && is_none x)) fault.Stuck
    (need (is_set v.value) fault.Undefined
    (need_strictly c c.shared.lock fault.Unlocked (xdecref_of c os v.value)))
xdecref c f x os vs = Fault fault.Stuck

-- `PyList_SET_ITEM(list, i, item);` takes over a reference to the item
abbrev pub list_set : State → List Obj → List Value → Planned
list_set c os (value.Object l ∷ value.Number i ∷ value.Object o ∷ []) =
    need_strictly c (held c l && owns c o) fault.Unheld
    (Does (record nothing { event = Some (event.Item l i o); lends = os; loses = o ∷ [] }))
list_set c os vs = Fault fault.Stuck

-- ---- the exception that is set

abbrev pub error_value : Option Obj → Value
error_value None = value.Null
error_value (Some o) = value.Object o

-- `x = PyErr_Occurred();` lends the exception
abbrev pub occurred : State → Frame → Option Variable → Planned
occurred c f x = give_to c f x (error_value c.thread.error) (lending (option_to_list c.thread.error))

-- `x = PyErr_GetRaisedException();` hands it over and clears
abbrev pub get_raised : State → Frame → Option Variable → Planned
get_raised c f x =
    give_to c f x (error_value c.thread.error) (record nothing { gains = option_to_list c.thread.error; error = error.Clears })

-- `PyErr_SetRaisedException(k);` takes over a reference
abbrev pub set_raised : State → List Obj → List Value → Planned
set_raised c os (value.Object o ∷ []) =
    need_strictly c (owns c o) fault.Unheld (Does (record nothing { lends = os; loses = o ∷ []; error = error.Sets o }))
set_raised c os vs = Fault fault.Stuck

-- ---- the lock

-- `x = PyEval_SaveThread();`
abbrev pub save : State → Frame → Option Variable → Planned
save c f x = give_to c f x value.ThreadState (record nothing { event = Some event.Save; lock = Some false })

abbrev pub is_saved : Value → Bool
is_saved value.ThreadState = true
is_saved _ = false

-- `PyEval_RestoreThread(k);` without the lock
abbrev pub restore : State → List Value → Planned
restore c (v ∷ []) =
    need_strictly c (not c.shared.lock && is_saved v) fault.Unlocked (Does (record nothing { event = Some event.Restore; lock = Some true }))
restore c vs = Fault fault.Stuck

-- `x = PyGILState_Ensure();` remembers whether the lock is held, under a number of its own
abbrev pub remembering_now : State → Remembered
remembering_now c = record { number = c.thread.ensured; held = c.shared.lock }

abbrev pub ensured : State → Frame → Option Variable → Planned
ensured c f x =
    give_to c f x (value.LockState c.thread.ensured) (record nothing { lock = Some true; remembered = remembering.Adds (remembering_now c) })

-- `PyGILState_Release(k);` gets the newest state that is remembered
abbrev pub is_newest : List Remembered → Value → Bool
is_newest (r ∷ rs) (value.LockState n) = nat_eq n r.number
is_newest _ _ = false

abbrev pub newest : List Remembered → Option Bool
newest [] = None
newest (r ∷ rs) = Some r.held

abbrev pub release : State → List Value → Planned
release c (v ∷ []) =
    need_strictly c (is_newest c.thread.remembered v) fault.Unlocked
    (Does (record nothing { lock = newest c.thread.remembered; remembered = remembering.Forgets }))
release c vs = Fault fault.Stuck

-- ---- tests, and the arguments of an `__init__`

-- an instance of a class, or of a heap type below it where that is asked
abbrev pub is_of : Allocation → Allocation → Bool
is_of allocation.Heap allocation.Static = false
is_of wanted a = true

abbrev pub is_instance : List CFile → Option Instance → ItemPlace → Allocation → Bool
is_instance files None t a = false
is_instance files (Some i) t a = is_of a i.allocation && is_below files (item_count files) i.class t

-- `x = PyObject_TypeCheck(k, &cyc_ty_M_K);`
abbrev pub type_check : List CFile → State → Frame → Option Variable → List Obj → List Value → Planned
type_check files c f x os (value.Object o ∷ value.TypeObject t a ∷ []) =
    need_strictly c (held c o) fault.Unheld (give_to c f x (truth (is_instance files (instance_of c (value.Object o)) t a)) (lending os))
type_check files c f x os vs = Fault fault.Stuck

abbrev pub count_of : List Obj → Value
count_of os = value.Number (pos (length os))

-- `x = PyTuple_GET_SIZE(k);` and `x = PyTuple_GET_ITEM(k, J);`
abbrev pub tuple_size : State → Frame → Option Variable → List Value → Planned
tuple_size c f x (value.Tuple os ∷ []) = give_to c f x (count_of os) nothing
tuple_size c f x vs = Fault fault.Stuck

abbrev pub item_at : List Obj → ℤ → Option Obj
item_at os (pos n) = slice_get os n
item_at os (negsuc n) = None

abbrev pub tuple_item : State → Frame → Option Variable → List Value → Planned
tuple_item c f x (value.Tuple os ∷ value.Number z ∷ []) =
    need_some (item_at os z) fault.Stuck (λ o. give_to c f x (value.Object o) (lending (o ∷ [])))
tuple_item c f x vs = Fault fault.Stuck

-- whether the first operand is such arguments, and an item is within the count, as far as they are set
abbrev pub is_tuple_or_unset : Value → Bool
is_tuple_or_unset v = is_tuple v || not (is_set v)

abbrev pub has_item : Value → Value → Bool
has_item (value.Tuple os) (value.Number z) = is_some (item_at os z)
has_item v w = true

abbrev pub suit_tuple : List Value → Bool
suit_tuple (v ∷ []) = is_tuple_or_unset v
suit_tuple (v ∷ w ∷ []) = is_tuple_or_unset v && has_item v w
suit_tuple vs = false

-- the two rows that read such arguments take nothing else
abbrev pub tuple_row : State → Frame → Option Variable → Api → ApiRow → List Reading → Planned → Planned
tuple_row c f x a r vs more =
    need (fits (operands a vs) vs && (suit_tuple (values_by a vs) && (receives_row c f x (given_by r.gives a) && result_may_store c f x))) fault.Stuck
    (need (all_set vs) fault.Undefined
    (need_strictly c c.shared.lock fault.Unlocked
    (need (may_run c a r) (clean_fault r) more)))

-- `PyMemoryView_GET_BUFFER(k);` by itself gives what no variable holds
abbrev pub get_buffer : State → List Obj → List Value → Planned
get_buffer c os (value.Object (obj.View k) ∷ []) = need_strictly c (held c (obj.View k)) fault.Unheld (Does (lending os))
get_buffer c os vs = Fault fault.Stuck

abbrev pub is_view_or_unset : Value → Bool
is_view_or_unset value.Unset = true
is_view_or_unset (value.Object (obj.View k)) = true
is_view_or_unset _ = false

-- what the last two rows of the table need beside the types: a memory view, and nowhere to send what no variable holds;
-- `PyType_HasFeature` stands in a form of its own
abbrev pub suit_buffer : Api → Option Variable → List Reading → Bool
suit_buffer api.GetBuffer None (v ∷ []) = is_view_or_unset v.value
suit_buffer api.GetBuffer x vs = false
suit_buffer api.HasFeature x vs = false
suit_buffer a x vs = true

-- ---- the rows

abbrev pub by_api : List CFile → State → Frame → Option Variable → Api → List Obj → List Value → Planned
by_api files c f x api.Incref os vs = incref c os vs
by_api files c f x api.Decref os vs = decref c os vs
by_api files c f x api.ListSetItem os vs = list_set c os vs
by_api files c f x api.Occurred os vs = occurred c f x
by_api files c f x api.GetRaised os vs = get_raised c f x
by_api files c f x api.SetRaised os vs = set_raised c os vs
by_api files c f x api.SaveThread os vs = save c f x
by_api files c f x api.RestoreThread os vs = restore c vs
by_api files c f x api.GilEnsure os vs = ensured c f x
by_api files c f x api.GilRelease os vs = release c vs
by_api files c f x api.TypeCheck os vs = type_check files c f x os vs
by_api files c f x api.GetBuffer os vs = get_buffer c os vs
by_api files c f x _ os vs = Fault fault.Stuck

-- `x = Py..(k, ..);` where nothing is asked
abbrev pub direct : List CFile → State → Frame → Option Variable → Api → ApiRow → List Argument → List Reading → Planned
direct files c f x api.Xdecref r ks vs = xdecref c f x (lends_each ks vs) vs
direct files c f x api.TupleSize r ks vs = tuple_row c f x api.TupleSize r vs (tuple_size c f x (values_by api.TupleSize vs))
direct files c f x api.TupleItem r ks vs = tuple_row c f x api.TupleItem r vs (tuple_item c f x (values_by api.TupleItem vs))
direct files c f x a r ks vs =
    need (suit_buffer a x vs) fault.Stuck (allowed c f x a r vs (by_api files c f x a (lends_each ks vs) (values_by a vs)))
