-- `return k;` and `return;`: the result goes to the frame that called, or to the outside, with one reference where it is an
-- object; the frame owns nothing else (Python/C API manual, "Reference Counts", "Exception Handling").
use Rattle.c_tree.specs.declared.name.Variable.{Variable}
use Rattle.c_tree.specs.declared.name.Variable.TheVariants as variable
use Rattle.c_tree.specs.declared.item.CHead.TheVariants as head
use Rattle.c_tree.specs.declared.item.CHead.{CHead}
use Rattle.std.specs.Prelude.{zero, Bool, true, false, not, ◌&&◌, ◌||◌, List, [], ◌∷◌, Option, Some, None, pos, negsuc, is_none, if◌then◌else◌, ℕ, option_to_list}
use Rattle.api_model.specs.declared.object.Obj.{Obj}
use Rattle.api_model.specs.declared.object.Obj.TheVariants as obj
use Rattle.api_model.specs.declared.event.Event.{Event}
use Rattle.api_model.specs.declared.event.Event.TheVariants as event
use Rattle.api_model.specs.Objects.{same_obj}
use Rattle.c_tree.specs.declared.value.CValue.{CValue}
use Rattle.c_value.specs.declared.step.FaultKind.TheVariants as fault
use Rattle.c_value.specs.declared.kind.Kind.{Kind}
use Rattle.c_value.specs.declared.kind.Kind.TheVariants as kind
use Rattle.c_value.specs.declared.value.Value.{Value}
use Rattle.c_value.specs.declared.value.Value.TheVariants as value
use Rattle.c_value.specs.declared.value.Reading.{Reading}
use Rattle.c_value.specs.declared.frame.Entered.{Entered}
use Rattle.c_value.specs.declared.frame.Entered.TheVariants as entered
use Rattle.c_value.specs.declared.frame.Doing.{Doing}
use Rattle.c_value.specs.declared.frame.Doing.TheVariants as doing
use Rattle.c_value.specs.Values.{converts, converted, is_set, object_of}
use Rattle.c_ledger.specs.OfNewest.{owned, owned_below, lent}
use Rattle.c_state.specs.State.{instance_at, spots_at}
use Rattle.c_value.specs.declared.change.Planned.{Planned}
use Rattle.c_value.specs.declared.change.Planned.TheVariants.{Fault, Does, Hands}
use Rattle.c_value.specs.declared.change.Handing.{Handing}
use Rattle.c_value.specs.declared.change.Flow.TheVariants as flow
use Rattle.c_value.specs.declared.change.Change.{Change}
use Rattle.c_state.specs.Planned.{need, need_some, need_strictly, nothing}
use Rattle.c_state.specs.Reads.{lends, may_read}
use Rattle.c_state.specs.Stores.{give_to_by, is_tuple, spot_may_store, spot_may_write}
use Rattle.c_state.specs.Calls.{result_kind}
use Rattle.c_state.specs.declared.state.Frame.{Frame}
use Rattle.c_state.specs.declared.state.State.{State}
use Rattle.c_frame.specs.Spots.{spot}

-- ---- failure

abbrev pub is_from_outside : Entered → Bool
is_from_outside entered.FromOutside = true
is_from_outside _ = false

-- whether a function tells by its result that an exception is set: one that gives an object, or was entered from outside
abbrev pub tells_errors : Frame → Kind → Bool
tells_errors f kind.Object = true
tells_errors f k = is_from_outside f.entered

-- the failure values: NULL, and -1
abbrev pub is_failure : Value → Bool
is_failure value.Null = true
is_failure (value.Number (negsuc zero)) = true
is_failure _ = false

abbrev pub success_is_clean : State → Frame → Kind → Value → Bool
success_is_clean c f k v = not (tells_errors f k) || (is_failure v || is_none c.thread.error)

abbrev pub failure_is_set : State → Frame → Kind → Value → Bool
failure_is_set c f k v = not (tells_errors f k) || (not (is_failure v) || not (is_none c.thread.error))

-- ---- what is owned at the return

abbrev pub is_just : List Obj → Option Obj → Bool
is_just [] None = true
is_just (x ∷ []) (Some o) = same_obj x o
is_just _ _ = false

abbrev pub is_gone : State → Obj → Bool
is_gone c (obj.Inst k) = is_none (instance_at c k)
is_gone c o = true

abbrev pub are_gone : State → List Obj → Bool
are_gone c [] = true
are_gone c (o ∷ os) = is_gone c o && are_gone c os

-- dealloc code has freed the instance that was lent to it
abbrev pub has_freed : State → CHead → Bool
has_freed c (head.Dealloc n) = are_gone c (lent c.thread.ledger)
has_freed c h = true

abbrev pub is_balanced : State → Frame → Option Obj → Bool
is_balanced c f result = is_just (owned c.thread.ledger) result && has_freed c f.function.head

abbrev pub same_lock : Bool → Bool → Bool
same_lock true b = b
same_lock false b = not b

-- ---- where the result goes

-- a frame that C didn't call is left: no loan outlives it
abbrev pub leaving : Handing
leaving = record { event = None; clears = false; fails = false }

-- the frame that called runs again, with one reference more where the result is an object
abbrev pub resuming : List Obj → Option Obj → Change
resuming os result = record nothing { flow = flow.Resumes; lends = os; gains = option_to_list result }

abbrev pub to_waiting : State → Frame → Value → List Obj → Option Obj → Doing → Planned
to_waiting c g v os result (doing.Waits x) =
    give_to_by c g.file (owned_below c.thread.ledger) x v (resuming os result)
to_waiting c g v os result _ = Fault fault.Stuck

abbrev pub to_caller : State → List Frame → Value → List Obj → Option Obj → Planned
to_caller c (f ∷ g ∷ gs) v os result = to_waiting c g v os result g.doing
to_caller c _ v os result = Fault fault.Stuck

-- the trace line of a result that is no failure
abbrev pub leave_event : Value → Event
leave_event (value.Object o) = event.Leave o
leave_event (value.Number z) = event.LeaveNum z
leave_event _ = event.LeaveNum (pos 0)

abbrev pub or_foreign : Option Obj → Obj
or_foreign None = obj.Foreign 0
or_foreign (Some o) = o

-- to the outside: a failure hands the exception over
abbrev pub to_outside : State → Value → Handing
to_outside c v =
    if is_failure v
    then record leaving { event = Some (event.LeaveRaise (or_foreign c.thread.error)); clears = true }
    else record leaving { event = Some (leave_event v) }

-- an initialisation has failed where its result is NULL
abbrev pub from_initialisation : Value → Handing → Handing
from_initialisation v h = record h { fails = is_failure v }

abbrev pub hand : State → Entered → Value → List Obj → Planned
hand c entered.FromC v os = to_caller c c.thread.frames v os (object_of v)
hand c entered.FromOutside v os = Hands (to_outside c v)
hand c entered.ForInitialisation v os = Hands (from_initialisation v (to_outside c v))
hand c entered.ForDestruction v os = Hands leaving

-- where the result of a frame that C called goes, if it goes to a place: it may be stored there, and the lock allows it
abbrev pub place_of_caller : List Frame → Option Variable
place_of_caller (f ∷ g ∷ gs) = by_doing g.doing
  where
    by_doing : Doing → Option Variable
    by_doing (doing.Waits x) = x
    by_doing _ = None
place_of_caller _ = None

abbrev pub file_of_caller : List Frame → ℕ
file_of_caller (f ∷ g ∷ gs) = g.file
file_of_caller _ = 0

abbrev pub takes_result : State → Entered → (State → ℕ → Option Variable → Bool) → Bool
takes_result c entered.FromC test = test c (file_of_caller c.thread.frames) (place_of_caller c.thread.frames)
takes_result c _ test = true

abbrev pub may_store_in : State → ℕ → Option Variable → Bool
may_store_in c k (Some (variable.Place p)) = spot_may_store (spot (spots_at c k) p)
may_store_in c k x = true

abbrev pub may_write_in : State → ℕ → Option Variable → Bool
may_write_in c k (Some (variable.Place p)) = spot_may_write c (spot (spots_at c k) p)
may_write_in c k x = true

-- ---- the statements

abbrev pub return_of : State → Frame → Kind → CValue → Reading → Value → Planned
return_of c f k a w v =
    need_strictly c (may_read c a w && (same_lock c.shared.lock f.lock && takes_result c f.entered may_write_in)) fault.Unlocked
    (need (success_is_clean c f k v) fault.ErrorSet
    (need (failure_is_set c f k v) fault.ErrorLost
    (need_strictly c (is_balanced c f (object_of v)) fault.Unbalanced (hand c f.entered v (lends a w)))))

abbrev pub return_kind : State → Frame → CValue → Reading → Kind → Planned
return_kind c f a w k =
    need (converts w.kind k && (not (is_tuple w.value) && takes_result c f.entered may_store_in)) fault.Stuck
    (need (is_set w.value) fault.Undefined (return_of c f k a w (converted k w.value)))

-- `return k;`
abbrev pub return_value : State → Frame → CValue → Reading → Planned
return_value c f a w = need_some (result_kind f.function.head) fault.Stuck (return_kind c f a w)

abbrev pub resumes : Doing → Planned
resumes (doing.Waits None) = Does (resuming [] None)
resumes _ = Fault fault.Stuck

abbrev pub nothing_to_caller : List Frame → Planned
nothing_to_caller (f ∷ g ∷ gs) = resumes g.doing
nothing_to_caller _ = Fault fault.Stuck

abbrev pub hand_nothing : State → Entered → Planned
hand_nothing c entered.FromC = nothing_to_caller c.thread.frames
hand_nothing c _ = Hands leaving

-- `return;`
abbrev pub return_nothing : State → Frame → Planned
return_nothing c f =
    need (is_none (result_kind f.function.head)) fault.Stuck
    (need_strictly c (same_lock c.shared.lock f.lock) fault.Unlocked
    (need_strictly c (is_balanced c f None) fault.Unbalanced (hand_nothing c f.entered)))
