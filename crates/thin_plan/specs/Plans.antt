-- What a statement comes to, from the parts of the state that it reads: its faults in their order, and its effect.
use Rattle.std.specs.Prelude.{ℕ, Bool, true, false, not, ◌&&◌, ◌||◌, List, [], ◌∷◌, ◌++◌, Option, Some, None, is_none, reverse}
use Rattle.thin_state.specs.declared.space.Obj.{Obj}
use Rattle.thin_state.specs.declared.space.Op.{Op}
use Rattle.thin_state.specs.declared.space.Event.TheVariants as event
use Rattle.thin_state.specs.declared.tree.Variable.{Variable}
use Rattle.thin_state.specs.declared.tree.Place.{Place}
use Rattle.thin_state.specs.declared.tree.ApiRow.{ApiRow}
use Rattle.thin_state.specs.declared.tree.ApiRow.TheVariants as row
use Rattle.thin_state.specs.declared.tree.CValue.{CValue}
use Rattle.thin_state.specs.declared.tree.Comparison.{Comparison}
use Rattle.thin_state.specs.declared.tree.Target.{Target}
use Rattle.thin_state.specs.declared.tree.Target.TheVariants as target
use Rattle.thin_state.specs.declared.tree.CHead.{CHead}
use Rattle.thin_state.specs.declared.tree.CFunction.{CFunction}
use Rattle.thin_state.specs.declared.tree.CFile.{CFile}
use Rattle.thin_state.specs.declared.state.FaultKind.{FaultKind}
use Rattle.thin_state.specs.declared.state.FaultKind.TheVariants as fault
use Rattle.thin_state.specs.declared.state.Kind.{Kind}
use Rattle.thin_state.specs.declared.state.Kind.TheVariants as kind
use Rattle.thin_state.specs.declared.state.Value.{Value}
use Rattle.thin_state.specs.declared.state.Value.TheVariants as value
use Rattle.thin_state.specs.declared.state.Reading.{Reading}
use Rattle.thin_state.specs.declared.state.Cell.{Cell}
use Rattle.thin_state.specs.declared.state.Spot.{Spot}
use Rattle.thin_state.specs.declared.state.Entered.{Entered}
use Rattle.thin_state.specs.declared.state.Entered.TheVariants as entered
use Rattle.thin_state.specs.declared.state.Doing.{Doing}
use Rattle.thin_state.specs.declared.state.Doing.TheVariants as doing
use Rattle.thin_state.specs.State.{converts, converted, lookup, spot, has, lose, spots_at}
use Rattle.thin_state.specs.Reads.{items_at, any_module_variable, lends, is_set, all_set, is_null, any_null, passed, fits, receives, parameter_kinds, result_kind, values_of}
use Rattle.thin_state.specs.Statements.{may_store, moved_out, takes, op_of, error_fault, comparable, same_value, by_comparison, owns_just, owns_none, same_lock}
use Rattle.thin_look.specs.declared.parts.Standing.{Standing}
use Rattle.thin_look.specs.declared.parts.Activation.{Activation}
use Rattle.thin_plan.specs.declared.effects.Effect.{Effect}
use Rattle.thin_plan.specs.declared.effects.Effect.TheVariants as effect
use Rattle.thin_look.specs.Views.{function_there, function_at, activated}
use Rattle.thin_look.specs.Lookups.{standing_named}
use Rattle.thin_tables.specs.Lines.{label_line}
use Rattle.thin_look.specs.Readings.{operand_in, operands_in, may_read_with, may_write_with, held_in, all_held_in}
use Rattle.thin_state.specs.declared.tree.CStmt.{CStmt}
use Rattle.thin_state.specs.declared.tree.CStmt.TheVariants as stmt

-- a check, before other checks
abbrev pub checked : Bool → FaultKind → Option FaultKind → Option FaultKind
checked true k rest = rest
checked false k rest = Some k

-- an effect after checks
abbrev pub after : Option FaultKind → Effect → Effect
after None e = e
after (Some k) e = effect.Fault k

-- the loans that operands make, the oldest first
abbrev pub loans_in : List CValue → List Reading → List Obj
loans_in (k ∷ ks) (v ∷ vs) = lends k v ++ loans_in ks vs
loans_in _ _ = []

-- `x = k;`
abbrev pub write_fault : Bool → CValue → Reading → Kind → Option FaultKind
write_fault lock k v to =
    checked (converts v.kind to) fault.Stuck
    (checked (is_set v.value) fault.Undefined
    (checked (may_read_with lock k v) fault.Unlocked None))

abbrev pub write_plan : Bool → Variable → CValue → Reading → Option Cell → Effect
write_plan lock x k v None = effect.Fault fault.Stuck
write_plan lock x k v (Some cell) = after (write_fault lock k v cell.kind) (effect.Write x v.value (lends k v))

abbrev pub unowned : List Obj → Value → Option FaultKind
unowned own (value.Object o) = checked (has own o) fault.Unheld None
unowned own _ = None

abbrev pub store_fault : Bool → List Obj → CValue → Reading → Spot → Option FaultKind
store_fault lock own k v s =
    checked (converts v.kind s.kind) fault.Stuck
    (checked (may_store s) fault.Stuck
    (checked (is_set v.value) fault.Undefined
    (checked (may_read_with lock k v && may_write_with lock s) fault.Unlocked
    (unowned own v.value))))

abbrev pub own_after_store : List Obj → Value → Value → List Obj
own_after_store own old (value.Object o) = moved_out old (lose own o)
own_after_store own old _ = moved_out old own

abbrev pub store_plan : Bool → List Obj → Place → CValue → Reading → Option Spot → Effect
store_plan lock own p k v None = effect.Fault fault.Stuck
store_plan lock own p k v (Some s) =
    after (store_fault lock own k v s) (effect.Store p v.value (own_after_store own s.value v.value) (lends k v))

-- `x = Py..(k, ..);`
abbrev pub row_accepts : ApiRow → List Cell → Option Variable → Bool
row_accepts row.ErrSetString cells x = is_none x
row_accepts _ cells x = receives cells x kind.PyObject

abbrev pub row_fault : List Cell → Option Variable → ApiRow → List Reading → Option FaultKind
row_fault cells x r vs =
    checked (fits (takes r) vs) fault.Stuck
    (checked (not (any_null vs)) fault.Stuck
    (checked (row_accepts r cells x) fault.Stuck
    (checked (all_set vs) fault.Undefined None)))

abbrev pub ask_fault : Bool → Option Obj → List (List Spot) → Activation → ApiRow → List Reading → Option FaultKind
ask_fault lock error places here r vs =
    checked lock fault.Unlocked
    (checked (is_none error) (error_fault r)
    (checked (all_held_in places here (passed vs)) fault.Unheld None))

abbrev pub ask_plan : Bool → Option Obj → List (List Spot) → Activation → Option Variable → ApiRow → List Reading → Option Op → Effect
ask_plan lock error places here x r vs None = effect.Fault fault.Stuck
ask_plan lock error places here x r vs (Some o) = after (ask_fault lock error places here r vs) (effect.Ask o r x (event.Ask o))

abbrev pub row_plan : Bool → Option Obj → List (List Spot) → Activation → Option Variable → ApiRow → List Reading → Effect
row_plan lock error places here x r vs =
    after (row_fault here.variables x r vs) (ask_plan lock error places here x r vs (op_of r vs))

-- `x = cyc_f_M_K(k, ..);`
abbrev pub call_fault : Bool → Activation → Option Variable → List CValue → List Reading → CHead → Option FaultKind
call_fault lock here x ks vs h =
    checked (fits (parameter_kinds h) vs) fault.Stuck
    (checked (receives here.variables x (result_kind h)) fault.Stuck
    (checked (all_set vs) fault.Undefined
    (checked (not (any_module_variable ks vs) || lock) fault.Unlocked None)))

abbrev pub call_held : Bool → List (List Spot) → Activation → Option Variable → List CValue → List Reading → Standing → CFunction → Effect
call_held lock places here x ks vs s fn =
    after (checked (all_held_in places here (passed vs)) fault.Unheld None)
    (effect.Call (activated s.file s.item fn (values_of vs) (passed vs) entered.FromC lock) x (reverse (loans_in ks vs)))

abbrev pub call_of : Bool → List (List Spot) → Activation → Option Variable → List CValue → List Reading → Standing → CFunction → Effect
call_of lock places here x ks vs s fn = after (call_fault lock here x ks vs fn.head) (call_held lock places here x ks vs s fn)

abbrev pub call_there : Bool → List (List Spot) → Activation → Option Variable → List CValue → List Reading → Standing → Option CFunction → Effect
call_there lock places here x ks vs s None = effect.Fault fault.Stuck
call_there lock places here x ks vs s (Some fn) = call_of lock places here x ks vs s fn

abbrev pub call_plan : List CFile → Bool → List (List Spot) → Activation → Option Variable → List CValue → List Reading → Option Standing → Effect
call_plan files lock places here x ks vs None = effect.Fault fault.Stuck
call_plan files lock places here x ks vs (Some s) = call_there lock places here x ks vs s (function_there files s.file s.item)

-- `Py_INCREF(k);` and `Py_DECREF(k);`
abbrev pub counted_fault : Bool → Reading → Option FaultKind
counted_fault lock v =
    checked (converts v.kind kind.PyObject) fault.Stuck
    (checked (not (is_null v.value)) fault.Stuck
    (checked (is_set v.value) fault.Undefined
    (checked lock fault.Unlocked None)))

abbrev pub gain_of : List (List Spot) → List Obj → Activation → CValue → Reading → Value → Effect
gain_of places loans here k v (value.Object o) =
    after (checked (held_in places here o || (has (lends k v) o || has loans o)) fault.Unheld None)
    (effect.Gain (o ∷ here.own) (lends k v))
gain_of places loans here k v _ = effect.Fault fault.Stuck

abbrev pub gain_plan : Bool → List (List Spot) → List Obj → Activation → CValue → Reading → Effect
gain_plan lock places loans here k v = after (counted_fault lock v) (gain_of places loans here k v v.value)

abbrev pub loss_of : List Obj → Value → Effect
loss_of own (value.Object o) = after (checked (has own o) fault.Unheld None) (effect.Lose o)
loss_of own _ = effect.Fault fault.Stuck

abbrev pub loss_plan : Bool → List Obj → Reading → Effect
loss_plan lock own v = after (counted_fault lock v) (loss_of own v.value)

-- `if (k == k) goto L;`
abbrev pub branch_fault : Bool → CValue → Reading → CValue → Reading → Option FaultKind
branch_fault lock a v b w =
    checked (comparable v.kind w.kind) fault.Stuck
    (checked (is_set v.value && is_set w.value) fault.Undefined
    (checked (may_read_with lock a v && may_read_with lock b w) fault.Unlocked None))

abbrev pub taken_line : Bool → ℕ → Option ℕ
taken_line true i = Some i
taken_line false i = None

abbrev pub branch_plan : Bool → CValue → Reading → Comparison → CValue → Reading → Option ℕ → Effect
branch_plan lock a v r b w None = effect.Fault fault.Stuck
branch_plan lock a v r b w (Some i) =
    after (branch_fault lock a v b w)
    (effect.Jump (taken_line (by_comparison r (same_value v.value w.value)) i) (lends b w ++ lends a v))

abbrev pub jump_plan : Option ℕ → Effect
jump_plan None = effect.Fault fault.Stuck
jump_plan (Some i) = effect.Jump (Some i) []

-- `return k;`
abbrev pub return_fault : Bool → Activation → Kind → CValue → Reading → Option FaultKind
return_fault lock here to k v =
    checked (converts v.kind to) fault.Stuck
    (checked (is_set v.value) fault.Undefined
    (checked (may_read_with lock k v && same_lock lock here.lock) fault.Unlocked None))

abbrev pub hand_by : Doing → List Obj → Value → List Obj → List Obj → Effect
hand_by (doing.Waits x) own v refs lent = effect.Hand x v (refs ++ own) lent
hand_by _ own v refs lent = effect.Fault fault.Stuck

abbrev pub hand_plan : Option Activation → Value → List Obj → List Obj → Effect
hand_plan None v refs lent = effect.Fault fault.Stuck
hand_plan (Some g) v refs lent = hand_by g.doing g.own v refs lent

abbrev pub object_plan : Option Activation → Entered → Obj → List Obj → Effect
object_plan caller entered.FromC o lent = hand_plan caller (value.Object o) (o ∷ []) lent
object_plan caller entered.FromOutside o lent = effect.Leave o lent
object_plan caller entered.ForInitialisation o lent = effect.Leave o lent

abbrev pub null_plan : Option Activation → Entered → Obj → List Obj → Effect
null_plan caller entered.FromC e lent = hand_plan caller value.Null [] lent
null_plan caller entered.FromOutside e lent = effect.LeaveRaise e false lent
null_plan caller entered.ForInitialisation e lent = effect.LeaveRaise e true lent

abbrev pub null_with : Option Activation → Activation → Option Obj → List Obj → Effect
null_with caller here None lent = effect.Fault fault.ErrorLost
null_with caller here (Some e) lent =
    after (checked (owns_none here.own) fault.Unbalanced None) (null_plan caller here.entered e lent)

abbrev pub result_plan : Option Obj → Option Activation → Activation → Kind → Value → List Obj → Effect
result_plan error caller here to (value.Object o) lent =
    after (checked (is_none error) fault.ErrorSet (checked (owns_just here.own o) fault.Unbalanced None))
    (object_plan caller here.entered o lent)
result_plan error caller here to value.Null lent = null_with caller here error lent
result_plan error caller here to v lent =
    after (checked (owns_none here.own) fault.Unbalanced None) (hand_plan caller (converted to v) [] lent)

abbrev pub return_plan : Bool → Option Obj → Option Activation → Activation → Kind → CValue → Reading → Effect
return_plan lock error caller here to k v =
    after (return_fault lock here to k v) (result_plan error caller here to v.value (lends k v))

-- what follows an operand that was read
abbrev pub read_then : {A : Type 0} → Option A → (A → Effect) → Effect
read_then None e = effect.Fault fault.Stuck
read_then (Some v) e = e v

-- the parts of the state that a statement reads
pub record Scene : Type 0 where
  pub files : List CFile
  pub places : List (List Spot)
  pub lock : Bool
  pub error : Option Obj
  pub loans : List Obj
  pub here : Activation
  pub caller : Option Activation

abbrev pub function_here : Scene → CFunction
function_here s = function_at s.files s.here.file s.here.item

abbrev pub spots_here : Scene → List Spot
spots_here s = spots_at s.places s.here.file

abbrev pub operand_here : Scene → CValue → Option Reading
operand_here s k = operand_in (items_at s.files s.here.file) (spots_here s) s.here.variables k

abbrev pub operands_here : Scene → List CValue → Option (List Reading)
operands_here s ks = operands_in (items_at s.files s.here.file) (spots_here s) s.here.variables ks

abbrev pub assign_plan : Scene → Target → CValue → Reading → Effect
assign_plan s (target.Variable x) k v = write_plan s.lock x k v (lookup s.here.variables x)
assign_plan s (target.Place p) k v = store_plan s.lock s.here.own p k v (spot (spots_here s) p)

-- what a statement comes to
abbrev pub plan : Scene → CStmt → Effect
plan s (stmt.Assign t k) = read_then (operand_here s k) (assign_plan s t k)
plan s (stmt.Api x r ks) = read_then (operands_here s ks) (row_plan s.lock s.error s.places s.here x r)
plan s (stmt.Call x name ks) = read_then (operands_here s ks) (λ vs. call_plan s.files s.lock s.places s.here x ks vs (standing_named s.files s.here.file name))
plan s (stmt.Incref k) = read_then (operand_here s k) (gain_plan s.lock s.places s.loans s.here k)
plan s (stmt.Decref k) = read_then (operand_here s k) (loss_plan s.lock s.here.own)
plan s (stmt.GotoIf a r b l) =
    read_then (operand_here s a) (λ v. read_then (operand_here s b) (λ w. branch_plan s.lock a v r b w (label_line (function_here s).lines l)))
plan s (stmt.Goto l) = jump_plan (label_line (function_here s).lines l)
plan s (stmt.Return k) = read_then (operand_here s k) (return_plan s.lock s.error s.caller s.here (result_kind (function_here s).head) k)
