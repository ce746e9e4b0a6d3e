-- What one statement does: its faults in their order, and then its effect.
use Rattle.std.specs.Prelude.{ℕ, Bool, true, false, not, ◌&&◌, ◌||◌, List, [], ◌∷◌, ◌++◌, Option, Some, None, ℤ, pos, negsuc, nat_eq, is_none, slice_get}
use Rattle.thin_state.specs.declared.space.BinaryOp.{BinaryOp}
use Rattle.thin_state.specs.declared.space.Obj.{Obj}
use Rattle.thin_state.specs.declared.space.Entry.{Entry}
use Rattle.thin_state.specs.declared.space.Op.{Op}
use Rattle.thin_state.specs.declared.space.Op.TheVariants as op
use Rattle.thin_state.specs.declared.space.Event.{Event}
use Rattle.thin_state.specs.declared.space.Event.TheVariants as event
use Rattle.thin_state.specs.declared.tree.Variable.{Variable}
use Rattle.thin_state.specs.declared.tree.Place.{Place}
use Rattle.thin_state.specs.declared.tree.FunctionName.{FunctionName}
use Rattle.thin_state.specs.declared.tree.ApiRow.{ApiRow}
use Rattle.thin_state.specs.declared.tree.ApiRow.TheVariants as row
use Rattle.thin_state.specs.declared.tree.CValue.{CValue}
use Rattle.thin_state.specs.declared.tree.Comparison.{Comparison}
use Rattle.thin_state.specs.declared.tree.Comparison.TheVariants as comparison
use Rattle.thin_state.specs.declared.tree.Target.{Target}
use Rattle.thin_state.specs.declared.tree.Target.TheVariants as target
use Rattle.thin_state.specs.declared.tree.CStmt.{CStmt}
use Rattle.thin_state.specs.declared.tree.CStmt.TheVariants as stmt
use Rattle.thin_state.specs.declared.tree.Line.{Line}
use Rattle.thin_state.specs.declared.tree.Line.TheVariants as line
use Rattle.thin_state.specs.declared.tree.CFile.{CFile}
use Rattle.thin_state.specs.declared.state.FaultKind.{FaultKind}
use Rattle.thin_state.specs.declared.state.FaultKind.TheVariants as fault
use Rattle.thin_state.specs.declared.state.Kind.{Kind}
use Rattle.thin_state.specs.declared.state.Kind.TheVariants as kind
use Rattle.thin_state.specs.declared.state.Value.{Value}
use Rattle.thin_state.specs.declared.state.Value.TheVariants as value
use Rattle.thin_state.specs.declared.state.Reading.{Reading}
use Rattle.thin_state.specs.declared.state.Cell.{Cell}
use Rattle.thin_state.specs.declared.state.Spot.{Spot}
use Rattle.thin_state.specs.declared.state.Entered.{Entered}
use Rattle.thin_state.specs.declared.state.Entered.TheVariants as entered
use Rattle.thin_state.specs.declared.state.Doing.{Doing}
use Rattle.thin_state.specs.declared.state.Doing.TheVariants as doing
use Rattle.thin_state.specs.declared.state.Course.TheVariants as course
use Rattle.thin_state.specs.Objects.{same_obj}
use Rattle.thin_state.specs.World.{say, with_script}
use Rattle.thin_state.specs.State.{is_constant, is_module_variable, is_number, is_object, converts, converted, lookup, put, put_to, spot, put_spot, spots_at, set_spots, Frame, CState, has, lose, held, all_held}
use Rattle.thin_state.specs.Reads.{after_label, read, read_each, reads_module_variable, any_module_variable, lends, loans_after, is_set, all_set, is_null, any_null, passed, fits, receives, Found, FoundFunction, NotFound, function_named, parameter_kinds, result_kind, values_of, frame_of}

-- what a move comes to: the next state, the end of the run, or a fault
pub data Moved : Type 0 where
  Went : CState → Moved
  Over : Moved
  Faulted : FaultKind → Moved

-- the fault of a move: the first whose test isn't passed
abbrev pub fault_of : Moved → Option FaultKind
fault_of (Faulted k) = Some k
fault_of _ = None

-- a test, the fault where it isn't passed, and what follows
abbrev pub need : Bool → FaultKind → Moved → Moved
need true k m = m
need false k m = Faulted k

abbrev pub need_some : {A : Type 0} → Option A → FaultKind → (A → Moved) → Moved
need_some (Some x) k m = m x
need_some None k m = Faulted k

-- the state with a frame on top, with other frames, and with one event or other entries
abbrev pub on : CState → Frame → List Frame → CState
on c f fs = record c { frames = f ∷ fs }

abbrev pub off : CState → List Frame → CState
off c fs = record c { frames = fs }

abbrev pub tell : Event → CState → CState
tell e c = record c { world = say e c.world }

abbrev pub script_to : List Entry → CState → CState
script_to es c = record c { world = with_script es c.world }

abbrev pub lend : List Obj → CState → CState
lend os c = record c { loans = os ++ c.loans }

-- whether an operand may be read as far as the lock goes
abbrev pub may_read : CState → CValue → Reading → Bool
may_read c k v = not (reads_module_variable k v) || c.lock

-- `x = k;` at a variable
abbrev pub assign_variable : CState → Frame → List Frame → Variable → CValue → Reading → Cell → Moved
assign_variable c f fs x k v cell =
    need (converts v.kind cell.kind) fault.Stuck
    (need (is_set v.value) fault.Undefined
    (need (may_read c k v) fault.Unlocked
    (Went (on (lend (lends k v) c) (record f { variables = put f.variables x v.value }) fs))))

-- `p = k;` at a place: the value moves in, and what was there moves out
abbrev pub may_store : Spot → Bool
may_store s = not (is_constant s.place) || not s.stored

abbrev pub may_write : CState → Spot → Bool
may_write c s = not (is_module_variable s.place s.kind) || c.lock

abbrev pub moved_out : Value → List Obj → List Obj
moved_out (value.Object o) own = o ∷ own
moved_out _ own = own

abbrev pub store : CState → ℕ → Place → Value → CState
store c k p v = record c { places = set_spots c.places k (put_spot (spots_at c.places k) p v) }

abbrev pub store_value : CState → Frame → List Frame → Place → Value → Value → Moved
store_value c f fs p old (value.Object o) =
    need (has f.own o) fault.Unheld
    (Went (on (store c f.file p (value.Object o)) (record f { own = moved_out old (lose f.own o) }) fs))
store_value c f fs p old v = Went (on (store c f.file p v) (record f { own = moved_out old f.own }) fs)

abbrev pub assign_place : CState → Frame → List Frame → Place → CValue → Reading → Spot → Moved
assign_place c f fs p k v s =
    need (converts v.kind s.kind) fault.Stuck
    (need (may_store s) fault.Stuck
    (need (is_set v.value) fault.Undefined
    (need (may_read c k v && may_write c s) fault.Unlocked
    (store_value (lend (lends k v) c) f fs p s.value v.value))))

abbrev pub assign : CState → Frame → List Frame → Target → CValue → Reading → Moved
assign c f fs (target.Variable x) k v = need_some (lookup f.variables x) fault.Stuck (assign_variable c f fs x k v)
assign c f fs (target.Place p) k v = need_some (spot (spots_at c.places f.file) p) fault.Stuck (assign_place c f fs p k v)

-- the operands that a row takes
abbrev pub takes : ApiRow → List Kind
takes (row.Number b) = kind.PyObject ∷ kind.PyObject ∷ []
takes row.ModuleCreate = kind.Definition ∷ []
takes row.ModuleGetDict = kind.PyObject ∷ []
takes row.ImportModule = kind.Text ∷ []
takes row.ErrSetString = kind.PyObject ∷ kind.Text ∷ []

-- whether a row's result, if it has one, can go where the statement sends it
abbrev pub row_result : ApiRow → Frame → Option Variable → Bool
row_result row.ErrSetString f x = is_none x
row_result _ f x = receives f.variables x kind.PyObject

-- the operation that a row asks
abbrev pub object_of : Option Reading → Option Obj
object_of None = None
object_of (Some v) = by_value v.value
  where
    by_value : Value → Option Obj
    by_value (value.Object o) = Some o
    by_value _ = None

abbrev pub text_of : Option Reading → Option (List ℕ)
text_of None = None
text_of (Some v) = by_value v.value
  where
    by_value : Value → Option (List ℕ)
    by_value (value.Text t) = Some t
    by_value _ = None

abbrev pub definition_of : Option Reading → Option (List ℕ)
definition_of None = None
definition_of (Some v) = by_value v.value
  where
    by_value : Value → Option (List ℕ)
    by_value (value.Definition n) = Some n
    by_value _ = None

abbrev pub binary_op : BinaryOp → Option Obj → Option Obj → Option Op
binary_op b (Some x) (Some y) = Some (op.Binary b x y)
binary_op b _ _ = None

abbrev pub module_op : Option (List ℕ) → Option Op
module_op (Some n) = Some (op.Module n)
module_op None = None

abbrev pub dict_op : Option Obj → Option Op
dict_op (Some x) = Some (op.Dict x)
dict_op None = None

abbrev pub import_op : Option (List ℕ) → Option Op
import_op (Some n) = Some (op.Import n)
import_op None = None

abbrev pub fail_op : Option Obj → Option (List ℕ) → Option Op
fail_op (Some x) (Some t) = Some (op.Fail x t)
fail_op _ _ = None

abbrev pub op_of : ApiRow → List Reading → Option Op
op_of (row.Number b) vs = binary_op b (object_of (slice_get vs 0)) (object_of (slice_get vs 1))
op_of row.ModuleCreate vs = module_op (definition_of (slice_get vs 0))
op_of row.ModuleGetDict vs = dict_op (object_of (slice_get vs 0))
op_of row.ImportModule vs = import_op (text_of (slice_get vs 0))
op_of row.ErrSetString vs = fail_op (object_of (slice_get vs 0)) (text_of (slice_get vs 1))

-- the error row may be called with an exception set, but sets none over another; every other row needs that none is set
abbrev pub error_fault : ApiRow → FaultKind
error_fault row.ErrSetString = fault.ErrorLost
error_fault _ = fault.ErrorSet

abbrev pub asking : CState → Frame → List Frame → Option Variable → ApiRow → Op → CState
asking c f fs x r o = tell (event.Ask o) (on (record c { loans = [] }) (record f { doing = doing.Asks o r x }) fs)

abbrev pub ask : CState → Frame → List Frame → Option Variable → ApiRow → List Reading → Op → Moved
ask c f fs x r vs o =
    need c.lock fault.Unlocked
    (need (is_none c.error) (error_fault r)
    (need (all_held c f (passed vs)) fault.Unheld
    (Went (asking c f fs x r o))))

-- `x = Py..(k, ..);`
abbrev pub api : CState → Frame → List Frame → Option Variable → ApiRow → List Reading → Moved
api c f fs x r vs =
    need (fits (takes r) vs) fault.Stuck
    (need (not (any_null vs)) fault.Stuck
    (need (row_result r f x) fault.Stuck
    (need (all_set vs) fault.Undefined
    (need_some (op_of r vs) fault.Stuck (ask c f fs x r vs)))))

-- `x = cyc_f_M_K(k, ..);`
abbrev pub call_found : CState → Frame → List Frame → Option Variable → List CValue → List Reading → Found → Moved
call_found c f fs x ks vs NotFound = Faulted fault.Stuck
call_found c f fs x ks vs (FoundFunction k fn) =
    need (fits (parameter_kinds fn.head) vs) fault.Stuck
    (need (receives f.variables x (result_kind fn.head)) fault.Stuck
    (need (all_set vs) fault.Undefined
    (need (not (any_module_variable ks vs) || c.lock) fault.Unlocked
    (need (all_held c f (passed vs)) fault.Unheld
    (Went (on (record c { loans = loans_after ks vs c.loans }) (frame_of k fn (values_of vs) (passed vs) entered.FromC c.lock) (record f { doing = doing.Waits x } ∷ fs)))))))

abbrev pub call : List CFile → CState → Frame → List Frame → Option Variable → FunctionName → List CValue → List Reading → Moved
call files c f fs x name ks vs = call_found c f fs x ks vs (function_named files f.file name)

-- `Py_INCREF(k);` and `Py_DECREF(k);`
abbrev pub owned_more : CState → Frame → List Frame → Value → Moved
owned_more c f fs (value.Object o) = need (held c f o || has c.loans o) fault.Unheld (Went (on c (record f { own = o ∷ f.own }) fs))
owned_more c f fs v = Faulted fault.Stuck

abbrev pub owned_less : CState → Frame → List Frame → Value → Moved
owned_less c f fs (value.Object o) = need (has f.own o) fault.Unheld (Went (on (record c { loans = [] }) (record f { own = lose f.own o }) fs))
owned_less c f fs v = Faulted fault.Stuck

-- an operand that must be an object
abbrev pub counted : CState → Reading → Moved → Moved
counted c v m =
    need (converts v.kind kind.PyObject) fault.Stuck
    (need (not (is_null v.value)) fault.Stuck
    (need (is_set v.value) fault.Undefined
    (need c.lock fault.Unlocked m)))

abbrev pub incref : CState → Frame → List Frame → CValue → Reading → Moved
incref c f fs k v = counted c v (owned_more (lend (lends k v) c) f fs v.value)

abbrev pub decref : CState → Frame → List Frame → Reading → Moved
decref c f fs v = counted c v (owned_less c f fs v.value)

-- `==` and `!=` of objects by identity, of NULL, and of numbers
abbrev pub comparable : Kind → Kind → Bool
comparable a b = (is_object a && is_object b) || (is_number a && is_number b)

abbrev pub same_int : ℤ → ℤ → Bool
same_int (pos a) (pos b) = nat_eq a b
same_int (negsuc a) (negsuc b) = nat_eq a b
same_int _ _ = false

abbrev pub same_value : Value → Value → Bool
same_value (value.Object x) (value.Object y) = same_obj x y
same_value (value.Number a) (value.Number b) = same_int a b
same_value value.Null value.Null = true
same_value _ _ = false

abbrev pub by_comparison : Comparison → Bool → Bool
by_comparison comparison.Equal b = b
by_comparison comparison.NotEqual b = not b

abbrev pub branch : CState → Frame → List Frame → List Line → Bool → Moved
branch c f fs ls true = Went (on c (record f { code = ls }) fs)
branch c f fs ls false = Went (on c f fs)

-- `if (k == k) goto L;`
abbrev pub goto_if : CState → Frame → List Frame → CValue → Reading → Comparison → CValue → Reading → List Line → Moved
goto_if c f fs a v r b w ls =
    need (comparable v.kind w.kind) fault.Stuck
    (need (is_set v.value && is_set w.value) fault.Undefined
    (need (may_read c a v && may_read c b w) fault.Unlocked
    (branch (lend (lends b w) (lend (lends a v) c)) f fs ls (by_comparison r (same_value v.value w.value)))))

-- `return k;`: the result goes to the frame that called, or to the outside
abbrev pub to_waiting : CState → Frame → List Frame → Value → List Obj → Doing → Moved
to_waiting c g gs v refs (doing.Waits x) =
    Went (on c (record g { doing = doing.Runs; own = refs ++ g.own; variables = put_to g.variables x v }) gs)
to_waiting c g gs v refs _ = Faulted fault.Stuck

abbrev pub to_caller : CState → List Frame → Value → List Obj → Moved
to_caller c [] v refs = Faulted fault.Stuck
to_caller c (g ∷ gs) v refs = to_waiting c g gs v refs g.doing

abbrev pub hand_object : CState → Entered → List Frame → Obj → Moved
hand_object c entered.FromC fs o = to_caller c fs (value.Object o) (o ∷ [])
hand_object c entered.FromOutside fs o = Went (tell (event.Leave o) (off c fs))
hand_object c entered.ForInitialisation fs o = Went (tell (event.Leave o) (off c fs))

abbrev pub hand_null : CState → Entered → List Frame → Obj → Moved
hand_null c entered.FromC fs e = to_caller c fs value.Null []
hand_null c entered.FromOutside fs e = Went (tell (event.LeaveRaise e) (off (record c { error = None }) fs))
hand_null c entered.ForInitialisation fs e =
    Went (tell (event.LeaveRaise e) (off (record c { error = None; course = course.Failed }) fs))

abbrev pub owns_just : List Obj → Obj → Bool
owns_just (x ∷ []) o = same_obj x o
owns_just _ o = false

abbrev pub owns_none : List Obj → Bool
owns_none [] = true
owns_none _ = false

abbrev pub return_value : CState → Frame → List Frame → Value → Moved
return_value c f fs (value.Object o) =
    need (is_none c.error) fault.ErrorSet
    (need (owns_just f.own o) fault.Unbalanced (hand_object c f.entered fs o))
return_value c f fs value.Null =
    need_some c.error fault.ErrorLost (λ e. need (owns_none f.own) fault.Unbalanced (hand_null c f.entered fs e))
return_value c f fs v =
    need (owns_none f.own) fault.Unbalanced (to_caller c fs (converted (result_kind f.function.head) v) [])

abbrev pub same_lock : Bool → Bool → Bool
same_lock true b = b
same_lock false b = not b

abbrev pub return_it : CState → Frame → List Frame → CValue → Reading → Moved
return_it c f fs k v =
    need (converts v.kind (result_kind f.function.head)) fault.Stuck
    (need (is_set v.value) fault.Undefined
    (need (may_read c k v && same_lock c.lock f.lock) fault.Unlocked
    (return_value (lend (lends k v) c) f fs v.value)))

-- one statement, with the lines after it in the frame
abbrev pub act : List CFile → CState → Frame → List Frame → CStmt → Moved
act files c f fs (stmt.Assign t k) = need_some (read files c f k) fault.Stuck (assign c f fs t k)
act files c f fs (stmt.Api x r ks) = need_some (read_each files c f ks) fault.Stuck (api c f fs x r)
act files c f fs (stmt.Call x name ks) = need_some (read_each files c f ks) fault.Stuck (call files c f fs x name ks)
act files c f fs (stmt.Incref k) = need_some (read files c f k) fault.Stuck (incref c f fs k)
act files c f fs (stmt.Decref k) = need_some (read files c f k) fault.Stuck (decref c f fs)
act files c f fs (stmt.GotoIf a r b l) =
    need_some (read files c f a) fault.Stuck (λ v.
    need_some (read files c f b) fault.Stuck (λ w.
    need_some (after_label f.function.lines l) fault.Stuck (goto_if c f fs a v r b w)))
act files c f fs (stmt.Goto l) =
    need_some (after_label f.function.lines l) fault.Stuck (λ ls. Went (on c (record f { code = ls }) fs))
act files c f fs (stmt.Return k) = need_some (read files c f k) fault.Stuck (return_it c f fs k)

-- the next statement after any labels; a body that ends without a return is stuck
abbrev pub run_line : List CFile → CState → Frame → List Frame → List Line → Moved
run_line files c f fs [] = Faulted fault.Stuck
run_line files c f fs (line.Label l ∷ ls) = run_line files c f fs ls
run_line files c f fs (line.Statement s ∷ ls) = act files c (record f { code = ls }) fs s
