-- Elements of views. What a read gives comes from the script (Cython documentation, "Typed Memoryviews"; the project's own).
use Rattle.api_model.specs.declared.object.Obj.{Obj}
use Rattle.std.specs.Prelude.{ℕ, Bool, ◌&&◌, ◌||◌, List, [], ◌∷◌, Option, Some, None, ℤ, pos, ◌+ℤ◌, slice_get, drop, if◌then◌else◌, true}
use Rattle.cy_num.specs.declared.types.CNum.{CNum}
use Rattle.cy_num.specs.Wrapping.{wrap}
use Rattle.api_model.specs.declared.object.Obj.TheVariants as obj
use Rattle.api_model.specs.declared.entry.Entry.{Entry}
use Rattle.api_model.specs.declared.entry.Entry.TheVariants as entry
use Rattle.api_model.specs.declared.event.Event.TheVariants as event
use Rattle.api_model.specs.declared.info.Info.{Info}
use Rattle.c_tree.specs.declared.name.Variable.{Variable}
use Rattle.c_tree.specs.declared.value.CType.{CType}
use Rattle.c_tree.specs.declared.value.CValue.{CValue}
use Rattle.c_value.specs.declared.step.FaultKind.TheVariants as fault
use Rattle.c_value.specs.declared.kind.Kind.{Kind}
use Rattle.c_value.specs.declared.kind.Kind.TheVariants as kind
use Rattle.c_value.specs.declared.value.Buffer.{Buffer}
use Rattle.c_value.specs.declared.value.Buffer.TheVariants as buffer
use Rattle.c_value.specs.declared.value.Value.{Value}
use Rattle.c_value.specs.declared.value.Value.TheVariants as value
use Rattle.c_value.specs.declared.value.Reading.{Reading}
use Rattle.c_value.specs.declared.space.Course.TheVariants as course
use Rattle.c_value.specs.Values.{kind_of, is_number, is_view, is_set, same_int}
use Rattle.c_ledger.specs.Ledger.{has}
use Rattle.c_ledger.specs.OfNewest.{owned, lent}
use Rattle.c_value.specs.declared.change.Planned.{Planned}
use Rattle.c_value.specs.declared.change.Planned.TheVariants.{Does}
use Rattle.c_value.specs.declared.change.Change.{Change}
use Rattle.c_state.specs.Planned.{need, need_some, need_strictly, nothing}
use Rattle.c_state.specs.Reads.{lends, may_read, takes}
use Rattle.c_state.specs.Stores.{give, may_store_to, may_write_to}
use Rattle.c_state.specs.Fields.{object_variable}
use Rattle.c_state.specs.Views.{view_in}
use Rattle.element_place.specs.Places.{is_element}
use Rattle.c_state.specs.declared.state.Frame.{Frame}
use Rattle.c_state.specs.declared.state.State.{State}

-- an element of a view: the view's number, the byte place from the start of its buffer, and its type
pub record Element : Type 0 where
  pub view : ℕ
  pub at : ℤ
  pub kind : CNum

abbrev pub if_element : ℕ → ℤ → CNum → Option Info → Option Element
if_element k at t None = None
if_element k at t (Some i) = if is_element i t at then Some (record { view = k; at = at; kind = t }) else None

abbrev pub element_by : State → Buffer → Value → Kind → Option Element
element_by c (buffer.At k at) (value.Number z) (kind.Number t) = if_element k (at +ℤ z) t (slice_get c.shared.views k)
element_by c _ _ _ = None

-- the element at `*(T *)(v.buf + y)`, where it is one of its view and T is its type
abbrev pub element_of : State → Reading → Reading → CType → Option Element
element_of c v y t = element_by c (view_in v.value).buffer y.value (kind_of t)

-- a view that the frame owns, or that was lent to it
abbrev pub may_access : State → Element → Bool
may_access c e = has (owned c.thread.ledger) (obj.View e.view) || has (lent c.thread.ledger) (obj.View e.view)

-- the number that an entry gives: one of the element's type, which wrapping leaves as it is, else 0
abbrev pub in_range : CNum → ℤ → ℤ
in_range t z = if same_int (wrap t z) z then z else pos 0

abbrev pub element_given : CNum → Entry → ℤ
element_given t (entry.Num z) = in_range t z
element_given t e = pos 0

-- with no entry left the run stops
abbrev pub stopping : Change
stopping = record nothing { event = Some event.Stop; course = Some course.Stopped }

abbrev pub reading : Element → ℤ → List Obj → Change
reading e z os = record nothing { takes = true; event = Some (event.Get e.view e.at e.kind z); lends = os }

-- without an entry the outside has made `stop` before
abbrev pub got : State → Frame → Variable → Element → List Obj → List Entry → Planned
got c f x e os [] = Does stopping
got c f x e os (s ∷ ss) = give c f x (value.Number (element_given e.kind s)) (reading e (element_given e.kind s) os)

-- `x = *(T *)(v.buf + y);`
abbrev pub load_element : List Entry → State → Frame → Variable → CType → Variable → Reading → Variable → Reading → Planned
load_element script c f x t a v b y =
    need (is_view v.kind && (is_number y.kind && (is_number (kind_of t) && (takes c f x (kind_of t) && may_store_to c f x)))) fault.Stuck
    (need_some (element_of c v y t) fault.OutOfView (λ e.
    (need_strictly c (may_read c (object_variable a) v && (may_read c (object_variable b) y && may_write_to c f x)) fault.Unlocked
    (need_strictly c (may_access c e) fault.Unheld
    (got c f x e (lends (object_variable a) v) (drop c.thread.taken script))))))

abbrev pub put_number : CNum → Value → ℤ
put_number t (value.Number z) = wrap t z
put_number t v = pos 0

-- `*(T *)(v.buf + y) = k;`
abbrev pub store_element : State → Frame → CType → Variable → Reading → Variable → Reading → CValue → Reading → Planned
store_element c f t a v b y k w =
    need (is_view v.kind && (is_number y.kind && (is_number (kind_of t) && is_number w.kind))) fault.Stuck
    (need_some (element_of c v y t) fault.OutOfView (λ e.
    (need (is_set w.value) fault.Undefined
    (need_strictly c (may_read c (object_variable a) v && (may_read c (object_variable b) y && may_read c k w)) fault.Unlocked
    (need_strictly c (may_access c e) fault.Unheld
    (Does (record nothing { event = Some (event.Put e.view e.at e.kind (put_number e.kind w.value)); lends = lends (object_variable a) v })))))))
