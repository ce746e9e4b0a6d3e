-- Statements on views: what a memory view tells, the parts of a `cyc_view`, elements (Python/C API manual, "Buffer Protocol";
-- Cython documentation, "Typed Memoryviews").
use Rattle.std.specs.Prelude.{codes, ℕ, Bool, true, false, not, ◌&&◌, ◌||◌, List, [], ◌∷◌, Option, Some, None, ℤ, pos, nat_eq, length, is_none, slice_get, if◌then◌else◌, is_some}
use Rattle.std.specs.List.{list_any}
use Rattle.api_model.specs.declared.object.Obj.TheVariants as obj
use Rattle.api_model.specs.declared.info.Info.{Info}
use Rattle.c_tree.specs.declared.name.Variable.{Variable}
use Rattle.c_tree.specs.declared.statement.ViewNumber.{ViewNumber}
use Rattle.c_tree.specs.declared.statement.ViewNumber.TheVariants as told
use Rattle.c_value.specs.declared.step.FaultKind.TheVariants as fault
use Rattle.c_value.specs.declared.kind.Kind.{Kind}
use Rattle.c_value.specs.declared.kind.Kind.TheVariants as kind
use Rattle.c_value.specs.declared.value.Value.{Value}
use Rattle.c_value.specs.declared.value.Value.TheVariants as value
use Rattle.c_value.specs.declared.value.Reading.{Reading}
use Rattle.c_value.specs.Values.{c_string, fits, int, size, is_set}
use Rattle.c_value.specs.declared.change.Planned.{Planned}
use Rattle.c_value.specs.declared.change.Planned.TheVariants.{Fault}
use Rattle.c_state.specs.Planned.{need, need_some, need_strictly, nothing, lending}
use Rattle.c_state.specs.Reads.{lends, receives, takes}
use Rattle.c_state.specs.Stores.{give, give_to, may_store_to, result_may_store}
use Rattle.c_state.specs.Assignments.{truth}
use Rattle.element_place.specs.Places.{has_letter}
use Rattle.c_state.specs.Fields.{object_variable, uses, is_plain}
use Rattle.c_state.specs.declared.state.Frame.{Frame}
use Rattle.c_state.specs.declared.state.State.{State}

-- ---- what a memory view tells

abbrev pub info_of : State → Value → Option Info
info_of c (value.Object (obj.View k)) = slice_get c.shared.views k
info_of c v = None

abbrev pub bit : Bool → ℤ
bit true = pos 1
bit false = pos 0

-- a number of it; nothing beyond its dimensions
abbrev pub number_of : ViewNumber → Info → Option ℤ
number_of told.Dimensions i = Some (pos (length i.shape))
number_of told.ItemSize i = Some (pos i.item)
number_of told.Readonly i = Some (bit i.readonly)
number_of (told.Shape j) i = slice_get i.shape j
number_of (told.Stride j) i = slice_get i.strides j

-- `cyc_fmt` of two texts
abbrev pub without_at : List ℕ → List ℕ
without_at [] = []
without_at (b ∷ bs) = if nat_eq b 64 then bs else b ∷ bs

abbrev pub is_one_of : List ℕ → List ℕ → Bool
is_one_of letters (b ∷ []) = list_any (nat_eq b) letters
is_one_of letters _ = false

abbrev pub format_fits : List ℕ → List ℕ → Bool
format_fits format letters = is_one_of letters (without_at format)

-- A statement that asks a memory view: it is one, where the answer goes is there, the lock is held, no exception is set, and
-- the view is held. What it asks is none where the operand is no memory view, or lacks it.
abbrev pub told_by : {A : Type 0} → State → Reading → Bool → Bool → Option A → (A → Planned) → Planned
told_by c y goes there asked more =
    need (is_plain y && (goes && (not (is_set y.value) || is_some asked))) fault.Stuck
    (need there fault.BadField
    (need (is_set y.value) fault.Undefined
    (need_strictly c c.shared.lock fault.Unlocked
    (need (is_none c.thread.error) fault.ErrorSet
    (need_strictly c (uses c y) fault.Unheld
    (need_some asked fault.Stuck more))))))

abbrev pub of_info : {A : Type 0} → (Info → Option A) → Option Info → Option A
of_info pick None = None
of_info pick (Some i) = pick i

abbrev pub goes_to : State → Frame → Variable → Kind → Bool
goes_to c f x k = takes c f x k && may_store_to c f x

-- `x = PyMemoryView_GET_BUFFER(y)->ndim;` and the like
abbrev pub view_number : State → Frame → Variable → Variable → ViewNumber → Reading → Planned
view_number c f x object n y =
    told_by c y (goes_to c f x size) true (of_info (number_of n) (info_of c y.value))
    (λ z. give c f x (value.Number z) (lending (lends (object_variable object) y)))

-- `x = PyMemoryView_GET_BUFFER(y)->suboffsets != NULL;`
abbrev pub is_indirect : State → Frame → Variable → Variable → Reading → Planned
is_indirect c f x object y =
    told_by c y (goes_to c f x int) true (info_of c y.value)
    (λ i. give c f x (truth i.indirect) (lending (lends (object_variable object) y)))

-- `x = cyc_fmt(PyMemoryView_GET_BUFFER(y)->format, "lqn");`
abbrev pub has_format : State → Frame → Variable → Variable → List ℕ → Reading → Planned
has_format c f x object letters y =
    told_by c y (goes_to c f x int) true (info_of c y.value)
    (λ i. give c f x (truth (has_letter letters i)) (lending (lends (object_variable object) y)))

-- what `cyc_fmt` gives: it reads texts up to their first 0, and a format that is NULL is "B"
abbrev pub format_answer : Value → Value → Option Bool
format_answer value.Null (value.Text letters) = Some (format_fits (codes "B") (c_string letters))
format_answer (value.Text format) (value.Text letters) = Some (format_fits (c_string format) (c_string letters))
format_answer v w = None

-- `x = cyc_fmt("l", "lqn");`
abbrev pub format_test : State → Frame → Option Variable → List Reading → Planned
format_test c f x (v ∷ w ∷ []) =
    need (fits (kind.Text ∷ kind.Text ∷ []) (v ∷ w ∷ []) && (receives c f x int && result_may_store c f x)) fault.Stuck
    (need_some (format_answer v.value w.value) fault.Stuck (λ b. give_to c f x (truth b) nothing))
format_test c f x vs = Fault fault.Stuck
