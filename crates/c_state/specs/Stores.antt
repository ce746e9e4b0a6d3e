-- Where values go: variables, places and fields. A store into a field, a module variable or a constant place moves a
-- reference in, and the reference that was there out (Python/C API manual, "Reference Counts").
use Rattle.api_model.specs.declared.object.Obj.{Obj}
use Rattle.std.specs.Prelude.{ℕ, Bool, true, false, not, ◌&&◌, ◌||◌, List, ◌++◌, Option, Some, None, slice_get}
use Rattle.c_tree.specs.declared.name.Numbered.{Numbered}
use Rattle.c_tree.specs.declared.name.Variable.{Variable}
use Rattle.c_tree.specs.declared.name.Variable.TheVariants as variable
use Rattle.c_tree.specs.declared.value.CType.{CType}
use Rattle.c_tree.specs.declared.item.Base.{Base}
use Rattle.c_tree.specs.declared.item.CFile.{CFile}
use Rattle.c_value.specs.declared.step.FaultKind.TheVariants as fault
use Rattle.c_value.specs.declared.kind.Kind.{Kind}
use Rattle.c_value.specs.declared.value.Value.{Value}
use Rattle.c_value.specs.declared.value.Value.TheVariants as value
use Rattle.c_value.specs.declared.space.Spot.{Spot}
use Rattle.c_value.specs.declared.space.Instance.{Instance}
use Rattle.c_state.specs.Linked.{struct_of}
use Rattle.c_value.specs.Values.{kind_of, objects_in}
use Rattle.c_ledger.specs.OfNewest.{has_all, owned}
use Rattle.c_state.specs.State.{is_constant, is_module_variable, spots_at, instance_of}
use Rattle.c_value.specs.Parts.{part_of}
use Rattle.c_value.specs.declared.change.Planned.{Planned}
use Rattle.c_value.specs.declared.change.Planned.TheVariants.{Does}
use Rattle.c_value.specs.declared.change.Change.{Change}
use Rattle.c_state.specs.Planned.{need, need_some, need_strictly}
use Rattle.c_state.specs.declared.state.Frame.{Frame}
use Rattle.c_state.specs.declared.state.State.{State}
use Rattle.c_frame.specs.Spots.{spot}

-- the arguments of an `__init__` are no object: only variables and functions take them
abbrev pub is_tuple : Value → Bool
is_tuple (value.Tuple os) = true
is_tuple _ = false

-- whether the references that a value moves are among these
abbrev pub owns_moved : List Obj → Value → Bool
owns_moved own v = has_all own (objects_in v)

-- a constant place is stored into once
abbrev pub may_store : Spot → Bool
may_store s = not (is_constant s.place) || not s.stored

abbrev pub may_write : State → Spot → Bool
may_write c s = not (is_module_variable s.place s.kind) || c.shared.lock

-- a value moves into a place: its references are given away, and those of the old value come back
abbrev pub moving : Variable → Value → Value → Change → Change
moving x v old d = record d { gives = Some (x, v); loses = objects_in v; gets_back = objects_in old }

abbrev pub give_place : State → List Obj → Variable → Value → Change → Spot → Planned
give_place c own x v d s =
    need (may_store s && not (is_tuple v)) fault.Stuck
    (need_strictly c (may_write c s) fault.Unlocked
    (need_strictly c (owns_moved (own ++ d.gains) v) fault.Unheld
    (Does (moving x v s.value d))))

-- A value goes to a variable of a frame that owns these references, or to a place of its file k, beside other changes.
abbrev pub give_by : State → ℕ → List Obj → Variable → Value → Change → Planned
give_by c k own (variable.Place p) v d = need_some (spot (spots_at c k) p) fault.Stuck (give_place c own (variable.Place p) v d)
give_by c k own x v d = Does (record d { gives = Some (x, v) })

abbrev pub give_to_by : State → ℕ → List Obj → Option Variable → Value → Change → Planned
give_to_by c k own None v d = Does d
give_to_by c k own (Some x) v d = give_by c k own x v d

-- the same of the newest frame
abbrev pub give : State → Frame → Variable → Value → Change → Planned
give c f x v d = give_by c f.file (owned c.thread.ledger) x v d

abbrev pub give_to : State → Frame → Option Variable → Value → Change → Planned
give_to c f x v d = give_to_by c f.file (owned c.thread.ledger) x v d

-- whether a variable or place may be stored into, and whether the lock allows it
abbrev pub spot_may_store : Option Spot → Bool
spot_may_store None = false
spot_may_store (Some s) = may_store s

abbrev pub may_store_to : State → Frame → Variable → Bool
may_store_to c f (variable.Place p) = spot_may_store (spot (spots_at c f.file) p)
may_store_to c f x = true

abbrev pub spot_may_write : State → Option Spot → Bool
spot_may_write c None = false
spot_may_write c (Some s) = may_write c s

abbrev pub may_write_to : State → Frame → Variable → Bool
may_write_to c f (variable.Place p) = spot_may_write c (spot (spots_at c f.file) p)
may_write_to c f x = true

abbrev pub result_may_store : State → Frame → Option Variable → Bool
result_may_store c f None = true
result_may_store c f (Some x) = may_store_to c f x

-- ---- fields

abbrev pub kind_in_struct : Option (Base × List CType) → ℕ → Option Kind
kind_in_struct None j = None
kind_in_struct (Some (b, fields)) j = kind_at (slice_get fields j)
  where
    kind_at : Option CType → Option Kind
    kind_at None = None
    kind_at (Some t) = Some (kind_of t)

-- the type of a field of a struct
abbrev pub field_kind : List CFile → Numbered → ℕ → Option Kind
field_kind files class j = kind_in_struct (struct_of files class) j

abbrev pub field_in : Option (List (Kind × Value)) → ℕ → Option Value
field_in None j = None
field_in (Some fields) j = value_at (slice_get fields j)
  where
    value_at : Option (Kind × Value) → Option Value
    value_at None = None
    value_at (Some (k, v)) = Some v

abbrev pub field_of : Option Instance → Numbered → ℕ → Option Value
field_of None class j = None
field_of (Some i) class j = field_in (part_of i.parts class) j

-- what a field of an instance holds, where a value is an instance with that struct
abbrev pub field_value : State → Value → Numbered → ℕ → Option Value
field_value c y class j = field_of (instance_of c y) class j
