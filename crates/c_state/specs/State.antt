-- The state of the machine: what several threads share, and what is one thread's own. The project's own.
use Rattle.std.specs.Prelude.{ℕ, zero, suc, Bool, true, false, ◌&&◌, ◌||◌, List, [], ◌∷◌, Option, Some, None, map, slice_get, if◌then◌else◌}
use Rattle.std.specs.List.{list_any}
use Rattle.api_model.specs.declared.object.Obj.{Obj}
use Rattle.api_model.specs.declared.object.Obj.TheVariants as obj
use Rattle.api_model.specs.declared.object.Allocation.{Allocation}
use Rattle.api_model.specs.declared.info.Info.{Info}
use Rattle.api_model.specs.Objects.{is_permanent}
use Rattle.c_tree.specs.declared.name.Numbered.{Numbered}
use Rattle.c_tree.specs.declared.name.Place.{Place}
use Rattle.c_tree.specs.declared.name.Place.TheVariants as place
use Rattle.c_tree.specs.declared.name.Variable.{Variable}
use Rattle.c_tree.specs.declared.value.CType.{CType}
use Rattle.c_tree.specs.declared.item.Base.{Base}
use Rattle.c_tree.specs.declared.item.Base.TheVariants as base
use Rattle.c_tree.specs.declared.item.TypeObject.{TypeObject}
use Rattle.c_tree.specs.declared.item.CItem.{CItem}
use Rattle.c_tree.specs.declared.item.CItem.TheVariants as item
use Rattle.c_tree.specs.declared.item.CFile.{CFile}
use Rattle.c_value.specs.declared.kind.Kind.{Kind}
use Rattle.c_value.specs.declared.value.ItemPlace.{ItemPlace}
use Rattle.c_value.specs.declared.value.Value.{Value}
use Rattle.c_value.specs.declared.value.Value.TheVariants as value
use Rattle.c_value.specs.declared.space.Spot.{Spot}
use Rattle.c_value.specs.declared.space.Part.{Part}
use Rattle.c_value.specs.declared.space.Instance.{Instance}
use Rattle.c_value.specs.declared.space.Course.{Course}
use Rattle.c_value.specs.declared.space.Course.TheVariants as course
use Rattle.c_value.specs.declared.change.Remembered.{Remembered}
use Rattle.c_state.specs.Linked.{item_count, struct_of, type_at}
use Rattle.c_value.specs.Values.{kind_of, zero_of, objects_in, has_objects}
use Rattle.c_ledger.specs.Ledger.{has}
use Rattle.c_state.specs.declared.state.Frame.{Frame}
use Rattle.c_state.specs.declared.state.Shared.{Shared}
use Rattle.c_state.specs.declared.state.State.{State}
use Rattle.c_state.specs.declared.state.Thread.{Thread}
use Rattle.c_frame.specs.Cells.{put}
use Rattle.c_space.specs.Places.{put_at, spots_of}
use Rattle.c_ledger.specs.Ledger.{Accounts, empty}
use Rattle.c_ledger.specs.OfNewest.{owned, lent}

-- ---- changes of one part

abbrev pub with_shared : State → Shared → State
with_shared c s = record c { shared = s }

abbrev pub with_thread : State → Thread → State
with_thread c t = record c { thread = t }

abbrev pub set_frames : Thread → List Frame → Thread
set_frames t frames = record t { frames = frames }

abbrev pub set_ledger : Thread → Accounts → Thread
set_ledger t ledger = record t { ledger = ledger }

abbrev pub set_error : Thread → Option Obj → Thread
set_error t error = record t { error = error }

abbrev pub set_remembered : Thread → List Remembered → Thread
set_remembered t remembered = record t { remembered = remembered }

abbrev pub set_ensured : Thread → ℕ → Thread
set_ensured t ensured = record t { ensured = ensured }

abbrev pub set_taken : Thread → ℕ → Thread
set_taken t taken = record t { taken = taken }

abbrev pub set_course : Thread → Course → Thread
set_course t course = record t { course = course }

abbrev pub set_instances : Shared → List Instance → Shared
set_instances s instances = record s { instances = instances }

abbrev pub set_views : Shared → List Info → Shared
set_views s views = record s { views = views }

abbrev pub set_places : Shared → List (List Spot) → Shared
set_places s places = record s { places = places }

abbrev pub set_begun : Shared → ℕ → Shared
set_begun s begun = record s { begun = begun }

abbrev pub set_failed : Shared → Bool → Shared
set_failed s failed = record s { failed = failed }

abbrev pub set_lock : Shared → Bool → Shared
set_lock s lock = record s { lock = lock }

abbrev pub with_frames : List Frame → State → State
with_frames frames c = with_thread c (set_frames c.thread frames)

abbrev pub with_ledger : Accounts → State → State
with_ledger ledger c = with_thread c (set_ledger c.thread ledger)

abbrev pub with_error : Option Obj → State → State
with_error error c = with_thread c (set_error c.thread error)

abbrev pub with_remembered : List Remembered → State → State
with_remembered remembered c = with_thread c (set_remembered c.thread remembered)

abbrev pub with_ensured : ℕ → State → State
with_ensured ensured c = with_thread c (set_ensured c.thread ensured)

abbrev pub with_taken : ℕ → State → State
with_taken taken c = with_thread c (set_taken c.thread taken)

abbrev pub with_course : Course → State → State
with_course course c = with_thread c (set_course c.thread course)

abbrev pub with_instances : List Instance → State → State
with_instances instances c = with_shared c (set_instances c.shared instances)

abbrev pub with_views : List Info → State → State
with_views views c = with_shared c (set_views c.shared views)

abbrev pub with_places : List (List Spot) → State → State
with_places places c = with_shared c (set_places c.shared places)

abbrev pub with_lock : Bool → State → State
with_lock lock c = with_shared c (set_lock c.shared lock)

-- the state with its newest frame changed
abbrev pub change_first : (Frame → Frame) → List Frame → List Frame
change_first change [] = []
change_first change (f ∷ fs) = change f ∷ fs

abbrev pub in_frame : (Frame → Frame) → State → State
in_frame change c = with_frames (change_first change c.thread.frames) c

-- ---- variables

abbrev pub put_in : Variable → Value → Frame → Frame
put_in x v f = record f { variables = put f.variables x v }

abbrev pub set_variable : Variable → Value → State → State
set_variable x v c = in_frame (put_in x v) c

-- ---- places

-- the places that are stored into once: `cyc_m`, `cyc_d`, `cyc_b`, `cyc_c_J`
abbrev pub is_constant : Place → Bool
is_constant place.Module = true
is_constant place.Dictionary = true
is_constant place.Builtins = true
is_constant (place.Constant j) = true
is_constant _ = false

-- a module variable that holds objects: it is read and stored with the lock, and lends what it holds
abbrev pub is_module_variable : Place → Kind → Bool
is_module_variable (place.Global j) k = has_objects k
is_module_variable _ k = false

-- the places of a file, by its number
abbrev pub spots_at : State → ℕ → List Spot
spots_at c k = spots_of c.shared.places k

abbrev pub set_spot : ℕ → Place → Value → State → State
set_spot k p v c = with_places (put_at k p v c.shared.places) c

-- ---- instances

abbrev pub if_alive : Instance → Option Instance
if_alive i = if i.alive then Some i else None

abbrev pub still_there : Option Instance → Option Instance
still_there None = None
still_there (Some i) = if_alive i

-- an instance that is made and wasn't freed
abbrev pub instance_at : State → ℕ → Option Instance
instance_at c k = still_there (slice_get c.shared.instances k)

abbrev pub instance_of : State → Value → Option Instance
instance_of c (value.Object (obj.Inst k)) = instance_at c k
instance_of c _ = None

abbrev pub first_field : CType → Kind × Value
first_field t = (kind_of t, zero_of (kind_of t))

abbrev pub parts_then : Numbered → Option (Base × List CType) → (Numbered → List Part) → List Part
parts_then class None more = []
parts_then class (Some (base.Root, fields)) more = record { class = class; fields = map first_field fields } ∷ []
parts_then class (Some (base.Class b, fields)) more = record { class = class; fields = map first_field fields } ∷ more b

-- what an instance of a struct starts with: its own fields, then those of the structs that it begins with, at most n
abbrev pub first_parts : List CFile → ℕ → Numbered → List Part
first_parts files zero class = []
first_parts files (suc n) class = parts_then class (struct_of files class) (first_parts files n)

abbrev pub parts_by : List CFile → Option TypeObject → List Part
parts_by files None = []
parts_by files (Some t) = first_parts files (item_count files) t.size

-- an instance as it is made (Python/C API manual, `PyType_GenericAlloc`)
abbrev pub new_instance : List CFile → ItemPlace → Allocation → Instance
new_instance files t allocation = record {
  class = t;
  allocation = allocation;
  alive = true;
  table = None;
  parts = parts_by files (type_at files t);
}

-- ---- held

abbrev pub value_is : Value → Obj → Bool
value_is v o = has (objects_in v) o

abbrev pub constant_holds : Obj → Spot → Bool
constant_holds o s = is_constant s.place && value_is s.value o

-- whether a constant place of a file holds the object
abbrev pub in_constants : List (List Spot) → Obj → Bool
in_constants [] o = false
in_constants (ss ∷ sss) o = list_any (constant_holds o) ss || in_constants sss o

-- held by the newest frame: owned by it, lent to it, in a constant place, or permanent
abbrev pub held : State → Obj → Bool
held c o = has (owned c.thread.ledger) o || (has (lent c.thread.ledger) o || (in_constants c.shared.places o || is_permanent o))

abbrev pub all_held : State → List Obj → Bool
all_held c [] = true
all_held c (o ∷ os) = held c o && all_held c os

-- ---- linking

abbrev pub first_spots : List CItem → List Spot
first_spots [] = []
first_spots (item.Static t p ∷ is) = record { place = p; kind = kind_of t; value = zero_of (kind_of t); stored = false } ∷ first_spots is
first_spots (i ∷ is) = first_spots is

abbrev pub first_places : List CFile → List (List Spot)
first_places [] = []
first_places (f ∷ fs) = first_spots f.items ∷ first_places fs

abbrev pub first_shared : List CFile → Shared
first_shared files = record {
  instances = [];
  views = [];
  places = first_places files;
  begun = 0;
  failed = false;
  lock = true;
}

abbrev pub first_thread : Thread
first_thread = record {
  frames = [];
  ledger = empty;
  error = None;
  remembered = [];
  ensured = 0;
  taken = 0;
  course = course.Goes;
}

-- before the first initialisation
abbrev pub linked : Bool → List CFile → State
linked strict files = record { shared = first_shared files; thread = first_thread; strict = strict }
