-- When an instance is destroyed, and by which code (Python/C API manual, "Type Objects", `tp_dealloc`).
use Rattle.std.specs.Prelude.{ℕ, zero, suc, Bool, false, ◌&&◌, ◌||◌, List, [], ◌∷◌, Option, Some, None, if◌then◌else◌, true}
use Rattle.std.specs.List.{list_any}
use Rattle.api_model.specs.declared.object.Obj.{Obj}
use Rattle.api_model.specs.declared.object.Obj.TheVariants as obj
use Rattle.api_model.specs.Objects.{same_obj}
use Rattle.c_tree.specs.declared.name.Numbered.{Numbered}
use Rattle.c_tree.specs.declared.name.FunctionName.TheVariants as function
use Rattle.c_tree.specs.declared.item.TypeObject.{TypeObject}
use Rattle.c_tree.specs.declared.item.CFile.{CFile}
use Rattle.c_value.specs.declared.kind.Kind.{Kind}
use Rattle.c_value.specs.declared.value.Value.{Value}
use Rattle.c_value.specs.declared.value.Value.TheVariants as value
use Rattle.c_value.specs.declared.space.Spot.{Spot}
use Rattle.c_value.specs.declared.space.Part.{Part}
use Rattle.c_value.specs.declared.space.Instance.{Instance}
use Rattle.c_value.specs.declared.frame.Entered.TheVariants as entered
use Rattle.c_state.specs.Linked.{function_named, type_at, base_of, item_count}
use Rattle.c_ledger.specs.OfNewest.{in_use}
use Rattle.c_value.specs.declared.change.Change.{Change}
use Rattle.c_value.specs.declared.change.Flow.TheVariants as flow
use Rattle.c_value.specs.declared.value.ItemPlace.{ItemPlace}
use Rattle.c_state.specs.Planned.{nothing}
use Rattle.c_state.specs.State.{instance_at, value_is}
use Rattle.c_state.specs.declared.state.State.{State}

-- whether a place, or a field of an instance that wasn't freed, holds an object
abbrev pub spot_holds : Obj → Spot → Bool
spot_holds o s = value_is s.value o

abbrev pub spots_hold : Obj → List Spot → Bool
spots_hold o ss = list_any (spot_holds o) ss

abbrev pub field_holds : Obj → Kind × Value → Bool
field_holds o (k, v) = value_is v o

abbrev pub part_holds : Obj → Part → Bool
part_holds o p = list_any (field_holds o) p.fields

abbrev pub instance_holds : Obj → Instance → Bool
instance_holds o i = i.alive && list_any (part_holds o) i.parts

abbrev pub is_error : Option Obj → Obj → Bool
is_error None o = false
is_error (Some e) o = same_obj e o

-- whether an object is owned by a frame or lent to one, is the exception that is set, or stands in a place or a field
abbrev pub is_kept : State → Obj → Bool
is_kept c o =
    in_use c.thread.ledger.frames o || (is_error c.thread.error o
    || (list_any (spots_hold o) c.shared.places || list_any (instance_holds o) c.shared.instances))

-- the dealloc code of a class: its own, or that of the nearest base that has some, in at most n steps
abbrev pub dealloc_named : Option TypeObject → Option Numbered
dealloc_named None = None
dealloc_named (Some object) = object.dealloc

abbrev pub dealloc_by : List CFile → ℕ → Option Numbered → Option ItemPlace → Option ItemPlace
dealloc_by files k None other = other
dealloc_by files k (Some n) other = function_named files k (function.Dealloc n)

abbrev pub dealloc_from : List CFile → ℕ → Option ItemPlace → Option ItemPlace
dealloc_from files zero t = None
dealloc_from files (suc n) None = None
dealloc_from files (suc n) (Some t) =
    dealloc_by files t.file (dealloc_named (type_at files t)) (dealloc_from files n (base_of files t))

-- the dealloc code of an instance that may be destroyed
abbrev pub destroyer : List CFile → State → ℕ → Option Instance → Option ItemPlace
destroyer files c k None = None
destroyer files c k (Some i) = if is_kept c (obj.Inst k) then None else dealloc_from files (suc (item_count files)) (Some i.class)

-- an entry is taken, and nothing comes of it
abbrev pub skipping : Change
skipping = record nothing { takes = true }

-- the dealloc code is entered, with the instance lent to it
abbrev pub destroying : ℕ → Option ItemPlace → Change
destroying k None = skipping
destroying k (Some p) = record skipping {
  flow = flow.Enters (record { function = p; values = value.Object (obj.Inst k) ∷ []; lent = obj.Inst k ∷ []; by = entered.ForDestruction });
}

-- `die K`; without the ledger the entry is skipped
abbrev pub die : List CFile → State → ℕ → Change
die files c k = if c.strict then destroying k (destroyer files c k (instance_at c k)) else skipping
