-- What a store of files in memory and its calls stand for. The project's own.
use Rattle.std.specs.Prelude.{◌≡◌, ◌<◌, ◌+◌, ℕ, List, option_map, Contains}
use Rattle.std.specs.Cmp.Lexicographic.{slice_cmp}
use Rattle.std.specs.Ordering.{nat_cmp}
use Rattle.std.specs.BTreeMap.{get_by}
use Rattle.cy_io.specs.Counts.{last_count, raised}
use Rattle.cy_io.specs.Told.{FileMap}
use Rattle.cy_io.specs.declared.store.Store.{Store}
use Rattle.cy_io.specs.declared.calls.Calls.{Calls}

-- the bytes of each name in the store
abbrev pub stored : Store → FileMap
stored store = λ name. option_map (λ file. file.items) (get_by (λ key. slice_cmp nat_cmp name key.items) store.files)

-- the number of the next call is among those that are to fail
abbrev pub IsListedNext : Calls → Type 0
IsListedNext calls = (calls.made < last_count) × Contains calls.failing.items (calls.made + 1)

-- no call was made yet, and these are to fail
abbrev pub IsFresh : Calls → List ℕ → Type 0
IsFresh calls failing = (calls.made ≡ 0) × (calls.failing.items ≡ failing)

-- one more call was made
abbrev pub IsOneLater : Calls → Calls → Type 0
IsOneLater before after = (after.made ≡ raised before.made) × (after.failing.items ≡ before.failing.items)
