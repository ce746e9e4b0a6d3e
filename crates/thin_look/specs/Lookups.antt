-- Where labels and functions stand.
use Rattle.std.specs.Prelude.{ℕ, suc, Bool, List, [], ◌∷◌, Option, Some, None, drop, if◌then◌else◌}
use Rattle.thin_state.specs.declared.space.Callee.{Callee}
use Rattle.thin_state.specs.declared.space.Callee.TheVariants as callee
use Rattle.thin_state.specs.declared.tree.FunctionName.{FunctionName}
use Rattle.thin_state.specs.declared.tree.FunctionName.TheVariants as function
use Rattle.thin_state.specs.declared.tree.CHead.{CHead}
use Rattle.thin_state.specs.declared.tree.CItem.{CItem}
use Rattle.thin_state.specs.declared.tree.CItem.TheVariants as item
use Rattle.thin_state.specs.declared.tree.CFile.{CFile}
use Rattle.thin_state.specs.declared.tree.MethodRow.{MethodRow}
use Rattle.thin_state.specs.declared.state.Spot.{Spot}
use Rattle.thin_state.specs.State.{spots_at}
use Rattle.thin_state.specs.Reads.{items_at, is_plain, is_wrapper, is_initializer, is_ready, method_in, module_from}
use Rattle.thin_look.specs.declared.parts.Standing.{Standing}
use Rattle.thin_look.specs.declared.parts.Wanted.{Wanted}
use Rattle.thin_look.specs.declared.parts.Wanted.TheVariants as wanted

-- the test of a head
abbrev pub is_wanted : Wanted → CHead → Bool
is_wanted (wanted.Plain m j) h = is_plain m j h
is_wanted (wanted.Wrapper m j) h = is_wrapper m j h
is_wanted wanted.Initializer h = is_initializer h

-- the first function of a file with a head, where the items are numbered from i on
abbrev pub standing_from : ℕ → ℕ → Wanted → List CItem → Option Standing
standing_from k i w [] = None
standing_from k i w (item.Function f ∷ is) =
    if is_wanted w f.head then Some (record { file = k; item = i }) else standing_from k (suc i) w is
standing_from k i w (_ ∷ is) = standing_from k (suc i) w is

abbrev pub or_else : Option Standing → Option Standing → Option Standing
or_else None other = other
or_else (Some s) other = Some s

-- the first of all files, which are numbered from k on
abbrev pub standing_among : ℕ → Wanted → List CFile → Option Standing
standing_among k w [] = None
standing_among k w (f ∷ fs) = or_else (standing_from k 0 w f.items) (standing_among (suc k) w fs)

abbrev pub wrapper_standing : List CFile → ℕ → ℕ → ℕ → Option Standing
wrapper_standing files k m j = standing_from k 0 (wanted.Wrapper m j) (items_at files k)

-- the function that C in a file names
abbrev pub standing_named : List CFile → ℕ → FunctionName → Option Standing
standing_named files k (function.Plain m j) = standing_among 0 (wanted.Plain m j) files
standing_named files k (function.Wrapper m j) = wrapper_standing files k m j
standing_named files k (function.Initializer n) = None

-- the function that an entry enters, where it fits
abbrev pub row_standing : List CFile → ℕ → Option MethodRow → Option Standing
row_standing files k None = None
row_standing files k (Some r) = wrapper_standing files k r.module r.index

abbrev pub standing_in : List CFile → List (List Spot) → List ℕ → Option ℕ → Option Standing
standing_in files places name None = None
standing_in files places name (Some k) =
    if is_ready (spots_at places k) then row_standing files k (method_in (items_at files k) name) else None

abbrev pub standing_entered : List CFile → List (List Spot) → Callee → Option Standing
standing_entered files places (callee.Function p) = standing_in files places p.name (module_from 0 files p.module)
standing_entered files places (callee.Method p) = None

-- the next initialisation
abbrev pub standing_next : List CFile → ℕ → Option Standing
standing_next files begun = standing_among begun wanted.Initializer (drop begun files)
