-- What the tables of a frame, a file and a function hold. The project's own.
use Rattle.std.specs.Prelude.{◌≡◌, ℕ, Bool, true, List, Option, Some, None, nat_eq, if◌then◌else◌}
use Rattle.std.specs.HashMap.{HashMap, get}
use Rattle.c_tree.specs.declared.name.FixedParameter.{FixedParameter}
use Rattle.c_tree.specs.declared.name.FixedParameter.TheVariants as fixed
use Rattle.c_tree.specs.declared.name.Place.{Place}
use Rattle.c_tree.specs.declared.name.Place.TheVariants as place
use Rattle.c_tree.specs.declared.name.Variable.{Variable}
use Rattle.c_tree.specs.declared.name.Variable.TheVariants as variable
use Rattle.c_tree.specs.declared.item.Line.{Line}
use Rattle.c_value.specs.declared.frame.Cell.{Cell}
use Rattle.c_value.specs.declared.space.Spot.{Spot}
use Rattle.c_value.specs.declared.value.Value.{Value}
use Rattle.c_value.specs.Names.{same_fixed, same_place, same_variable}
use Rattle.c_value.specs.Values.{converted}
use Rattle.c_frame.specs.declared.fixed.FixedNumbers.{FixedNumbers}
use Rattle.c_frame.specs.declared.places.PlaceNumbers.{PlaceNumbers}
use Rattle.c_frame.specs.declared.numbers.Numbers.{Numbers}
use Rattle.c_frame.specs.Firsts.{first_from}
use Rattle.c_frame.specs.Lines.{label_from}

-- ---- the number that a table has for a name

abbrev pub fixed_number : FixedNumbers → FixedParameter → Option ℕ
fixed_number n fixed.SelfObject = n.self_object
fixed_number n fixed.Arguments = n.arguments
fixed_number n fixed.ArgumentCount = n.argument_count
fixed_number n fixed.Type = n.type_object
fixed_number n fixed.Keywords = n.keywords
fixed_number n fixed.Key = n.key
fixed_number n fixed.Value = n.value
fixed_number n fixed.Closure = n.closure

abbrev pub place_number : PlaceNumbers → Place → Option ℕ
place_number n place.Module = n.module_object
place_number n place.Dictionary = n.dictionary
place_number n place.Builtins = n.builtins
place_number n place.Ready = n.ready
place_number n (place.Constant i) = get nat_eq n.constants i
place_number n (place.Global i) = get nat_eq n.globals i

abbrev pub variable_number : Numbers → Variable → Option ℕ
variable_number n (variable.Parameter i) = get nat_eq n.parameters i
variable_number n (variable.Local i) = get nat_eq n.locals i
variable_number n (variable.Temporary i) = get nat_eq n.temporaries i
variable_number n variable.Returned = n.returned
variable_number n (variable.Fixed p) = fixed_number n.fixed p
variable_number n (variable.Place p) = place_number n.places p

-- ---- tables of nothing, and with one number more

abbrev pub knows_no_fixed : FixedNumbers → Type 0
knows_no_fixed n = (p : FixedParameter) → fixed_number n p ≡ None

abbrev pub knows_no_place : PlaceNumbers → Type 0
knows_no_place n = (p : Place) → place_number n p ≡ None

abbrev pub knows_no_variable : Numbers → Type 0
knows_no_variable n = (x : Variable) → variable_number n x ≡ None

abbrev pub IsFixedNoted : FixedNumbers → FixedParameter → ℕ → FixedNumbers → Type 0
IsFixedNoted old p at new = (q : FixedParameter) → fixed_number new q ≡ (if same_fixed p q then Some at else fixed_number old q)

abbrev pub IsPlaceNoted : PlaceNumbers → Place → ℕ → PlaceNumbers → Type 0
IsPlaceNoted old p at new = (q : Place) → place_number new q ≡ (if same_place p q then Some at else place_number old q)

abbrev pub IsVariableNoted : Numbers → Variable → ℕ → Numbers → Type 0
IsVariableNoted old x at new = (y : Variable) → variable_number new y ≡ (if same_variable x y then Some at else variable_number old y)

-- ---- the numbers of cells and places that are numbered from i on

abbrev pub is_cell : Variable → Cell → Bool
is_cell x c = same_variable c.variable x

abbrev pub is_spot : Place → Spot → Bool
is_spot p s = same_place s.place p

abbrev pub AreCellsFrom : ℕ → List Cell → Numbers → Type 0
AreCellsFrom i cells n = (x : Variable) → variable_number n x ≡ first_from (is_cell x) i cells

abbrev pub AreCells : List Cell → Numbers → Type 0
AreCells cells n = AreCellsFrom 0 cells n

abbrev pub AreSpotsFrom : ℕ → List Spot → PlaceNumbers → Type 0
AreSpotsFrom i spots n = (p : Place) → place_number n p ≡ first_from (is_spot p) i spots

abbrev pub AreSpots : List Spot → PlaceNumbers → Type 0
AreSpots spots n = AreSpotsFrom 0 spots n

-- ---- a cell and a place with a value

abbrev pub cell_with : Value → Cell → Cell
cell_with v c = record c { value = converted c.kind v }

abbrev pub spot_with : Value → Spot → Spot
spot_with v s = record s { value = converted s.kind v; stored = true }

-- ---- the line after each label, among lines that are numbered from i on

abbrev pub AreLabelsFrom : {S : Type 0} → ℕ → List Line → HashMap ℕ ℕ S → Type 0
AreLabelsFrom i lines labels = (l : ℕ) → get nat_eq labels l ≡ label_from i lines l

abbrev pub AreLabels : {S : Type 0} → List Line → HashMap ℕ ℕ S → Type 0
AreLabels lines labels = AreLabelsFrom 0 lines labels
