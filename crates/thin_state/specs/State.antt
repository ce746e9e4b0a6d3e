-- The state of the C: variables, places, frames and the ledger. The project's own, after the Python/C API manual's rules on references.
use Rattle.std.specs.Prelude.{ℕ, suc, Bool, true, false, ◌&&◌, ◌||◌, ◌-◌, ◌%◌, List, [], ◌∷◌, Option, Some, None, ℤ, pos, negsuc, nat_eq, nat_lt, slice_index_or, slice_set, if◌then◌else◌}
use Rattle.thin_state.specs.declared.space.Obj.{Obj}
use Rattle.thin_state.specs.declared.space.Entry.{Entry}
use Rattle.thin_state.specs.declared.tree.CType.{CType}
use Rattle.thin_state.specs.declared.tree.CType.TheVariants as type
use Rattle.thin_state.specs.declared.tree.Variable.{Variable}
use Rattle.thin_state.specs.declared.tree.Variable.TheVariants as variable
use Rattle.thin_state.specs.declared.tree.Place.{Place}
use Rattle.thin_state.specs.declared.tree.Place.TheVariants as place
use Rattle.thin_state.specs.declared.tree.Line.{Line}
use Rattle.thin_state.specs.declared.tree.CFunction.{CFunction}
use Rattle.thin_state.specs.declared.tree.CItem.{CItem}
use Rattle.thin_state.specs.declared.tree.CItem.TheVariants as item
use Rattle.thin_state.specs.declared.tree.CFile.{CFile}
use Rattle.thin_state.specs.declared.state.Kind.{Kind}
use Rattle.thin_state.specs.declared.state.Kind.TheVariants as kind
use Rattle.thin_state.specs.declared.state.Value.{Value}
use Rattle.thin_state.specs.declared.state.Value.TheVariants as value
use Rattle.thin_state.specs.declared.state.Cell.{Cell}
use Rattle.thin_state.specs.declared.state.Spot.{Spot}
use Rattle.thin_state.specs.declared.state.Entered.{Entered}
use Rattle.thin_state.specs.declared.state.Doing.{Doing}
use Rattle.thin_state.specs.declared.state.Course.{Course}
use Rattle.thin_state.specs.declared.state.Course.TheVariants as course
use Rattle.thin_state.specs.Objects.{same_obj, permanent}
use Rattle.thin_state.specs.World.{World, first_world}

abbrev pub same_variable : Variable → Variable → Bool
same_variable (variable.Parameter i) (variable.Parameter j) = nat_eq i j
same_variable (variable.Local i) (variable.Local j) = nat_eq i j
same_variable (variable.Temporary i) (variable.Temporary j) = nat_eq i j
same_variable variable.Returned variable.Returned = true
same_variable variable.SelfObject variable.SelfObject = true
same_variable variable.Arguments variable.Arguments = true
same_variable variable.ArgumentCount variable.ArgumentCount = true
same_variable _ _ = false

abbrev pub same_place : Place → Place → Bool
same_place place.Module place.Module = true
same_place place.Dictionary place.Dictionary = true
same_place place.Builtins place.Builtins = true
same_place place.Ready place.Ready = true
same_place (place.Constant i) (place.Constant j) = nat_eq i j
same_place (place.Global i) (place.Global j) = nat_eq i j
same_place _ _ = false

-- the places that are stored into once: `cyc_m`, `cyc_d`, `cyc_b`, `cyc_c_J`
abbrev pub is_constant : Place → Bool
is_constant place.Module = true
is_constant place.Dictionary = true
is_constant place.Builtins = true
is_constant (place.Constant j) = true
is_constant _ = false

-- types

abbrev pub kind_of : CType → Kind
kind_of type.Int = kind.Int
kind_of type.PySsizeT = kind.PySsizeT
kind_of type.PyObject = kind.PyObject

abbrev pub is_number : Kind → Bool
is_number kind.Int = true
is_number kind.PySsizeT = true
is_number _ = false

abbrev pub is_object : Kind → Bool
is_object kind.PyObject = true
is_object kind.Null = true
is_object _ = false

abbrev pub is_arguments : Kind → Bool
is_arguments kind.Arguments = true
is_arguments kind.Null = true
is_arguments _ = false

abbrev pub is_text : Kind → Bool
is_text kind.Text = true
is_text _ = false

abbrev pub is_definition : Kind → Bool
is_definition kind.Definition = true
is_definition _ = false

-- whether a place of a type is a module variable that holds an object, `PyObject *cyc_g_J`
abbrev pub is_module_variable : Place → Kind → Bool
is_module_variable (place.Global j) kind.PyObject = true
is_module_variable _ _ = false

-- whether a value of the first type may stand where the second is wanted: numbers convert, NULL is any pointer (ISO/IEC 9899:2011 6.5.16.1)
abbrev pub converts : Kind → Kind → Bool
converts from kind.Int = is_number from
converts from kind.PySsizeT = is_number from
converts from kind.PyObject = is_object from
converts from kind.Arguments = is_arguments from
converts from kind.Text = is_text from
converts from kind.Definition = is_definition from
converts from kind.Null = false

-- the value of `int` that differs by a multiple of 2^32 (ISO/IEC 9899:2011 6.3.1.3, as gcc and clang define it)
abbrev pub low_half : ℕ → ℤ
low_half m = if nat_lt m 2147483648 then pos m else negsuc (4294967295 - m)

abbrev pub high_half : ℕ → ℤ
high_half m = if nat_lt m 2147483648 then negsuc m else pos (4294967295 - m)

abbrev pub wrap_int : ℤ → ℤ
wrap_int (pos n) = low_half (n % 4294967296)
wrap_int (negsuc n) = high_half (n % 4294967296)

abbrev pub as_int : Value → Value
as_int (value.Number z) = value.Number (wrap_int z)
as_int v = v

-- a value that meets a place of a type
abbrev pub converted : Kind → Value → Value
converted kind.Int v = as_int v
converted _ v = v

-- variables

-- the first cell of that name
abbrev pub lookup : List Cell → Variable → Option Cell
lookup [] x = None
lookup (c ∷ cs) x = if same_variable c.variable x then Some c else lookup cs x

-- a variable that isn't there is left out: the statements test that it is there
abbrev pub put : List Cell → Variable → Value → List Cell
put [] x v = []
put (c ∷ cs) x v = if same_variable c.variable x then record c { value = converted c.kind v } ∷ cs else c ∷ put cs x v

abbrev pub put_to : List Cell → Option Variable → Value → List Cell
put_to cs None v = cs
put_to cs (Some x) v = put cs x v

-- places

abbrev pub spot : List Spot → Place → Option Spot
spot [] p = None
spot (s ∷ ss) p = if same_place s.place p then Some s else spot ss p

abbrev pub put_spot : List Spot → Place → Value → List Spot
put_spot [] p v = []
put_spot (s ∷ ss) p v =
    if same_place s.place p then record s { value = converted s.kind v; stored = true } ∷ ss else s ∷ put_spot ss p v

-- the places of a file, by its number
abbrev pub spots_at : List (List Spot) → ℕ → List Spot
spots_at places k = slice_index_or places k []

abbrev pub set_spots : List (List Spot) → ℕ → List Spot → List (List Spot)
set_spots places k spots = slice_set places k spots

-- frames

-- a function that was entered, with the lines that are left, what it owns and what was lent to it
pub record Frame : Type 0 where
  pub file : ℕ
  pub function : CFunction
  pub code : List Line
  pub variables : List Cell
  pub own : List Obj
  pub lent : List Obj
  pub entered : Entered
  pub doing : Doing
  pub lock : Bool

pub record CState : Type 0 where
  pub world : World
  pub frames : List Frame
  pub places : List (List Spot)
  pub begun : ℕ
  pub course : Course
  pub error : Option Obj
  pub lock : Bool
  pub loans : List Obj

-- the ledger

-- how many references of an object a list holds
abbrev pub counts : List Obj → Obj → ℕ
counts [] o = 0
counts (x ∷ xs) o = if same_obj x o then suc (counts xs o) else counts xs o

abbrev pub has : List Obj → Obj → Bool
has [] o = false
has (x ∷ xs) o = same_obj x o || has xs o

-- one reference less: the first that is there
abbrev pub lose : List Obj → Obj → List Obj
lose [] o = []
lose (x ∷ xs) o = if same_obj x o then xs else x ∷ lose xs o

abbrev pub value_is : Value → Obj → Bool
value_is (value.Object x) o = same_obj x o
value_is _ o = false

-- whether a constant place of a file holds the object
abbrev pub among_spots : List Spot → Obj → Bool
among_spots [] o = false
among_spots (s ∷ ss) o = (is_constant s.place && value_is s.value o) || among_spots ss o

abbrev pub among_places : List (List Spot) → Obj → Bool
among_places [] o = false
among_places (ss ∷ sss) o = among_spots ss o || among_places sss o

-- held in a frame: owned by it, lent to it, in a constant place, or permanent
abbrev pub held : CState → Frame → Obj → Bool
held c f o = has f.own o || (has f.lent o || (among_places c.places o || permanent o))

abbrev pub all_held : CState → Frame → List Obj → Bool
all_held c f [] = true
all_held c f (o ∷ os) = held c f o && all_held c f os

-- linking

-- what a place holds before the first store
abbrev pub first_value : Kind → Value
first_value kind.Int = value.Number (pos 0)
first_value kind.PySsizeT = value.Number (pos 0)
first_value _ = value.Null

abbrev pub first_spots : List CItem → List Spot
first_spots [] = []
first_spots (item.Static t p ∷ is) = record { place = p; kind = kind_of t; value = first_value (kind_of t); stored = false } ∷ first_spots is
first_spots (i ∷ is) = first_spots is

abbrev pub first_places : List CFile → List (List Spot)
first_places [] = []
first_places (f ∷ fs) = first_spots f.items ∷ first_places fs

-- before the first initialisation
abbrev pub linked : List CFile → List Entry → CState
linked files script = record {
  world = first_world script;
  frames = [];
  places = first_places files;
  begun = 0;
  course = course.Goes;
  error = None;
  lock = true;
  loans = [];
}
