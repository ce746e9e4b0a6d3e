-- Types and values: what may stand where, what a place starts with, the objects in a value. The project's own, after ISO/IEC
-- 9899:2011 (6.3, 6.5.16.1, 6.7.9).
use Rattle.c_value.specs.declared.value.Buffer.{Buffer}
use Rattle.std.specs.Prelude.{ℕ, zero, suc, Bool, true, false, ◌&&◌, ◌||◌, List, [], ◌∷◌, ◌++◌, Option, Some, None, ℤ, pos, negsuc, nat_eq, is_some, if◌then◌else◌}
use Rattle.cy_num.specs.declared.types.CNum.{CNum}
use Rattle.cy_num.specs.declared.types.CNum.TheVariants as number
use Rattle.cy_num.specs.Wrapping.{wrap}
use Rattle.api_model.specs.declared.object.Obj.{Obj}
use Rattle.api_model.specs.declared.object.Allocation.{Allocation}
use Rattle.api_model.specs.declared.object.Allocation.TheVariants as allocation
use Rattle.c_tree.specs.declared.value.CType.{CType}
use Rattle.c_tree.specs.declared.value.CType.TheVariants as type
use Rattle.c_tree.specs.declared.statement.Extent.{Extent}
use Rattle.c_tree.specs.declared.statement.Extent.TheVariants as extent
use Rattle.c_tree.specs.declared.item.InitialValue.{InitialValue}
use Rattle.c_tree.specs.declared.item.InitialValue.TheVariants as initial
use Rattle.c_value.specs.declared.kind.Kind.{Kind}
use Rattle.c_value.specs.declared.kind.Kind.TheVariants as kind
use Rattle.c_value.specs.declared.value.Memory.{Memory}
use Rattle.c_value.specs.declared.value.Memory.TheVariants as memory
use Rattle.c_value.specs.declared.value.Buffer.TheVariants as buffer
use Rattle.c_value.specs.declared.value.Extents.{Extents}
use Rattle.c_value.specs.declared.value.ViewValue.{ViewValue}
use Rattle.c_value.specs.declared.value.Value.{Value}
use Rattle.c_value.specs.declared.value.Value.TheVariants as value
use Rattle.c_value.specs.declared.value.Reading.{Reading}
use Rattle.api_model.specs.Objects.{same_obj}
use Rattle.c_value.specs.Names.{same_item}

-- ---- types

abbrev pub kind_of : CType → Kind
kind_of type.SignedChar = kind.Number number.I8
kind_of type.UnsignedChar = kind.Number number.U8
kind_of type.Short = kind.Number number.I16
kind_of type.UnsignedShort = kind.Number number.U16
kind_of type.Int = kind.Number number.I32
kind_of type.UnsignedInt = kind.Number number.U32
kind_of type.Long = kind.Number number.I64
kind_of type.UnsignedLong = kind.Number number.U64
kind_of type.PySsizeT = kind.Number number.I64
kind_of type.Object = kind.Object
kind_of type.View = kind.View
kind_of type.ThreadState = kind.ThreadState
kind_of type.LockState = kind.LockState
kind_of type.TypeObject = kind.TypeObject

abbrev pub int : Kind
int = kind.Number number.I32

abbrev pub size : Kind
size = kind.Number number.I64

abbrev pub is_number : Kind → Bool
is_number (kind.Number t) = true
is_number _ = false

abbrev pub is_object : Kind → Bool
is_object kind.Object = true
is_object kind.Null = true
is_object _ = false

abbrev pub is_view : Kind → Bool
is_view kind.View = true
is_view _ = false

-- types whose variables hold objects: `PyObject *` and `cyc_view`
abbrev pub has_objects : Kind → Bool
has_objects kind.Object = true
has_objects kind.View = true
has_objects _ = false

-- whether a value of the first type may stand where the second is wanted: numbers convert, NULL is any pointer
abbrev pub converts : Kind → Kind → Bool
converts from (kind.Number t) = is_number from
converts from kind.Object = is_object from
converts kind.View kind.View = true
converts kind.ThreadState kind.ThreadState = true
converts kind.Null kind.ThreadState = true
converts kind.LockState kind.LockState = true
converts kind.TypeObject kind.TypeObject = true
converts kind.Null kind.TypeObject = true
converts kind.Arguments kind.Arguments = true
converts kind.Null kind.Arguments = true
converts kind.Closure kind.Closure = true
converts kind.Null kind.Closure = true
converts kind.Null kind.Null = true
converts kind.Text kind.Text = true
converts kind.Null kind.Text = true
converts kind.Definition kind.Definition = true
converts _ _ = false

-- types of pointers that may be compared
abbrev pub is_pointer : Kind → Bool
is_pointer kind.Object = true
is_pointer kind.ThreadState = true
is_pointer kind.TypeObject = true
is_pointer kind.Closure = true
is_pointer kind.Arguments = true
is_pointer kind.Null = true
is_pointer _ = false

abbrev pub same_number_type : CNum → CNum → Bool
same_number_type number.I8 number.I8 = true
same_number_type number.U8 number.U8 = true
same_number_type number.I16 number.I16 = true
same_number_type number.U16 number.U16 = true
same_number_type number.I32 number.I32 = true
same_number_type number.U32 number.U32 = true
same_number_type number.I64 number.I64 = true
same_number_type number.U64 number.U64 = true
same_number_type _ _ = false

abbrev pub same_kind : Kind → Kind → Bool
same_kind (kind.Number t) (kind.Number u) = same_number_type t u
same_kind j (kind.Number u) = false
same_kind (kind.Number t) k = false
same_kind j k = converts j k && converts k j

-- whether two pointers may be compared: one of them is NULL, or both are of one type
abbrev pub are_pointers : Kind → Kind → Bool
are_pointers a b = (is_pointer a && is_pointer b) && (converts a b || converts b a)

-- ---- values

-- a number that meets a type is converted; every other value stays
abbrev pub wrapped : CNum → Value → Value
wrapped t (value.Number z) = value.Number (wrap t z)
wrapped t v = v

abbrev pub converted : Kind → Value → Value
converted (kind.Number t) v = wrapped t v
converted _ v = v

abbrev pub is_memory_set : Memory → Bool
is_memory_set memory.Unset = false
is_memory_set _ = true

abbrev pub is_buffer_set : Buffer → Bool
is_buffer_set buffer.Unset = false
is_buffer_set _ = true

abbrev pub is_extent_set : Extents → Bool
is_extent_set e = is_some e.first || (is_some e.second || is_some e.third)

-- whether a part was stored into
abbrev pub is_view_set : ViewValue → Bool
is_view_set v = is_memory_set v.memory || (is_buffer_set v.buffer || (is_extent_set v.lengths || is_extent_set v.strides))

-- whether a variable has a value; a view has one once a part of it was stored into (6.3.2.1)
abbrev pub is_set : Value → Bool
is_set value.Unset = false
is_set (value.View v) = is_view_set v
is_set _ = true

abbrev pub is_null : Value → Bool
is_null value.Null = true
is_null _ = false

abbrev pub no_extents : Extents
no_extents = record { first = None; second = None; third = None }

abbrev pub zero_extents : Extents
zero_extents = record { first = Some (pos 0); second = Some (pos 0); third = Some (pos 0) }

abbrev pub unset_view : ViewValue
unset_view = record { memory = memory.Unset; buffer = buffer.Unset; lengths = no_extents; strides = no_extents }

abbrev pub zero_view : ViewValue
zero_view = record { memory = memory.Null; buffer = buffer.Null; lengths = zero_extents; strides = zero_extents }

-- what a place, a field, or a variable with an initial value starts with
abbrev pub zero_of : Kind → Value
zero_of (kind.Number t) = value.Number (pos 0)
zero_of kind.View = value.View zero_view
zero_of kind.LockState = value.Number (pos 0)
zero_of _ = value.Null

-- what a variable without an initial value starts with
abbrev pub unset_of : Kind → Value
unset_of kind.View = value.View unset_view
unset_of _ = value.Unset

abbrev pub initial_value : Kind → InitialValue → Value
initial_value k initial.Nothing = unset_of k
initial_value k _ = zero_of k

abbrev pub objects_in_memory : Memory → List Obj
objects_in_memory (memory.Object o) = o ∷ []
objects_in_memory _ = []

-- the objects in a value: itself, or `mv` of a view
abbrev pub objects_in : Value → List Obj
objects_in (value.Object o) = o ∷ []
objects_in (value.View v) = objects_in_memory v.memory
objects_in _ = []

-- the objects that are passed with a value: also each of `args`, or of the arguments of an `__init__`
abbrev pub passed_with : Value → List Obj
passed_with (value.Arguments os) = os
passed_with (value.Tuple os) = os
passed_with v = objects_in v

-- the object that a value is
abbrev pub object_of : Value → Option Obj
object_of (value.Object o) = Some o
object_of _ = None

abbrev pub memory_value : Memory → Value
memory_value memory.Unset = value.Unset
memory_value memory.Null = value.Null
memory_value (memory.Object o) = value.Object o

-- a value that `mv` can hold: NULL or an object
abbrev pub as_memory : Value → Option Memory
as_memory value.Null = Some memory.Null
as_memory (value.Object o) = Some (memory.Object o)
as_memory _ = None

abbrev pub same_int : ℤ → ℤ → Bool
same_int (pos a) (pos b) = nat_eq a b
same_int (negsuc a) (negsuc b) = nat_eq a b
same_int _ _ = false

abbrev pub same_allocation : Allocation → Allocation → Bool
same_allocation allocation.Static allocation.Static = true
same_allocation allocation.Heap allocation.Heap = true
same_allocation _ _ = false

-- whether two pointers are equal
abbrev pub same_pointer : Value → Value → Bool
same_pointer (value.Object x) (value.Object y) = same_obj x y
same_pointer (value.TypeObject s a) (value.TypeObject t b) = same_item s t && same_allocation a b
same_pointer value.ThreadState value.ThreadState = true
same_pointer (value.Tuple xs) (value.Tuple ys) = true
same_pointer (value.Arguments xs) (value.Arguments ys) = true
same_pointer value.Null value.Null = true
same_pointer _ _ = false

-- ---- parts of views

-- `n[J]` or `s[J]`, where J is below 3
abbrev pub extents_at : Extents → ℕ → Option (Option ℤ)
extents_at e zero = Some e.first
extents_at e (suc zero) = Some e.second
extents_at e (suc (suc zero)) = Some e.third
extents_at e _ = None

abbrev pub with_extent : Extents → ℕ → ℤ → Extents
with_extent e zero z = record e { first = Some z }
with_extent e (suc zero) z = record e { second = Some z }
with_extent e (suc (suc zero)) z = record e { third = Some z }
with_extent e _ z = e

abbrev pub extents_of : ViewValue → Extent → Extents
extents_of v extent.Length = v.lengths
extents_of v extent.Stride = v.strides

abbrev pub with_extents : ViewValue → Extent → Extents → ViewValue
with_extents v extent.Length e = record v { lengths = e }
with_extents v extent.Stride e = record v { strides = e }

abbrev pub number_or_unset : Option ℤ → Value
number_or_unset None = value.Unset
number_or_unset (Some z) = value.Number z

-- ---- lists of readings

abbrev pub all_set : List Reading → Bool
all_set [] = true
all_set (v ∷ vs) = is_set v.value && all_set vs

abbrev pub passed : List Reading → List Obj
passed [] = []
passed (v ∷ vs) = passed_with v.value ++ passed vs

abbrev pub values_of : List Reading → List Value
values_of [] = []
values_of (v ∷ vs) = v.value ∷ values_of vs

-- whether operands have the number and the types that are wanted
abbrev pub fits : List Kind → List Reading → Bool
fits [] [] = true
fits (k ∷ ks) (v ∷ vs) = converts v.kind k && fits ks vs
fits _ _ = false

-- ---- texts

-- what a text is to C: its bytes up to the first 0 (ISO/IEC 9899:2011 7.1.1)
abbrev pub c_string : List ℕ → List ℕ
c_string [] = []
c_string (b ∷ bs) = if nat_eq b 0 then [] else b ∷ c_string bs
