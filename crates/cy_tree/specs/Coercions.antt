-- What happens to a value that meets a declared place: the table of coercions, a row a function. The project's own, after
-- the Cython documentation ("Automatic type conversions", "Extension Types", "Typed Memoryviews").
use Rattle.std.specs.Prelude.{Bool, true, false, not, ◌&&◌, ◌||◌, if◌then◌else◌, List, [], ◌∷◌, Option, Some, None, nat_eq}
use Rattle.std.proofs.Math.Bool.{beq}
use Rattle.cy_num.specs.declared.types.CNum.{CNum}
use Rattle.cy_num.specs.declared.types.CNum.TheVariants as number
use Rattle.cy_num.specs.Types.{is_signed}
use Rattle.cy_tree.specs.declared.set.NamedSet.{NamedSet}
use Rattle.cy_tree.specs.declared.ty.ClassId.{ClassId}
use Rattle.cy_tree.specs.declared.ty.Coercion.{Coercion}
use Rattle.cy_tree.specs.declared.ty.Coercion.TheVariants as coercion
use Rattle.cy_tree.specs.declared.ty.Ty.{Ty}
use Rattle.cy_tree.specs.declared.ty.Ty.TheVariants as ty
use Rattle.cy_tree.specs.declared.ty.ViewTy.{ViewTy}
use Rattle.cy_tree.specs.Bases.{class_eq, is_base}

abbrev pub number_eq : CNum → CNum → Bool
number_eq number.I8 number.I8 = true
number_eq number.U8 number.U8 = true
number_eq number.I16 number.I16 = true
number_eq number.U16 number.U16 = true
number_eq number.I32 number.I32 = true
number_eq number.U32 number.U32 = true
number_eq number.I64 number.I64 = true
number_eq number.U64 number.U64 = true
number_eq _ _ = false

-- views of the same element and as many dimensions
abbrev pub same_elements : ViewTy → ViewTy → Bool
same_elements v w = number_eq v.elem w.elem && nat_eq v.dims w.dims

abbrev pub view_eq : ViewTy → ViewTy → Bool
view_eq v w = same_elements v w && (beq v.constant w.constant && beq v.contiguous w.contiguous)

abbrev pub type_eq : Ty → Ty → Bool
type_eq (ty.Num t) (ty.Num u) = number_eq t u
type_eq ty.Bint ty.Bint = true
type_eq ty.Object ty.Object = true
type_eq (ty.Class c) (ty.Class d) = class_eq c d
type_eq (ty.View v) (ty.View w) = view_eq v w
type_eq ty.Void ty.Void = true
type_eq _ _ = false

abbrev pub is_void : Ty → Bool
is_void ty.Void = true
is_void _ = false

-- any type but `void`, and the same type: nothing
abbrev pub same_type : Ty → Ty → Option Coercion
same_type from to = if type_eq from to && not (is_void from) then Some coercion.Same else None

-- number or bint, and a number: it is wrapped
abbrev pub number_to_number : Ty → Ty → Option Coercion
number_to_number (ty.Num t) (ty.Num u) = Some (coercion.Convert u)
number_to_number ty.Bint (ty.Num u) = Some (coercion.Convert u)
number_to_number _ _ = None

-- number, and bint: 0 stays 0, all else is 1
abbrev pub number_to_bint : Ty → Ty → Option Coercion
number_to_bint (ty.Num t) ty.Bint = Some coercion.Truth
number_to_bint _ _ = None

-- signed number, and object
abbrev pub signed_to_object : Ty → Ty → Option Coercion
signed_to_object (ty.Num t) ty.Object = if is_signed t then Some coercion.FromSigned else None
signed_to_object _ _ = None

-- unsigned number, and object
abbrev pub unsigned_to_object : Ty → Ty → Option Coercion
unsigned_to_object (ty.Num t) ty.Object = if is_signed t then None else Some coercion.FromUnsigned
unsigned_to_object _ _ = None

-- bint, and object: True or False
abbrev pub bint_to_object : Ty → Ty → Option Coercion
bint_to_object ty.Bint ty.Object = Some coercion.FromBint
bint_to_object _ _ = None

abbrev pub is_object_or_class : Ty → Bool
is_object_or_class ty.Object = true
is_object_or_class (ty.Class c) = true
is_object_or_class _ = false

-- object or class, and a signed number
abbrev pub object_to_signed : Ty → Ty → Option Coercion
object_to_signed from (ty.Num t) = if is_object_or_class from && is_signed t then Some (coercion.ToSigned t) else None
object_to_signed _ _ = None

-- object or class, and an unsigned number
abbrev pub object_to_unsigned : Ty → Ty → Option Coercion
object_to_unsigned from (ty.Num t) = if is_object_or_class from && not (is_signed t) then Some (coercion.ToUnsigned t) else None
object_to_unsigned _ _ = None

-- object or class, and bint: its truth is asked
abbrev pub object_to_bint : Ty → Ty → Option Coercion
object_to_bint from ty.Bint = if is_object_or_class from then Some coercion.ToBint else None
object_to_bint _ _ = None

-- class, and object or a base class: nothing
abbrev pub class_upwards : NamedSet → Ty → Ty → Option Coercion
class_upwards set (ty.Class c) ty.Object = Some coercion.Same
class_upwards set (ty.Class c) (ty.Class d) = if is_base set d c then Some coercion.Same else None
class_upwards set _ _ = None

-- object or a base class, and a class: None and instances of the class pass
abbrev pub class_downwards : NamedSet → Ty → Ty → Option Coercion
class_downwards set ty.Object (ty.Class d) = Some (coercion.ClassTest d)
class_downwards set (ty.Class c) (ty.Class d) = if is_base set c d then Some (coercion.ClassTest d) else None
class_downwards set _ _ = None

-- object, and a view: a view is taken
abbrev pub object_to_view : Ty → Ty → Option Coercion
object_to_view ty.Object (ty.View v) = Some (coercion.TakeView v)
object_to_view _ _ = None

-- view, and a view of the same element and dimensions that promises no more: `::1` to `:`, writable to const
abbrev pub is_wider : ViewTy → ViewTy → Bool
is_wider v w = same_elements v w && ((v.contiguous || not w.contiguous) && (w.constant || not v.constant))

abbrev pub view_to_view : Ty → Ty → Option Coercion
view_to_view (ty.View v) (ty.View w) = if is_wider v w then Some coercion.Widen else None
view_to_view _ _ = None

-- the rows in their order
abbrev pub rows : NamedSet → Ty → Ty → List (Option Coercion)
rows set from to =
    same_type from to
    ∷ number_to_number from to
    ∷ number_to_bint from to
    ∷ signed_to_object from to
    ∷ unsigned_to_object from to
    ∷ bint_to_object from to
    ∷ object_to_signed from to
    ∷ object_to_unsigned from to
    ∷ object_to_bint from to
    ∷ class_upwards set from to
    ∷ class_downwards set from to
    ∷ object_to_view from to
    ∷ view_to_view from to
    ∷ []

abbrev pub first_of : List (Option Coercion) → Option Coercion
first_of [] = None
first_of (None ∷ more) = first_of more
first_of (Some how ∷ more) = Some how

-- the first row that fits
abbrev pub coercion_of : NamedSet → Ty → Ty → Option Coercion
coercion_of set from to = first_of (rows set from to)
