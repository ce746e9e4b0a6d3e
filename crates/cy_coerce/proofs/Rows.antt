-- What two classes come to, by the three tests of its rows.
use Rattle.std.proofs.Common.{◌≡◌, Bool, true, false, ◌&&◌, if◌then◌else◌, Option, Some, None, [], ◌∷◌, refl}
use Rattle.cy_tree.specs.declared.ty.ClassId.{ClassId}
use Rattle.cy_tree.specs.declared.ty.Coercion.{Coercion}
use Rattle.cy_tree.specs.declared.ty.Coercion.TheVariants as coercion
use Rattle.cy_tree.specs.Coercions.{first_of}

abbrev by_tests : Bool → Bool → Bool → ClassId → Option Coercion
by_tests same upwards downwards to =
    if same then Some coercion.Same else if upwards then Some coercion.Same else if downwards then Some (coercion.ClassTest to) else None

abbrev by_rows : Bool → Bool → Bool → ClassId → Option Coercion
by_rows same upwards downwards to =
    first_of ((if same && true then Some coercion.Same else None) ∷ None ∷ None ∷ None ∷ None ∷ None ∷ None ∷ None ∷ None
    ∷ (if upwards then Some coercion.Same else None) ∷ (if downwards then Some (coercion.ClassTest to) else None) ∷ None ∷ None ∷ [])

pub class_rows : (same upwards downwards : Bool) (to : ClassId) → by_tests same upwards downwards to ≡ by_rows same upwards downwards to
class_rows true upwards downwards to = refl
class_rows false true downwards to = refl
class_rows false false true to = refl
class_rows false false false to = refl
