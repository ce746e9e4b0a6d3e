-- What an instance holds, by the structs of its classes (ISO/IEC 9899:2011 6.7.2.1).
use Rattle.std.specs.Prelude.{◌≡◌, ◌<◌, ℕ, zero, suc, List, [], ◌∷◌, Option, Some, None, length, slice_get, slice_set, if◌then◌else◌}
use Rattle.c_tree.specs.declared.name.Numbered.{Numbered}
use Rattle.c_value.specs.declared.kind.Kind.{Kind}
use Rattle.c_value.specs.declared.value.Value.{Value}
use Rattle.c_value.specs.declared.space.Part.{Part}
use Rattle.c_value.specs.Names.{same_number}
use Rattle.c_value.specs.Values.{converted}

-- what an instance holds of the struct of a class
abbrev pub part_of : List Part → Numbered → Option (List (Kind × Value))
part_of [] class = None
part_of (p ∷ ps) class = if same_number p.class class then Some p.fields else part_of ps class

abbrev pub put_field : List (Kind × Value) → ℕ → Value → List (Kind × Value)
put_field [] j v = []
put_field ((k, old) ∷ fs) zero v = (k, converted k v) ∷ fs
put_field (f ∷ fs) (suc j) v = f ∷ put_field fs j v

abbrev pub field_put : ℕ → Value → Part → Part
field_put j v p = record p { fields = put_field p.fields j v }

abbrev pub put_part : List Part → Numbered → ℕ → Value → List Part
put_part [] class j v = []
put_part (p ∷ ps) class j v = if same_number p.class class then field_put j v p ∷ ps else p ∷ put_part ps class j v

-- the type of a field, if there is one
abbrev pub kind_among : Option (Kind × Value) → Option Kind
kind_among None = None
kind_among (Some (k, v)) = Some k

-- where the struct of a class stands, if it is there: the first counts
abbrev pub IsPart : List Part → Numbered → Option ℕ → Type 0
IsPart ps class None = (j : ℕ) (v : Value) → put_part ps class j v ≡ ps
IsPart ps class (Some i) =
    (i < length ps) × ((j : ℕ) (v : Value) (p : Part) → slice_get ps i ≡ Some p → put_part ps class j v ≡ slice_set ps i (field_put j v p))
