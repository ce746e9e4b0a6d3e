-- The row of a name in two tables, one behind the other.
use Rattle.std.specs.Prelude.{ℕ, List, [], ◌∷◌, ◌++◌, Option, Some, None, ◌≡◌, true, false, if◌then◌else◌}
use Rattle.std.specs.Str.{bytes_eq}
use Rattle.std.proofs.Common.{refl}
use Rattle.api_model.specs.declared.rows.ApiRow.{ApiRow}
use Rattle.api_model.specs.Rows.{Function, row_in}

-- the row in the first table, else that in the second
abbrev or_row : Option ApiRow → Option ApiRow → Option ApiRow
or_row None b = b
or_row (Some r) b = Some r

row_in-append : (fs gs : List Function) (name : List ℕ) → row_in (fs ++ gs) name ≡ or_row (row_in fs name) (row_in gs name)
row_in-append [] gs name = refl
row_in-append (f ∷ fs) gs name =
    elim (bytes_eq name f.name) as (λ b. (if b then Some f.row else row_in (fs ++ gs) name) ≡ or_row (if b then Some f.row else row_in fs name) (row_in gs name))
    [ true ↦ refl | false ↦ row_in-append fs gs name ]

pub row_in_first : (fs gs : List Function) (name : List ℕ) (r : ApiRow) → row_in fs name ≡ Some r → row_in (fs ++ gs) name ≡ Some r
row_in_first fs gs name r h = rw (row_in-append fs gs name) (rw h refl)

pub row_in_second : (fs gs : List Function) (name : List ℕ) → row_in fs name ≡ None → row_in (fs ++ gs) name ≡ row_in gs name
row_in_second fs gs name h = rw (row_in-append fs gs name) (rw h refl)

pub ruleset appended = (row_in_first, row_in_second)
