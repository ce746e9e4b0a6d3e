-- Lines of a function. The project's own profile of C (ISO/IEC 9899:2011 6.8.1, 6.9.1).
use Rattle.std.specs.Prelude.{◌≡◌, List, [], ◌∷◌, Bool, true, false, Some, slice_get}
use Rattle.std.specs.List.{AllByRecursion}
use Rattle.c_token.specs.CTokens.{CToken, sign}
use Rattle.c_tree.specs.declared.item.Line.{Line}
use Rattle.c_tree.specs.declared.item.Line.TheVariants as line
use Rattle.c_tree.specs.Forms.{IsLine, IsNumber, LabelsStand}

abbrev pub is_label : Line → Bool
is_label (line.Label j) = true
is_label (line.Statement s) = false

-- a label in form
abbrev pub IsLabel : Line → Type 0
IsLabel (line.Label j) = IsNumber j
IsLabel (line.Statement s) = ⊥

-- whether the last line is a label
abbrev pub ends_in_label : List Line → Bool
ends_in_label [] = false
ends_in_label (last ∷ []) = is_label last
ends_in_label (first ∷ next ∷ lines) = ends_in_label (next ∷ lines)

-- the lines of a function in form
abbrev pub AreLines : List Line → Type 0
AreLines all = AllByRecursion IsLine all × LabelsStand all

-- `}` stands first
abbrev pub IsClosed : List CToken → Type 0
IsClosed rest = slice_get rest 0 ≡ Some (sign "}")
