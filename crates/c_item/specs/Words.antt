-- Which kind of item two tokens begin. The project's own.
use Rattle.std.specs.Prelude.{ℕ, List, ◌∷◌, Bool, nat_eq, slice_index, if◌then◌else◌, codes}
use Rattle.std.specs.Str.{bytes_eq}
use Rattle.c_token.specs.CTokens.{CToken, Word}
use Rattle.c_item.specs.declared.kinds.Opening.{Opening}
use Rattle.c_item.specs.declared.kinds.Opening.TheVariants.{Plain, Table, Typed}
use Rattle.c_item.specs.declared.kinds.Plain.TheVariants as plain
use Rattle.c_item.specs.declared.kinds.Table.TheVariants as table

-- a word that may begin a table of the API
abbrev pub table_opening : List ℕ → Opening
table_opening w =
    if bytes_eq w (codes "PyMethodDef") then Table table.Methods else
    if bytes_eq w (codes "PyGetSetDef") then Table table.Properties else
    if bytes_eq w (codes "PySequenceMethods") then Table table.Sequence else
    if bytes_eq w (codes "PyMappingMethods") then Table table.Mapping else
    if bytes_eq w (codes "PyTypeObject") then Table table.TypeObject else Typed

-- a word that is no `struct`
abbrev pub word_opening : List ℕ → Opening
word_opening w =
    if bytes_eq w (codes "typedef") then Plain plain.Fixed else
    if bytes_eq w (codes "const") then Plain plain.MethodTable else
    if bytes_eq w (codes "extern") then Plain plain.Extern else table_opening w

-- the fifth letter is `v`
abbrev pub has_table_letter : List ℕ → Bool
has_table_letter w = nat_eq (slice_index w 4) 118

-- `struct` with this word behind it
abbrev pub struct_opening : List ℕ → Opening
struct_opening w =
    if bytes_eq w (codes "cyc_root") then Plain plain.Fixed else
    if bytes_eq w (codes "PyModuleDef") then Table table.Definition else
    if has_table_letter w then Plain plain.TableStruct else Plain plain.Instance

-- a word with a word behind it
abbrev pub worded : List ℕ → List ℕ → Opening
worded first second = if bytes_eq first (codes "struct") then struct_opening second else word_opening first

-- a word with no word behind it: `PyTypeObject *` is a type
abbrev pub lone : List ℕ → Opening
lone w = if bytes_eq w (codes "PyTypeObject") then Typed else word_opening w

abbrev pub opening_at : List CToken → Opening
opening_at (Word first ∷ Word second ∷ more) = worded first second
opening_at (Word first ∷ more) = lone first
opening_at more = Plain plain.Fixed
