-- Places of statements, and their tokens one by one. The project's own profile of C (ISO/IEC 9899:2011).
use Rattle.std.specs.Prelude.{List, [], ◌∷◌, ◌++◌}
use Rattle.c_token.specs.CTokens.{CToken, word, sign}
use Rattle.c_tree.specs.declared.statement.FieldPlace.{FieldPlace}
use Rattle.c_tree.specs.declared.statement.ViewNumber.{ViewNumber}
use Rattle.c_tree.specs.declared.statement.ViewNumber.TheVariants as number
use Rattle.c_tree.specs.declared.name.Variable.{Variable}
use Rattle.c_tree.specs.Forms.{IsNumber, IsNumbered, IsVariable}
use Rattle.c_tree.specs.Names.{name_token, variable_token, letter_token}
use Rattle.c_tree.specs.Statements.{element, index, method_of}
use Rattle.c_tree.specs.Values.{type_spelling}
use Rattle.c_place.specs.declared.elements.ElementPlace.{ElementPlace}
use Rattle.c_place.specs.declared.tables.Method.{Method}

-- a method of an instance: its numbers and the variable are in range
abbrev pub IsMethod : Method → Type 0
IsMethod m = IsNumbered m.table × IsVariable m.object × IsNumber m.slot

-- `((const struct cyc_vt_0_1 *)((struct cyc_root *)y)->vt)->m2`
abbrev pub method_spelling : Method → List CToken
method_spelling m = method_of m.table m.object m.slot

abbrev pub IsElement : ElementPlace → Type 0
IsElement e = IsVariable e.view × IsVariable e.offset

-- `*(T *)(v.buf + y)`
abbrev pub element_spelling : ElementPlace → List CToken
element_spelling e = element e.kind e.view e.offset

-- ---- token by token

abbrev pub field_tokens : FieldPlace → List CToken
field_tokens p =
    sign "(" ∷ sign "(" ∷ word "struct" ∷ name_token "cyc_o_" p.class ∷ sign "*" ∷ sign ")" ∷ variable_token p.object ∷ sign ")" ∷ sign "->" ∷ letter_token "f" p.field ∷ []

abbrev pub table_tokens : Variable → List CToken
table_tokens y =
    sign "(" ∷ sign "(" ∷ word "struct" ∷ word "cyc_root" ∷ sign "*" ∷ sign ")" ∷ variable_token y ∷ sign ")" ∷ sign "->" ∷ word "vt" ∷ []

abbrev pub method_tokens : Method → List CToken
method_tokens m =
    sign "(" ∷ sign "(" ∷ word "const" ∷ word "struct" ∷ name_token "cyc_vt_" m.table ∷ sign "*" ∷ sign ")" ∷ (table_tokens m.object ++ (sign ")" ∷ sign "->" ∷ letter_token "m" m.slot ∷ []))

abbrev pub buffer_tokens : Variable → List CToken
buffer_tokens y = word "PyMemoryView_GET_BUFFER" ∷ sign "(" ∷ variable_token y ∷ sign ")" ∷ sign "->" ∷ []

abbrev pub number_tokens : ViewNumber → List CToken
number_tokens number.Dimensions = word "ndim" ∷ []
number_tokens number.ItemSize = word "itemsize" ∷ []
number_tokens number.Readonly = word "readonly" ∷ []
number_tokens (number.Shape j) = word "shape" ∷ index j
number_tokens (number.Stride j) = word "strides" ∷ index j

abbrev pub element_tokens : ElementPlace → List CToken
element_tokens e =
    sign "*" ∷ sign "(" ∷ (type_spelling e.kind ++ (sign "*" ∷ sign ")" ∷ sign "(" ∷ variable_token e.view ∷ sign "." ∷ word "buf" ∷ sign "+" ∷ variable_token e.offset ∷ sign ")" ∷ []))
