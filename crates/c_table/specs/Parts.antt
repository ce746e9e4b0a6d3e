-- The tokens of the parts of structs and tables, told one by one. The project's own profile of C (ISO/IEC 9899:2011 6.7.2.1,
-- 6.7.9; Python/C API manual, "Common Object Structures", "Type Objects").
use Rattle.std.specs.Prelude.{ℕ, List, [], ◌∷◌, ◌++◌, Option, Some, None}
use Rattle.c_token.specs.CTokens.{CToken, Word, word, sign}
use Rattle.c_tree.specs.declared.item.Base.{Base}
use Rattle.c_tree.specs.declared.item.Base.TheVariants as base
use Rattle.c_tree.specs.declared.item.MethodRow.{MethodRow}
use Rattle.c_tree.specs.declared.item.PropertyRow.{PropertyRow}
use Rattle.c_tree.specs.declared.name.FieldNumber.{FieldNumber}
use Rattle.c_tree.specs.declared.name.Numbered.{Numbered}
use Rattle.c_tree.specs.declared.value.CType.{CType}
use Rattle.c_tree.specs.Forms.{IsNumbered, IsString}
use Rattle.c_tree.specs.Names.{letter_token, name_token, of_field}
use Rattle.c_tree.specs.Values.{string, type_spelling}
use Rattle.c_word.specs.Numbers.{two_numbers}

-- ---- structs

abbrev pub base_tokens : Base → List CToken
base_tokens base.Root = word "struct" ∷ word "cyc_root" ∷ word "b" ∷ sign ";" ∷ []
base_tokens (base.Class n) = word "struct" ∷ name_token "cyc_o_" n ∷ word "b" ∷ sign ";" ∷ []

-- a field with its number
abbrev pub field_tokens : ℕ → CType → List CToken
field_tokens j kind = type_spelling kind ++ (letter_token "f" j ∷ sign ";" ∷ [])

-- ---- rows

-- `, (PyCFunction)(void (*)(void))`
abbrev pub function_cast : List CToken
function_cast =
    sign "," ∷ sign "(" ∷ word "PyCFunction" ∷ sign ")" ∷ sign "(" ∷ word "void" ∷ sign "(" ∷ sign "*" ∷ sign ")" ∷ sign "(" ∷ word "void" ∷ sign ")" ∷ sign ")" ∷ []

-- `, METH_FASTCALL, NULL},`
abbrev pub method_end : List CToken
method_end = sign "," ∷ word "METH_FASTCALL" ∷ sign "," ∷ word "NULL" ∷ sign "}" ∷ sign "," ∷ []

abbrev pub IsMethod : MethodRow → Type 0
IsMethod m = IsString m.name × IsNumbered m.wrapper

abbrev pub method_tokens : MethodRow → List CToken
method_tokens m = sign "{" ∷ string m.name ∷ (function_cast ++ (name_token "cyc_w_" m.wrapper ∷ method_end))

abbrev pub setter_tokens : Option FieldNumber → List CToken
setter_tokens None = word "NULL" ∷ []
setter_tokens (Some f) = Word (of_field "cyc_set_" f) ∷ []

-- `, NULL, NULL},`
abbrev pub property_end : List CToken
property_end = sign "," ∷ word "NULL" ∷ sign "," ∷ word "NULL" ∷ sign "}" ∷ sign "," ∷ []

-- what a row of a property has behind its name and a comma
abbrev pub accessor_tokens : FieldNumber → Option FieldNumber → List CToken
accessor_tokens getter setter = Word (of_field "cyc_get_" getter) ∷ sign "," ∷ (setter_tokens setter ++ property_end)

abbrev pub property_tokens : PropertyRow → List CToken
property_tokens p = sign "{" ∷ string p.name ∷ sign "," ∷ accessor_tokens p.getter p.setter

-- ---- members

-- a member, where it is there: the tokens before its name, and the name
abbrev pub member_tokens : List CToken → List ℕ → Option Numbered → List CToken
member_tokens before letters None = []
member_tokens before letters (Some n) = before ++ (Word (letters ++ two_numbers n.module n.index) ∷ [])

-- `.sq_length =`
abbrev pub dotted : List ℕ → List CToken
dotted name = sign "." ∷ Word name ∷ sign "=" ∷ []

-- `.tp_new =`, with the comma before it
abbrev pub assigned : List ℕ → List CToken
assigned name = sign "," ∷ dotted name

-- `.tp_base = &`, with the comma before it
abbrev pub assigned_address : List ℕ → List CToken
assigned_address name = sign "," ∷ sign "." ∷ Word name ∷ sign "=" ∷ sign "&" ∷ []

-- what ends braces and the item
abbrev pub end_tokens : List CToken
end_tokens = sign "}" ∷ sign ";" ∷ []

-- one or two members, with a comma between them where both are there, and the end of the braces
abbrev pub pair_tokens : List ℕ → List ℕ → List ℕ → List ℕ → Option Numbered → Option Numbered → List CToken
pair_tokens first letters second others None b = member_tokens (dotted second) others b ++ end_tokens
pair_tokens first letters second others (Some n) b = member_tokens (dotted first) letters (Some n) ++ (member_tokens (assigned second) others b ++ end_tokens)
