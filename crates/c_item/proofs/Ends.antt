-- Where the tokens of an item end.
use Rattle.std.proofs.Common.{◌≡◌, ℕ, suc, List, [], ◌∷◌, ◌++◌, Some, ◌⊎◌, inl, inr, length, refl, sym, ap, ◌∙◌}
use Rattle.std.specs.Prelude.{Bool, true, false, Option, None, codes, replicate}
use Rattle.std.specs.List.{flat_map}
use Rattle.std.specs.Str.{bytes_eq}
use Rattle.c_token.specs.CTokens.{CToken, HeaderName, LineEnd, Sign, Str, Word, word, sign}
use Rattle.c_tree.specs.declared.item.CFunction.{CFunction}
use Rattle.c_tree.specs.declared.item.CItem.{CItem}
use Rattle.c_tree.specs.declared.item.CItem.TheVariants as item
use Rattle.c_tree.specs.Forms.{IsItem}
use Rattle.c_tree.specs.Items.{behind, declaration_spelling, fields_spelling, function_spelling, function_token, head_spelling, item_spelling, line_spelling, static_or, types_spelling}
use Rattle.c_tree.specs.Names.{methods_name, name_token, place_name}
use Rattle.c_tree.specs.Values.{result_spelling, string, type_spelling}
use Rattle.c_tree.specs.declared.name.Numbered.{Numbered}
use Rattle.c_slots.specs.Slots as slot
use Rattle.c_slots.specs.Slots.{slot_tokens}
use Rattle.c_slots.specs.Tables.{layer_tokens}
use Rattle.c_table.specs.declared.kinds.Tables.{Tables}
use Rattle.c_table.specs.Parts.{assigned, base_tokens, dotted, member_tokens, method_tokens, pair_tokens, property_tokens}
use Rattle.c_table.specs.Tables.{fields_tokens, functions_of, functions_tokens, methods_end, named_tokens, properties_end, sized_tokens, tables_of, tables_tokens}
use Rattle.c_table.proofs.Lacking.{mapping_tokens, methods_tokens, properties_tokens, sequence_tokens}
use Rattle.c_item.specs.Fixed.{root_tokens, test_tokens, view_tokens}
use Rattle.c_item.specs.Kinds.{declared_tokens, last_of, IsBodied, IsDeclared, IsUnbodied}
use Rattle.c_item.proofs.Bodies.{function_spelled, test_spelled}
use Rattle.c_item.proofs.Lasts.{ends_behind, last_ends, EndsIn}
use Rattle.c_item.proofs.Spelled.{declared_spelled, sides}

-- `;` or the end of a line
abbrev pub EndsPlainly : List CToken → Type 0
EndsPlainly xs = EndsIn (sign ";") xs ⊎ EndsIn LineEnd xs

plainly_behind : (zs xs : List CToken) → EndsPlainly xs → EndsPlainly (zs ++ xs)
plainly_behind zs xs (inl h) = inl (ends_behind (sign ";") zs xs h)
plainly_behind zs xs (inr h) = inr (ends_behind LineEnd zs xs h)

semicolon : EndsPlainly (sign ";" ∷ [])
semicolon = inl ([], refl)

brace_semicolon : EndsPlainly (sign "}" ∷ sign ";" ∷ [])
brace_semicolon = inl (sign "}" ∷ [], refl)

table_ends : (xs : List CToken) → EndsPlainly (xs ++ (sign "}" ∷ sign ";" ∷ []))
table_ends xs = plainly_behind xs (sign "}" ∷ sign ";" ∷ []) brace_semicolon

methods_ends : EndsPlainly methods_end
methods_ends = inl (sign "{" ∷ word "NULL" ∷ sign "," ∷ word "NULL" ∷ sign "," ∷ word "0" ∷ sign "," ∷ word "NULL" ∷ sign "}" ∷ sign "}" ∷ [], refl)

properties_ends : EndsPlainly properties_end
properties_ends = inl (sign "{" ∷ word "NULL" ∷ sign "," ∷ word "NULL" ∷ sign "," ∷ word "NULL" ∷ sign "," ∷ word "NULL" ∷ sign "," ∷ word "NULL" ∷ sign "}" ∷ sign "}" ∷ [], refl)

pair_ends : (first letters second others : List ℕ) (a b : Option Numbered) → EndsPlainly (pair_tokens first letters second others a b)
pair_ends first letters second others None b = table_ends (member_tokens (dotted second) others b)
pair_ends first letters second others (Some n) b =
    plainly_behind (member_tokens (dotted first) letters (Some n)) (member_tokens (assigned second) others b ++ (sign "}" ∷ sign ";" ∷ [])) (table_ends (member_tokens (assigned second) others b))

tables_end : (t : Tables) → EndsPlainly (tables_tokens t)
tables_end t = plainly_behind (methods_tokens t) _ (plainly_behind (properties_tokens t) _ (plainly_behind (sequence_tokens t) _ (table_ends (mapping_tokens t))))

view_ends : EndsPlainly view_tokens
view_ends = inl (word "typedef" ∷ word "struct" ∷ sign "{" ∷ word "PyObject" ∷ sign "*" ∷ word "mv" ∷ sign ";" ∷ word "char" ∷ sign "*" ∷ word "buf" ∷ sign ";" ∷ word "Py_ssize_t" ∷ word "n" ∷ sign "[" ∷ word "3" ∷ sign "]" ∷ sign ";" ∷ word "Py_ssize_t" ∷ word "s" ∷ sign "[" ∷ word "3" ∷ sign "]" ∷ sign ";" ∷ sign "}" ∷ word "cyc_view" ∷ [], refl)

root_ends : EndsPlainly root_tokens
root_ends = inl (word "struct" ∷ word "cyc_root" ∷ sign "{" ∷ word "PyObject_HEAD" ∷ word "const" ∷ word "void" ∷ sign "*" ∷ word "vt" ∷ sign ";" ∷ sign "}" ∷ [], refl)

pub declared_ends : (flag : Bool) (t : CItem) → IsDeclared flag t → EndsPlainly (declared_tokens t)
declared_ends flag item.DefineClean form = inr (sign "#" ∷ word "define" ∷ word "PY_SSIZE_T_CLEAN" ∷ [], refl)
declared_ends flag item.IncludePython form = inr (sign "#" ∷ word "include" ∷ HeaderName (codes "Python.h") ∷ [], refl)
declared_ends flag item.IncludeSet form = inr (sign "#" ∷ word "include" ∷ Str (codes "cyc_set.h") ∷ [], refl)
declared_ends flag item.ViewType form = view_ends
declared_ends flag item.RootStruct form = root_ends
declared_ends flag (item.InstanceStruct n b kinds) form =
    plainly_behind (word "struct" ∷ name_token "cyc_o_" n ∷ sign "{" ∷ base_tokens b) (fields_tokens kinds) (table_ends (fields_spelling 0 kinds))
declared_ends flag (item.TableStruct n b slots) form =
    plainly_behind (word "struct" ∷ name_token "cyc_vt_" n ∷ sign "{" ∷ slot.base_tokens b) (flat_map slot_tokens slots ++ (sign "}" ∷ sign ";" ∷ [])) (table_ends (flat_map slot_tokens slots))
declared_ends flag (item.Table t) form =
    plainly_behind (word "const" ∷ word "struct" ∷ name_token "cyc_vt_" t.class ∷ name_token "cyc_t_" t.class ∷ sign "=" ∷ replicate (suc (length t.outer)) (sign "{")) _
    (plainly_behind (string t.name ∷ behind t.inner) (flat_map layer_tokens t.outer ++ (sign "}" ∷ sign ";" ∷ [])) (table_ends (flat_map layer_tokens t.outer)))
declared_ends flag (item.ExternType n) form = inl (word "extern" ∷ word "PyTypeObject" ∷ name_token "cyc_ty_" n ∷ [], refl)
declared_ends flag (item.Prototype kind f kinds) form =
    plainly_behind (result_spelling kind) _ (plainly_behind (function_token f ∷ types_spelling kinds) (sign ";" ∷ []) semicolon)
declared_ends flag (item.StaticPrototype kind f kinds) form =
    plainly_behind (type_spelling kind) _ (plainly_behind (function_token f ∷ types_spelling kinds) (sign ";" ∷ []) semicolon)
declared_ends flag (item.Static kind x) form = plainly_behind (type_spelling kind) _ (plainly_behind (Word (place_name x) ∷ []) (sign ";" ∷ []) semicolon)
declared_ends flag (item.Methods s name rows) form =
    plainly_behind (word "PyMethodDef" ∷ Word (methods_name name) ∷ sign "[" ∷ sign "]" ∷ sign "=" ∷ sign "{" ∷ flat_map method_tokens rows) methods_end methods_ends
declared_ends flag (item.Properties s n rows) form =
    plainly_behind (word "PyGetSetDef" ∷ name_token "cyc_gs_" n ∷ sign "[" ∷ sign "]" ∷ sign "=" ∷ sign "{" ∷ flat_map property_tokens rows) properties_end properties_ends
declared_ends flag (item.Sequence s n a b) form =
    plainly_behind (word "PySequenceMethods" ∷ name_token "cyc_sq_" n ∷ sign "=" ∷ sign "{" ∷ []) _ (pair_ends (codes "sq_length") (codes "cyc_len_") (codes "sq_contains") (codes "cyc_has_") a b)
declared_ends flag (item.Mapping s n a b) form =
    plainly_behind (word "PyMappingMethods" ∷ name_token "cyc_mp_" n ∷ sign "=" ∷ sign "{" ∷ []) _ (pair_ends (codes "mp_length") (codes "cyc_len_") (codes "mp_subscript") (codes "cyc_item_") a b)
declared_ends flag (item.Type s t) form =
    plainly_behind (named_tokens t.class t.name) _
    (plainly_behind (sized_tokens t.size) _
    (plainly_behind (functions_tokens (functions_of t)) (tables_tokens (tables_of t)) (tables_end (tables_of t))))
declared_ends flag (item.ModuleDefinition s name) form = inl (word "struct" ∷ word "PyModuleDef" ∷ word "cyc_def" ∷ sign "=" ∷ sign "{" ∷ word "PyModuleDef_HEAD_INIT" ∷ sign "," ∷ string name ∷ sign "," ∷ word "NULL" ∷ sign "," ∷ sign "-" ∷ word "1" ∷ sign "," ∷ word "cyc_md" ∷ sign "}" ∷ [], refl)
declared_ends flag item.FormatTest form = absurd form
declared_ends flag (item.Function f) form = absurd form

static_ends : (flag : Bool) (xs : List CToken) → EndsPlainly xs → EndsPlainly (static_or flag xs)
static_ends true xs h = plainly_behind (word "static" ∷ []) xs h
static_ends false xs h = h

-- the token is `}`
abbrev is_brace : Option CToken → Bool
is_brace (Some (Sign letters)) = bytes_eq letters (codes "}")
is_brace _ = false

pub false_true : false ≡ true → ⊥
false_true e = cc

no_brace : (xs : List CToken) → EndsPlainly xs → last_of xs ≡ Some (sign "}") → ⊥
no_brace xs (inl h) e = false_true (sym (ap is_brace (last_ends (sign ";") xs h)) ∙ ap is_brace e)
no_brace xs (inr h) e = false_true (sym (ap is_brace (last_ends LineEnd xs h)) ∙ ap is_brace e)

one_side : (flag : Bool) (t : CItem) → IsDeclared flag t → last_of (item_spelling t) ≡ Some (sign "}") → ⊥
one_side flag t form e = no_brace (static_or flag (declared_tokens t)) (static_ends flag (declared_tokens t) (declared_ends flag t form)) (ap last_of (sym (declared_spelled flag t form)) ∙ e)

pub unbodied_ends : (t : CItem) → IsItem t → IsUnbodied t → last_of (item_spelling t) ≡ Some (sign "}") → ⊥
unbodied_ends t form u e = go (sides t form u)
  where
    go : IsDeclared true t ⊎ IsDeclared false t → ⊥
    go (inl d) = one_side true t d e
    go (inr d) = one_side false t d e

function_ends : (f : CFunction) → EndsIn (sign "}") (function_spelling f)
function_ends f =
    ends_behind (sign "}") (head_spelling f.head) _
    (ends_behind (sign "}") (sign "{" ∷ flat_map declaration_spelling f.declarations) _ (ends_behind (sign "}") (flat_map line_spelling f.lines) (sign "}" ∷ []) ([], refl)))

test_ends : last_of test_tokens ≡ Some (sign "}")
test_ends = refl

pub bodied_ends : (t : CItem) → IsBodied t → last_of (item_spelling t) ≡ Some (sign "}")
bodied_ends item.FormatTest form = ap last_of test_spelled ∙ test_ends
bodied_ends (item.Function f) form = ap last_of (function_spelled f) ∙ last_ends (sign "}") (function_spelling f) (function_ends f)
bodied_ends _ form = absurd form

-- an item is a function or none
pub bodied : (t : CItem) → IsItem t → IsBodied t ⊎ IsUnbodied t
unfolding IsItem
bodied item.FormatTest form = inl tt
bodied (item.Function f) form = inl form
bodied item.DefineClean form = inr tt
bodied item.IncludePython form = inr tt
bodied item.IncludeSet form = inr tt
bodied item.ViewType form = inr tt
bodied item.RootStruct form = inr tt
bodied (item.InstanceStruct n b kinds) form = inr tt
bodied (item.TableStruct n b slots) form = inr tt
bodied (item.Table t) form = inr tt
bodied (item.Prototype kind f kinds) form = inr tt
bodied (item.StaticPrototype kind f kinds) form = inr tt
bodied (item.ExternType n) form = inr tt
bodied (item.Static kind x) form = inr tt
bodied (item.Methods s name rows) form = inr tt
bodied (item.Properties s n rows) form = inr tt
bodied (item.Sequence s n a b) form = inr tt
bodied (item.Mapping s n a b) form = inr tt
bodied (item.Type s t) form = inr tt
bodied (item.ModuleDefinition s name) form = inr tt
