-- The tokens of structs and tables are those of their spellings.
use Rattle.std.proofs.Common.{◌≡◌, ℕ, List, [], ◌∷◌, ◌++◌, Some, refl, ap, ◌∙◌}
use Rattle.std.specs.Prelude.{Bool, Option, None, codes}
use Rattle.std.specs.List.{flat_map}
use Rattle.c_token.specs.CTokens.{CToken, Word, word, sign, c_tokens, tokens_from}
use Rattle.c_tree.specs.declared.item.Base.{Base}
use Rattle.c_tree.specs.declared.item.Base.TheVariants as base
use Rattle.c_tree.specs.declared.item.CItem.TheVariants as item
use Rattle.c_tree.specs.declared.item.MethodRow.{MethodRow}
use Rattle.c_tree.specs.declared.item.PropertyRow.{PropertyRow}
use Rattle.c_tree.specs.declared.name.FieldNumber.{FieldNumber}
use Rattle.c_tree.specs.declared.name.Numbered.{Numbered}
use Rattle.c_tree.specs.declared.name.TableName.{TableName}
use Rattle.c_tree.specs.declared.value.CType.{CType}
use Rattle.c_tree.specs.Forms.{AreMembers}
use Rattle.c_tree.specs.Names.{methods_name, name_token, of_field, text}
use Rattle.c_tree.specs.Values.{string}
use Rattle.c_tree.specs.Items.{base_spelling, fields_spelling, item_spelling, member, members, method_spelling, property_spelling, setter_or_null, static_or}
use Rattle.c_table.specs.Parts.{base_tokens, end_tokens, method_tokens, pair_tokens, property_end, property_tokens, setter_tokens}
use Rattle.c_table.specs.Tables.{item_tokens, methods_end, properties_end}

pub same_flat_map : {A : Type 0} (f g : A → List CToken) (xs : List A) → ((x : A) → f x ≡ g x) → flat_map f xs ≡ flat_map g xs
same_flat_map f g [] h = refl
same_flat_map f g (x ∷ xs) h = ap (λ (t : List CToken). t ++ flat_map f xs) (h x) ∙ ap (λ (t : List CToken). g x ++ t) (same_flat_map f g xs h)

base_spelled : (b : Base) → base_spelling b ≡ base_tokens b
unfolding c_tokens tokens_from
base_spelled base.Root = refl
base_spelled (base.Class n) = refl

-- the fixed texts
end_spelled : text "};" ≡ end_tokens
unfolding c_tokens tokens_from
end_spelled = refl

pub struct_spelled : (n : Numbered) (b : Base) (kinds : List CType) → item_spelling (item.InstanceStruct n b kinds) ≡ item_tokens (item.InstanceStruct n b kinds)
unfolding item_spelling
struct_spelled n b kinds =
    ap (λ (t : List CToken). word "struct" ∷ name_token "cyc_o_" n ∷ sign "{" ∷ (t ++ (fields_spelling 0 kinds ++ text "};"))) (base_spelled b)
    ∙ ap (λ (t : List CToken). word "struct" ∷ name_token "cyc_o_" n ∷ sign "{" ∷ (base_tokens b ++ (fields_spelling 0 kinds ++ t))) end_spelled

method_spelled : (m : MethodRow) → method_spelling m ≡ method_tokens m
unfolding c_tokens tokens_from
method_spelled m = refl

begin_spelled : text "[] = {" ≡ sign "[" ∷ sign "]" ∷ sign "=" ∷ sign "{" ∷ []
unfolding c_tokens tokens_from
begin_spelled = refl

methods_end_spelled : text "{NULL, NULL, 0, NULL} };" ≡ methods_end
unfolding c_tokens tokens_from
methods_end_spelled = refl

pub methods_spelled : (flag : Bool) (name : TableName) (rows : List MethodRow) → item_spelling (item.Methods flag name rows) ≡ static_or flag (item_tokens (item.Methods flag name rows))
unfolding item_spelling
methods_spelled flag name rows =
    ap (λ (t : List CToken). static_or flag (word "PyMethodDef" ∷ Word (methods_name name) ∷ (t ++ (flat_map method_spelling rows ++ text "{NULL, NULL, 0, NULL} };")))) begin_spelled
    ∙ (ap (λ (t : List CToken). static_or flag (word "PyMethodDef" ∷ Word (methods_name name) ∷ sign "[" ∷ sign "]" ∷ sign "=" ∷ sign "{" ∷ (t ++ text "{NULL, NULL, 0, NULL} };"))) (same_flat_map method_spelling method_tokens rows method_spelled)
    ∙ ap (λ (t : List CToken). static_or flag (word "PyMethodDef" ∷ Word (methods_name name) ∷ sign "[" ∷ sign "]" ∷ sign "=" ∷ sign "{" ∷ (flat_map method_tokens rows ++ t))) methods_end_spelled)

setter_spelled : (s : Option FieldNumber) → setter_or_null s ≡ setter_tokens s
unfolding c_tokens tokens_from
setter_spelled None = refl
setter_spelled (Some f) = refl

property_end_spelled : text ", NULL, NULL}," ≡ property_end
unfolding c_tokens tokens_from
property_end_spelled = refl

property_spelled : (p : PropertyRow) → property_spelling p ≡ property_tokens p
property_spelled p =
    ap (λ (t : List CToken). sign "{" ∷ string p.name ∷ sign "," ∷ Word (of_field "cyc_get_" p.getter) ∷ sign "," ∷ (t ++ text ", NULL, NULL},")) (setter_spelled p.setter)
    ∙ ap (λ (t : List CToken). sign "{" ∷ string p.name ∷ sign "," ∷ Word (of_field "cyc_get_" p.getter) ∷ sign "," ∷ (setter_tokens p.setter ++ t)) property_end_spelled

properties_end_spelled : text "{NULL, NULL, NULL, NULL, NULL} };" ≡ properties_end
unfolding c_tokens tokens_from
properties_end_spelled = refl

pub properties_spelled : (flag : Bool) (n : Numbered) (rows : List PropertyRow) → item_spelling (item.Properties flag n rows) ≡ static_or flag (item_tokens (item.Properties flag n rows))
unfolding item_spelling
properties_spelled flag n rows =
    ap (λ (t : List CToken). static_or flag (word "PyGetSetDef" ∷ name_token "cyc_gs_" n ∷ (t ++ (flat_map property_spelling rows ++ text "{NULL, NULL, NULL, NULL, NULL} };")))) begin_spelled
    ∙ (ap (λ (t : List CToken). static_or flag (word "PyGetSetDef" ∷ name_token "cyc_gs_" n ∷ sign "[" ∷ sign "]" ∷ sign "=" ∷ sign "{" ∷ (t ++ text "{NULL, NULL, NULL, NULL, NULL} };"))) (same_flat_map property_spelling property_tokens rows property_spelled)
    ∙ ap (λ (t : List CToken). static_or flag (word "PyGetSetDef" ∷ name_token "cyc_gs_" n ∷ sign "[" ∷ sign "]" ∷ sign "=" ∷ sign "{" ∷ (flat_map property_tokens rows ++ t))) properties_end_spelled)

-- one or two members
sequence_members : (a b : Option Numbered) → AreMembers a b → members (member ".sq_length" "=" "cyc_len_" a ++ member ".sq_contains" "=" "cyc_has_" b)
    ≡ sign "{" ∷ pair_tokens (codes "sq_length") (codes "cyc_len_") (codes "sq_contains") (codes "cyc_has_") a b
unfolding c_tokens tokens_from
sequence_members None None h = absurd h
sequence_members None (Some m) h = refl
sequence_members (Some n) None h = refl
sequence_members (Some n) (Some m) h = refl

pub sequence_spelled : (flag : Bool) (n : Numbered) (a b : Option Numbered) → AreMembers a b → item_spelling (item.Sequence flag n a b) ≡ static_or flag (item_tokens (item.Sequence flag n a b))
unfolding item_spelling
sequence_spelled flag n a b h = ap (λ (t : List CToken). static_or flag (word "PySequenceMethods" ∷ name_token "cyc_sq_" n ∷ sign "=" ∷ t)) (sequence_members a b h)

mapping_members : (a b : Option Numbered) → AreMembers a b → members (member ".mp_length" "=" "cyc_len_" a ++ member ".mp_subscript" "=" "cyc_item_" b)
    ≡ sign "{" ∷ pair_tokens (codes "mp_length") (codes "cyc_len_") (codes "mp_subscript") (codes "cyc_item_") a b
unfolding c_tokens tokens_from
mapping_members None None h = absurd h
mapping_members None (Some m) h = refl
mapping_members (Some n) None h = refl
mapping_members (Some n) (Some m) h = refl

pub mapping_spelled : (flag : Bool) (n : Numbered) (a b : Option Numbered) → AreMembers a b → item_spelling (item.Mapping flag n a b) ≡ static_or flag (item_tokens (item.Mapping flag n a b))
unfolding item_spelling
mapping_spelled flag n a b h = ap (λ (t : List CToken). static_or flag (word "PyMappingMethods" ∷ name_token "cyc_mp_" n ∷ sign "=" ∷ t)) (mapping_members a b h)

definition_begin : text "struct PyModuleDef cyc_def = { PyModuleDef_HEAD_INIT," ≡ word "struct" ∷ word "PyModuleDef" ∷ word "cyc_def" ∷ sign "=" ∷ sign "{" ∷ word "PyModuleDef_HEAD_INIT" ∷ sign "," ∷ []
unfolding c_tokens tokens_from
definition_begin = refl

definition_end : text ", NULL, -1, cyc_md };" ≡ sign "," ∷ word "NULL" ∷ sign "," ∷ sign "-" ∷ word "1" ∷ sign "," ∷ word "cyc_md" ∷ end_tokens
unfolding c_tokens tokens_from
definition_end = refl

pub definition_spelled : (flag : Bool) (name : List ℕ) → item_spelling (item.ModuleDefinition flag name) ≡ static_or flag (item_tokens (item.ModuleDefinition flag name))
unfolding item_spelling
definition_spelled flag name =
    ap (λ (t : List CToken). static_or flag (t ++ (string name ∷ text ", NULL, -1, cyc_md };"))) definition_begin
    ∙ ap (λ (t : List CToken). static_or flag (word "struct" ∷ word "PyModuleDef" ∷ word "cyc_def" ∷ sign "=" ∷ sign "{" ∷ word "PyModuleDef_HEAD_INIT" ∷ sign "," ∷ string name ∷ t)) definition_end
