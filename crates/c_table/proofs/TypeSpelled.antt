-- The tokens of type objects are those of their spellings.
use Rattle.std.proofs.Common.{◌≡◌, List, [], ◌∷◌, ◌++◌, Some, refl, ap, ◌∙◌, append_assoc}
use Rattle.std.specs.Prelude.{Bool, Option, None, codes}
use Rattle.std.specs.List.{flat_map}
use Rattle.std.proofs.lemmas.Grind.{flat_map-append}
use Rattle.c_token.specs.CTokens.{CToken, word, sign, c_tokens, tokens_from}
use Rattle.c_tree.specs.declared.item.CItem.TheVariants as item
use Rattle.c_tree.specs.declared.item.TypeObject.{TypeObject}
use Rattle.c_tree.specs.declared.name.Numbered.{Numbered}
use Rattle.c_tree.specs.Items.{item_spelling, member, static_or, type_members}
use Rattle.c_tree.specs.Names.{listed, name_token, text}
use Rattle.c_tree.specs.Values.{string}
use Rattle.c_table.proofs.Lacking.{base_tokens, dealloc_tokens, init_tokens, mapping_tokens, methods_tokens, new_tokens, properties_tokens, sequence_tokens}
use Rattle.c_table.specs.Parts.{assigned, assigned_address, end_tokens, member_tokens}
use Rattle.c_table.specs.Tables.{functions_of, functions_tokens, item_tokens, sized_tokens, tables_of, tables_tokens}

-- members, each with the comma before it
abbrev behind_commas : List (List CToken) → List CToken
behind_commas all = flat_map (λ tokens. sign "," ∷ tokens) all

base_commas : (m : Option Numbered) → behind_commas (member ".tp_base" "= &" "cyc_ty_" m) ≡ member_tokens (assigned_address (codes "tp_base")) (codes "cyc_ty_") m
unfolding c_tokens tokens_from
base_commas None = refl
base_commas (Some n) = refl

new_commas : (m : Option Numbered) → behind_commas (member ".tp_new" "=" "cyc_new_" m) ≡ member_tokens (assigned (codes "tp_new")) (codes "cyc_new_") m
unfolding c_tokens tokens_from
new_commas None = refl
new_commas (Some n) = refl

init_commas : (m : Option Numbered) → behind_commas (member ".tp_init" "=" "cyc_init_" m) ≡ member_tokens (assigned (codes "tp_init")) (codes "cyc_init_") m
unfolding c_tokens tokens_from
init_commas None = refl
init_commas (Some n) = refl

dealloc_commas : (m : Option Numbered) → behind_commas (member ".tp_dealloc" "=" "cyc_dealloc_" m) ≡ member_tokens (assigned (codes "tp_dealloc")) (codes "cyc_dealloc_") m
unfolding c_tokens tokens_from
dealloc_commas None = refl
dealloc_commas (Some n) = refl

methods_commas : (m : Option Numbered) → behind_commas (member ".tp_methods" "=" "cyc_ms_" m) ≡ member_tokens (assigned (codes "tp_methods")) (codes "cyc_ms_") m
unfolding c_tokens tokens_from
methods_commas None = refl
methods_commas (Some n) = refl

properties_commas : (m : Option Numbered) → behind_commas (member ".tp_getset" "=" "cyc_gs_" m) ≡ member_tokens (assigned (codes "tp_getset")) (codes "cyc_gs_") m
unfolding c_tokens tokens_from
properties_commas None = refl
properties_commas (Some n) = refl

sequence_commas : (m : Option Numbered) → behind_commas (member ".tp_as_sequence" "= &" "cyc_sq_" m) ≡ member_tokens (assigned_address (codes "tp_as_sequence")) (codes "cyc_sq_") m
unfolding c_tokens tokens_from
sequence_commas None = refl
sequence_commas (Some n) = refl

mapping_commas : (m : Option Numbered) → behind_commas (member ".tp_as_mapping" "= &" "cyc_mp_" m) ≡ member_tokens (assigned_address (codes "tp_as_mapping")) (codes "cyc_mp_") m
unfolding c_tokens tokens_from
mapping_commas None = refl
mapping_commas (Some n) = refl

-- one list of members before others
before : (xs ys : List (List CToken)) (us vs : List CToken) → behind_commas xs ≡ us → behind_commas ys ≡ vs → behind_commas (xs ++ ys) ≡ us ++ vs
before xs ys us vs e f = flat_map-append (λ (tokens : List CToken). sign "," ∷ tokens) xs ys ∙ (ap (λ (t : List CToken). t ++ behind_commas ys) e ∙ ap (λ (t : List CToken). us ++ t) f)

-- the members that may be missing
abbrev last_members : TypeObject → List (List CToken)
last_members t =
    member ".tp_base" "= &" "cyc_ty_" t.base ++ (member ".tp_new" "=" "cyc_new_" t.new ++ (member ".tp_init" "=" "cyc_init_" t.init
    ++ (member ".tp_dealloc" "=" "cyc_dealloc_" t.dealloc ++ (member ".tp_methods" "=" "cyc_ms_" t.methods ++ (member ".tp_getset" "=" "cyc_gs_" t.properties
    ++ (member ".tp_as_sequence" "= &" "cyc_sq_" t.sequence ++ member ".tp_as_mapping" "= &" "cyc_mp_" t.mapping))))))

grouped : (a b c d e f g h end : List CToken) → (a ++ (b ++ (c ++ (d ++ (e ++ (f ++ (g ++ h))))))) ++ end ≡ (a ++ (b ++ (c ++ d))) ++ (e ++ (f ++ (g ++ (h ++ end))))
grouped a b c d e f g h end = simp append_assoc

last_spelled : (t : TypeObject) → behind_commas (last_members t) ++ end_tokens ≡ functions_tokens (functions_of t) ++ tables_tokens (tables_of t)
last_spelled t =
    ap (λ (z : List CToken). z ++ end_tokens)
    (before (member ".tp_base" "= &" "cyc_ty_" t.base) _ _ _ (base_commas t.base)
    (before (member ".tp_new" "=" "cyc_new_" t.new) _ _ _ (new_commas t.new)
    (before (member ".tp_init" "=" "cyc_init_" t.init) _ _ _ (init_commas t.init)
    (before (member ".tp_dealloc" "=" "cyc_dealloc_" t.dealloc) _ _ _ (dealloc_commas t.dealloc)
    (before (member ".tp_methods" "=" "cyc_ms_" t.methods) _ _ _ (methods_commas t.methods)
    (before (member ".tp_getset" "=" "cyc_gs_" t.properties) _ _ _ (properties_commas t.properties)
    (before (member ".tp_as_sequence" "= &" "cyc_sq_" t.sequence) (member ".tp_as_mapping" "= &" "cyc_mp_" t.mapping) _ _ (sequence_commas t.sequence) (mapping_commas t.mapping))))))))
    ∙ grouped (base_tokens (functions_of t)) (new_tokens (functions_of t)) (init_tokens (functions_of t)) (dealloc_tokens (functions_of t))
    (methods_tokens (tables_of t)) (properties_tokens (tables_of t)) (sequence_tokens (tables_of t)) (mapping_tokens (tables_of t)) end_tokens

head_spelled : text "= { PyVarObject_HEAD_INIT(NULL, 0)" ≡ sign "=" ∷ sign "{" ∷ word "PyVarObject_HEAD_INIT" ∷ sign "(" ∷ word "NULL" ∷ sign "," ∷ word "0" ∷ sign ")" ∷ []
unfolding c_tokens tokens_from
head_spelled = refl

end_spelled : text "};" ≡ end_tokens
unfolding c_tokens tokens_from
end_spelled = refl

first_spelled : (t : TypeObject) (all : List (List CToken)) (rest : List CToken) → listed (λ tokens. tokens)
    ((text ".tp_name =" ++ (string t.name ∷ [])) ∷ (text ".tp_basicsize = sizeof(struct" ++ (name_token "cyc_o_" t.size ∷ text ")")) ∷ text ".tp_flags = Py_TPFLAGS_DEFAULT | Py_TPFLAGS_BASETYPE" ∷ all) ++ rest
    ≡ sign "." ∷ word "tp_name" ∷ sign "=" ∷ string t.name ∷ (sized_tokens t.size ++ (behind_commas all ++ rest))
unfolding c_tokens tokens_from
first_spelled t all rest = refl

pub type_spelled : (flag : Bool) (t : TypeObject) → item_spelling (item.Type flag t) ≡ static_or flag (item_tokens (item.Type flag t))
unfolding item_spelling
type_spelled flag t =
    ap (λ (z : List CToken). static_or flag (word "PyTypeObject" ∷ name_token "cyc_ty_" t.class ∷ (z ++ (listed (λ tokens. tokens) (type_members t) ++ text "};")))) head_spelled
    ∙ (ap (λ (z : List CToken). static_or flag (begin (listed (λ tokens. tokens) (type_members t) ++ z))) end_spelled
    ∙ (ap (λ (z : List CToken). static_or flag (begin z)) (first_spelled t (last_members t) end_tokens)
    ∙ ap (λ (z : List CToken). static_or flag (begin (sign "." ∷ word "tp_name" ∷ sign "=" ∷ string t.name ∷ (sized_tokens t.size ++ z)))) (last_spelled t)))
  where
    begin : List CToken → List CToken
    begin z =
        word "PyTypeObject" ∷ name_token "cyc_ty_" t.class ∷ sign "=" ∷ sign "{" ∷ word "PyVarObject_HEAD_INIT" ∷ sign "(" ∷ word "NULL" ∷ sign "," ∷ word "0" ∷ sign ")" ∷ z
