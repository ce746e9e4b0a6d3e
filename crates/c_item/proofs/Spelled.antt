-- Items in form are spelled as they are read.
use Rattle.std.proofs.Common.{◌≡◌, suc, List, [], ◌∷◌, ◌++◌, ◌⊎◌, inl, inr, refl, sym, ap, ◌∙◌, length}
use Rattle.std.specs.Prelude.{Bool, true, false, replicate}
use Rattle.std.specs.List.{flat_map}
use Rattle.c_token.specs.CTokens.{CToken, Word, word, sign, c_tokens, tokens_from}
use Rattle.c_tree.specs.declared.item.CItem.{CItem}
use Rattle.c_tree.specs.declared.item.CItem.TheVariants as item
use Rattle.c_tree.specs.declared.item.Slot.{Slot}
use Rattle.c_tree.specs.declared.item.StructTable.{StructTable}
use Rattle.c_tree.specs.declared.item.TableBase.{TableBase}
use Rattle.c_tree.specs.declared.item.TableBase.TheVariants as base
use Rattle.c_tree.specs.declared.name.Numbered.{Numbered}
use Rattle.c_tree.specs.Forms.{IsItem}
use Rattle.c_tree.specs.Items.{behind, function_token, item_spelling, slot_spelling, static_or, table_base_spelling, types_spelling}
use Rattle.c_tree.specs.Names.{name_token, place_name, text}
use Rattle.c_tree.specs.Values.{result_spelling, string, type_spelling}
use Rattle.c_slots.specs.Slots.{base_tokens, slot_tokens}
use Rattle.c_slots.specs.Tables.{layer_tokens, method_table_tokens}
use Rattle.c_table.proofs.Spelled.{definition_spelled, mapping_spelled, methods_spelled, properties_spelled, same_flat_map, sequence_spelled, struct_spelled}
use Rattle.c_table.proofs.Steps.{assoc}
use Rattle.c_table.proofs.TypeSpelled.{type_spelled}
use Rattle.c_item.specs.Fixed.{view_tokens}
use Rattle.c_item.specs.Kinds.{declared_tokens, plain_tokens, slot_struct_tokens, IsDeclared, IsPlain, IsTable, IsUnbodied}
use Rattle.c_item.specs.Typed.{typed_tokens, IsTyped}
use Rattle.c_table.specs.Tables.{item_tokens}

-- ---- forms

-- an item that is no function stands with `static` before it or without
pub sides : (t : CItem) → IsItem t → IsUnbodied t → IsDeclared true t ⊎ IsDeclared false t
unfolding IsItem
sides item.DefineClean form u = inr (refl, tt)
sides item.IncludePython form u = inr (refl, tt)
sides item.IncludeSet form u = inr (refl, tt)
sides item.ViewType form u = inr (refl, tt)
sides item.RootStruct form u = inr (refl, tt)
sides item.FormatTest form u = absurd u
sides (item.InstanceStruct n b kinds) form u = inr (refl, form)
sides (item.TableStruct n b slots) form u = inr (refl, form)
sides (item.Table t) form u = inr (refl, form)
sides (item.Prototype kind f kinds) form u = inr (refl, form)
sides (item.StaticPrototype kind f kinds) form u = inl (refl, form)
sides (item.ExternType n) form u = inr (refl, form)
sides (item.Static kind x) form u = inl (refl, form)
sides (item.Methods true name rows) form u = inl (refl, form.0, form.1)
sides (item.Methods false name rows) form u = inr (refl, form.0, form.1)
sides (item.Properties true n rows) form u = inl (refl, form.0, form.1)
sides (item.Properties false n rows) form u = inr (refl, form.0, form.1)
sides (item.Sequence true n a b) form u = inl (refl, form.0, form.1)
sides (item.Sequence false n a b) form u = inr (refl, form.0, form.1)
sides (item.Mapping true n a b) form u = inl (refl, form.0, form.1)
sides (item.Mapping false n a b) form u = inr (refl, form.0, form.1)
sides (item.Type true t) form u = inl (refl, form)
sides (item.Type false t) form u = inr (refl, form)
sides (item.ModuleDefinition true name) form u = inl (refl, form)
sides (item.ModuleDefinition false name) form u = inr (refl, form)
sides (item.Function f) form u = absurd u

pub declared_item : (flag : Bool) (t : CItem) → IsDeclared flag t → IsItem t
unfolding IsItem
declared_item flag item.DefineClean form = tt
declared_item flag item.IncludePython form = tt
declared_item flag item.IncludeSet form = tt
declared_item flag item.ViewType form = tt
declared_item flag item.RootStruct form = tt
declared_item flag item.FormatTest form = absurd form
declared_item flag (item.InstanceStruct n b kinds) form = form.1
declared_item flag (item.TableStruct n b slots) form = form.1
declared_item flag (item.Table t) form = form.1
declared_item flag (item.Prototype kind f kinds) form = form.1
declared_item flag (item.StaticPrototype kind f kinds) form = form.1
declared_item flag (item.ExternType n) form = form.1
declared_item flag (item.Static kind x) form = form.1
declared_item flag (item.Methods s name rows) form = (form.1, form.2)
declared_item flag (item.Properties s n rows) form = (form.1, form.2)
declared_item flag (item.Sequence s n a b) form = (form.1, form.2)
declared_item flag (item.Mapping s n a b) form = (form.1, form.2)
declared_item flag (item.Type s t) form = form.1
declared_item flag (item.ModuleDefinition s name) form = form.1
declared_item flag (item.Function f) form = absurd form

-- ---- tokens

view_spelled : text "typedef struct { PyObject *mv; char *buf; Py_ssize_t n[3]; Py_ssize_t s[3]; } cyc_view;" ≡ view_tokens
unfolding c_tokens tokens_from
view_spelled = refl

slot_spelled : (s : Slot) → slot_spelling s ≡ slot_tokens s
unfolding c_tokens tokens_from
slot_spelled s = refl

base_spelled : (b : TableBase) → table_base_spelling b ≡ base_tokens b
unfolding c_tokens tokens_from
base_spelled base.Name = refl
base_spelled (base.Class n) = refl

end_spelled : text "};" ≡ sign "}" ∷ sign ";" ∷ []
unfolding c_tokens tokens_from
end_spelled = refl

semicolon : text ";" ≡ sign ";" ∷ []
unfolding c_tokens tokens_from
semicolon = refl

slots_spelled : (n : Numbered) (b : TableBase) (slots : List Slot) → item_spelling (item.TableStruct n b slots) ≡ slot_struct_tokens (item.TableStruct n b slots)
unfolding item_spelling
slots_spelled n b slots =
    ap (λ (t : List CToken). word "struct" ∷ name_token "cyc_vt_" n ∷ sign "{" ∷ (t ++ (flat_map slot_spelling slots ++ text "};"))) (base_spelled b)
    ∙ (ap (λ (t : List CToken). word "struct" ∷ name_token "cyc_vt_" n ∷ sign "{" ∷ (base_tokens b ++ (t ++ text "};"))) (same_flat_map slot_spelling slot_tokens slots slot_spelled)
    ∙ ap (λ (t : List CToken). word "struct" ∷ name_token "cyc_vt_" n ∷ sign "{" ∷ (base_tokens b ++ (flat_map slot_tokens slots ++ t))) end_spelled)

const_spelled : text "const struct" ≡ word "const" ∷ word "struct" ∷ []
unfolding c_tokens tokens_from
const_spelled = refl

table_spelled : (t : StructTable) → item_spelling (item.Table t) ≡ method_table_tokens t
unfolding item_spelling
table_spelled t =
    ap (λ (z : List CToken). z ++ (name_token "cyc_vt_" t.class ∷ name_token "cyc_t_" t.class ∷ sign "=" ∷ ((opened ++ (string t.name ∷ (behind t.inner ++ (layers ++ (sign "}" ∷ []))))) ++ text ";"))) const_spelled
    ∙ (ap (λ (z : List CToken). begin ((opened ++ (string t.name ∷ (behind t.inner ++ (layers ++ (sign "}" ∷ []))))) ++ z)) semicolon
    ∙ ap begin
    (assoc opened (string t.name ∷ (behind t.inner ++ (layers ++ (sign "}" ∷ [])))) (sign ";" ∷ [])
    ∙ ap (λ (z : List CToken). opened ++ (string t.name ∷ z))
    (assoc (behind t.inner) (layers ++ (sign "}" ∷ [])) (sign ";" ∷ []) ∙ ap (λ (z : List CToken). behind t.inner ++ z) (assoc layers (sign "}" ∷ []) (sign ";" ∷ [])))))
  where
    opened : List CToken
    opened = replicate (suc (length t.outer)) (sign "{")

    layers : List CToken
    layers = flat_map layer_tokens t.outer

    begin : List CToken → List CToken
    begin z = word "const" ∷ word "struct" ∷ name_token "cyc_vt_" t.class ∷ name_token "cyc_t_" t.class ∷ sign "=" ∷ z

extern_spelled : text "extern PyTypeObject" ≡ word "extern" ∷ word "PyTypeObject" ∷ []
unfolding c_tokens tokens_from
extern_spelled = refl

root_spelled : item_spelling item.RootStruct ≡ plain_tokens item.RootStruct
unfolding item_spelling c_tokens tokens_from
root_spelled = refl

define_spelled : item_spelling item.DefineClean ≡ plain_tokens item.DefineClean
unfolding item_spelling c_tokens tokens_from
define_spelled = refl

python_spelled : item_spelling item.IncludePython ≡ plain_tokens item.IncludePython
unfolding item_spelling c_tokens tokens_from
python_spelled = refl

set_spelled : item_spelling item.IncludeSet ≡ plain_tokens item.IncludeSet
unfolding item_spelling c_tokens tokens_from
set_spelled = refl

plain_spelled : (t : CItem) → IsPlain t → item_spelling t ≡ plain_tokens t
unfolding item_spelling
plain_spelled item.DefineClean form = define_spelled
plain_spelled item.IncludePython form = python_spelled
plain_spelled item.IncludeSet form = set_spelled
plain_spelled item.ViewType form = view_spelled
plain_spelled item.RootStruct form = root_spelled
plain_spelled (item.InstanceStruct n b kinds) form = struct_spelled n b kinds
plain_spelled (item.TableStruct n b slots) form = slots_spelled n b slots
plain_spelled (item.Table t) form = table_spelled t
plain_spelled (item.ExternType n) form =
    ap (λ (t : List CToken). t ++ (name_token "cyc_ty_" n ∷ text ";")) extern_spelled
    ∙ ap (λ (t : List CToken). word "extern" ∷ word "PyTypeObject" ∷ name_token "cyc_ty_" n ∷ t) semicolon
plain_spelled _ form = absurd form

table_item : (flag : Bool) (t : CItem) → IsTable flag t → item_spelling t ≡ static_or flag (item_tokens t)
table_item flag (item.Methods s name rows) form = methods_spelled s name rows ∙ ap (λ (b : Bool). static_or b (item_tokens (item.Methods s name rows))) form.0
table_item flag (item.Properties s n rows) form = properties_spelled s n rows ∙ ap (λ (b : Bool). static_or b (item_tokens (item.Properties s n rows))) form.0
table_item flag (item.Type s t) form = type_spelled s t ∙ ap (λ (b : Bool). static_or b (item_tokens (item.Type s t))) form.0
table_item flag (item.ModuleDefinition s name) form = definition_spelled s name ∙ ap (λ (b : Bool). static_or b (item_tokens (item.ModuleDefinition s name))) form.0
table_item flag (item.Sequence s n a b) form = sequence_spelled s n a b form.2 ∙ ap (λ (x : Bool). static_or x (item_tokens (item.Sequence s n a b))) form.0
table_item flag (item.Mapping s n a b) form = mapping_spelled s n a b form.2 ∙ ap (λ (x : Bool). static_or x (item_tokens (item.Mapping s n a b))) form.0
table_item flag _ form = absurd form

typed_item : (flag : Bool) (t : CItem) → IsTyped flag t → item_spelling t ≡ static_or flag (typed_tokens t)
unfolding item_spelling
typed_item flag (item.Prototype kind f kinds) form =
    ap (λ (t : List CToken). result_spelling kind ++ (function_token f ∷ (types_spelling kinds ++ t))) semicolon ∙ ap (λ (b : Bool). static_or b (typed_tokens (item.Prototype kind f kinds))) (sym form.0)
typed_item flag (item.StaticPrototype kind f kinds) form =
    ap (λ (t : List CToken). word "static" ∷ (type_spelling kind ++ (function_token f ∷ (types_spelling kinds ++ t)))) semicolon ∙ ap (λ (b : Bool). static_or b (typed_tokens (item.StaticPrototype kind f kinds))) (sym form.0)
typed_item flag (item.Static kind x) form =
    ap (λ (t : List CToken). word "static" ∷ (type_spelling kind ++ (Word (place_name x) ∷ t))) semicolon ∙ ap (λ (b : Bool). static_or b (typed_tokens (item.Static kind x))) (sym form.0)
typed_item flag _ form = absurd form

pub declared_spelled : (flag : Bool) (t : CItem) → IsDeclared flag t → item_spelling t ≡ static_or flag (declared_tokens t)
declared_spelled flag item.DefineClean form = plain_spelled item.DefineClean form.1 ∙ ap (λ (x : Bool). static_or x (plain_tokens item.DefineClean)) (sym form.0)
declared_spelled flag item.IncludePython form = plain_spelled item.IncludePython form.1 ∙ ap (λ (x : Bool). static_or x (plain_tokens item.IncludePython)) (sym form.0)
declared_spelled flag item.IncludeSet form = plain_spelled item.IncludeSet form.1 ∙ ap (λ (x : Bool). static_or x (plain_tokens item.IncludeSet)) (sym form.0)
declared_spelled flag item.ViewType form = plain_spelled item.ViewType form.1 ∙ ap (λ (x : Bool). static_or x (plain_tokens item.ViewType)) (sym form.0)
declared_spelled flag item.RootStruct form = plain_spelled item.RootStruct form.1 ∙ ap (λ (x : Bool). static_or x (plain_tokens item.RootStruct)) (sym form.0)
declared_spelled flag (item.InstanceStruct n b kinds) form = plain_spelled (item.InstanceStruct n b kinds) form.1 ∙ ap (λ (x : Bool). static_or x (plain_tokens (item.InstanceStruct n b kinds))) (sym form.0)
declared_spelled flag (item.TableStruct n b slots) form = plain_spelled (item.TableStruct n b slots) form.1 ∙ ap (λ (x : Bool). static_or x (plain_tokens (item.TableStruct n b slots))) (sym form.0)
declared_spelled flag (item.Table t) form = plain_spelled (item.Table t) form.1 ∙ ap (λ (x : Bool). static_or x (plain_tokens (item.Table t))) (sym form.0)
declared_spelled flag (item.ExternType n) form = plain_spelled (item.ExternType n) form.1 ∙ ap (λ (x : Bool). static_or x (plain_tokens (item.ExternType n))) (sym form.0)
declared_spelled flag (item.Methods s name rows) form = table_item flag (item.Methods s name rows) form
declared_spelled flag (item.Properties s n rows) form = table_item flag (item.Properties s n rows) form
declared_spelled flag (item.Sequence s n a b) form = table_item flag (item.Sequence s n a b) form
declared_spelled flag (item.Mapping s n a b) form = table_item flag (item.Mapping s n a b) form
declared_spelled flag (item.Type s t) form = table_item flag (item.Type s t) form
declared_spelled flag (item.ModuleDefinition s name) form = table_item flag (item.ModuleDefinition s name) form
declared_spelled flag (item.Prototype kind f kinds) form = typed_item flag (item.Prototype kind f kinds) form
declared_spelled flag (item.StaticPrototype kind f kinds) form = typed_item flag (item.StaticPrototype kind f kinds) form
declared_spelled flag (item.Static kind x) form = typed_item flag (item.Static kind x) form
declared_spelled flag item.FormatTest form = absurd form
declared_spelled flag (item.Function f) form = absurd form
