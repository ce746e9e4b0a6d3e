-- What stands first in slots, functions and layers, and their parts.
use Rattle.std.proofs.Common.{◌≡◌, ℕ, zero, suc, List, [], ◌∷◌, ◌++◌, drop, length, Some, refl, sym, ap, ◌∙◌}
use Rattle.std.specs.Prelude.{slice_get, replicate}
use Rattle.std.specs.List.{flat_map}
use Rattle.std.proofs.lemmas.List.{append_assoc}
use Rattle.c_token.specs.CTokens.{CToken, word, sign, c_tokens, tokens_from}
use Rattle.c_tree.specs.declared.item.Slot.{Slot}
use Rattle.c_tree.specs.declared.item.StructTable.{StructTable}
use Rattle.c_tree.specs.declared.name.FunctionName.{FunctionName}
use Rattle.c_tree.specs.declared.value.CResult.{CResult}
use Rattle.c_tree.specs.declared.value.CResult.TheVariants as result
use Rattle.c_tree.specs.declared.value.CType.TheVariants as type
use Rattle.c_tree.specs.Items.{behind, types_spelling}
use Rattle.c_tree.specs.Names.{letter_token, name_token}
use Rattle.c_tree.specs.Values.{result_spelling, string}
use Rattle.c_slots.specs.declared.structs.TableStruct.{TableStruct}
use Rattle.c_slots.specs.declared.tables.TableHead.{TableHead}
use Rattle.c_slots.specs.declared.tables.TableValue.{TableValue}
use Rattle.c_slots.specs.Slots.{base_tokens, head_tokens, opened_tokens, slot_tokens, table_struct_tokens, Closes}
use Rattle.c_slots.specs.Tables.{layer_tokens, method_table_tokens, table_head_tokens, value_tokens, EndsTable, IsMethodTable, IsTableHead, IsValue}

-- ---- first tokens

pub comma_no_close : (xs : List CToken) → slice_get xs 0 ≡ Some (sign ",") → Closes xs → ⊥
comma_no_close xs a b = cc

pub result_no_close : (r : CResult) (ys : List CToken) → Closes (result_spelling r ++ ys) → ⊥
unfolding c_tokens tokens_from
result_no_close result.Void ys e = cc
result_no_close (result.Value type.SignedChar) ys e = cc
result_no_close (result.Value type.UnsignedChar) ys e = cc
result_no_close (result.Value type.Short) ys e = cc
result_no_close (result.Value type.UnsignedShort) ys e = cc
result_no_close (result.Value type.Int) ys e = cc
result_no_close (result.Value type.UnsignedInt) ys e = cc
result_no_close (result.Value type.Long) ys e = cc
result_no_close (result.Value type.UnsignedLong) ys e = cc
result_no_close (result.Value type.PySsizeT) ys e = cc
result_no_close (result.Value type.Object) ys e = cc
result_no_close (result.Value type.View) ys e = cc
result_no_close (result.Value type.ThreadState) ys e = cc
result_no_close (result.Value type.LockState) ys e = cc
result_no_close (result.Value type.TypeObject) ys e = cc

pub slot_no_close : (rest : List CToken) (s : Slot) (ys : List CToken) → Closes rest → rest ≡ slot_tokens s ++ ys → ⊥
slot_no_close rest s ys h e =
    result_no_close s.result _ (sym (ap (λ t. slice_get t 0) (e ∙ append_assoc (result_spelling s.result) _ ys)) ∙ h)

pub layers_close : (more : List (List FunctionName)) (after : List CToken) → EndsTable after → Closes (flat_map layer_tokens more ++ after)
layers_close [] after h = h.0
layers_close (m ∷ more) after h = refl

closing_apart : Some (sign "}") ≡ Some (sign ";") → ⊥
closing_apart e = cc

comma_apart : Some (sign ",") ≡ Some (sign ";") → ⊥
comma_apart e = cc

second : (fs : List FunctionName) (ys : List CToken) → Closes ys → slice_get (layer_tokens fs ++ ys) 1 ≡ Some (sign ";") → ⊥
second [] ys h e = closing_apart (sym h ∙ e)
second (f ∷ fs) ys h e = comma_apart e

pub layer_no_end : (rest : List CToken) (fs : List FunctionName) (more : List (List FunctionName)) (after : List CToken)
    → slice_get rest 1 ≡ Some (sign ";") → EndsTable after → rest ≡ layer_tokens fs ++ (flat_map layer_tokens more ++ after) → ⊥
layer_no_end rest fs more after h ends e = second fs _ (layers_close more after ends) (sym (ap (λ t. slice_get t 1) e) ∙ h)

pub first_of : (xs : List CToken) (t : CToken) → slice_get xs 0 ≡ Some t → xs ≡ t ∷ drop 1 xs
first_of [] t e = cc
first_of (x ∷ xs) t e = cc

-- ---- parts

pub slot_parts : (s : Slot) (rest : List CToken) → slot_tokens s ++ rest ≡ head_tokens (record { result = s.result; number = s.number }) ++ (types_spelling s.parameters ++ (sign ";" ∷ rest))
slot_parts s rest =
    let four = λ (t : List CToken). sign "(" ∷ sign "*" ∷ letter_token "m" s.number ∷ sign ")" ∷ t in
    append_assoc (result_spelling s.result) (four (types_spelling s.parameters ++ (sign ";" ∷ []))) rest
    ∙ (ap (λ t. result_spelling s.result ++ four t) (append_assoc (types_spelling s.parameters) (sign ";" ∷ []) rest)
    ∙ sym (append_assoc (result_spelling s.result) (four []) (types_spelling s.parameters ++ (sign ";" ∷ rest))))

pub struct_parts : (t : TableStruct) (rest : List CToken)
    → table_struct_tokens t ++ rest ≡ opened_tokens (record { class = t.class; base = t.base }) ++ (flat_map slot_tokens t.slots ++ (sign "}" ∷ sign ";" ∷ rest))
struct_parts t rest =
    let three = λ (u : List CToken). word "struct" ∷ name_token "cyc_vt_" t.class ∷ sign "{" ∷ u in
    ap three (append_assoc (base_tokens t.base) (flat_map slot_tokens t.slots ++ (sign "}" ∷ sign ";" ∷ [])) rest
    ∙ ap (λ u. base_tokens t.base ++ u) (append_assoc (flat_map slot_tokens t.slots) (sign "}" ∷ sign ";" ∷ []) rest))

pub value_parts : (v : TableValue) (rest : List CToken)
    → value_tokens v ++ rest ≡ string v.name ∷ (behind v.inner ++ (flat_map layer_tokens v.outer ++ (sign "}" ∷ sign ";" ∷ rest)))
value_parts v rest =
    ap (λ u. string v.name ∷ u) (append_assoc (behind v.inner) (flat_map layer_tokens v.outer ++ (sign "}" ∷ sign ";" ∷ [])) rest
    ∙ ap (λ u. behind v.inner ++ u) (append_assoc (flat_map layer_tokens v.outer) (sign "}" ∷ sign ";" ∷ []) rest))

pub table_parts : (t : StructTable) (rest : List CToken)
    → method_table_tokens t ++ rest
    ≡ table_head_tokens (record { first = t.class; second = t.class }) ++ (replicate (suc (length t.outer)) (sign "{") ++ (value_tokens (record { name = t.name; inner = t.inner; outer = t.outer }) ++ rest))
table_parts t rest =
    ap (λ u. table_head_tokens (record { first = t.class; second = t.class }) ++ u)
    (append_assoc (replicate (suc (length t.outer)) (sign "{")) (value_tokens (record { name = t.name; inner = t.inner; outer = t.outer })) rest)

-- ---- braces

pub string_apart : (bytes : List ℕ) → Some (sign "{") ≡ Some (string bytes) → ⊥
string_apart bytes e = cc

pub record AreBraces (count other : ℕ) (new rest : List CToken) : Type 0 where
  pub number : count ≡ other
  pub left : new ≡ rest

-- as many braces stand before what begins with none
pub braces_once : (count other : ℕ) (new rest : List CToken) → (Some (sign "{") ≡ slice_get new 0 → ⊥) → (Some (sign "{") ≡ slice_get rest 0 → ⊥)
    → replicate count (sign "{") ++ new ≡ replicate other (sign "{") ++ rest → AreBraces count other new rest
braces_once zero zero new rest a b e = record { number = refl; left = e }
braces_once zero (suc other) new rest a b e = absurd (a (sym (ap (λ t. slice_get t 0) e)))
braces_once (suc count) zero new rest a b e = absurd (b (ap (λ t. slice_get t 0) e))
braces_once (suc count) (suc other) new rest a b e =
    let r = braces_once count other new rest a b (ap (drop 1) e) in
    record { number = ap (λ n. suc n) r.number; left = r.left }

-- ---- a whole table

abbrev pub table_of : TableHead → TableValue → StructTable
table_of h v = record { class = h.first; name = v.name; inner = v.inner; outer = v.outer }

pub table_joins : (h : TableHead) (v : TableValue) (count : ℕ) (old behind_head behind_braces new : List CToken)
    → h.first ≡ h.second → count ≡ suc (length v.outer) → IsTableHead h → IsValue v
    → old ≡ table_head_tokens h ++ behind_head → behind_head ≡ replicate count (sign "{") ++ behind_braces → behind_braces ≡ value_tokens v ++ new
    → IsMethodTable (table_of h v) × (old ≡ method_table_tokens (table_of h v) ++ new)
table_joins h v count old behind_head behind_braces new same number head value a b d =
    let one : TableHead = record { first = h.first; second = h.first } in
    let twice : table_head_tokens h ≡ table_head_tokens one = ap (λ s. table_head_tokens (record { first = h.first; second = s })) (sym same) in
    let e : behind_head ≡ replicate (suc (length v.outer)) (sign "{") ++ (value_tokens v ++ new) =
    b ∙ (ap (λ n. replicate n (sign "{") ++ behind_braces) number ∙ ap (λ t. replicate (suc (length v.outer)) (sign "{") ++ t) d) in (
      (head.0, value.0, value.1, value.2),
      a ∙ (ap (λ t. t ++ behind_head) twice ∙ (ap (λ t. table_head_tokens one ++ t) e ∙ sym (table_parts (table_of h v) new))),
    )
