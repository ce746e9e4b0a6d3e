-- Structs of method tables, told token by token. The project's own profile of C (ISO/IEC 9899:2011 6.7.2.1, 6.7.6.3).
use Rattle.std.specs.Prelude.{◌≡◌, ℕ, suc, List, [], ◌∷◌, ◌++◌, Bool, true, ◌&&◌, nat_eq, slice_get, Option, Some}
use Rattle.std.specs.List.{flat_map, AllByRecursion}
use Rattle.c_token.specs.CTokens.{CToken, word, sign}
use Rattle.c_tree.specs.declared.item.Slot.{Slot}
use Rattle.c_tree.specs.declared.item.TableBase.{TableBase}
use Rattle.c_tree.specs.declared.item.TableBase.TheVariants as base
use Rattle.c_tree.specs.Forms.{AreSlots, IsNumber, IsNumbered, IsTableBase}
use Rattle.c_tree.specs.Items.{types_spelling}
use Rattle.c_tree.specs.Names.{letter_token, name_token}
use Rattle.c_tree.specs.Values.{result_spelling}
use Rattle.c_slots.specs.declared.slot.SlotHead.{SlotHead}
use Rattle.c_slots.specs.declared.structs.Opened.{Opened}
use Rattle.c_slots.specs.declared.structs.TableStruct.{TableStruct}

abbrev pub IsSlot : Slot → Type 0
IsSlot s = IsNumber s.number

-- `R (*m0)(T, ..);`
abbrev pub slot_tokens : Slot → List CToken
slot_tokens s = result_spelling s.result ++ (sign "(" ∷ sign "*" ∷ letter_token "m" s.number ∷ sign ")" ∷ (types_spelling s.parameters ++ (sign ";" ∷ [])))

-- `const char *name;`, or `struct cyc_vt_0_1 b;`
abbrev pub base_tokens : TableBase → List CToken
base_tokens base.Name = word "const" ∷ word "char" ∷ sign "*" ∷ word "name" ∷ sign ";" ∷ []
base_tokens (base.Class n) = word "struct" ∷ name_token "cyc_vt_" n ∷ word "b" ∷ sign ";" ∷ []

-- the rest begins with `}`
abbrev pub Closes : List CToken → Type 0
Closes rest = slice_get rest 0 ≡ Some (sign "}")

-- the slots are numbered from this number on
abbrev pub are_numbered_from : ℕ → List Slot → Bool
are_numbered_from j [] = true
are_numbered_from j (slot ∷ slots) = nat_eq slot.number j && are_numbered_from (suc j) slots

-- where the numbers begin: at 0 where there is no base, else wherever the base's end
abbrev pub first_number : TableBase → List Slot → ℕ
first_number base.Name slots = 0
first_number (base.Class n) [] = 0
first_number (base.Class n) (slot ∷ slots) = slot.number

abbrev pub IsTableStruct : TableStruct → Type 0
IsTableStruct t = IsNumbered t.class × IsTableBase t.base × AreSlots t.base t.slots

-- `struct cyc_vt_0_1 { BASE R (*m0)(T, ..); .. };`
abbrev pub table_struct_tokens : TableStruct → List CToken
table_struct_tokens t =
    word "struct" ∷ name_token "cyc_vt_" t.class ∷ sign "{" ∷ (base_tokens t.base ++ (flat_map slot_tokens t.slots ++ (sign "}" ∷ sign ";" ∷ [])))

abbrev pub IsHead : SlotHead → Type 0
IsHead h = IsNumber h.number

-- `R (*m0)`
abbrev pub head_tokens : SlotHead → List CToken
head_tokens h = result_spelling h.result ++ (sign "(" ∷ sign "*" ∷ letter_token "m" h.number ∷ sign ")" ∷ [])

-- all slots are read, where `}` stands behind them
abbrev pub ReadsSlots : List CToken → Option (List Slot) → Type 0
ReadsSlots old found = (slots : List Slot) (rest : List CToken) → AllByRecursion IsSlot slots → Closes rest → old ≡ flat_map slot_tokens slots ++ rest → found ≡ Some slots

abbrev pub IsOpened : Opened → Type 0
IsOpened s = IsNumbered s.class × IsTableBase s.base

-- `struct cyc_vt_0_1 { BASE`
abbrev pub opened_tokens : Opened → List CToken
opened_tokens s = word "struct" ∷ name_token "cyc_vt_" s.class ∷ sign "{" ∷ base_tokens s.base
