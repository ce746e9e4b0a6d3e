-- Method tables, told token by token. The project's own profile of C (ISO/IEC 9899:2011 6.7.9).
use Rattle.std.specs.Prelude.{◌≡◌, ◌≢◌, ℕ, suc, List, [], ◌∷◌, ◌++◌, length, replicate, slice_get, Option, Some}
use Rattle.std.specs.List.{flat_map, AllByRecursion}
use Rattle.c_token.specs.CTokens.{CToken, word, sign}
use Rattle.c_tree.specs.declared.item.StructTable.{StructTable}
use Rattle.c_tree.specs.declared.name.FunctionName.{FunctionName}
use Rattle.c_tree.specs.Forms.{IsFunctionName, IsNumbered, IsString}
use Rattle.c_tree.specs.Items.{behind, function_token}
use Rattle.c_tree.specs.Names.{name_token}
use Rattle.c_tree.specs.Values.{string}
use Rattle.c_slots.specs.declared.tables.TableHead.{TableHead}
use Rattle.c_slots.specs.declared.tables.TableValue.{TableValue}
use Rattle.c_slots.specs.Slots.{Closes}

-- `, cyc_f_0_1`
abbrev pub behind_comma : FunctionName → List CToken
behind_comma f = sign "," ∷ function_token f ∷ []

abbrev pub AreFunctions : List FunctionName → Type 0
AreFunctions fs = AllByRecursion IsFunctionName fs

-- `}`, and the functions behind the table that it closes
abbrev pub layer_tokens : List FunctionName → List CToken
layer_tokens fs = sign "}" ∷ behind fs

-- the rest begins with `};`
abbrev pub EndsTable : List CToken → Type 0
EndsTable rest = (slice_get rest 0 ≡ Some (sign "}")) × (slice_get rest 1 ≡ Some (sign ";"))

-- what stands behind the opening braces
abbrev pub value_tokens : TableValue → List CToken
value_tokens t = string t.name ∷ (behind t.inner ++ (flat_map layer_tokens t.outer ++ (sign "}" ∷ sign ";" ∷ [])))

abbrev pub IsMethodTable : StructTable → Type 0
IsMethodTable t = IsNumbered t.class × IsString t.name × AreFunctions t.inner × AllByRecursion AreFunctions t.outer

-- `const struct cyc_vt_0_1 cyc_t_0_1 = { .. };`
abbrev pub method_table_tokens : StructTable → List CToken
method_table_tokens t =
    word "const" ∷ word "struct" ∷ name_token "cyc_vt_" t.class ∷ name_token "cyc_t_" t.class ∷ sign "=" ∷ (replicate (suc (length t.outer)) (sign "{") ++ value_tokens (record { name = t.name; inner = t.inner; outer = t.outer }))

-- functions are read, where `}` stands behind them
abbrev pub ReadsFunctions : List CToken → Option (List FunctionName) → Type 0
ReadsFunctions old found = (fs : List FunctionName) (rest : List CToken) → AreFunctions fs → Closes rest → old ≡ behind fs ++ rest → found ≡ Some fs

abbrev pub ReadsLayer : List CToken → Option (List FunctionName) → Type 0
ReadsLayer old found = (fs : List FunctionName) (rest : List CToken) → AreFunctions fs → Closes rest → old ≡ layer_tokens fs ++ rest → found ≡ Some fs

-- layers are read, where `};` stands behind them
abbrev pub ReadsLayers : List CToken → Option (List (List FunctionName)) → Type 0
ReadsLayers old found = (all : List (List FunctionName)) (rest : List CToken) → AllByRecursion AreFunctions all → EndsTable rest → old ≡ flat_map layer_tokens all ++ rest → found ≡ Some all

-- braces, and what stands behind them, which begins with no brace
abbrev pub ReadsBraces : List CToken → ℕ → List CToken → Type 0
ReadsBraces old count new = (old ≡ replicate count (sign "{") ++ new) × (slice_get new 0 ≢ Some (sign "{"))

abbrev pub IsValue : TableValue → Type 0
IsValue v = IsString v.name × AreFunctions v.inner × AllByRecursion AreFunctions v.outer

abbrev pub IsTableHead : TableHead → Type 0
IsTableHead h = IsNumbered h.first × IsNumbered h.second

abbrev pub table_head_tokens : TableHead → List CToken
table_head_tokens h = word "const" ∷ word "struct" ∷ name_token "cyc_vt_" h.first ∷ name_token "cyc_t_" h.second ∷ sign "=" ∷ []
