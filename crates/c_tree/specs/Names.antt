-- The names that the written C has. The project's own.
use Prim.Native.String.{String}
use Rattle.std.specs.Prelude.{ℕ, List, [], ◌∷◌, ◌++◌, codes, decimal}
use Rattle.std.specs.List.{flat_map}
use Rattle.c_token.specs.CTokens.{CToken, Word, sign, c_tokens}
use Rattle.c_tree.specs.declared.name.FieldNumber.{FieldNumber}
use Rattle.c_tree.specs.declared.name.FixedParameter.{FixedParameter}
use Rattle.c_tree.specs.declared.name.FixedParameter.TheVariants as fixed
use Rattle.c_tree.specs.declared.name.FunctionName.{FunctionName}
use Rattle.c_tree.specs.declared.name.FunctionName.TheVariants as function
use Rattle.c_tree.specs.declared.name.Numbered.{Numbered}
use Rattle.c_tree.specs.declared.name.Place.{Place}
use Rattle.c_tree.specs.declared.name.Place.TheVariants as place
use Rattle.c_tree.specs.declared.name.TableName.{TableName}
use Rattle.c_tree.specs.declared.name.TableName.TheVariants as table
use Rattle.c_tree.specs.declared.name.Variable.{Variable}
use Rattle.c_tree.specs.declared.name.Variable.TheVariants as variable

-- the tokens of a fixed text
abbrev pub text : String → List CToken
text letters = c_tokens (codes letters)

-- letters and a decimal number
abbrev pub lettered : String → ℕ → List ℕ
lettered letters j = codes letters ++ decimal j

-- letters, the module, `_` and the number in it
abbrev pub numbered : String → Numbered → List ℕ
numbered letters n = codes letters ++ (decimal n.module ++ (codes "_" ++ decimal n.index))

-- the same, `_` and the number of a field
abbrev pub of_field : String → FieldNumber → List ℕ
of_field letters f = numbered letters f.class ++ (codes "_" ++ decimal f.field)

abbrev pub fixed_name : FixedParameter → List ℕ
fixed_name fixed.SelfObject = codes "self"
fixed_name fixed.Arguments = codes "args"
fixed_name fixed.ArgumentCount = codes "nargs"
fixed_name fixed.Type = codes "type"
fixed_name fixed.Keywords = codes "kwds"
fixed_name fixed.Key = codes "k"
fixed_name fixed.Value = codes "value"
fixed_name fixed.Closure = codes "closure"

abbrev pub place_name : Place → List ℕ
place_name place.Module = codes "cyc_m"
place_name place.Dictionary = codes "cyc_d"
place_name place.Builtins = codes "cyc_b"
place_name place.Ready = codes "cyc_r"
place_name (place.Constant j) = lettered "cyc_c_" j
place_name (place.Global j) = lettered "cyc_g_" j

abbrev pub variable_name : Variable → List ℕ
variable_name (variable.Parameter j) = lettered "p" j
variable_name (variable.Local j) = lettered "v" j
variable_name (variable.Temporary j) = lettered "t" j
variable_name variable.Returned = codes "r"
variable_name (variable.Fixed x) = fixed_name x
variable_name (variable.Place x) = place_name x

abbrev pub function_name : FunctionName → List ℕ
function_name (function.Plain n) = numbered "cyc_f_" n
function_name (function.Wrapper n) = numbered "cyc_w_" n
function_name (function.Overridable n) = numbered "cyc_x_" n
function_name (function.New n) = numbered "cyc_new_" n
function_name (function.Init n) = numbered "cyc_init_" n
function_name (function.Dealloc n) = numbered "cyc_dealloc_" n
function_name (function.Len n) = numbered "cyc_len_" n
function_name (function.Item n) = numbered "cyc_item_" n
function_name (function.Has n) = numbered "cyc_has_" n
function_name (function.Getter f) = of_field "cyc_get_" f
function_name (function.Setter f) = of_field "cyc_set_" f
function_name function.Body = codes "cyc_body"
function_name (function.Initializer name) = codes "PyInit_" ++ name

abbrev pub methods_name : TableName → List ℕ
methods_name table.OfFile = codes "cyc_md"
methods_name (table.OfClass n) = numbered "cyc_ms_" n

-- ---- as tokens

abbrev pub name_token : String → Numbered → CToken
name_token letters n = Word (numbered letters n)

abbrev pub variable_token : Variable → CToken
variable_token x = Word (variable_name x)

-- `L0`, `f0`, `m0`
abbrev pub letter_token : String → ℕ → CToken
letter_token letters j = Word (lettered letters j)

-- the spellings, with a comma between them
abbrev pub listed : {A : Type 0} → (A → List CToken) → List A → List CToken
listed spell [] = []
listed spell (first ∷ more) = spell first ++ flat_map (λ x. sign "," ∷ spell x) more
