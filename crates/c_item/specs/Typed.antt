-- The tokens of items that begin with a type, told one by one, without the `static` that may stand before them. The
-- project's own profile of C (ISO/IEC 9899:2011 6.7).
use Rattle.std.specs.Prelude.{◌≡◌, List, [], ◌∷◌, ◌++◌, Bool, true, false, Option, Some, None}
use Rattle.c_token.specs.CTokens.{CToken, Word, word, sign}
use Rattle.c_tree.specs.declared.item.CItem.{CItem}
use Rattle.c_tree.specs.declared.item.CItem.TheVariants as item
use Rattle.c_tree.specs.declared.name.FunctionName.{FunctionName}
use Rattle.c_tree.specs.declared.name.Place.{Place}
use Rattle.c_tree.specs.declared.value.CResult.{CResult}
use Rattle.c_tree.specs.declared.value.CResult.TheVariants as result
use Rattle.c_tree.specs.declared.value.CType.{CType}
use Rattle.c_tree.specs.Forms.{IsFunctionName, IsNumbered, IsPlace}
use Rattle.c_tree.specs.Items.{function_token, types_spelling}
use Rattle.c_tree.specs.Names.{name_token, place_name}
use Rattle.c_tree.specs.Values.{result_spelling, type_spelling}

-- prototypes and variables of the file, with `static` or without
abbrev pub IsTyped : Bool → CItem → Type 0
IsTyped flag (item.Prototype kind f kinds) = (flag ≡ false) × IsFunctionName f
IsTyped flag (item.StaticPrototype kind f kinds) = (flag ≡ true) × IsFunctionName f
IsTyped flag (item.Static kind x) = (flag ≡ true) × IsPlace x
IsTyped flag _ = ⊥

abbrev pub typed_tokens : CItem → List CToken
typed_tokens (item.Prototype kind f kinds) = result_spelling kind ++ (function_token f ∷ (types_spelling kinds ++ (sign ";" ∷ [])))
typed_tokens (item.StaticPrototype kind f kinds) = type_spelling kind ++ (function_token f ∷ (types_spelling kinds ++ (sign ";" ∷ [])))
typed_tokens (item.Static kind x) = type_spelling kind ++ (Word (place_name x) ∷ sign ";" ∷ [])
typed_tokens _ = []

-- `extern PyTypeObject cyc_ty_0_1;`
abbrev pub IsExtern : CItem → Type 0
IsExtern (item.ExternType n) = IsNumbered n
IsExtern _ = ⊥

abbrev pub extern_tokens : CItem → List CToken
extern_tokens (item.ExternType n) = word "extern" ∷ word "PyTypeObject" ∷ name_token "cyc_ty_" n ∷ sign ";" ∷ []
extern_tokens _ = []

-- the prototype of these parts; one with `static` gives a value
abbrev pub prototype : Bool → CResult → FunctionName → List CType → Option CItem
prototype false kind f kinds = Some (item.Prototype kind f kinds)
prototype true (result.Value kind) f kinds = Some (item.StaticPrototype kind f kinds)
prototype true result.Void f kinds = None

-- the variable of the file of these parts
abbrev pub variable : Bool → CResult → Place → Option CItem
variable true (result.Value kind) x = Some (item.Static kind x)
variable flag kind x = None
