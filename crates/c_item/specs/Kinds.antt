-- The items that are no functions: their kinds, forms and tokens without the `static` that may stand before them. The
-- project's own.
use Rattle.std.specs.Prelude.{◌≡◌, ⊤, List, [], ◌∷◌, Bool, false, Option, Some, None}
use Rattle.c_token.specs.CTokens.{CToken}
use Rattle.c_tree.specs.declared.item.CItem.{CItem}
use Rattle.c_tree.specs.declared.item.CItem.TheVariants as item
use Rattle.c_tree.specs.Forms.{IsFunction}
use Rattle.c_slots.specs.Slots.{table_struct_tokens, IsTableStruct}
use Rattle.c_slots.specs.Tables.{method_table_tokens, IsMethodTable}
use Rattle.c_table.specs.Tables.{item_tokens, AreMethods, AreProperties, IsDefinition, IsInstanceStruct, IsMapping, IsSequence, IsTypeObject}
use Rattle.c_item.specs.declared.kinds.Opening.{Opening}
use Rattle.c_item.specs.declared.kinds.Opening.TheVariants.{Plain, Table, Typed}
use Rattle.c_item.specs.declared.kinds.Plain.TheVariants as plain
use Rattle.c_item.specs.declared.kinds.Table.TheVariants as table
use Rattle.c_item.specs.Fixed.{fixed_tokens, IsFixed}
use Rattle.c_item.specs.Typed.{extern_tokens, typed_tokens, IsExtern, IsTyped}

abbrev pub opening_of : CItem → Opening
opening_of item.DefineClean = Plain plain.Fixed
opening_of item.IncludePython = Plain plain.Fixed
opening_of item.IncludeSet = Plain plain.Fixed
opening_of item.ViewType = Plain plain.Fixed
opening_of item.RootStruct = Plain plain.Fixed
opening_of (item.InstanceStruct n b kinds) = Plain plain.Instance
opening_of (item.TableStruct n b slots) = Plain plain.TableStruct
opening_of (item.Table t) = Plain plain.MethodTable
opening_of (item.ExternType n) = Plain plain.Extern
opening_of (item.Methods flag name rows) = Table table.Methods
opening_of (item.Properties flag n rows) = Table table.Properties
opening_of (item.Sequence flag n len contains) = Table table.Sequence
opening_of (item.Mapping flag n len subscript) = Table table.Mapping
opening_of (item.Type flag t) = Table table.TypeObject
opening_of (item.ModuleDefinition flag name) = Table table.Definition
opening_of _ = Typed

-- a struct of a method table
abbrev pub IsSlotStruct : CItem → Type 0
IsSlotStruct (item.TableStruct n b slots) = IsTableStruct (record { class = n; base = b; slots = slots })
IsSlotStruct _ = ⊥

abbrev pub slot_struct_tokens : CItem → List CToken
slot_struct_tokens (item.TableStruct n b slots) = table_struct_tokens (record { class = n; base = b; slots = slots })
slot_struct_tokens _ = []

abbrev pub IsSlotTable : CItem → Type 0
IsSlotTable (item.Table t) = IsMethodTable t
IsSlotTable _ = ⊥

abbrev pub slot_table_tokens : CItem → List CToken
slot_table_tokens (item.Table t) = method_table_tokens t
slot_table_tokens _ = []

-- items that have no `static` before them
abbrev pub IsPlain : CItem → Type 0
IsPlain (item.InstanceStruct n b kinds) = IsInstanceStruct (item.InstanceStruct n b kinds)
IsPlain (item.TableStruct n b slots) = IsSlotStruct (item.TableStruct n b slots)
IsPlain (item.Table t) = IsMethodTable t
IsPlain (item.ExternType n) = IsExtern (item.ExternType n)
IsPlain t = IsFixed t

abbrev pub plain_tokens : CItem → List CToken
plain_tokens (item.InstanceStruct n b kinds) = item_tokens (item.InstanceStruct n b kinds)
plain_tokens (item.TableStruct n b slots) = slot_struct_tokens (item.TableStruct n b slots)
plain_tokens (item.Table t) = method_table_tokens t
plain_tokens (item.ExternType n) = extern_tokens (item.ExternType n)
plain_tokens t = fixed_tokens t

-- tables of the API
abbrev pub IsTable : Bool → CItem → Type 0
IsTable flag (item.Methods is_static name rows) = AreMethods flag (item.Methods is_static name rows)
IsTable flag (item.Properties is_static n rows) = AreProperties flag (item.Properties is_static n rows)
IsTable flag (item.Sequence is_static n len contains) = IsSequence flag (item.Sequence is_static n len contains)
IsTable flag (item.Mapping is_static n len subscript) = IsMapping flag (item.Mapping is_static n len subscript)
IsTable flag (item.Type is_static t) = IsTypeObject flag (item.Type is_static t)
IsTable flag (item.ModuleDefinition is_static name) = IsDefinition flag (item.ModuleDefinition is_static name)
IsTable flag _ = ⊥

-- the items of a kind that are in form, with `static` before them or without
abbrev pub IsOfKind : Opening → Bool → CItem → Type 0
IsOfKind (Plain kind) flag t = (flag ≡ false) × IsPlain t
IsOfKind (Table kind) flag t = IsTable flag t
IsOfKind Typed flag t = IsTyped flag t

abbrev pub kind_tokens : Opening → CItem → List CToken
kind_tokens (Plain kind) t = plain_tokens t
kind_tokens (Table kind) t = item_tokens t
kind_tokens Typed t = typed_tokens t

abbrev pub IsDeclared : Bool → CItem → Type 0
IsDeclared flag t = IsOfKind (opening_of t) flag t

abbrev pub declared_tokens : CItem → List CToken
declared_tokens t = kind_tokens (opening_of t) t

-- items that are no functions
abbrev pub IsUnbodied : CItem → Type 0
IsUnbodied item.FormatTest = ⊥
IsUnbodied (item.Function f) = ⊥
IsUnbodied _ = ⊤

-- the last token
abbrev pub last_of : List CToken → Option CToken
last_of [] = None
last_of (last ∷ []) = Some last
last_of (first ∷ next ∷ more) = last_of (next ∷ more)

-- functions
abbrev pub IsBodied : CItem → Type 0
IsBodied item.FormatTest = ⊤
IsBodied (item.Function f) = IsFunction f
IsBodied _ = ⊥
