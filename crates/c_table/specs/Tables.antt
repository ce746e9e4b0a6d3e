-- The tokens of items that are structs and tables of the API, told one by one, without the `static` that may stand before
-- them. The project's own profile of C (ISO/IEC 9899:2011 6.7.2.1, 6.7.9; Python/C API manual, "Type Objects", "Module
-- Objects").
use Rattle.std.specs.Prelude.{◌≡◌, ◌≢◌, ℕ, List, [], ◌∷◌, ◌++◌, Bool, length, codes}
use Rattle.std.specs.List.{flat_map, AllByRecursion}
use Rattle.c_token.specs.CTokens.{CToken, Word, word, sign}
use Rattle.c_tree.specs.declared.item.CItem.{CItem}
use Rattle.c_tree.specs.declared.item.CItem.TheVariants as item
use Rattle.c_tree.specs.declared.item.TypeObject.{TypeObject}
use Rattle.c_tree.specs.declared.name.Numbered.{Numbered}
use Rattle.c_tree.specs.declared.value.CType.{CType}
use Rattle.c_tree.specs.Forms.{AreMembers, IsBase, IsMember, IsNumber, IsNumbered, IsProperty, IsString, IsTableName, IsType}
use Rattle.c_tree.specs.Items.{fields_spelling}
use Rattle.c_tree.specs.Names.{methods_name, name_token}
use Rattle.c_tree.specs.Values.{string}
use Rattle.c_table.specs.declared.kinds.Functions.{Functions}
use Rattle.c_table.specs.declared.kinds.Tables.{Tables}
use Rattle.c_table.specs.Parts.{assigned, assigned_address, base_tokens, end_tokens, member_tokens, method_tokens, pair_tokens, property_tokens, IsMethod}

-- ---- the parts

-- fields, with the end of their struct
abbrev pub fields_tokens : List CType → List CToken
fields_tokens kinds = fields_spelling 0 kinds ++ end_tokens

abbrev pub methods_end : List CToken
methods_end = sign "{" ∷ word "NULL" ∷ sign "," ∷ word "NULL" ∷ sign "," ∷ word "0" ∷ sign "," ∷ word "NULL" ∷ sign "}" ∷ end_tokens

abbrev pub properties_end : List CToken
properties_end =
    sign "{" ∷ word "NULL" ∷ sign "," ∷ word "NULL" ∷ sign "," ∷ word "NULL" ∷ sign "," ∷ word "NULL" ∷ sign "," ∷ word "NULL" ∷ sign "}" ∷ end_tokens

-- what a type object has up to its name
abbrev pub named_tokens : Numbered → List ℕ → List CToken
named_tokens n name =
    word "PyTypeObject" ∷ name_token "cyc_ty_" n ∷ sign "=" ∷ sign "{" ∷ word "PyVarObject_HEAD_INIT" ∷ sign "(" ∷ word "NULL" ∷ sign "," ∷ word "0" ∷ sign ")"
    ∷ sign "." ∷ word "tp_name" ∷ sign "=" ∷ string name ∷ []

-- the size and the flags of a type object, with the commas before them
abbrev pub sized_tokens : Numbered → List CToken
sized_tokens n =
    sign "," ∷ sign "." ∷ word "tp_basicsize" ∷ sign "=" ∷ word "sizeof" ∷ sign "(" ∷ word "struct" ∷ name_token "cyc_o_" n ∷ sign ")"
    ∷ sign "," ∷ sign "." ∷ word "tp_flags" ∷ sign "=" ∷ word "Py_TPFLAGS_DEFAULT" ∷ sign "|" ∷ word "Py_TPFLAGS_BASETYPE" ∷ []

abbrev pub functions_tokens : Functions → List CToken
functions_tokens f =
    member_tokens (assigned_address (codes "tp_base")) (codes "cyc_ty_") f.base
    ++ (member_tokens (assigned (codes "tp_new")) (codes "cyc_new_") f.new
    ++ (member_tokens (assigned (codes "tp_init")) (codes "cyc_init_") f.init
    ++ member_tokens (assigned (codes "tp_dealloc")) (codes "cyc_dealloc_") f.dealloc))

-- the tables of a type object, with the end of its braces
abbrev pub tables_tokens : Tables → List CToken
tables_tokens t =
    member_tokens (assigned (codes "tp_methods")) (codes "cyc_ms_") t.methods
    ++ (member_tokens (assigned (codes "tp_getset")) (codes "cyc_gs_") t.properties
    ++ (member_tokens (assigned_address (codes "tp_as_sequence")) (codes "cyc_sq_") t.sequence
    ++ (member_tokens (assigned_address (codes "tp_as_mapping")) (codes "cyc_mp_") t.mapping ++ end_tokens)))

abbrev pub AreFunctions : Functions → Type 0
AreFunctions f = IsMember f.base × IsMember f.new × IsMember f.init × IsMember f.dealloc

abbrev pub AreTables : Tables → Type 0
AreTables t = IsMember t.methods × IsMember t.properties × IsMember t.sequence × IsMember t.mapping

abbrev pub functions_of : TypeObject → Functions
functions_of t = record { base = t.base; new = t.new; init = t.init; dealloc = t.dealloc }

abbrev pub tables_of : TypeObject → Tables
tables_of t = record { methods = t.methods; properties = t.properties; sequence = t.sequence; mapping = t.mapping }

-- no member of this name stands next
abbrev pub Lacks : List ℕ → List CToken → Type 0
Lacks name rest = (r : List CToken) → rest ≢ sign "," ∷ sign "." ∷ Word name ∷ r

-- ---- items

abbrev pub item_tokens : CItem → List CToken
item_tokens (item.InstanceStruct n b kinds) = word "struct" ∷ name_token "cyc_o_" n ∷ sign "{" ∷ (base_tokens b ++ fields_tokens kinds)
item_tokens (item.Methods is_static name rows) =
    word "PyMethodDef" ∷ Word (methods_name name) ∷ sign "[" ∷ sign "]" ∷ sign "=" ∷ sign "{" ∷ (flat_map method_tokens rows ++ methods_end)
item_tokens (item.Properties is_static n rows) =
    word "PyGetSetDef" ∷ name_token "cyc_gs_" n ∷ sign "[" ∷ sign "]" ∷ sign "=" ∷ sign "{" ∷ (flat_map property_tokens rows ++ properties_end)
item_tokens (item.Sequence is_static n len contains) =
    word "PySequenceMethods" ∷ name_token "cyc_sq_" n ∷ sign "=" ∷ sign "{"
    ∷ pair_tokens (codes "sq_length") (codes "cyc_len_") (codes "sq_contains") (codes "cyc_has_") len contains
item_tokens (item.Mapping is_static n len subscript) =
    word "PyMappingMethods" ∷ name_token "cyc_mp_" n ∷ sign "=" ∷ sign "{"
    ∷ pair_tokens (codes "mp_length") (codes "cyc_len_") (codes "mp_subscript") (codes "cyc_item_") len subscript
item_tokens (item.Type is_static t) =
    named_tokens t.class t.name ++ (sized_tokens t.size ++ (functions_tokens (functions_of t) ++ tables_tokens (tables_of t)))
item_tokens (item.ModuleDefinition is_static name) =
    word "struct" ∷ word "PyModuleDef" ∷ word "cyc_def" ∷ sign "=" ∷ sign "{" ∷ word "PyModuleDef_HEAD_INIT" ∷ sign "," ∷ string name
    ∷ sign "," ∷ word "NULL" ∷ sign "," ∷ sign "-" ∷ word "1" ∷ sign "," ∷ word "cyc_md" ∷ end_tokens
item_tokens _ = []

-- ---- the items of each kind that are in form

abbrev pub IsInstanceStruct : CItem → Type 0
IsInstanceStruct (item.InstanceStruct n b kinds) = IsNumbered n × IsBase b × IsNumber (length kinds)
IsInstanceStruct _ = ⊥

abbrev pub AreMethods : Bool → CItem → Type 0
AreMethods flag (item.Methods is_static name rows) = (is_static ≡ flag) × IsTableName name × AllByRecursion IsMethod rows
AreMethods flag _ = ⊥

abbrev pub AreProperties : Bool → CItem → Type 0
AreProperties flag (item.Properties is_static n rows) = (is_static ≡ flag) × IsNumbered n × AllByRecursion IsProperty rows
AreProperties flag _ = ⊥

abbrev pub IsSequence : Bool → CItem → Type 0
IsSequence flag (item.Sequence is_static n len contains) = (is_static ≡ flag) × IsNumbered n × AreMembers len contains
IsSequence flag _ = ⊥

abbrev pub IsMapping : Bool → CItem → Type 0
IsMapping flag (item.Mapping is_static n len subscript) = (is_static ≡ flag) × IsNumbered n × AreMembers len subscript
IsMapping flag _ = ⊥

abbrev pub IsTypeObject : Bool → CItem → Type 0
IsTypeObject flag (item.Type is_static t) = (is_static ≡ flag) × IsType t
IsTypeObject flag _ = ⊥

abbrev pub IsDefinition : Bool → CItem → Type 0
IsDefinition flag (item.ModuleDefinition is_static name) = (is_static ≡ flag) × IsString name
IsDefinition flag _ = ⊥
