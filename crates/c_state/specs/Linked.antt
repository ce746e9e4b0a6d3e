-- The linked files: what each name of C means in a file. Of two definitions of one name that isn't `static`, or of one
-- `static` name in one file, the first counts (ISO/IEC 9899:2011 6.2.2, 6.9).
use Rattle.std.specs.Prelude.{ℕ, zero, suc, ◌+◌, Bool, true, false, List, [], ◌∷◌, ◌++◌, Option, Some, None, ◌||◌, ◌&&◌, if◌then◌else◌, length, drop, nat_eq, slice_index_or, slice_get}
use Rattle.std.specs.List.{flat_map}
use Rattle.std.specs.Str.{bytes_eq}
use Rattle.c_tree.specs.declared.name.Numbered.{Numbered}
use Rattle.c_tree.specs.declared.name.FunctionName.{FunctionName}
use Rattle.c_tree.specs.declared.name.FunctionName.TheVariants as function
use Rattle.c_tree.specs.declared.name.TableName.{TableName}
use Rattle.c_tree.specs.declared.value.CType.{CType}
use Rattle.c_tree.specs.declared.item.Base.{Base}
use Rattle.c_tree.specs.declared.item.TableBase.{TableBase}
use Rattle.c_tree.specs.declared.item.TableBase.TheVariants as table_base
use Rattle.c_tree.specs.declared.item.Slot.{Slot}
use Rattle.c_tree.specs.declared.item.StructTable.{StructTable}
use Rattle.c_tree.specs.declared.item.MethodRow.{MethodRow}
use Rattle.c_tree.specs.declared.item.PropertyRow.{PropertyRow}
use Rattle.c_tree.specs.declared.item.TypeObject.{TypeObject}
use Rattle.c_tree.specs.declared.item.CHead.{CHead}
use Rattle.c_tree.specs.declared.item.CHead.TheVariants as head
use Rattle.c_tree.specs.declared.item.CFunction.{CFunction}
use Rattle.c_tree.specs.declared.item.CItem.{CItem}
use Rattle.c_tree.specs.declared.item.CItem.TheVariants as item
use Rattle.c_tree.specs.declared.item.CFile.{CFile}
use Rattle.c_value.specs.declared.value.ItemPlace.{ItemPlace}
use Rattle.c_value.specs.Names.{same_number, same_item, same_table, same_function}

abbrev pub no_file : CFile
no_file = record { items = [] }

-- the items of a file, by its number
abbrev pub items_at : List CFile → ℕ → List CItem
items_at files k = (slice_index_or files k no_file).items

-- as many as the items of all files: a chain of structs or of base classes that is longer goes in a circle
abbrev pub item_count : List CFile → ℕ
item_count [] = 0
item_count (f ∷ fs) = length f.items + item_count fs

-- ---- definitions: a test says of an item whether it defines the name, and then whether it is `static`

abbrev pub place_of : ℕ → ℕ → ItemPlace
place_of k i = record { file = k; item = i }

abbrev pub is_own : Option Bool → Bool
is_own (Some true) = true
is_own _ = false

abbrev pub is_open : Option Bool → Bool
is_open (Some false) = true
is_open _ = false

-- the first item of file k that passes a test, where the items are numbered from i on, else another
abbrev pub item_in : (CItem → Bool) → ℕ → ℕ → List CItem → Option ItemPlace → Option ItemPlace
item_in test k i [] other = other
item_in test k i (x ∷ is) other = if test x then Some (place_of k i) else item_in test k (suc i) is other

-- the first of all files, which are numbered from k on
abbrev pub item_among : (CItem → Bool) → ℕ → List CFile → Option ItemPlace
item_among test k [] = None
item_among test k (f ∷ fs) = item_in test k 0 f.items (item_among test (suc k) fs)

-- what a name means in file k: the first `static` definition there, else the first of all files that isn't `static`
abbrev pub named : (CItem → Option Bool) → List CFile → ℕ → Option ItemPlace
named defines files k = item_in (λ x. is_own (defines x)) k 0 (items_at files k) (item_among (λ x. is_open (defines x)) 0 files)

abbrev pub item_at : List CFile → ItemPlace → Option CItem
item_at files p = slice_get (items_at files p.file) p.item

abbrev pub found : List CFile → Option ItemPlace → Option CItem
found files None = None
found files (Some p) = item_at files p

abbrev pub if_same : Bool → Bool → Option Bool
if_same true static = Some static
if_same false static = None

-- ---- functions

abbrev pub name_of : CHead → FunctionName
name_of (head.Plain n result parameters) = function.Plain n
name_of (head.Overridable n result parameters) = function.Overridable n
name_of (head.Wrapper n) = function.Wrapper n
name_of (head.New n) = function.New n
name_of (head.Init n) = function.Init n
name_of (head.Dealloc n) = function.Dealloc n
name_of (head.Len n) = function.Len n
name_of (head.Item n) = function.Item n
name_of (head.Has n) = function.Has n
name_of (head.Getter n) = function.Getter n
name_of (head.Setter n) = function.Setter n
name_of head.Body = function.Body
name_of (head.Initializer n) = function.Initializer n

-- the heads with `static`
abbrev pub is_static : FunctionName → Bool
is_static (function.Plain n) = false
is_static (function.Overridable n) = false
is_static (function.Initializer n) = false
is_static _ = true

abbrev pub defines_function : FunctionName → CItem → Option Bool
defines_function name (item.Function f) = if_same (same_function (name_of f.head) name) (is_static name)
defines_function name _ = None

-- the function that C in a file names
abbrev pub function_named : List CFile → ℕ → FunctionName → Option ItemPlace
function_named files k name = named (defines_function name) files k

abbrev pub as_function : Option CItem → Option CFunction
as_function (Some (item.Function f)) = Some f
as_function _ = None

-- the function that stands at a place
abbrev pub function_at : List CFile → ItemPlace → Option CFunction
function_at files p = as_function (item_at files p)

abbrev pub is_initializer_name : FunctionName → Bool
is_initializer_name (function.Initializer n) = true
is_initializer_name _ = false

abbrev pub is_initializer : CItem → Bool
is_initializer (item.Function f) = is_initializer_name (name_of f.head)
is_initializer _ = false

-- the first initialisation function of the files from number k on; each file's first is its own
abbrev pub next_initializer : List CFile → ℕ → Option ItemPlace
next_initializer files k = item_among is_initializer k (drop k files)

-- ---- types and structs

abbrev pub defines_type : Numbered → CItem → Option Bool
defines_type class (item.Type static t) = if_same (same_number t.class class) static
defines_type class _ = None

-- the type object that C in a file names
abbrev pub type_named : List CFile → ℕ → Numbered → Option ItemPlace
type_named files k class = named (defines_type class) files k

abbrev pub as_type : Option CItem → Option TypeObject
as_type (Some (item.Type static t)) = Some t
as_type _ = None

abbrev pub type_at : List CFile → ItemPlace → Option TypeObject
type_at files p = as_type (item_at files p)

-- structs have no linkage: the first of all files counts
abbrev pub is_struct : Numbered → CItem → Bool
is_struct class (item.InstanceStruct c b fields) = same_number c class
is_struct class _ = false

abbrev pub as_struct : Option CItem → Option (Base × List CType)
as_struct (Some (item.InstanceStruct c b fields)) = Some (b, fields)
as_struct _ = None

-- the struct of a class's instances: what it begins with, and its own fields
abbrev pub struct_of : List CFile → Numbered → Option (Base × List CType)
struct_of files class = as_struct (found files (item_among (is_struct class) 0 files))

abbrev pub is_table_struct : Numbered → CItem → Bool
is_table_struct class (item.TableStruct c b slots) = same_number c class
is_table_struct class _ = false

abbrev pub as_table_struct : Option CItem → Option (TableBase × List Slot)
as_table_struct (Some (item.TableStruct c b slots)) = Some (b, slots)
as_table_struct _ = None

-- the struct of a class's method table: what it begins with, and its own slots
abbrev pub table_struct_of : List CFile → Numbered → Option (TableBase × List Slot)
table_struct_of files class = as_table_struct (found files (item_among (is_table_struct class) 0 files))

-- a slot that a struct adds itself
abbrev pub slot_among : List Slot → ℕ → Option Slot
slot_among [] j = None
slot_among (s ∷ ss) j = if nat_eq s.number j then Some s else slot_among ss j

abbrev pub slot_in : Option (TableBase × List Slot) → ℕ → Option Slot
slot_in None j = None
slot_in (Some (b, slots)) j = slot_among slots j

abbrev pub slot_of : List CFile → Numbered → ℕ → Option Slot
slot_of files class j = slot_in (table_struct_of files class) j

-- ---- method tables

abbrev pub is_table : Numbered → CItem → Bool
is_table class (item.Table t) = same_number t.class class
is_table class _ = false

-- where the method table of a class stands: it isn't `static`
abbrev pub table_named : List CFile → Numbered → Option ItemPlace
table_named files class = item_among (is_table class) 0 files

abbrev pub as_table : Option CItem → Option StructTable
as_table (Some (item.Table t)) = Some t
as_table _ = None

abbrev pub table_at : List CFile → ItemPlace → Option StructTable
table_at files p = as_table (item_at files p)

-- the functions of a method table by the numbers of their slots, from 0
abbrev pub functions_of : StructTable → List FunctionName
functions_of t = t.inner ++ flat_map (λ layer. layer) t.outer

abbrev pub holds_of : {A : Type 0} → Option A → (A → Bool) → Bool
holds_of None test = false
holds_of (Some x) test = test x

-- the class with whose table's struct another begins
abbrev pub table_base_in : Option (TableBase × List Slot) → Option Numbered
table_base_in (Some (table_base.Class b, slots)) = Some b
table_base_in _ = None

-- whether the struct of a class's method table is that of another class, or begins with it, in at most n steps
abbrev pub begins_with : List CFile → ℕ → Numbered → Numbered → Bool
begins_with files zero class wanted = same_number class wanted
begins_with files (suc n) class wanted =
    same_number class wanted || holds_of (table_base_in (table_struct_of files class)) (λ b. begins_with files n b wanted)

-- ---- bases

abbrev pub base_named : List CFile → ℕ → Option Numbered → Option ItemPlace
base_named files k None = None
base_named files k (Some class) = type_named files k class

abbrev pub base_in : List CFile → ℕ → Option TypeObject → Option ItemPlace
base_in files k None = None
base_in files k (Some object) = base_named files k object.base

-- the base of a class
abbrev pub base_of : List CFile → ItemPlace → Option ItemPlace
base_of files t = base_in files t.file (type_at files t)

-- whether a class is another or one of its subclasses, by at most n steps to a base
abbrev pub is_below : List CFile → ℕ → ItemPlace → ItemPlace → Bool
is_below files zero t wanted = same_item t wanted
is_below files (suc n) t wanted = same_item t wanted || holds_of (base_of files t) (λ b. is_below files n b wanted)

-- ---- what the outside names

abbrev pub defines_module : CItem → Option Bool
defines_module (item.ModuleDefinition static n) = Some static
defines_module _ = None

abbrev pub as_module : Option CItem → Option (List ℕ)
as_module (Some (item.ModuleDefinition static n)) = Some n
as_module _ = None

-- the name in the module definition that counts in a file
abbrev pub module_name : List CFile → ℕ → Option (List ℕ)
module_name files k = as_module (found files (named defines_module files k))

abbrev pub is_here : ℕ → Option ItemPlace → Bool
is_here k None = false
is_here k (Some p) = nat_eq p.file k

abbrev pub is_named : Option (List ℕ) → List ℕ → Bool
is_named None name = false
is_named (Some n) name = bytes_eq n name

-- whether a file defines a module of this name
abbrev pub defines_it : List CFile → List ℕ → ℕ → Bool
defines_it files name k = is_here k (named defines_module files k) && is_named (module_name files k) name

-- the first of the files from number k on that does, of which so many are left
abbrev pub module_from : List CFile → List ℕ → ℕ → ℕ → Option ℕ
module_from files name k zero = None
module_from files name k (suc n) = if defines_it files name k then Some k else module_from files name (suc k) n

abbrev pub module_file : List CFile → List ℕ → Option ℕ
module_file files name = module_from files name 0 (length files)

abbrev pub defines_methods : TableName → CItem → Option Bool
defines_methods name (item.Methods static t rows) = if_same (same_table t name) static
defines_methods name _ = None

abbrev pub as_methods : Option CItem → List MethodRow
as_methods (Some (item.Methods static t rows)) = rows
as_methods _ = []

-- the rows of a table of methods that C in a file names
abbrev pub methods_named : List CFile → ℕ → TableName → List MethodRow
methods_named files k name = as_methods (found files (named (defines_methods name) files k))

abbrev pub method_row : List MethodRow → List ℕ → Option MethodRow
method_row [] name = None
method_row (r ∷ rs) name = if bytes_eq r.name name then Some r else method_row rs name

abbrev pub defines_properties : Numbered → CItem → Option Bool
defines_properties class (item.Properties static c rows) = if_same (same_number c class) static
defines_properties class _ = None

abbrev pub as_properties : Option CItem → List PropertyRow
as_properties (Some (item.Properties static c rows)) = rows
as_properties _ = []

abbrev pub properties_named : List CFile → ℕ → Numbered → List PropertyRow
properties_named files k class = as_properties (found files (named (defines_properties class) files k))

abbrev pub property_row : List PropertyRow → List ℕ → Option PropertyRow
property_row [] name = None
property_row (r ∷ rs) name = if bytes_eq r.name name then Some r else property_row rs name

-- what a table of sequence or mapping functions has: the first and the second of its members
abbrev pub defines_sequence : Numbered → CItem → Option Bool
defines_sequence class (item.Sequence static c len has) = if_same (same_number c class) static
defines_sequence class _ = None

abbrev pub as_sequence : Option CItem → Option Numbered × Option Numbered
as_sequence (Some (item.Sequence static c len has)) = (len, has)
as_sequence _ = (None, None)

abbrev pub sequence_named : List CFile → ℕ → Numbered → Option Numbered × Option Numbered
sequence_named files k class = as_sequence (found files (named (defines_sequence class) files k))

abbrev pub defines_mapping : Numbered → CItem → Option Bool
defines_mapping class (item.Mapping static c len get) = if_same (same_number c class) static
defines_mapping class _ = None

abbrev pub as_mapping : Option CItem → Option Numbered × Option Numbered
as_mapping (Some (item.Mapping static c len get)) = (len, get)
as_mapping _ = (None, None)

abbrev pub mapping_named : List CFile → ℕ → Numbered → Option Numbered × Option Numbered
mapping_named files k class = as_mapping (found files (named (defines_mapping class) files k))

abbrev pub is_place : ItemPlace → Option ItemPlace → Bool
is_place p None = false
is_place p (Some q) = same_item p q

-- whether an item is a type object of this name, and the one that counts for its class in its file
abbrev pub is_class : List CFile → List ℕ → ItemPlace → CItem → Bool
is_class files name p (item.Type static t) = bytes_eq t.name name && is_place p (type_named files p.file t.class)
is_class files name p _ = false

abbrev pub class_from : List CFile → List ℕ → ℕ → ℕ → List CItem → Option ItemPlace
class_from files name k i [] = None
class_from files name k i (x ∷ is) = if is_class files name (place_of k i) x then Some (place_of k i) else class_from files name k (suc i) is

-- the first type object of a file with a name, `module.Class`
abbrev pub class_named_in : List CFile → ℕ → List ℕ → Option ItemPlace
class_named_in files k name = class_from files name k 0 (items_at files k)
