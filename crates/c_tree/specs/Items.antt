-- How the items of a file are spelled. The project's own profile of C (ISO/IEC 9899:2011 6.7, 6.9; Python/C API manual,
-- "Common Object Structures", "Type Objects", "Module Objects").
use Prim.Native.String.{String}
use Rattle.std.specs.Prelude.{ℕ, suc, List, [], ◌∷◌, ◌++◌, Bool, true, false, Option, Some, None, length, replicate}
use Rattle.std.specs.List.{flat_map}
use Rattle.c_token.specs.CTokens.{CToken, Word, word, sign}
use Rattle.c_tree.specs.declared.item.Base.{Base}
use Rattle.c_tree.specs.declared.item.Base.TheVariants as base
use Rattle.c_tree.specs.declared.item.CFunction.{CFunction}
use Rattle.c_tree.specs.declared.item.CHead.{CHead}
use Rattle.c_tree.specs.declared.item.CHead.TheVariants as head
use Rattle.c_tree.specs.declared.item.CItem.{CItem}
use Rattle.c_tree.specs.declared.item.CItem.TheVariants as item
use Rattle.c_tree.specs.declared.item.Declaration.{Declaration}
use Rattle.c_tree.specs.declared.item.InitialValue.{InitialValue}
use Rattle.c_tree.specs.declared.item.InitialValue.TheVariants as initial
use Rattle.c_tree.specs.declared.item.Line.{Line}
use Rattle.c_tree.specs.declared.item.Line.TheVariants as line
use Rattle.c_tree.specs.declared.item.MethodRow.{MethodRow}
use Rattle.c_tree.specs.declared.item.Parameter.{Parameter}
use Rattle.c_tree.specs.declared.item.PropertyRow.{PropertyRow}
use Rattle.c_tree.specs.declared.item.Slot.{Slot}
use Rattle.c_tree.specs.declared.item.StructTable.{StructTable}
use Rattle.c_tree.specs.declared.item.TableBase.{TableBase}
use Rattle.c_tree.specs.declared.item.TableBase.TheVariants as table_base
use Rattle.c_tree.specs.declared.item.TypeObject.{TypeObject}
use Rattle.c_tree.specs.declared.name.FieldNumber.{FieldNumber}
use Rattle.c_tree.specs.declared.name.FunctionName.{FunctionName}
use Rattle.c_tree.specs.declared.name.FunctionName.TheVariants as function
use Rattle.c_tree.specs.declared.name.Numbered.{Numbered}
use Rattle.c_tree.specs.declared.name.Variable.TheVariants as variables
use Rattle.c_tree.specs.declared.value.CResult.{CResult}
use Rattle.c_tree.specs.declared.value.CType.{CType}
use Rattle.c_tree.specs.Names.{text, function_name, methods_name, place_name, name_token, variable_token, letter_token, listed, of_field}
use Rattle.c_tree.specs.Values.{type_spelling, result_spelling, string}
use Rattle.c_tree.specs.Statements.{statement_spelling}

abbrev pub function_token : FunctionName → CToken
function_token f = Word (function_name f)

-- what stands between the brackets of a head or a prototype: the tokens, or `void` where there are none
abbrev pub void_or : List CToken → List CToken
void_or [] = text "void"
void_or (token ∷ more) = token ∷ more

abbrev pub types_spelling : List CType → List CToken
types_spelling kinds = sign "(" ∷ (void_or (listed type_spelling kinds) ++ (sign ")" ∷ []))

-- `static`, where it stands
abbrev pub static_or : Bool → List CToken → List CToken
static_or true tokens = word "static" ∷ tokens
static_or false tokens = tokens

-- ---- functions

abbrev pub parameter_spelling : Parameter → List CToken
parameter_spelling p = type_spelling p.kind ++ (variable_token (variables.Parameter p.number) ∷ [])

-- `R cyc_f_0_1(T p0, ..)`
abbrev pub plain_head : FunctionName → CResult → List Parameter → List CToken
plain_head f kind parameters = result_spelling kind ++ (function_token f ∷ sign "(" ∷ (void_or (listed parameter_spelling parameters) ++ (sign ")" ∷ [])))

-- a fixed head with the function's name in it
abbrev pub fixed_head : String → FunctionName → String → List CToken
fixed_head before f after = text before ++ (function_token f ∷ text after)

abbrev pub head_spelling : CHead → List CToken
head_spelling (head.Plain n kind parameters) = plain_head (function.Plain n) kind parameters
head_spelling (head.Overridable n kind parameters) = plain_head (function.Overridable n) kind parameters
head_spelling (head.Wrapper n) = fixed_head "static PyObject *" (function.Wrapper n) "(PyObject *self, PyObject *const *args, Py_ssize_t nargs)"
head_spelling (head.New n) = fixed_head "static PyObject *" (function.New n) "(PyTypeObject *type, PyObject *args, PyObject *kwds)"
head_spelling (head.Init n) = fixed_head "static int" (function.Init n) "(PyObject *self, PyObject *args, PyObject *kwds)"
head_spelling (head.Dealloc n) = fixed_head "static void" (function.Dealloc n) "(PyObject *self)"
head_spelling (head.Len n) = fixed_head "static Py_ssize_t" (function.Len n) "(PyObject *self)"
head_spelling (head.Item n) = fixed_head "static PyObject *" (function.Item n) "(PyObject *self, PyObject *k)"
head_spelling (head.Has n) = fixed_head "static int" (function.Has n) "(PyObject *self, PyObject *k)"
head_spelling (head.Getter f) = fixed_head "static PyObject *" (function.Getter f) "(PyObject *self, void *closure)"
head_spelling (head.Setter f) = fixed_head "static int" (function.Setter f) "(PyObject *self, PyObject *value, void *closure)"
head_spelling head.Body = fixed_head "static int" function.Body "(void)"
head_spelling (head.Initializer name) = fixed_head "PyMODINIT_FUNC" (function.Initializer name) "(void)"

abbrev pub initial_spelling : InitialValue → List CToken
initial_spelling initial.Nothing = text ";"
initial_spelling initial.Zero = text "= 0;"
initial_spelling initial.Null = text "= NULL;"
initial_spelling initial.Zeros = text "= {0};"

abbrev pub declaration_spelling : Declaration → List CToken
declaration_spelling d = type_spelling d.kind ++ (variable_token d.variable ∷ initial_spelling d.initial)

abbrev pub line_spelling : Line → List CToken
line_spelling (line.Label j) = letter_token "L" j ∷ sign ":" ∷ []
line_spelling (line.Statement s) = statement_spelling s

abbrev pub function_spelling : CFunction → List CToken
function_spelling f = head_spelling f.head ++ (sign "{" ∷ (flat_map declaration_spelling f.declarations ++ (flat_map line_spelling f.lines ++ (sign "}" ∷ []))))

-- ---- structs and method tables

abbrev pub base_spelling : Base → List CToken
base_spelling base.Root = text "struct cyc_root b;"
base_spelling (base.Class n) = word "struct" ∷ name_token "cyc_o_" n ∷ text "b;"

-- the fields, from a number on
abbrev pub fields_spelling : ℕ → List CType → List CToken
fields_spelling j [] = []
fields_spelling j (kind ∷ kinds) = type_spelling kind ++ (letter_token "f" j ∷ sign ";" ∷ fields_spelling (suc j) kinds)

abbrev pub table_base_spelling : TableBase → List CToken
table_base_spelling table_base.Name = text "const char *name;"
table_base_spelling (table_base.Class n) = word "struct" ∷ name_token "cyc_vt_" n ∷ text "b;"

-- `R (*m0)(T, ..);`
abbrev pub slot_spelling : Slot → List CToken
slot_spelling s = result_spelling s.result ++ (text "(*" ++ (letter_token "m" s.number ∷ (text ")" ++ (types_spelling s.parameters ++ text ";"))))

-- functions, each with the comma before it
abbrev pub behind : List FunctionName → List CToken
behind = flat_map (λ f. sign "," ∷ function_token f ∷ [])

-- `{ { "m.A", cyc_f_0_0 }, cyc_f_0_1 }`: a brace for each table, and each table closed behind its own functions
abbrev pub table_spelling : StructTable → List CToken
table_spelling t =
    replicate (suc (length t.outer)) (sign "{")
    ++ (string t.name ∷ (behind t.inner ++ (flat_map (λ fs. sign "}" ∷ behind fs) t.outer ++ (sign "}" ∷ []))))

-- ---- tables of the API

-- a row, with the comma after it
abbrev pub method_spelling : MethodRow → List CToken
method_spelling m =
    sign "{" ∷ string m.name ∷ (text ", (PyCFunction)(void (*)(void))" ++ (name_token "cyc_w_" m.wrapper ∷ text ", METH_FASTCALL, NULL},"))

abbrev pub setter_or_null : Option FieldNumber → List CToken
setter_or_null None = text "NULL"
setter_or_null (Some f) = Word (of_field "cyc_set_" f) ∷ []

abbrev pub property_spelling : PropertyRow → List CToken
property_spelling p =
    sign "{" ∷ string p.name ∷ sign "," ∷ Word (of_field "cyc_get_" p.getter) ∷ sign "," ∷ (setter_or_null p.setter ++ text ", NULL, NULL},")

-- a member of a table, where it is there
abbrev pub member : String → String → String → Option Numbered → List (List CToken)
member dotted before letters None = []
member dotted before letters (Some n) = (text dotted ++ (text before ++ (name_token letters n ∷ []))) ∷ []

-- the members, with a comma between them
abbrev pub members : List (List CToken) → List CToken
members all = sign "{" ∷ (listed (λ tokens. tokens) all ++ text "};")

abbrev pub type_members : TypeObject → List (List CToken)
type_members t =
    (text ".tp_name =" ++ (string t.name ∷ []))
    ∷ (text ".tp_basicsize = sizeof(struct" ++ (name_token "cyc_o_" t.size ∷ text ")"))
    ∷ text ".tp_flags = Py_TPFLAGS_DEFAULT | Py_TPFLAGS_BASETYPE"
    ∷ (member ".tp_base" "= &" "cyc_ty_" t.base ++ (member ".tp_new" "=" "cyc_new_" t.new ++ (member ".tp_init" "=" "cyc_init_" t.init
    ++ (member ".tp_dealloc" "=" "cyc_dealloc_" t.dealloc ++ (member ".tp_methods" "=" "cyc_ms_" t.methods ++ (member ".tp_getset" "=" "cyc_gs_" t.properties
    ++ (member ".tp_as_sequence" "= &" "cyc_sq_" t.sequence ++ member ".tp_as_mapping" "= &" "cyc_mp_" t.mapping)))))))

-- ---- items

-- the tokens of an item
unfoldable pub item_spelling : CItem → List CToken
item_spelling item.DefineClean = text "#define PY_SSIZE_T_CLEAN"
item_spelling item.IncludePython = text "#include <Python.h>"
item_spelling item.IncludeSet = text "#include \"cyc_set.h\""
item_spelling item.ViewType = text "typedef struct { PyObject *mv; char *buf; Py_ssize_t n[3]; Py_ssize_t s[3]; } cyc_view;"
item_spelling item.RootStruct = text "struct cyc_root { PyObject_HEAD const void *vt; };"
item_spelling item.FormatTest =
    text "static int cyc_fmt(const char *f, const char *set)"
    ++ (text "{ if (f == NULL) f = \"B\";"
    ++ (text "if (f[0] == '@') f = f + 1;"
    ++ (text "return f[0] != 0 && f[1] == 0 && strchr(set, f[0]) != NULL;" ++ text "}")))
item_spelling (item.InstanceStruct n b kinds) =
    word "struct" ∷ name_token "cyc_o_" n ∷ sign "{" ∷ (base_spelling b ++ (fields_spelling 0 kinds ++ text "};"))
item_spelling (item.TableStruct n b slots) =
    word "struct" ∷ name_token "cyc_vt_" n ∷ sign "{" ∷ (table_base_spelling b ++ (flat_map slot_spelling slots ++ text "};"))
item_spelling (item.Table t) =
    text "const struct" ++ (name_token "cyc_vt_" t.class ∷ name_token "cyc_t_" t.class ∷ sign "=" ∷ (table_spelling t ++ text ";"))
item_spelling (item.Prototype kind f kinds) = result_spelling kind ++ (function_token f ∷ (types_spelling kinds ++ text ";"))
item_spelling (item.StaticPrototype kind f kinds) = word "static" ∷ (type_spelling kind ++ (function_token f ∷ (types_spelling kinds ++ text ";")))
item_spelling (item.ExternType n) = text "extern PyTypeObject" ++ (name_token "cyc_ty_" n ∷ text ";")
item_spelling (item.Static kind x) = word "static" ∷ (type_spelling kind ++ (Word (place_name x) ∷ text ";"))
item_spelling (item.Methods is_static name rows) =
    static_or is_static (word "PyMethodDef" ∷ Word (methods_name name) ∷ (text "[] = {" ++ (flat_map method_spelling rows ++ text "{NULL, NULL, 0, NULL} };")))
item_spelling (item.Properties is_static n rows) =
    static_or is_static (word "PyGetSetDef" ∷ name_token "cyc_gs_" n ∷ (text "[] = {" ++ (flat_map property_spelling rows ++ text "{NULL, NULL, NULL, NULL, NULL} };")))
item_spelling (item.Sequence is_static n length contains) =
    static_or is_static (word "PySequenceMethods" ∷ name_token "cyc_sq_" n ∷ sign "=" ∷ members (member ".sq_length" "=" "cyc_len_" length ++ member ".sq_contains" "=" "cyc_has_" contains))
item_spelling (item.Mapping is_static n length subscript) =
    static_or is_static (word "PyMappingMethods" ∷ name_token "cyc_mp_" n ∷ sign "=" ∷ members (member ".mp_length" "=" "cyc_len_" length ++ member ".mp_subscript" "=" "cyc_item_" subscript))
item_spelling (item.Type is_static t) =
    static_or is_static (word "PyTypeObject" ∷ name_token "cyc_ty_" t.class ∷ (text "= { PyVarObject_HEAD_INIT(NULL, 0)" ++ (listed (λ tokens. tokens) (type_members t) ++ text "};")))
item_spelling (item.ModuleDefinition is_static name) =
    static_or is_static (text "struct PyModuleDef cyc_def = { PyModuleDef_HEAD_INIT," ++ (string name ∷ text ", NULL, -1, cyc_md };"))
item_spelling (item.Function f) = function_spelling f
