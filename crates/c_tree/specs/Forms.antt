-- Which trees are of the profile: their numbers, names and literals are in range. The project's own.
use Rattle.std.specs.Prelude.{◌≡◌, ◌≢◌, ℕ, suc, ◌^◌, ◌<◌, pos, neg_ℤ, ◌≤ℤ◌, List, [], ◌∷◌, Bool, true, false, Option, Some, None, length, ⊤, codes}
use Rattle.std.specs.Char.{is_ascii_digit}
use Rattle.std.specs.List.{list_any, AllByRecursion}
use Rattle.std.specs.Str.{bytes_eq}
use Rattle.c_token.specs.CTokens.{is_word_byte}
use Rattle.c_tree.specs.declared.item.Base.{Base}
use Rattle.c_tree.specs.declared.item.Base.TheVariants as base
use Rattle.c_tree.specs.declared.item.CFile.{CFile}
use Rattle.c_tree.specs.declared.item.CFunction.{CFunction}
use Rattle.c_tree.specs.declared.item.CHead.{CHead}
use Rattle.c_tree.specs.declared.item.CHead.TheVariants as head
use Rattle.c_tree.specs.declared.item.CItem.{CItem}
use Rattle.c_tree.specs.declared.item.CItem.TheVariants as item
use Rattle.c_tree.specs.declared.item.Declaration.{Declaration}
use Rattle.c_tree.specs.declared.item.Line.{Line}
use Rattle.c_tree.specs.declared.item.Line.TheVariants as line
use Rattle.c_tree.specs.declared.item.Parameter.{Parameter}
use Rattle.c_tree.specs.declared.item.PropertyRow.{PropertyRow}
use Rattle.c_tree.specs.declared.item.Slot.{Slot}
use Rattle.c_tree.specs.declared.item.TableBase.{TableBase}
use Rattle.c_tree.specs.declared.item.TableBase.TheVariants as table_base
use Rattle.c_tree.specs.declared.item.TypeObject.{TypeObject}
use Rattle.c_tree.specs.declared.name.FieldNumber.{FieldNumber}
use Rattle.c_tree.specs.declared.name.FunctionName.{FunctionName}
use Rattle.c_tree.specs.declared.name.FunctionName.TheVariants as function
use Rattle.c_tree.specs.declared.name.Numbered.{Numbered}
use Rattle.c_tree.specs.declared.name.Place.{Place}
use Rattle.c_tree.specs.declared.name.Place.TheVariants as place
use Rattle.c_tree.specs.declared.name.TableName.{TableName}
use Rattle.c_tree.specs.declared.name.TableName.TheVariants as table
use Rattle.c_tree.specs.declared.name.Variable.{Variable}
use Rattle.c_tree.specs.declared.name.Variable.TheVariants as variable
use Rattle.c_tree.specs.declared.statement.Argument.{Argument}
use Rattle.c_tree.specs.declared.statement.Argument.TheVariants as argument
use Rattle.c_tree.specs.declared.statement.CStmt.{CStmt}
use Rattle.c_tree.specs.declared.statement.CStmt.TheVariants as stmt
use Rattle.c_tree.specs.declared.statement.CTest.{CTest}
use Rattle.c_tree.specs.declared.statement.CTest.TheVariants as test
use Rattle.c_tree.specs.declared.statement.Callee.{Callee}
use Rattle.c_tree.specs.declared.statement.Callee.TheVariants as callee
use Rattle.c_tree.specs.declared.statement.FieldPlace.{FieldPlace}
use Rattle.c_tree.specs.declared.statement.ViewNumber.{ViewNumber}
use Rattle.c_tree.specs.declared.statement.ViewNumber.TheVariants as number
use Rattle.c_tree.specs.declared.statement.ViewPlace.{ViewPlace}
use Rattle.c_tree.specs.declared.statement.ViewPlace.TheVariants as view
use Rattle.c_tree.specs.declared.value.CType.{CType}
use Rattle.c_tree.specs.declared.value.CType.TheVariants as type
use Rattle.c_tree.specs.declared.value.CValue.{CValue}
use Rattle.c_tree.specs.declared.value.CValue.TheVariants as value
use Rattle.c_tree.specs.declared.value.Literal.{Literal}
use Rattle.c_tree.specs.declared.value.Literal.TheVariants as literal
use Rattle.c_tree.specs.Names.{function_name}

-- ---- numbers and names

-- a number that names a module, a place in it, a variable, a field or a label
abbrev pub IsNumber : ℕ → Type 0
IsNumber n = n < 2 ^ 32

abbrev pub IsNumbered : Numbered → Type 0
IsNumbered n = IsNumber n.module × IsNumber n.index

abbrev pub IsFieldNumber : FieldNumber → Type 0
IsFieldNumber f = IsNumbered f.class × IsNumber f.field

abbrev pub IsPlace : Place → Type 0
IsPlace (place.Constant j) = IsNumber j
IsPlace (place.Global j) = IsNumber j
IsPlace _ = ⊤

abbrev pub IsVariable : Variable → Type 0
IsVariable (variable.Parameter j) = IsNumber j
IsVariable (variable.Local j) = IsNumber j
IsVariable (variable.Temporary j) = IsNumber j
IsVariable variable.Returned = ⊤
IsVariable (variable.Fixed x) = ⊤
IsVariable (variable.Place x) = IsPlace x

-- letters, digits and `_`, and no digit first (ISO/IEC 9899:2011 6.4.2.1)
abbrev pub IsIdentifier : List ℕ → Type 0
IsIdentifier [] = ⊥
IsIdentifier (first ∷ more) = (is_ascii_digit first ≡ false) × AllByRecursion (λ b. is_word_byte b ≡ true) (first ∷ more)

-- the keywords of C (ISO/IEC 9899:2011 6.4.1)
abbrev pub keywords : List (List ℕ)
keywords =
    codes "auto" ∷ codes "break" ∷ codes "case" ∷ codes "char" ∷ codes "const" ∷ codes "continue" ∷ codes "default" ∷ codes "do"
    ∷ codes "double" ∷ codes "else" ∷ codes "enum" ∷ codes "extern" ∷ codes "float" ∷ codes "for" ∷ codes "goto" ∷ codes "if"
    ∷ codes "inline" ∷ codes "int" ∷ codes "long" ∷ codes "register" ∷ codes "restrict" ∷ codes "return" ∷ codes "short" ∷ codes "signed"
    ∷ codes "sizeof" ∷ codes "static" ∷ codes "struct" ∷ codes "switch" ∷ codes "typedef" ∷ codes "union" ∷ codes "unsigned" ∷ codes "void"
    ∷ codes "volatile" ∷ codes "while" ∷ codes "_Alignas" ∷ codes "_Alignof" ∷ codes "_Atomic" ∷ codes "_Bool" ∷ codes "_Complex" ∷ codes "_Generic"
    ∷ codes "_Imaginary" ∷ codes "_Noreturn" ∷ codes "_Static_assert" ∷ codes "_Thread_local" ∷ []

abbrev pub is_keyword : List ℕ → Bool
is_keyword name = list_any (bytes_eq name) keywords

-- the bytes of a string
abbrev pub IsString : List ℕ → Type 0
IsString bytes = AllByRecursion (λ b. b < 256) bytes

abbrev pub IsFunctionName : FunctionName → Type 0
IsFunctionName (function.Getter f) = IsFieldNumber f
IsFunctionName (function.Setter f) = IsFieldNumber f
IsFunctionName function.Body = ⊤
IsFunctionName (function.Initializer name) = IsIdentifier name
IsFunctionName (function.Plain n) = IsNumbered n
IsFunctionName (function.Wrapper n) = IsNumbered n
IsFunctionName (function.Overridable n) = IsNumbered n
IsFunctionName (function.New n) = IsNumbered n
IsFunctionName (function.Init n) = IsNumbered n
IsFunctionName (function.Dealloc n) = IsNumbered n
IsFunctionName (function.Len n) = IsNumbered n
IsFunctionName (function.Item n) = IsNumbered n
IsFunctionName (function.Has n) = IsNumbered n

-- a name that is no keyword, and that no function of the compiler has
pub record IsOtherName (name : List ℕ) : Type 0 where
  pub identifier : IsIdentifier name
  pub word : is_keyword name ≡ false
  pub other : (f : FunctionName) → IsFunctionName f → function_name f ≢ name

-- ---- operands

-- a literal is a value of its type
abbrev pub IsLiteral : Literal → Type 0
IsLiteral (literal.Int z) = (neg_ℤ (pos 2147483648) ≤ℤ z) × (z ≤ℤ pos 2147483647)
IsLiteral (literal.Unsigned n) = n < 2 ^ 32
IsLiteral (literal.Long z) = (neg_ℤ (pos 9223372036854775808) ≤ℤ z) × (z ≤ℤ pos 9223372036854775807)
IsLiteral (literal.UnsignedLong n) = n < 2 ^ 64

abbrev pub IsValue : CValue → Type 0
IsValue (value.Variable x) = IsVariable x
IsValue (value.Argument j) = IsNumber j
IsValue (value.Literal n) = IsLiteral n
IsValue (value.ClassObject n) = IsNumbered n
IsValue (value.TypeAddress n) = IsNumbered n
IsValue _ = ⊤

-- ---- statements

abbrev pub IsCallee : Callee → Type 0
IsCallee (callee.Function f) = IsFunctionName f
IsCallee (callee.Named name) = IsOtherName name

abbrev pub IsArgument : Argument → Type 0
IsArgument (argument.Value k) = IsValue k
IsArgument (argument.Str bytes) = IsString bytes

-- the address of a type object as an object is an operand, and no cast of another
abbrev pub IsCast : CType → CValue → Type 0
IsCast type.Object (value.TypeAddress n) = ⊥
IsCast kind k = IsValue k

abbrev pub IsFieldPlace : FieldPlace → Type 0
IsFieldPlace p = IsVariable p.object × IsNumbered p.class × IsNumber p.field

abbrev pub IsView : ViewPlace → Type 0
IsView (view.Variable x) = IsVariable x
IsView (view.Field p) = IsFieldPlace p

abbrev pub IsViewNumber : ViewNumber → Type 0
IsViewNumber (number.Shape j) = IsNumber j
IsViewNumber (number.Stride j) = IsNumber j
IsViewNumber _ = ⊤

abbrev pub IsDestination : Option Variable → Type 0
IsDestination None = ⊤
IsDestination (Some x) = IsVariable x

abbrev pub IsTest : CTest → Type 0
IsTest (test.Compare a o b) = IsValue a × IsValue b
IsTest _ = ⊤

abbrev pub IsStatement : CStmt → Type 0
IsStatement (stmt.Assign x k) = IsVariable x × IsValue k
IsStatement (stmt.Binary x a o b) = IsVariable x × IsValue a × IsValue b
IsStatement (stmt.Invert x k) = IsVariable x × IsValue k
IsStatement (stmt.Cast x kind k) = IsVariable x × IsCast kind k
IsStatement (stmt.Call x f all) = IsDestination x × IsCallee f × AllByRecursion IsArgument all
IsStatement (stmt.LoadField x p) = IsVariable x × IsFieldPlace p
IsStatement (stmt.StoreField p k) = IsFieldPlace p × IsValue k
IsStatement (stmt.StoreTable y n) = IsVariable y × IsNumbered n
IsStatement (stmt.CallMethod x n y j all) = IsDestination x × IsNumbered n × IsVariable y × IsNumber j × AllByRecursion IsArgument all
IsStatement (stmt.IsNative x y n) = IsVariable x × IsVariable y × IsNumbered n
IsStatement (stmt.HasHeapType x y) = IsVariable x × IsVariable y
IsStatement (stmt.Goto t j) = IsTest t × IsNumber j
IsStatement (stmt.Return None) = ⊤
IsStatement (stmt.Return (Some k)) = IsValue k
IsStatement (stmt.Free x) = IsVariable x
IsStatement (stmt.ViewNumber x y n) = IsVariable x × IsVariable y × IsViewNumber n
IsStatement (stmt.IsIndirect x y) = IsVariable x × IsVariable y
IsStatement (stmt.HasFormat x y letters) = IsVariable x × IsVariable y × IsString letters
IsStatement (stmt.TakeBuffer v y) = IsView v × IsVariable y
IsStatement (stmt.CopyBuffer v w) = IsView v × IsView w
IsStatement (stmt.MoveBuffer v k) = IsView v × IsValue k
IsStatement (stmt.StoreMemory v k) = IsView v × IsValue k
IsStatement (stmt.LoadMemory x v) = IsVariable x × IsView v
IsStatement (stmt.StoreExtent v e j k) = IsView v × IsNumber j × IsValue k
IsStatement (stmt.LoadExtent x v e j) = IsVariable x × IsView v × IsNumber j
IsStatement (stmt.LoadElement x kind v y) = IsVariable x × IsVariable v × IsVariable y
IsStatement (stmt.StoreElement kind v y k) = IsVariable v × IsVariable y × IsValue k

abbrev pub IsLine : Line → Type 0
IsLine (line.Label j) = IsNumber j
IsLine (line.Statement s) = IsStatement s

-- each run of labels is followed by a statement (ISO/IEC 9899:2011 6.8.1)
abbrev pub LabelsStand : List Line → Type 0
LabelsStand [] = ⊤
LabelsStand (line.Label j ∷ []) = ⊥
LabelsStand (line.Label j ∷ next ∷ lines) = LabelsStand (next ∷ lines)
LabelsStand (line.Statement s ∷ lines) = LabelsStand lines

-- ---- items

-- a variable of the function, and no place of the file
abbrev pub IsDeclared : Variable → Type 0
IsDeclared (variable.Place x) = ⊥
IsDeclared x = IsVariable x

abbrev pub IsDeclaration : Declaration → Type 0
IsDeclaration d = IsDeclared d.variable

abbrev pub IsParameter : Parameter → Type 0
IsParameter p = IsNumber p.number

abbrev pub IsHead : CHead → Type 0
IsHead (head.Plain n kind parameters) = IsNumbered n × AllByRecursion IsParameter parameters
IsHead (head.Overridable n kind parameters) = IsNumbered n × AllByRecursion IsParameter parameters
IsHead (head.Wrapper n) = IsNumbered n
IsHead (head.New n) = IsNumbered n
IsHead (head.Init n) = IsNumbered n
IsHead (head.Dealloc n) = IsNumbered n
IsHead (head.Len n) = IsNumbered n
IsHead (head.Item n) = IsNumbered n
IsHead (head.Has n) = IsNumbered n
IsHead (head.Getter f) = IsFieldNumber f
IsHead (head.Setter f) = IsFieldNumber f
IsHead head.Body = ⊤
IsHead (head.Initializer name) = IsIdentifier name

abbrev pub IsFunction : CFunction → Type 0
IsFunction f = IsHead f.head × AllByRecursion IsDeclaration f.declarations × AllByRecursion IsLine f.lines × LabelsStand f.lines

abbrev pub IsBase : Base → Type 0
IsBase base.Root = ⊤
IsBase (base.Class n) = IsNumbered n

abbrev pub IsTableBase : TableBase → Type 0
IsTableBase table_base.Name = ⊤
IsTableBase (table_base.Class n) = IsNumbered n

-- the slots' numbers rise by one
abbrev pub AreNumberedFrom : ℕ → List Slot → Type 0
AreNumberedFrom j [] = ⊤
AreNumberedFrom j (slot ∷ slots) = (slot.number ≡ j) × IsNumber j × AreNumberedFrom (suc j) slots

-- slots are numbered through the whole table: from 0 where it has no base, else from wherever the base's end
abbrev pub AreSlots : TableBase → List Slot → Type 0
AreSlots table_base.Name slots = AreNumberedFrom 0 slots
AreSlots (table_base.Class n) [] = ⊤
AreSlots (table_base.Class n) (slot ∷ slots) = AreNumberedFrom slot.number (slot ∷ slots)

abbrev pub IsTableName : TableName → Type 0
IsTableName table.OfFile = ⊤
IsTableName (table.OfClass n) = IsNumbered n

abbrev pub IsMember : Option Numbered → Type 0
IsMember None = ⊤
IsMember (Some n) = IsNumbered n

abbrev pub IsSetter : Option FieldNumber → Type 0
IsSetter None = ⊤
IsSetter (Some f) = IsFieldNumber f

abbrev pub IsProperty : PropertyRow → Type 0
IsProperty p = IsString p.name × IsFieldNumber p.getter × IsSetter p.setter

-- one of two members stands in a table, or both: C has no empty braces (ISO/IEC 9899:2011 6.7.9)
abbrev pub AreMembers : Option Numbered → Option Numbered → Type 0
AreMembers None None = ⊥
AreMembers a b = IsMember a × IsMember b

abbrev pub IsType : TypeObject → Type 0
IsType t =
    IsNumbered t.class × IsString t.name × IsNumbered t.size × IsMember t.base × IsMember t.new × IsMember t.init
    × IsMember t.dealloc × IsMember t.methods × IsMember t.properties × IsMember t.sequence × IsMember t.mapping

-- a tree of the profile
unfoldable pub IsItem : CItem → Type 0
IsItem (item.InstanceStruct n b kinds) = IsNumbered n × IsBase b × IsNumber (length kinds)
IsItem (item.TableStruct n b slots) = IsNumbered n × IsTableBase b × AreSlots b slots
IsItem (item.Table t) = IsNumbered t.class × IsString t.name × AllByRecursion IsFunctionName t.inner × AllByRecursion (AllByRecursion IsFunctionName) t.outer
IsItem (item.Prototype kind f kinds) = IsFunctionName f
IsItem (item.StaticPrototype kind f kinds) = IsFunctionName f
IsItem (item.ExternType n) = IsNumbered n
IsItem (item.Static kind x) = IsPlace x
IsItem (item.Methods is_static name rows) = IsTableName name × AllByRecursion (λ m. IsString m.name × IsNumbered m.wrapper) rows
IsItem (item.Properties is_static n rows) = IsNumbered n × AllByRecursion IsProperty rows
IsItem (item.Sequence is_static n len contains) = IsNumbered n × AreMembers len contains
IsItem (item.Mapping is_static n len subscript) = IsNumbered n × AreMembers len subscript
IsItem (item.Type is_static t) = IsType t
IsItem (item.ModuleDefinition is_static name) = IsString name
IsItem (item.Function f) = IsFunction f
IsItem _ = ⊤

-- a file of such trees
unfoldable pub IsFile : CFile → Type 0
IsFile file = AllByRecursion IsItem file.items
