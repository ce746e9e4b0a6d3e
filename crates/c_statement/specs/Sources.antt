-- What stands behind `x =`, and what its first tokens say of it. The project's own profile of C (ISO/IEC 9899:2011).
use Rattle.std.specs.Prelude.{◌≡◌, ℕ, List, [], ◌∷◌, ◌++◌, not, ◌&&◌, if◌then◌else◌, Option, Some, None}
use Rattle.std.specs.List.{AllByRecursion}
use Rattle.c_token.specs.CTokens.{CToken, Word, word, sign}
use Rattle.c_tree.specs.declared.statement.CStmt.{CStmt}
use Rattle.c_tree.specs.declared.statement.CStmt.TheVariants as stmt
use Rattle.c_tree.specs.declared.name.Numbered.{Numbered}
use Rattle.c_tree.specs.declared.name.Variable.{Variable}
use Rattle.c_tree.specs.declared.statement.ViewPlace.{ViewPlace}
use Rattle.c_tree.specs.declared.value.CType.{CType}
use Rattle.c_tree.specs.declared.value.CType.TheVariants as type
use Rattle.c_tree.specs.declared.value.CValue.{CValue}
use Rattle.c_tree.specs.declared.value.CValue.TheVariants as value
use Rattle.c_tree.specs.Forms.{IsArgument, IsCallee, IsCast, IsFieldPlace, IsNumber, IsNumbered, IsString, IsValue, IsVariable, IsView, IsViewNumber}
use Rattle.c_tree.specs.Names.{name_token, variable_token}
use Rattle.c_tree.specs.Statements.{arguments, buffer_of, callee_name, extent_name, field, index, number_spelling, op_spelling, view}
use Rattle.c_tree.specs.Values.{string, type_spelling, value_spelling}
use Rattle.c_place.specs.Places.{element_spelling, method_spelling, IsElement, IsMethod}
use Rattle.c_statement.specs.declared.source.Call.{Call}
use Rattle.c_statement.specs.declared.source.MethodCall.{MethodCall}
use Rattle.c_statement.specs.declared.source.Source.{Source}
use Rattle.c_statement.specs.declared.source.Source.TheVariants as source
use Rattle.c_statement.specs.declared.source_kind.SourceKind.{SourceKind}
use Rattle.c_statement.specs.declared.source_kind.SourceKind.TheVariants as kind
use Rattle.c_statement.specs.Seen.{sign_at, word_at}

-- the end of a statement
abbrev pub end : List CToken
end = sign ";" ∷ []

-- an operand at the end of a statement
abbrev pub ended_tokens : CValue → List CToken
ended_tokens k = value_spelling k ++ end

-- ---- calls

abbrev pub IsCall : Call → Type 0
IsCall c = IsCallee c.callee × AllByRecursion IsArgument c.arguments

abbrev pub call_tokens : Call → List CToken
call_tokens c = Word (callee_name c.callee) ∷ (arguments c.arguments ++ end)

abbrev pub IsMethodCall : MethodCall → Type 0
IsMethodCall c = IsMethod c.method × AllByRecursion IsArgument c.arguments

abbrev pub method_call_tokens : MethodCall → List CToken
method_call_tokens c = method_spelling c.method ++ (arguments c.arguments ++ end)

-- ---- sources

abbrev pub IsSource : Source → Type 0
IsSource (source.Value k) = IsValue k
IsSource (source.Binary a o b) = IsValue a × IsValue b
IsSource (source.Invert k) = IsValue k
IsSource (source.Cast kind k) = IsCast kind k
IsSource (source.Call c) = IsCall c
IsSource (source.Field p) = IsFieldPlace p
IsSource (source.Method c) = IsMethodCall c
IsSource (source.Native y n) = IsVariable y × IsNumbered n
IsSource (source.HeapType y) = IsVariable y
IsSource (source.Number y n) = IsVariable y × IsViewNumber n
IsSource (source.Indirect y) = IsVariable y
IsSource (source.Format y letters) = IsVariable y × IsString letters
IsSource (source.Memory v) = IsView v
IsSource (source.Extent v e j) = IsView v × IsNumber j
IsSource (source.Element e) = IsElement e

-- the tokens of a source, up to the `;`
abbrev pub source_tokens : Source → List CToken
source_tokens (source.Value k) = value_spelling k ++ end
source_tokens (source.Binary a o b) = value_spelling a ++ (op_spelling o ∷ (value_spelling b ++ end))
source_tokens (source.Invert k) = sign "~" ∷ (value_spelling k ++ end)
source_tokens (source.Cast kind k) = sign "(" ∷ (type_spelling kind ++ (sign ")" ∷ (value_spelling k ++ end)))
source_tokens (source.Call c) = call_tokens c
source_tokens (source.Field p) = field p ++ end
source_tokens (source.Method c) = method_call_tokens c
source_tokens (source.Native y n) =
    word "PyCFunction_Check" ∷ sign "(" ∷ variable_token y ∷ sign ")" ∷ sign "&&" ∷ word "PyCFunction_GetFunction" ∷ sign "(" ∷ variable_token y ∷ sign ")" ∷ sign "=="
    ∷ sign "(" ∷ word "PyCFunction" ∷ sign ")" ∷ sign "(" ∷ word "void" ∷ sign "(" ∷ sign "*" ∷ sign ")" ∷ sign "(" ∷ word "void" ∷ sign ")" ∷ sign ")" ∷ name_token "cyc_w_" n ∷ end
source_tokens (source.HeapType y) =
    word "PyType_HasFeature" ∷ sign "(" ∷ word "Py_TYPE" ∷ sign "(" ∷ variable_token y ∷ sign ")" ∷ sign "," ∷ word "Py_TPFLAGS_HEAPTYPE" ∷ sign ")" ∷ end
source_tokens (source.Number y n) = buffer_of y ++ (number_spelling n ++ end)
source_tokens (source.Indirect y) = buffer_of y ++ (word "suboffsets" ∷ sign "!=" ∷ word "NULL" ∷ end)
source_tokens (source.Format y letters) = word "cyc_fmt" ∷ sign "(" ∷ (buffer_of y ++ (word "format" ∷ sign "," ∷ string letters ∷ sign ")" ∷ end))
source_tokens (source.Memory v) = view v ++ (sign "." ∷ word "mv" ∷ end)
source_tokens (source.Extent v e j) = view v ++ (sign "." ∷ extent_name e ∷ (index j ++ end))
source_tokens (source.Element e) = element_spelling e ++ end

-- ---- parts of sources

-- `F(y)`
abbrev pub passed_tokens : List ℕ → Variable → List CToken
passed_tokens letters y = Word letters ∷ sign "(" ∷ variable_token y ∷ sign ")" ∷ []

-- `== (PyCFunction)(void (*)(void))cyc_w_0_1;`
abbrev pub compared_tokens : Numbered → List CToken
compared_tokens n =
    sign "==" ∷ sign "(" ∷ word "PyCFunction" ∷ sign ")" ∷ sign "(" ∷ word "void" ∷ sign "(" ∷ sign "*" ∷ sign ")" ∷ sign "(" ∷ word "void" ∷ sign ")" ∷ sign ")" ∷ name_token "cyc_w_" n ∷ end

-- what is read behind a view
abbrev pub IsToldOf : ViewPlace → Source → Type 0
IsToldOf v (source.Memory w) = w ≡ v
IsToldOf v (source.Extent w e j) = (w ≡ v) × IsNumber j
IsToldOf v _ = ⊥

abbrev pub told_tokens : Source → List CToken
told_tokens (source.Memory w) = sign "." ∷ word "mv" ∷ end
told_tokens (source.Extent w e j) = sign "." ∷ extent_name e ∷ (index j ++ end)
told_tokens _ = []

-- the address of a type object as an object is an operand, and no cast of another
abbrev pub cast_of : CType → CValue → Option Source
cast_of type.Object (value.TypeAddress n) = None
cast_of kind k = Some (source.Cast kind k)

-- ---- what the first tokens say

abbrev pub source_kind : Source → SourceKind
source_kind (source.Value k) = kind.Operand
source_kind (source.Binary a o b) = kind.Operand
source_kind (source.Invert k) = kind.Invert
source_kind (source.Cast t k) = kind.Cast
source_kind (source.Call c) = kind.Call
source_kind (source.Field p) = kind.Place
source_kind (source.Method c) = kind.Method
source_kind (source.Native y n) = kind.Native
source_kind (source.HeapType y) = kind.HeapType
source_kind (source.Number y n) = kind.Buffer
source_kind (source.Indirect y) = kind.Buffer
source_kind (source.Format y letters) = kind.Format
source_kind (source.Memory v) = kind.Place
source_kind (source.Extent v e j) = kind.Place
source_kind (source.Element e) = kind.Element

-- a source in form of the kind
abbrev pub IsSourceOf : SourceKind → Source → Type 0
IsSourceOf k s = IsSource s × (source_kind s ≡ k)

abbrev pub bracket_seen : List CToken → SourceKind
bracket_seen tokens =
    if sign_at "(" 1 tokens then (if word_at "const" 2 tokens then kind.Method else kind.Place) else
    if sign_at "-" 1 tokens then kind.Operand else
    if word_at "PyObject" 1 tokens && (sign_at "&" 4 tokens && not (word_at "cyc_def" 5 tokens)) then kind.Operand else kind.Cast

abbrev pub call_seen : List CToken → SourceKind
call_seen tokens =
    if sign_at "(" 3 tokens then (if word_at "cyc_fmt" 0 tokens then kind.Format else kind.HeapType) else
    if not (sign_at ")" 3 tokens) then kind.Call else
    if sign_at "&&" 4 tokens then kind.Native else
    if sign_at "->" 4 tokens then kind.Buffer else kind.Call

abbrev pub source_seen : List CToken → SourceKind
source_seen tokens =
    if sign_at "(" 0 tokens then bracket_seen tokens else
    if sign_at "~" 0 tokens then kind.Invert else
    if sign_at "*" 0 tokens then kind.Element else
    if sign_at "(" 1 tokens then call_seen tokens else
    if sign_at "." 1 tokens then kind.Place else kind.Operand

-- ---- as statements

-- `x = ..;`
abbrev pub put : Variable → Source → CStmt
put x (source.Value k) = stmt.Assign x k
put x (source.Binary a o b) = stmt.Binary x a o b
put x (source.Invert k) = stmt.Invert x k
put x (source.Cast kind k) = stmt.Cast x kind k
put x (source.Call c) = stmt.Call (Some x) c.callee c.arguments
put x (source.Field p) = stmt.LoadField x p
put x (source.Method c) = stmt.CallMethod (Some x) c.method.table c.method.object c.method.slot c.arguments
put x (source.Native y n) = stmt.IsNative x y n
put x (source.HeapType y) = stmt.HasHeapType x y
put x (source.Number y n) = stmt.ViewNumber x y n
put x (source.Indirect y) = stmt.IsIndirect x y
put x (source.Format y letters) = stmt.HasFormat x y letters
put x (source.Memory v) = stmt.LoadMemory x v
put x (source.Extent v e j) = stmt.LoadExtent x v e j
put x (source.Element e) = stmt.LoadElement x e.kind e.view e.offset
