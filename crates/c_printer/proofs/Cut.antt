-- The spelling of a tree is one item, and the spellings of trees are cut into themselves.
use Prim.Native.String.{String}
use Rattle.std.proofs.Common.{◌≡◌, ℕ, zero, suc, ◌+◌, Bool, true, false, ◌&&◌, List, [], ◌∷◌, ◌++◌, map, length, replicate, refl, ap, ◌∙◌, append_assoc, arith, ℤ, pos, negsuc}
use Rattle.std.specs.Prelude.{Option, Some, None, is_none, unwrap_or, if◌then◌else◌, nat_eq}
use Rattle.std.specs.List.{flat_map, list_all, AllByRecursion}
use Rattle.c_token.specs.CTokens.{CToken, Word, word, sign, c_tokens, tokens_from}
use Rattle.c_token.specs.Cutting.{Role, Plain, Parenthesis, Semicolon, Opens, Closes, EndsLine, role_of, ItemPlace, Outside, Inside, item_start, place_after, c_items}
use Rattle.c_token.proofs.Cut.{is_end, is_item_from, cut_item}
use Rattle.c_tree.specs.declared.item.Base.{Base}
use Rattle.c_tree.specs.declared.item.Base.TheVariants as base
use Rattle.c_tree.specs.declared.item.CFunction.{CFunction}
use Rattle.c_tree.specs.declared.item.CHead.{CHead}
use Rattle.c_tree.specs.declared.item.CHead.TheVariants as head
use Rattle.c_tree.specs.declared.item.CItem.{CItem}
use Rattle.c_tree.specs.declared.item.CItem.TheVariants as item
use Rattle.c_tree.specs.declared.item.Declaration.{Declaration}
use Rattle.c_tree.specs.declared.item.InitialValue.{InitialValue}
use Rattle.c_tree.specs.declared.item.InitialValue.TheVariants as initial
use Rattle.c_tree.specs.declared.item.Line.{Line}
use Rattle.c_tree.specs.declared.item.Line.TheVariants as line
use Rattle.c_tree.specs.declared.item.MethodRow.{MethodRow}
use Rattle.c_tree.specs.declared.item.Parameter.{Parameter}
use Rattle.c_tree.specs.declared.item.PropertyRow.{PropertyRow}
use Rattle.c_tree.specs.declared.item.Slot.{Slot}
use Rattle.c_tree.specs.declared.item.StructTable.{StructTable}
use Rattle.c_tree.specs.declared.item.TableBase.{TableBase}
use Rattle.c_tree.specs.declared.item.TableBase.TheVariants as table_base
use Rattle.c_tree.specs.declared.item.TypeObject.{TypeObject}
use Rattle.c_tree.specs.declared.name.FieldNumber.{FieldNumber}
use Rattle.c_tree.specs.declared.name.FunctionName.{FunctionName}
use Rattle.c_tree.specs.declared.name.FunctionName.TheVariants as function
use Rattle.c_tree.specs.declared.name.Numbered.{Numbered}
use Rattle.c_tree.specs.declared.statement.Argument.{Argument}
use Rattle.c_tree.specs.declared.statement.Argument.TheVariants as argument
use Rattle.c_tree.specs.declared.statement.BinaryOp.{BinaryOp}
use Rattle.c_tree.specs.declared.statement.BinaryOp.TheVariants as op
use Rattle.c_tree.specs.declared.statement.CStmt.{CStmt}
use Rattle.c_tree.specs.declared.statement.CStmt.TheVariants as stmt
use Rattle.c_tree.specs.declared.statement.CTest.{CTest}
use Rattle.c_tree.specs.declared.statement.CTest.TheVariants as test
use Rattle.c_tree.specs.declared.statement.Extent.{Extent}
use Rattle.c_tree.specs.declared.statement.Extent.TheVariants as extent
use Rattle.c_tree.specs.declared.statement.ViewNumber.{ViewNumber}
use Rattle.c_tree.specs.declared.statement.ViewNumber.TheVariants as number
use Rattle.c_tree.specs.declared.statement.ViewPlace.{ViewPlace}
use Rattle.c_tree.specs.declared.statement.ViewPlace.TheVariants as place
use Rattle.c_tree.specs.declared.name.Variable.{Variable}
use Rattle.c_tree.specs.declared.value.CResult.{CResult}
use Rattle.c_tree.specs.declared.value.CResult.TheVariants as result
use Rattle.c_tree.specs.declared.value.CType.{CType}
use Rattle.c_tree.specs.declared.value.CType.TheVariants as type
use Rattle.c_tree.specs.declared.value.CValue.{CValue}
use Rattle.c_tree.specs.declared.value.CValue.TheVariants as value
use Rattle.c_tree.specs.declared.value.Literal.{Literal}
use Rattle.c_tree.specs.declared.value.Literal.TheVariants as literal
use Rattle.c_tree.specs.Names.{text, methods_name, place_name, name_token, variable_token, letter_token, listed}
use Rattle.c_tree.specs.Values.{type_spelling, result_spelling, int_spelling, long_spelling, literal_spelling, string, value_spelling}
use Rattle.c_tree.specs.Statements.{between, op_spelling, argument_spelling, arguments, callee_name, field, view, extent_of, number_spelling, buffer_of, element, stored, given, method_of, test_spelling, statement_spelling}
use Rattle.c_tree.specs.Items.{function_token, void_or, types_spelling, static_or, parameter_spelling, plain_head, head_spelling, initial_spelling, declaration_spelling, line_spelling, function_spelling, base_spelling, fields_spelling, table_base_spelling, slot_spelling, behind, table_spelling, method_spelling, setter_or_null, property_spelling, member, members, type_members, item_spelling}
use Rattle.c_tree.specs.Forms.{IsItem}
use Rattle.c_tree.specs.Reading.{IsReading}

-- ---- tests of every token

both : (a b : Bool) → a ≡ true → b ≡ true → (a && b) ≡ true
both true b h k = k
both false b h k = h

left : (a b : Bool) → (a && b) ≡ true → a ≡ true
left true b h = refl
left false b h = h

right : (a b : Bool) → (a && b) ≡ true → b ≡ true
right true b h = h
right false b h = cc

all_append : {A : Type 0} (test : A → Bool) (xs ys : List A) → list_all test xs ≡ true → list_all test ys ≡ true → list_all test (xs ++ ys) ≡ true
all_append test [] ys h k = k
all_append test (x ∷ xs) ys h k =
    both (test x) (list_all test (xs ++ ys)) (left (test x) (list_all test xs) h) (all_append test xs ys (right (test x) (list_all test xs) h) k)

all_flat : {A : Type 0} (test : CToken → Bool) (spell : A → List CToken) → ((x : A) → list_all test (spell x) ≡ true)
    → (xs : List A) → list_all test (flat_map spell xs) ≡ true
all_flat test spell h [] = refl
all_flat test spell h (x ∷ xs) = all_append test (spell x) (flat_map spell xs) (h x) (all_flat test spell h xs)

all_listed : {A : Type 0} (test : CToken → Bool) (spell : A → List CToken) → test (sign ",") ≡ true → ((x : A) → list_all test (spell x) ≡ true)
    → (xs : List A) → list_all test (listed spell xs) ≡ true
all_listed test spell comma h [] = refl
all_listed test spell comma h (x ∷ xs) =
    all_append test (spell x) (flat_map (λ y. sign "," ∷ spell y) xs) (h x)
    (all_flat test (λ y. sign "," ∷ spell y) (λ y. both (test (sign ",")) (list_all test (spell y)) comma (h y)) xs)

-- ---- tokens that leave their place as it is

abbrev stays_inside : Role → Bool
stays_inside Plain = true
stays_inside Parenthesis = true
stays_inside Semicolon = true
stays_inside _ = false

abbrev is_level : CToken → Bool
is_level token = stays_inside (role_of token)

-- a list of tokens that leave their place inside braces as it is
abbrev IsLevel : List CToken → Type 0
IsLevel tokens = list_all is_level tokens ≡ true

abbrev stays_outside : Role → Bool
stays_outside Plain = true
stays_outside _ = false

abbrev is_plain : CToken → Bool
is_plain token = stays_outside (role_of token)

abbrev IsPlain : List CToken → Type 0
IsPlain tokens = list_all is_plain tokens ≡ true

role_level : (role : Role) → stays_outside role ≡ true → stays_inside role ≡ true
role_level Plain h = refl
role_level Parenthesis h = refl
role_level Semicolon h = refl
role_level Opens h = h
role_level Closes h = h
role_level EndsLine h = h

plain_level : (xs : List CToken) → IsPlain xs → IsLevel xs
plain_level [] h = refl
plain_level (x ∷ xs) h =
    both (is_level x) (list_all is_level xs) (role_level (role_of x) (left (is_plain x) (list_all is_plain xs) h))
    (plain_level xs (right (is_plain x) (list_all is_plain xs) h))

inside_step : (role : Role) (depth : ℕ) (body : Bool) → stays_inside role ≡ true → place_after role (Inside depth body) ≡ Some (Inside depth body)
inside_step Plain depth body h = refl
inside_step Parenthesis depth body h = refl
inside_step Semicolon depth body h = refl
inside_step Opens depth body h = cc
inside_step Closes depth body h = cc
inside_step EndsLine depth body h = cc

inside_skip : (depth : ℕ) (body : Bool) (xs ys : List CToken) → IsLevel xs → is_item_from (Inside depth body) (xs ++ ys) ≡ is_item_from (Inside depth body) ys
inside_skip depth body [] ys h = refl
inside_skip depth body (x ∷ xs) ys h =
    ap (λ next. if is_none next then is_end (xs ++ ys) else is_item_from (unwrap_or next item_start) (xs ++ ys))
    (inside_step (role_of x) depth body (left (is_level x) (list_all is_level xs) h))
    ∙ inside_skip depth body xs ys (right (is_level x) (list_all is_level xs) h)

outside_step : (role : Role) → stays_outside role ≡ true → place_after role (Outside false) ≡ Some (Outside false)
outside_step Plain h = refl
outside_step Parenthesis h = cc
outside_step Semicolon h = cc
outside_step Opens h = cc
outside_step Closes h = cc
outside_step EndsLine h = cc

outside_skip : (xs ys : List CToken) → IsPlain xs → is_item_from item_start (xs ++ ys) ≡ is_item_from item_start ys
outside_skip [] ys h = refl
outside_skip (x ∷ xs) ys h =
    ap (λ next. if is_none next then is_end (xs ++ ys) else is_item_from (unwrap_or next item_start) (xs ++ ys))
    (outside_step (role_of x) (left (is_plain x) (list_all is_plain xs) h))
    ∙ outside_skip xs ys (right (is_plain x) (list_all is_plain xs) h)

-- lists that each leave a place as it is
flat_skip : {A : Type 0} (at : ItemPlace) (spell : A → List CToken) → ((x : A) (ys : List CToken) → is_item_from at (spell x ++ ys) ≡ is_item_from at ys)
    → (xs : List A) (ys : List CToken) → is_item_from at (flat_map spell xs ++ ys) ≡ is_item_from at ys
flat_skip at spell h [] ys = refl
flat_skip at spell h (x ∷ xs) ys =
    ap (is_item_from at) (append_assoc (spell x) (flat_map spell xs) ys) ∙ (h x (flat_map spell xs ++ ys) ∙ flat_skip at spell h xs ys)

joined : (xs ys : List CToken) → IsLevel xs → IsLevel ys → IsLevel (xs ++ ys)
joined xs ys h k = all_append is_level xs ys h k

chosen : (b : Bool) (xs ys : List CToken) → IsLevel xs → IsLevel ys → IsLevel (if b then xs else ys)
chosen true xs ys h k = h
chosen false xs ys h k = k

-- ---- values

type_plain : (kind : CType) → IsPlain (type_spelling kind)
unfolding c_tokens tokens_from
type_plain type.SignedChar = refl
type_plain type.UnsignedChar = refl
type_plain type.Short = refl
type_plain type.UnsignedShort = refl
type_plain type.Int = refl
type_plain type.UnsignedInt = refl
type_plain type.Long = refl
type_plain type.UnsignedLong = refl
type_plain type.PySsizeT = refl
type_plain type.Object = refl
type_plain type.View = refl
type_plain type.ThreadState = refl
type_plain type.LockState = refl
type_plain type.TypeObject = refl

result_plain : (kind : CResult) → IsPlain (result_spelling kind)
unfolding c_tokens tokens_from
result_plain result.Void = refl
result_plain (result.Value kind) = type_plain kind

type_level : (kind : CType) → IsLevel (type_spelling kind)
type_level kind = plain_level (type_spelling kind) (type_plain kind)

type_then : (kind : CType) (more : List CToken) → IsLevel more → IsLevel (type_spelling kind ++ more)
type_then kind more h = joined (type_spelling kind) more (type_level kind) h

int_level : (z : ℤ) → IsLevel (int_spelling z)
unfolding c_tokens tokens_from
int_level (pos n) = refl
int_level (negsuc n) = chosen (nat_eq n 2147483647) _ _ refl refl

long_level : (z : ℤ) → IsLevel (long_spelling z)
unfolding c_tokens tokens_from
long_level (pos n) = refl
long_level (negsuc n) = chosen (nat_eq n 9223372036854775807) _ _ refl refl

literal_level : (n : Literal) → IsLevel (literal_spelling n)
literal_level (literal.Int z) = int_level z
literal_level (literal.Unsigned n) = refl
literal_level (literal.Long z) = long_level z
literal_level (literal.UnsignedLong n) = refl

value_level : (k : CValue) → IsLevel (value_spelling k)
unfolding c_tokens tokens_from
value_level (value.Variable x) = refl
value_level (value.Argument j) = refl
value_level (value.Literal n) = literal_level n
value_level value.Null = refl
value_level value.NoneObject = refl
value_level value.TrueObject = refl
value_level value.FalseObject = refl
value_level (value.Exception e) = refl
value_level (value.ClassObject n) = refl
value_level (value.TypeAddress n) = refl
value_level value.Definition = refl

-- ---- statements

op_then : (o : BinaryOp) (more : List CToken) → IsLevel more → IsLevel (op_spelling o ∷ more)
op_then op.Add more h = h
op_then op.Subtract more h = h
op_then op.Multiply more h = h
op_then op.Divide more h = h
op_then op.Remainder more h = h
op_then op.BitAnd more h = h
op_then op.BitOr more h = h
op_then op.BitXor more h = h
op_then op.ShiftLeft more h = h
op_then op.ShiftRight more h = h
op_then op.Less more h = h
op_then op.LessEqual more h = h
op_then op.Equal more h = h
op_then op.NotEqual more h = h
op_then op.Greater more h = h
op_then op.GreaterEqual more h = h

between_level : (a : CValue) (o : BinaryOp) (b : CValue) → IsLevel (between o (value_spelling a) (value_spelling b))
between_level a o b = joined (value_spelling a) (op_spelling o ∷ value_spelling b) (value_level a) (op_then o (value_spelling b) (value_level b))

argument_level : (a : Argument) → IsLevel (argument_spelling a)
argument_level (argument.Value k) = value_level k
argument_level (argument.Str bytes) = refl

arguments_level : (all : List Argument) → IsLevel (arguments all)
arguments_level all = joined (listed argument_spelling all) (sign ")" ∷ []) (all_listed is_level argument_spelling refl argument_level all) refl

view_then : (v : ViewPlace) (more : List CToken) → IsLevel more → IsLevel (view v ++ more)
unfolding c_tokens tokens_from
view_then (place.Variable x) more h = h
view_then (place.Field p) more h = h

extent_level : (v : ViewPlace) (e : Extent) (j : ℕ) → IsLevel (extent_of v e j)
extent_level v extent.Length j = view_then v _ refl
extent_level v extent.Stride j = view_then v _ refl

number_level : (y : Variable) (n : ViewNumber) → IsLevel (buffer_of y ++ number_spelling n)
unfolding c_tokens tokens_from
number_level y number.Dimensions = refl
number_level y number.ItemSize = refl
number_level y number.Readonly = refl
number_level y (number.Shape j) = refl
number_level y (number.Stride j) = refl

element_level : (kind : CType) (v y : Variable) → IsLevel (element kind v y)
unfolding c_tokens tokens_from
element_level kind v y = type_then kind _ refl

ended : (k : List CToken) → IsLevel k → IsLevel (k ++ (sign ";" ∷ []))
ended k h = joined k (sign ";" ∷ []) h refl

stored_level : (to k : List CToken) → IsLevel to → IsLevel k → IsLevel (stored to k)
stored_level to k h g = joined to (sign "=" ∷ (k ++ (sign ";" ∷ []))) h (ended k g)

given_level : (x : Option Variable) (k : List CToken) → IsLevel k → IsLevel (given x k)
given_level None k h = ended k h
given_level (Some x) k h = ended k h

test_then : (t : CTest) (more : List CToken) → IsLevel more → IsLevel (test_spelling t ++ more)
unfolding c_tokens tokens_from
test_then (test.Compare a o b) more h =
    let compared : List CToken = between o (value_spelling a) (value_spelling b) in
    joined (compared ++ text ")") more (joined compared (text ")") (between_level a o b) refl) h
test_then test.ErrorSet more h = h
test_then test.Always more h = h

statement_level : (s : CStmt) → IsLevel (statement_spelling s)
unfolding c_tokens tokens_from statement_spelling
statement_level (stmt.Assign x k) = ended (value_spelling k) (value_level k)
statement_level (stmt.Binary x a o b) = ended (between o (value_spelling a) (value_spelling b)) (between_level a o b)
statement_level (stmt.Invert x k) = ended (value_spelling k) (value_level k)
statement_level (stmt.Cast x kind k) = ended (type_spelling kind ++ (sign ")" ∷ value_spelling k)) (type_then kind (sign ")" ∷ value_spelling k) (value_level k))
statement_level (stmt.Call x f all) = given_level x (Word (callee_name f) ∷ arguments all) (arguments_level all)
statement_level (stmt.LoadField x p) = refl
statement_level (stmt.StoreField p k) = stored_level (field p) (value_spelling k) refl (value_level k)
statement_level (stmt.StoreTable y n) = refl
statement_level (stmt.CallMethod x n y j all) = given_level x (method_of n y j ++ arguments all) (joined (method_of n y j) (arguments all) refl (arguments_level all))
statement_level (stmt.IsNative x y n) = refl
statement_level (stmt.HasHeapType x y) = refl
statement_level (stmt.Goto t j) = test_then t (word "goto" ∷ letter_token "L" j ∷ sign ";" ∷ []) refl
statement_level (stmt.Return None) = refl
statement_level (stmt.Return (Some k)) = ended (value_spelling k) (value_level k)
statement_level (stmt.Free x) = refl
statement_level (stmt.ViewNumber x y n) = ended (buffer_of y ++ number_spelling n) (number_level y n)
statement_level (stmt.IsIndirect x y) = refl
statement_level (stmt.HasFormat x y letters) = refl
statement_level (stmt.TakeBuffer v y) = stored_level (view v ++ text ".buf") (text "(char *)" ++ (buffer_of y ++ text "buf")) (view_then v (text ".buf") refl) refl
statement_level (stmt.CopyBuffer v w) = stored_level (view v ++ text ".buf") (view w ++ text ".buf") (view_then v (text ".buf") refl) (view_then w (text ".buf") refl)
statement_level (stmt.MoveBuffer v k) =
    stored_level (view v ++ text ".buf") (view v ++ (text ".buf + " ++ value_spelling k)) (view_then v (text ".buf") refl)
    (view_then v (text ".buf + " ++ value_spelling k) (value_level k))
statement_level (stmt.StoreMemory v k) = stored_level (view v ++ text ".mv") (value_spelling k) (view_then v (text ".mv") refl) (value_level k)
statement_level (stmt.LoadMemory x v) = ended (view v ++ text ".mv") (view_then v (text ".mv") refl)
statement_level (stmt.StoreExtent v e j k) = stored_level (extent_of v e j) (value_spelling k) (extent_level v e j) (value_level k)
statement_level (stmt.LoadExtent x v e j) = ended (extent_of v e j) (extent_level v e j)
statement_level (stmt.LoadElement x kind v y) = ended (element kind v y) (element_level kind v y)
statement_level (stmt.StoreElement kind v y k) = stored_level (element kind v y) (value_spelling k) (element_level kind v y) (value_level k)

-- ---- heads and prototypes

void_plain : (tokens : List CToken) → IsPlain tokens → IsPlain (void_or tokens)
unfolding c_tokens tokens_from
void_plain [] h = refl
void_plain (token ∷ more) h = h

types_plain : (kinds : List CType) → IsPlain (void_or (listed type_spelling kinds))
types_plain kinds = void_plain (listed type_spelling kinds) (all_listed is_plain type_spelling refl type_plain kinds)

parameter_plain : (p : Parameter) → IsPlain (parameter_spelling p)
parameter_plain p = all_append is_plain (type_spelling p.kind) _ (type_plain p.kind) refl

parameters_plain : (all : List Parameter) → IsPlain (void_or (listed parameter_spelling all))
parameters_plain all = void_plain (listed parameter_spelling all) (all_listed is_plain parameter_spelling refl parameter_plain all)

-- a type, a name and what stands in brackets
heading_item : (kind : List CToken) (f : FunctionName) (inner rest : List CToken) → IsPlain kind → IsPlain inner
    → is_item_from item_start (kind ++ (function_token f ∷ sign "(" ∷ (inner ++ (sign ")" ∷ rest)))) ≡ is_item_from (Outside true) rest
heading_item kind f inner rest h k = outside_skip kind _ h ∙ outside_skip inner (sign ")" ∷ rest) k

signature_item : (kind : List CToken) (f : FunctionName) (inner rest : List CToken) → IsPlain kind → IsPlain inner
    → is_item_from item_start (kind ++ (function_token f ∷ ((sign "(" ∷ (inner ++ (sign ")" ∷ []))) ++ rest))) ≡ is_item_from (Outside true) rest
signature_item kind f inner rest h k =
    ap (λ tokens. is_item_from item_start (kind ++ (function_token f ∷ sign "(" ∷ tokens))) (append_assoc inner (sign ")" ∷ []) rest)
    ∙ heading_item kind f inner rest h k

plain_head_item : (f : FunctionName) (kind : CResult) (all : List Parameter) (rest : List CToken)
    → is_item_from item_start (plain_head f kind all ++ rest) ≡ is_item_from (Outside true) rest
plain_head_item f kind all rest =
    ap (is_item_from item_start) (append_assoc (result_spelling kind) _ rest)
    ∙ signature_item (result_spelling kind) f (void_or (listed parameter_spelling all)) rest (result_plain kind) (parameters_plain all)

head_item : (h : CHead) (rest : List CToken) → is_item_from item_start (head_spelling h ++ rest) ≡ is_item_from (Outside true) rest
unfolding c_tokens tokens_from
head_item (head.Plain n kind all) rest = plain_head_item (function.Plain n) kind all rest
head_item (head.Overridable n kind all) rest = plain_head_item (function.Overridable n) kind all rest
head_item (head.Wrapper n) rest = refl
head_item (head.New n) rest = refl
head_item (head.Init n) rest = refl
head_item (head.Dealloc n) rest = refl
head_item (head.Len n) rest = refl
head_item (head.Item n) rest = refl
head_item (head.Has n) rest = refl
head_item (head.Getter f) rest = refl
head_item (head.Setter f) rest = refl
head_item head.Body rest = refl
head_item (head.Initializer name) rest = refl

-- ---- functions

initial_skip : (x : Variable) (i : InitialValue) (ys : List CToken)
    → is_item_from (Inside zero true) ((variable_token x ∷ initial_spelling i) ++ ys) ≡ is_item_from (Inside zero true) ys
unfolding c_tokens tokens_from
initial_skip x initial.Nothing ys = refl
initial_skip x initial.Zero ys = refl
initial_skip x initial.Null ys = refl
initial_skip x initial.Zeros ys = refl

declaration_skip : (d : Declaration) (ys : List CToken) → is_item_from (Inside zero true) (declaration_spelling d ++ ys) ≡ is_item_from (Inside zero true) ys
declaration_skip d ys =
    ap (is_item_from (Inside zero true)) (append_assoc (type_spelling d.kind) (variable_token d.variable ∷ initial_spelling d.initial) ys)
    ∙ (inside_skip zero true (type_spelling d.kind) _ (type_level d.kind) ∙ initial_skip d.variable d.initial ys)

line_level : (l : Line) → IsLevel (line_spelling l)
line_level (line.Label j) = refl
line_level (line.Statement s) = statement_level s

function_item : (f : CFunction) → is_item_from item_start (function_spelling f) ≡ true
function_item f =
    let lines : List CToken = flat_map line_spelling f.lines ++ (sign "}" ∷ []) in
    head_item f.head (sign "{" ∷ (flat_map declaration_spelling f.declarations ++ lines))
    ∙ (flat_skip (Inside zero true) declaration_spelling declaration_skip f.declarations lines
    ∙ inside_skip zero true (flat_map line_spelling f.lines) (sign "}" ∷ []) (all_flat is_level line_spelling line_level f.lines))

-- ---- structs

base_level : (b : Base) → IsLevel (base_spelling b)
unfolding c_tokens tokens_from
base_level base.Root = refl
base_level (base.Class n) = refl

fields_level : (j : ℕ) (kinds : List CType) → IsLevel (fields_spelling j kinds)
fields_level j [] = refl
fields_level j (kind ∷ kinds) = type_then kind (letter_token "f" j ∷ sign ";" ∷ fields_spelling (suc j) kinds) (fields_level (suc j) kinds)

table_base_level : (b : TableBase) → IsLevel (table_base_spelling b)
unfolding c_tokens tokens_from
table_base_level table_base.Name = refl
table_base_level (table_base.Class n) = refl

types_level : (kinds : List CType) → IsLevel (types_spelling kinds)
types_level kinds =
    let inner : List CToken = void_or (listed type_spelling kinds) in
    joined inner (sign ")" ∷ []) (plain_level inner (types_plain kinds)) refl

slot_level : (s : Slot) → IsLevel (slot_spelling s)
unfolding c_tokens tokens_from
slot_level s =
    joined (result_spelling s.result) _ (plain_level (result_spelling s.result) (result_plain s.result))
    (joined (types_spelling s.parameters) (text ";") (types_level s.parameters) refl)

-- the members of a struct, up to its end
struct_item : (first more : List CToken) → IsLevel first → IsLevel more → is_item_from (Inside zero false) (first ++ (more ++ text "};")) ≡ true
unfolding c_tokens tokens_from
struct_item first more h k = inside_skip zero false first (more ++ text "};") h ∙ inside_skip zero false more (text "};") k

-- ---- method tables

behind_level : (fs : List FunctionName) → IsLevel (behind fs)
behind_level fs = all_flat is_level (λ f. sign "," ∷ function_token f ∷ []) (λ f. refl) fs

opens : (n depth : ℕ) (ys : List CToken) → is_item_from (Inside depth false) (replicate n (sign "{") ++ ys) ≡ is_item_from (Inside (n + depth) false) ys
opens zero depth ys = ap (λ d. is_item_from (Inside d false) ys) (omega arith)
opens (suc n) depth ys = opens n (suc depth) ys ∙ ap (λ d. is_item_from (Inside d false) ys) (omega arith)

closes : (outer : List (List FunctionName)) (ys : List CToken)
    → is_item_from (Inside (length outer) false) (flat_map (λ fs. sign "}" ∷ behind fs) outer ++ ys) ≡ is_item_from (Inside zero false) ys
closes [] ys = refl
closes (fs ∷ outer) ys =
    ap (is_item_from (Inside (length outer) false)) (append_assoc (behind fs) (flat_map (λ gs. sign "}" ∷ behind gs) outer) ys)
    ∙ (inside_skip (length outer) false (behind fs) (flat_map (λ gs. sign "}" ∷ behind gs) outer ++ ys) (behind_level fs) ∙ closes outer ys)

table_item : (t : StructTable) → is_item_from item_start (table_spelling t ++ (sign ";" ∷ [])) ≡ true
table_item t =
    let end : List CToken = sign "}" ∷ sign ";" ∷ [] in
    let layers : List CToken = flat_map (λ fs. sign "}" ∷ behind fs) t.outer in
    let same : table_spelling t ++ (sign ";" ∷ []) ≡ sign "{" ∷ (replicate (length t.outer) (sign "{") ++ (string t.name ∷ (behind t.inner ++ (layers ++ end)))) =
    simp append_assoc in
    ap (is_item_from item_start) same
    ∙ (opens (length t.outer) zero (string t.name ∷ (behind t.inner ++ (layers ++ end)))
    ∙ (ap (λ d. is_item_from (Inside d false) (string t.name ∷ (behind t.inner ++ (layers ++ end)))) (omega arith)
    ∙ (inside_skip (length t.outer) false (behind t.inner) (layers ++ end) (behind_level t.inner)
    ∙ closes t.outer end)))

-- ---- tables of the API

static_item : (is_static : Bool) (tokens : List CToken) → is_item_from item_start tokens ≡ true → is_item_from item_start (static_or is_static tokens) ≡ true
static_item true tokens h = h
static_item false tokens h = h

method_skip : (m : MethodRow) (ys : List CToken) → is_item_from (Inside zero false) (method_spelling m ++ ys) ≡ is_item_from (Inside zero false) ys
unfolding c_tokens tokens_from
method_skip m ys = refl

methods_item : (rows : List MethodRow) → is_item_from (Inside zero false) (flat_map method_spelling rows ++ text "{NULL, NULL, 0, NULL} };") ≡ true
unfolding c_tokens tokens_from
methods_item rows = flat_skip (Inside zero false) method_spelling method_skip rows (text "{NULL, NULL, 0, NULL} };")

setter_skip : (s : Option FieldNumber) (ys : List CToken)
    → is_item_from (Inside 1 false) ((setter_or_null s ++ text ", NULL, NULL},") ++ ys) ≡ is_item_from (Inside zero false) ys
unfolding c_tokens tokens_from
setter_skip None ys = refl
setter_skip (Some f) ys = refl

property_skip : (p : PropertyRow) (ys : List CToken) → is_item_from (Inside zero false) (property_spelling p ++ ys) ≡ is_item_from (Inside zero false) ys
property_skip p ys = setter_skip p.setter ys

properties_item : (rows : List PropertyRow)
    → is_item_from (Inside zero false) (flat_map property_spelling rows ++ text "{NULL, NULL, NULL, NULL, NULL} };") ≡ true
unfolding c_tokens tokens_from
properties_item rows = flat_skip (Inside zero false) property_spelling property_skip rows (text "{NULL, NULL, NULL, NULL, NULL} };")

-- lists of such tokens
abbrev are_level : List CToken → Bool
are_level tokens = list_all is_level tokens

commas_level : (all : List (List CToken)) → list_all are_level all ≡ true → IsLevel (flat_map (λ tokens. sign "," ∷ tokens) all)
commas_level [] h = refl
commas_level (first ∷ more) h =
    joined first (flat_map (λ tokens. sign "," ∷ tokens) more) (left (are_level first) (list_all are_level more) h)
    (commas_level more (right (are_level first) (list_all are_level more) h))

listed_level : (all : List (List CToken)) → list_all are_level all ≡ true → IsLevel (listed (λ tokens. tokens) all)
listed_level [] h = refl
listed_level (first ∷ more) h =
    joined first (flat_map (λ tokens. sign "," ∷ tokens) more) (left (are_level first) (list_all are_level more) h)
    (commas_level more (right (are_level first) (list_all are_level more) h))

-- members and the end of their table
members_item : (all : List (List CToken)) → list_all are_level all ≡ true → is_item_from (Inside zero false) (listed (λ tokens. tokens) all ++ text "};") ≡ true
unfolding c_tokens tokens_from
members_item all h = inside_skip zero false (listed (λ tokens. tokens) all) (text "};") (listed_level all h)

member_level : (dotted before letters : String) (n : Option Numbered) → IsLevel (text dotted) → IsLevel (text before)
    → list_all are_level (member dotted before letters n) ≡ true
member_level dotted before letters None h k = refl
member_level dotted before letters (Some n) h k =
    both (are_level (text dotted ++ (text before ++ (name_token letters n ∷ [])))) true
    (joined (text dotted) (text before ++ (name_token letters n ∷ [])) h (joined (text before) (name_token letters n ∷ []) k refl)) refl

member_then : (dotted before letters : String) (n : Option Numbered) (more : List (List CToken)) → IsLevel (text dotted) → IsLevel (text before)
    → list_all are_level more ≡ true → list_all are_level (member dotted before letters n ++ more) ≡ true
member_then dotted before letters n more h k g = all_append are_level (member dotted before letters n) more (member_level dotted before letters n h k) g

two_level : (dotted letters second_dotted second_letters : String) (a b : Option Numbered) → IsLevel (text dotted) → IsLevel (text second_dotted)
    → list_all are_level (member dotted "=" letters a ++ member second_dotted "=" second_letters b) ≡ true
unfolding c_tokens tokens_from
two_level dotted letters second_dotted second_letters a b h k =
    member_then dotted "=" letters a (member second_dotted "=" second_letters b) h refl (member_level second_dotted "=" second_letters b k refl)

type_members_level : (t : TypeObject) → list_all are_level (type_members t) ≡ true
unfolding c_tokens tokens_from
type_members_level t =
    member_then ".tp_base" "= &" "cyc_ty_" t.base _ refl refl (member_then ".tp_new" "=" "cyc_new_" t.new _ refl refl (member_then ".tp_init" "=" "cyc_init_" t.init _ refl refl
    (member_then ".tp_dealloc" "=" "cyc_dealloc_" t.dealloc _ refl refl (member_then ".tp_methods" "=" "cyc_ms_" t.methods _ refl refl
    (member_then ".tp_getset" "=" "cyc_gs_" t.properties _ refl refl (member_then ".tp_as_sequence" "= &" "cyc_sq_" t.sequence _ refl refl
    (member_level ".tp_as_mapping" "= &" "cyc_mp_" t.mapping refl refl)))))))

-- ---- items

-- a tree's spelling is one item
pub one_item : (i : CItem) → IsItem i → is_item_from item_start (item_spelling i) ≡ true
unfolding c_tokens tokens_from item_spelling
one_item item.DefineClean h = refl
one_item item.IncludePython h = refl
one_item item.IncludeSet h = refl
one_item item.ViewType h = refl
one_item item.RootStruct h = refl
one_item item.FormatTest h = refl
one_item (item.InstanceStruct n b kinds) h = struct_item (base_spelling b) (fields_spelling 0 kinds) (base_level b) (fields_level 0 kinds)
one_item (item.TableStruct n b slots) h =
    struct_item (table_base_spelling b) (flat_map slot_spelling slots) (table_base_level b) (all_flat is_level slot_spelling slot_level slots)
one_item (item.Table t) h = table_item t
one_item (item.Prototype kind f kinds) h =
    signature_item (result_spelling kind) f (void_or (listed type_spelling kinds)) (text ";") (result_plain kind) (types_plain kinds)
one_item (item.StaticPrototype kind f kinds) h =
    signature_item (type_spelling kind) f (void_or (listed type_spelling kinds)) (text ";") (type_plain kind) (types_plain kinds)
one_item (item.ExternType n) h = refl
one_item (item.Static kind x) h = outside_skip (type_spelling kind) (Word (place_name x) ∷ text ";") (type_plain kind)
one_item (item.Methods is_static name rows) h =
    static_item is_static (word "PyMethodDef" ∷ Word (methods_name name) ∷ (text "[] = {" ++ (flat_map method_spelling rows ++ text "{NULL, NULL, 0, NULL} };")))
    (methods_item rows)
one_item (item.Properties is_static n rows) h =
    static_item is_static (word "PyGetSetDef" ∷ name_token "cyc_gs_" n ∷ (text "[] = {" ++ (flat_map property_spelling rows ++ text "{NULL, NULL, NULL, NULL, NULL} };")))
    (properties_item rows)
one_item (item.Sequence is_static n len contains) h =
    let all : List (List CToken) = member ".sq_length" "=" "cyc_len_" len ++ member ".sq_contains" "=" "cyc_has_" contains in
    static_item is_static (word "PySequenceMethods" ∷ name_token "cyc_sq_" n ∷ sign "=" ∷ members all)
    (members_item all (two_level ".sq_length" "cyc_len_" ".sq_contains" "cyc_has_" len contains refl refl))
one_item (item.Mapping is_static n len subscript) h =
    let all : List (List CToken) = member ".mp_length" "=" "cyc_len_" len ++ member ".mp_subscript" "=" "cyc_item_" subscript in
    static_item is_static (word "PyMappingMethods" ∷ name_token "cyc_mp_" n ∷ sign "=" ∷ members all)
    (members_item all (two_level ".mp_length" "cyc_len_" ".mp_subscript" "cyc_item_" len subscript refl refl))
one_item (item.Type is_static t) h =
    static_item is_static (word "PyTypeObject" ∷ name_token "cyc_ty_" t.class ∷ (text "= { PyVarObject_HEAD_INIT(NULL, 0)" ++ (listed (λ tokens. tokens) (type_members t) ++ text "};")))
    (members_item (type_members t) (type_members_level t))
one_item (item.ModuleDefinition is_static name) h =
    static_item is_static (text "struct PyModuleDef cyc_def = { PyModuleDef_HEAD_INIT," ++ (string name ∷ text ", NULL, -1, cyc_md };")) refl
one_item (item.Function f) h = function_item f

-- the spellings of trees are cut into themselves
pub cut_items : (items : List CItem) → AllByRecursion IsItem items → c_items (flat_map item_spelling items) ≡ map item_spelling items
unfolding c_items
cut_items [] h = refl
cut_items (i ∷ items) (h, more) =
    cut_item item_start (item_spelling i) (flat_map item_spelling items) (one_item i h) ∙ ap (λ cut. item_spelling i ∷ cut) (cut_items items more)

spelled : (items : List CItem) → AllByRecursion IsItem items → IsReading (map item_spelling items) items true
unfolding IsReading
spelled [] h = refl
spelled (i ∷ items) (h, more) = (h, refl, spelled items more)

-- the spellings of trees are read as the trees
pub read_back : (items : List CItem) → AllByRecursion IsItem items → IsReading (c_items (flat_map item_spelling items)) items true
read_back items h = rw (cut_items items h) (spelled items h)
