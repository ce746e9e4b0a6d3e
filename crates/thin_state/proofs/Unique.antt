-- No two trees in form have one spelling.
use Rattle.std.proofs.Common.{◌≡◌, ℕ, ◌+◌, ◌/◌, ◌%◌, ◌<◌, ◌≤◌, Bool, true, false, List, [], ◌∷◌, ◌++◌, length, refl, sym, ap, ◌∙◌, subst, append_assoc, drop, arith, decimal}
use Rattle.std.specs.Prelude.{◌&&◌, not, Some, None, codes, ⊤, nat_lt, nat_eq, ◌||◌, if◌then◌else◌}
use Rattle.std.specs.List.{flat_map, AllByRecursion, list_any}
use Rattle.std.specs.Str.{bytes_eq}
use Rattle.std.proofs.lemmas.Bool.{eq-eqb}
use Rattle.std.proofs.lemmas.Fmt.{decimal_by_steps, decimal_injective, decimal_nonempty}
use Rattle.std.proofs.lemmas.Bool.Decides.{nat_tests}
use Rattle.c_token.specs.CTokens.{CToken, Word, Str, Character, Sign, HeaderName, LineEnd, Other, sign, word, c_tokens}
use Rattle.c_token.specs.Spelled.{quoted_byte, IsNumberInForm}
use Rattle.thin_state.specs.CReading.{spelling, type_spelling, lettered_name, numbered_name, variable_name, place_name, function_name, row_name, exception_name, variable_spelling, value_spelling, comparison_spelling, target_spelling, listed_spelling, call_spelling, goto_spelling, statement_spelling, line_spelling, initial_spelling, declaration_spelling, parameter_spelling, void_or, plain_head_spelling, head_spelling, body_spelling, method_spelling, IsVariableInForm, IsPlaceInForm, IsFunctionNameInForm, IsValueInForm, IsOperandInForm, IsTargetInForm, IsStatementInForm, IsLineInForm, IsDeclarationInForm, IsParameterInForm, IsHeadInForm, IsFunctionInForm, IsMethodInForm, IsItemInForm, IsReading}
use Rattle.thin_state.specs.declared.space.BinaryOp.TheVariants as op
use Rattle.c_token.specs.declared.exception.Exception.{Exception}
use Rattle.c_token.specs.declared.exception.Exception.TheVariants as exception
use Rattle.thin_state.specs.declared.tree.CType.{CType}
use Rattle.thin_state.specs.declared.tree.CType.TheVariants as type
use Rattle.thin_state.specs.declared.tree.Variable.{Variable}
use Rattle.thin_state.specs.declared.tree.Variable.TheVariants as variable
use Rattle.thin_state.specs.declared.tree.Place.{Place}
use Rattle.thin_state.specs.declared.tree.Place.TheVariants as place
use Rattle.thin_state.specs.declared.tree.FunctionName.{FunctionName}
use Rattle.thin_state.specs.declared.tree.FunctionName.TheVariants as function
use Rattle.thin_state.specs.declared.tree.ApiRow.{ApiRow}
use Rattle.thin_state.specs.declared.tree.ApiRow.TheVariants as row
use Rattle.thin_state.specs.declared.tree.CValue.{CValue}
use Rattle.thin_state.specs.declared.tree.CValue.TheVariants as value
use Rattle.thin_state.specs.declared.tree.Comparison.{Comparison}
use Rattle.thin_state.specs.declared.tree.Comparison.TheVariants as comparison
use Rattle.thin_state.specs.declared.tree.Target.{Target}
use Rattle.thin_state.specs.declared.tree.Target.TheVariants as target
use Rattle.thin_state.specs.declared.tree.CStmt.{CStmt}
use Rattle.thin_state.specs.declared.tree.CStmt.TheVariants as stmt
use Rattle.thin_state.specs.declared.tree.Line.{Line}
use Rattle.thin_state.specs.declared.tree.Line.TheVariants as line
use Rattle.thin_state.specs.declared.tree.InitialValue.{InitialValue}
use Rattle.thin_state.specs.declared.tree.InitialValue.TheVariants as initial
use Rattle.thin_state.specs.declared.tree.Declaration.{Declaration}
use Rattle.thin_state.specs.declared.tree.Parameter.{Parameter}
use Rattle.thin_state.specs.declared.tree.CHead.{CHead}
use Rattle.thin_state.specs.declared.tree.CHead.TheVariants as head
use Rattle.thin_state.specs.declared.tree.CFunction.{CFunction}
use Rattle.thin_state.specs.declared.tree.MethodRow.{MethodRow}
use Rattle.thin_state.specs.declared.tree.CItem.{CItem}
use Rattle.thin_state.specs.declared.tree.CItem.TheVariants as item

-- ---- tests that tell tokens apart

bytes_same : (xs : List ℕ) → bytes_eq xs xs ≡ true
bytes_same [] = refl
bytes_same (x ∷ xs) = rw (eq-eqb x x refl) (bytes_same xs)

bytes_differ : (xs ys : List ℕ) → bytes_eq xs ys ≡ false → xs ≡ ys → ⊥
bytes_differ xs ys h e =
    let same : bytes_eq xs ys ≡ true = subst (λ zs. bytes_eq xs zs ≡ true) e (bytes_same xs) in
    cc

abbrev same_token : CToken → CToken → Bool
same_token (Word xs) (Word ys) = bytes_eq xs ys
same_token (Str xs) (Str ys) = bytes_eq xs ys
same_token (Character xs) (Character ys) = bytes_eq xs ys
same_token (Sign xs) (Sign ys) = bytes_eq xs ys
same_token (HeaderName xs) (HeaderName ys) = bytes_eq xs ys
same_token LineEnd LineEnd = true
same_token (Other m) (Other n) = nat_eq m n
same_token _ _ = false

abbrev same_tokens : List CToken → List CToken → Bool
same_tokens [] [] = true
same_tokens [] (y ∷ ys) = false
same_tokens (x ∷ xs) [] = false
same_tokens (x ∷ xs) (y ∷ ys) = same_token x y && same_tokens xs ys

token_same : (x : CToken) → same_token x x ≡ true
token_same (Word xs) = bytes_same xs
token_same (Str xs) = bytes_same xs
token_same (Character xs) = bytes_same xs
token_same (Sign xs) = bytes_same xs
token_same (HeaderName xs) = bytes_same xs
token_same LineEnd = refl
token_same (Other n) = eq-eqb n n refl

tokens_same : (xs : List CToken) → same_tokens xs xs ≡ true
tokens_same [] = refl
tokens_same (x ∷ xs) = rw (token_same x) (tokens_same xs)

tokens_differ : (xs ys : List CToken) → same_tokens xs ys ≡ false → xs ≡ ys → ⊥
tokens_differ xs ys h e =
    let same : same_tokens xs ys ≡ true = subst (λ zs. same_tokens xs zs ≡ true) e (tokens_same xs) in
    cc

numbers_differ : (m n : ℕ) → nat_eq m n ≡ false → m ≡ n → ⊥
numbers_differ m n h e =
    let same : nat_eq m n ≡ true = subst (λ k. nat_eq m k ≡ true) e (eq-eqb m m refl) in
    cc

abbrev tail : List CToken → List CToken
tail [] = []
tail (x ∷ xs) = xs

-- the bytes of a first word or string
abbrev first_bytes : List CToken → List ℕ
first_bytes (Word xs ∷ more) = xs
first_bytes (Str xs ∷ more) = xs
first_bytes _ = []

-- ---- numbers and names

number_unique : (j k : ℕ) → IsNumberInForm j → IsNumberInForm k → decimal j ≡ decimal k → j ≡ k
number_unique j k h i e = decimal_injective j k (omega arith) (omega arith) e

abbrev IsDigits : List ℕ → Type 0
IsDigits ds = AllByRecursion (λ d. (48 ≤ d) × (d < 58)) ds

digits_append : (xs ys : List ℕ) → IsDigits xs → IsDigits ys → IsDigits (xs ++ ys)
digits_append [] ys h k = k
digits_append (x ∷ xs) ys h k = (h.0, digits_append xs ys h.1 k)

decimal_digits : (n : ℕ) → IsNumberInForm n → IsDigits (decimal n)
decimal_digits n h =
    decimal_by_steps (λ n ds. IsDigits ds)
    (λ n small. ((omega arith, omega arith), tt))
    (λ n ds big front. digits_append ds ((48 + n % 10) ∷ []) front ((omega arith, omega arith), tt))
    n (omega arith)

digits_split : (xs ys a b : List ℕ) → IsDigits xs → IsDigits ys → xs ++ (95 ∷ a) ≡ ys ++ (95 ∷ b) → (xs ≡ ys) × (a ≡ b)
digits_split [] [] a b h k e = (refl, cc)
digits_split [] (y ∷ ys) a b h k e = let same : 95 ≡ y = cc in absurd (omega arith)
digits_split (x ∷ xs) [] a b h k e = let same : x ≡ 95 = cc in absurd (omega arith)
digits_split (x ∷ xs) (y ∷ ys) a b h k e =
    let more : xs ++ (95 ∷ a) ≡ ys ++ (95 ∷ b) = cc in
    let same : x ≡ y = cc in
    let rest = digits_split xs ys a b h.1 k.1 more in
    ((λ i. same i ∷ rest.0 i), rest.1)

numbers_unique : (m k n j : ℕ) → IsNumberInForm m → IsNumberInForm k → IsNumberInForm n → IsNumberInForm j
    → decimal m ++ (95 ∷ decimal k) ≡ decimal n ++ (95 ∷ decimal j) → (m ≡ n) × (k ≡ j)
numbers_unique m k n j hm hk hn hj e =
    let parts = digits_split (decimal m) (decimal n) (decimal k) (decimal j) (decimal_digits m hm) (decimal_digits n hn) e in
    (number_unique m n hm hn parts.0, number_unique k j hk hj parts.1)

variable_unique : (x y : Variable) → IsVariableInForm x → IsVariableInForm y → variable_name x ≡ variable_name y → x ≡ y
variable_unique (variable.Parameter j) (variable.Parameter k) h i e = ap variable.Parameter (number_unique j k h i cc)
variable_unique (variable.Local j) (variable.Local k) h i e = ap variable.Local (number_unique j k h i cc)
variable_unique (variable.Temporary j) (variable.Temporary k) h i e = ap variable.Temporary (number_unique j k h i cc)
variable_unique variable.Returned variable.Returned h i e = refl
variable_unique variable.SelfObject variable.SelfObject h i e = refl
variable_unique variable.Arguments variable.Arguments h i e = refl
variable_unique variable.ArgumentCount variable.ArgumentCount h i e = refl
variable_unique x y h i e = absurd (bytes_differ (variable_name x) (variable_name y) refl e)

place_unique : (x y : Place) → IsPlaceInForm x → IsPlaceInForm y → place_name x ≡ place_name y → x ≡ y
place_unique place.Module place.Module h i e = refl
place_unique place.Dictionary place.Dictionary h i e = refl
place_unique place.Builtins place.Builtins h i e = refl
place_unique place.Ready place.Ready h i e = refl
place_unique (place.Constant j) (place.Constant k) h i e = ap place.Constant (number_unique j k h i cc)
place_unique (place.Global j) (place.Global k) h i e = ap place.Global (number_unique j k h i cc)
place_unique x y h i e = absurd (bytes_differ (place_name x) (place_name y) refl e)

function_unique : (f g : FunctionName) → IsFunctionNameInForm f → IsFunctionNameInForm g → function_name f ≡ function_name g → f ≡ g
function_unique (function.Plain m k) (function.Plain n j) h i e =
    let same = numbers_unique m k n j h.0 h.1 i.0 i.1 cc in
    λ t. function.Plain (same.0 t) (same.1 t)
function_unique (function.Wrapper m k) (function.Wrapper n j) h i e =
    let same = numbers_unique m k n j h.0 h.1 i.0 i.1 cc in
    λ t. function.Wrapper (same.0 t) (same.1 t)
function_unique (function.Initializer name) (function.Initializer other) h i e = ap function.Initializer cc
function_unique f g h i e = absurd (bytes_differ (function_name f) (function_name g) refl e)

row_unique : (f g : ApiRow) → row_name f ≡ row_name g → f ≡ g
row_unique (row.Number op.Add) (row.Number op.Add) e = refl
row_unique row.ModuleCreate row.ModuleCreate e = refl
row_unique row.ModuleGetDict row.ModuleGetDict e = refl
row_unique row.ImportModule row.ImportModule e = refl
row_unique row.ErrSetString row.ErrSetString e = refl
row_unique (row.Number op.Add) g e = absurd (bytes_differ (row_name (row.Number op.Add)) (row_name g) refl e)
row_unique f (row.Number op.Add) e = absurd (bytes_differ (row_name f) (row_name (row.Number op.Add)) refl e)
row_unique f g e = absurd (bytes_differ (row_name f) (row_name g) refl e)

exception_unique : (e f : Exception) → exception_name e ≡ exception_name f → e ≡ f
exception_unique exception.BaseException exception.BaseException h = refl
exception_unique exception.TypeError exception.TypeError h = refl
exception_unique exception.NotImplementedError exception.NotImplementedError h = refl
exception_unique exception.OverflowError exception.OverflowError h = refl
exception_unique exception.ZeroDivisionError exception.ZeroDivisionError h = refl
exception_unique exception.ValueError exception.ValueError h = refl
exception_unique exception.IndexError exception.IndexError h = refl
exception_unique exception.AttributeError exception.AttributeError h = refl
exception_unique exception.SystemError exception.SystemError h = refl
exception_unique exception.NameError exception.NameError h = refl
exception_unique exception.UnboundLocalError exception.UnboundLocalError h = refl
exception_unique e f h = absurd (bytes_differ (exception_name e) (exception_name f) refl h)

-- ---- strings

abbrev is_escaped : ℕ → Bool
is_escaped b = (nat_lt b 32 || nat_lt 126 b) || (nat_eq b 34 || nat_eq b 92)

abbrev escaped : ℕ → Bool → List ℕ
escaped b test = if test then 92 ∷ (48 + b / 64) ∷ (48 + b / 8 % 8) ∷ (48 + b % 8) ∷ [] else b ∷ []

octal_unique : (b c : ℕ) → b / 64 ≡ c / 64 → b / 8 % 8 ≡ c / 8 % 8 → b % 8 ≡ c % 8 → b ≡ c
octal_unique b c h i j = omega arith

escaped_unique : (b c : ℕ) (s t : Bool) → is_escaped b ≡ s → is_escaped c ≡ t → (xs ys : List ℕ) → escaped b s ++ xs ≡ escaped c t ++ ys → (b ≡ c) × (xs ≡ ys)
escaped_unique b c true true h i xs ys e =
    let high : 48 + b / 64 ≡ 48 + c / 64 = cc in
    let middle : 48 + b / 8 % 8 ≡ 48 + c / 8 % 8 = cc in
    let low : 48 + b % 8 ≡ 48 + c % 8 = cc in
    (octal_unique b c (omega arith) (omega arith) (omega arith), cc)
escaped_unique b c false false h i xs ys e = (cc, cc)
escaped_unique b c true false h i xs ys e = let same : 92 ≡ c = cc in absurd (grind (arith, nat_tests))
escaped_unique b c false true h i xs ys e = let same : b ≡ 92 = cc in absurd (grind (arith, nat_tests))

escaped_some : (b : ℕ) (t : Bool) (xs : List ℕ) → [] ≡ escaped b t ++ xs → ⊥
escaped_some b true xs e = cc
escaped_some b false xs e = cc

string_unique : (xs ys : List ℕ) → flat_map quoted_byte xs ≡ flat_map quoted_byte ys → xs ≡ ys
string_unique [] [] e = refl
string_unique [] (y ∷ ys) e = absurd (escaped_some y (is_escaped y) (flat_map quoted_byte ys) e)
string_unique (x ∷ xs) [] e = absurd (escaped_some x (is_escaped x) (flat_map quoted_byte xs) (sym e))
string_unique (x ∷ xs) (y ∷ ys) e =
    let parts = escaped_unique x y (is_escaped x) (is_escaped y) refl refl (flat_map quoted_byte xs) (flat_map quoted_byte ys) e in
    let rest : xs ≡ ys = string_unique xs ys parts.1 in
    λ t. parts.0 t ∷ rest t

-- ---- operands

-- the kind of a word, by its first byte
abbrev byte_class : ℕ → ℕ
byte_class b =
    if list_any (nat_eq b) (codes "pvtrsan") then 1 else
    if nat_eq b 99 then 2 else
    if nat_lt b 58 then 3 else
    if nat_eq b 78 then 4 else 5

abbrev word_class : List ℕ → ℕ
word_class [] = 0
word_class (b ∷ bs) = byte_class b

-- the kind of an operand's first token
abbrev token_class : List CToken → ℕ
token_class (Word xs ∷ more) = word_class xs
token_class (Str xs ∷ more) = 6
token_class (Sign xs ∷ more) = 7
token_class _ = 8

abbrev value_class : CValue → ℕ
value_class (value.Variable x) = 1
value_class (value.Place x) = 2
value_class (value.Argument j) = 1
value_class (value.Int n) = 3
value_class (value.Str bytes) = 6
value_class value.Null = 4
value_class (value.ExceptionType e) = 5
value_class value.Definition = 7

variable_first : (x : Variable) → word_class (variable_name x) ≡ 1
variable_first (variable.Parameter j) = refl
variable_first (variable.Local j) = refl
variable_first (variable.Temporary j) = refl
variable_first variable.Returned = refl
variable_first variable.SelfObject = refl
variable_first variable.Arguments = refl
variable_first variable.ArgumentCount = refl

place_first : (x : Place) → word_class (place_name x) ≡ 2
place_first place.Module = refl
place_first place.Dictionary = refl
place_first place.Builtins = refl
place_first place.Ready = refl
place_first (place.Constant j) = refl
place_first (place.Global j) = refl

exception_first : (e : Exception) → word_class (exception_name e) ≡ 5
exception_first exception.BaseException = refl
exception_first exception.TypeError = refl
exception_first exception.NotImplementedError = refl
exception_first exception.OverflowError = refl
exception_first exception.ZeroDivisionError = refl
exception_first exception.ValueError = refl
exception_first exception.IndexError = refl
exception_first exception.AttributeError = refl
exception_first exception.SystemError = refl
exception_first exception.NameError = refl
exception_first exception.UnboundLocalError = refl

byte_digit : (d : ℕ) → 48 ≤ d → d < 58 → byte_class d ≡ 3
byte_digit d h i = grind (arith, nat_tests)

digits_first : (ds : List ℕ) → 0 < length ds → IsDigits ds → word_class ds ≡ 3
digits_first [] h k = absurd (omega arith)
digits_first (d ∷ ds) h k = byte_digit d k.0.0 k.0.1

value_first : (v : CValue) (r : List CToken) → IsValueInForm v → token_class (value_spelling v ++ r) ≡ value_class v
value_first (value.Variable x) r h = variable_first x
value_first (value.Place x) r h = place_first x
value_first (value.Argument j) r h = refl
value_first (value.Int n) r h = digits_first (decimal n) (decimal_nonempty n (omega arith)) (decimal_digits n (omega arith))
value_first (value.Str bytes) r h = refl
value_first value.Null r h = refl
value_first (value.ExceptionType e) r h = exception_first e
value_first value.Definition r h = refl

-- whether no `[` comes first
abbrev is_follow : List CToken → Bool
is_follow [] = true
is_follow (x ∷ xs) = not (same_token x (sign "["))

argument_not_variable : (x : Variable) (j : ℕ) (r s : List CToken) → is_follow r ≡ true → value_spelling (value.Variable x) ++ r ≡ value_spelling (value.Argument j) ++ s → ⊥
argument_not_variable x j r s h e =
    let bracket : is_follow (tail (value_spelling (value.Argument j) ++ s)) ≡ true = subst (λ t. is_follow t ≡ true) (ap tail e) h in
    cc

values_differ : (v w : CValue) (r s : List CToken) → IsValueInForm v → IsValueInForm w → nat_eq (value_class v) (value_class w) ≡ false
    → value_spelling v ++ r ≡ value_spelling w ++ s → ⊥
values_differ v w r s h i differ e =
    numbers_differ (value_class v) (value_class w) differ (sym (value_first v r h) ∙ (ap token_class e ∙ value_first w s i))

value_unique : (v w : CValue) (r s : List CToken) → IsValueInForm v → IsValueInForm w → is_follow r ≡ true → is_follow s ≡ true
    → value_spelling v ++ r ≡ value_spelling w ++ s → (v ≡ w) × (r ≡ s)
value_unique (value.Variable x) (value.Variable y) r s h i j k e = (ap value.Variable (variable_unique x y h i (ap first_bytes e)), ap tail e)
value_unique (value.Variable x) (value.Argument n) r s h i j k e = absurd (argument_not_variable x n r s j e)
value_unique (value.Argument m) (value.Variable y) r s h i j k e = absurd (argument_not_variable y m s r k (sym e))
value_unique (value.Argument m) (value.Argument n) r s h i j k e =
    (ap value.Argument (number_unique m n h i (ap (λ t. first_bytes (tail (tail t))) e)), ap (λ t. tail (tail (tail (tail t)))) e)
value_unique (value.Place x) (value.Place y) r s h i j k e = (ap value.Place (place_unique x y h i (ap first_bytes e)), ap tail e)
value_unique (value.Int m) (value.Int n) r s h i j k e = (ap value.Int (number_unique m n (omega arith) (omega arith) (ap first_bytes e)), ap tail e)
value_unique (value.Str xs) (value.Str ys) r s h i j k e = (ap value.Str (string_unique xs ys (ap first_bytes e)), ap tail e)
value_unique value.Null value.Null r s h i j k e = (refl, ap tail e)
value_unique (value.ExceptionType x) (value.ExceptionType y) r s h i j k e = (ap value.ExceptionType (exception_unique x y (ap first_bytes e)), ap tail e)
value_unique value.Definition value.Definition r s h i j k e = (refl, ap (λ t. tail (tail t)) e)
value_unique v w r s h i j k e = absurd (values_differ v w r s h i refl e)

-- ---- lists with commas

abbrev is_closing : List CToken → Bool
is_closing [] = false
is_closing (x ∷ xs) = same_token x (sign ")")

not_closing : (xs r : List CToken) → is_closing xs ≡ false → sign ")" ∷ r ≡ xs → ⊥
not_closing xs r h e =
    let closed : is_closing xs ≡ true = subst (λ t. is_closing t ≡ true) e refl in
    cc

module _ {A : Type 0} (spell : A → List CToken) (IsInForm : A → Type 0)
    (unique : (x y : A) (r s : List CToken) → IsInForm x → IsInForm y → is_follow r ≡ true → is_follow s ≡ true → spell x ++ r ≡ spell y ++ s → (x ≡ y) × (r ≡ s))
    (opens : (x : A) (r : List CToken) → is_closing (spell x ++ r) ≡ false) where
  abbrev commas : List A → List CToken
  commas xs = flat_map (λ x. sign "," ∷ spell x) xs

  more_follow : (xs : List A) (r : List CToken) → is_follow (commas xs ++ (sign ")" ∷ r)) ≡ true
  more_follow [] r = refl
  more_follow (x ∷ xs) r = refl

  more_unique : (xs ys : List A) (r s : List CToken) → AllByRecursion IsInForm xs → AllByRecursion IsInForm ys
      → commas xs ++ (sign ")" ∷ r) ≡ commas ys ++ (sign ")" ∷ s) → (xs ≡ ys) × (r ≡ s)
  more_unique [] [] r s h i e = (refl, ap tail e)
  more_unique [] (y ∷ ys) r s h i e = absurd (tokens_differ (sign ")" ∷ r) (commas (y ∷ ys) ++ (sign ")" ∷ s)) refl e)
  more_unique (x ∷ xs) [] r s h i e = absurd (tokens_differ (commas (x ∷ xs) ++ (sign ")" ∷ r)) (sign ")" ∷ s) refl e)
  more_unique (x ∷ xs) (y ∷ ys) r s h i e =
      let parts = unique x y (commas xs ++ (sign ")" ∷ r)) (commas ys ++ (sign ")" ∷ s)) h.0 i.0 (more_follow xs r) (more_follow ys s)
      (sym (append_assoc (spell x) (commas xs) (sign ")" ∷ r)) ∙ (ap tail e ∙ append_assoc (spell y) (commas ys) (sign ")" ∷ s))) in
      let rest = more_unique xs ys r s h.1 i.1 parts.1 in
      ((λ t. parts.0 t ∷ rest.0 t), rest.1)

  listed_unique : (xs ys : List A) (r s : List CToken) → AllByRecursion IsInForm xs → AllByRecursion IsInForm ys
      → listed_spelling spell xs ++ (sign ")" ∷ r) ≡ listed_spelling spell ys ++ (sign ")" ∷ s) → (xs ≡ ys) × (r ≡ s)
  listed_unique [] [] r s h i e = (refl, ap tail e)
  listed_unique [] (y ∷ ys) r s h i e =
      absurd (not_closing (spell y ++ (commas ys ++ (sign ")" ∷ s))) r (opens y (commas ys ++ (sign ")" ∷ s)))
      (e ∙ append_assoc (spell y) (commas ys) (sign ")" ∷ s)))
  listed_unique (x ∷ xs) [] r s h i e =
      absurd (not_closing (spell x ++ (commas xs ++ (sign ")" ∷ r))) s (opens x (commas xs ++ (sign ")" ∷ r)))
      (sym e ∙ append_assoc (spell x) (commas xs) (sign ")" ∷ r)))
  listed_unique (x ∷ xs) (y ∷ ys) r s h i e =
      let parts = unique x y (commas xs ++ (sign ")" ∷ r)) (commas ys ++ (sign ")" ∷ s)) h.0 i.0 (more_follow xs r) (more_follow ys s)
      (sym (append_assoc (spell x) (commas xs) (sign ")" ∷ r)) ∙ (e ∙ append_assoc (spell y) (commas ys) (sign ")" ∷ s))) in
      let rest = more_unique xs ys r s h.1 i.1 parts.1 in
      ((λ t. parts.0 t ∷ rest.0 t), rest.1)

value_opens : (v : CValue) (r : List CToken) → is_closing (value_spelling v ++ r) ≡ false
value_opens (value.Variable x) r = refl
value_opens v r = refl

-- ---- statements

call_unique : (name other : List ℕ) (xs ys : List CValue) (r s : List CToken) → AllByRecursion IsValueInForm xs → AllByRecursion IsValueInForm ys
    → call_spelling name xs ++ r ≡ call_spelling other ys ++ s → (name ≡ other) × (xs ≡ ys) × (r ≡ s)
call_unique name other xs ys r s h i e =
    let parts = listed_unique value_spelling IsValueInForm value_unique value_opens xs ys (sign ";" ∷ r) (sign ";" ∷ s) h i
    (sym (append_assoc (listed_spelling value_spelling xs) (sign ")" ∷ sign ";" ∷ []) r)
    ∙ (ap (λ t. tail (tail t)) e ∙ append_assoc (listed_spelling value_spelling ys) (sign ")" ∷ sign ";" ∷ []) s)) in
    (ap first_bytes e, parts.0, ap tail parts.1)

row_not_function : (f : ApiRow) (g : FunctionName) → row_name f ≡ function_name g → ⊥
row_not_function (row.Number op.Add) (function.Plain m k) e = bytes_differ (row_name (row.Number op.Add)) (function_name (function.Plain m k)) refl e
row_not_function (row.Number op.Add) (function.Wrapper m k) e = bytes_differ (row_name (row.Number op.Add)) (function_name (function.Wrapper m k)) refl e
row_not_function (row.Number op.Add) (function.Initializer name) e = bytes_differ (row_name (row.Number op.Add)) (function_name (function.Initializer name)) refl e
row_not_function row.ModuleCreate (function.Plain m k) e = bytes_differ (row_name row.ModuleCreate) (function_name (function.Plain m k)) refl e
row_not_function row.ModuleCreate (function.Wrapper m k) e = bytes_differ (row_name row.ModuleCreate) (function_name (function.Wrapper m k)) refl e
row_not_function row.ModuleCreate (function.Initializer name) e = bytes_differ (row_name row.ModuleCreate) (function_name (function.Initializer name)) refl e
row_not_function row.ModuleGetDict (function.Plain m k) e = bytes_differ (row_name row.ModuleGetDict) (function_name (function.Plain m k)) refl e
row_not_function row.ModuleGetDict (function.Wrapper m k) e = bytes_differ (row_name row.ModuleGetDict) (function_name (function.Wrapper m k)) refl e
row_not_function row.ModuleGetDict (function.Initializer name) e = bytes_differ (row_name row.ModuleGetDict) (function_name (function.Initializer name)) refl e
row_not_function row.ImportModule (function.Plain m k) e = bytes_differ (row_name row.ImportModule) (function_name (function.Plain m k)) refl e
row_not_function row.ImportModule (function.Wrapper m k) e = bytes_differ (row_name row.ImportModule) (function_name (function.Wrapper m k)) refl e
row_not_function row.ImportModule (function.Initializer name) e = bytes_differ (row_name row.ImportModule) (function_name (function.Initializer name)) refl e
row_not_function row.ErrSetString (function.Plain m k) e = bytes_differ (row_name row.ErrSetString) (function_name (function.Plain m k)) refl e
row_not_function row.ErrSetString (function.Wrapper m k) e = bytes_differ (row_name row.ErrSetString) (function_name (function.Wrapper m k)) refl e
row_not_function row.ErrSetString (function.Initializer name) e = bytes_differ (row_name row.ErrSetString) (function_name (function.Initializer name)) refl e

-- what may stand by itself may stand among arguments
pub operand_value : (v : CValue) → IsOperandInForm v → IsValueInForm v
operand_value (value.Str bytes) h = absurd h
operand_value (value.Variable x) h = h
operand_value (value.Place x) h = h
operand_value (value.Argument j) h = h
operand_value (value.Int n) h = h
operand_value value.Null h = h
operand_value (value.ExceptionType e) h = h
operand_value value.Definition h = h

-- an operand and a `;`, on both sides
value_end_unique : (v w : CValue) (end r s : List CToken) → IsValueInForm v → IsValueInForm w → is_follow (end ++ r) ≡ true → is_follow (end ++ s) ≡ true
    → (value_spelling v ++ end) ++ r ≡ (value_spelling w ++ end) ++ s → (v ≡ w) × (end ++ r ≡ end ++ s)
value_end_unique v w end r s h i j k e =
    value_unique v w (end ++ r) (end ++ s) h i j k
    (sym (append_assoc (value_spelling v) end r) ∙ (e ∙ append_assoc (value_spelling w) end s))

value_not_call : (v : CValue) (name : List ℕ) (r s : List CToken) → (value_spelling v ++ (sign ";" ∷ [])) ++ r ≡ Word name ∷ sign "(" ∷ s → ⊥
value_not_call (value.Variable x) name r s e = tokens_differ (tail ((value_spelling (value.Variable x) ++ (sign ";" ∷ [])) ++ r)) (sign "(" ∷ s) refl (ap tail e)
value_not_call v name r s e = tokens_differ (tail ((value_spelling v ++ (sign ";" ∷ [])) ++ r)) (sign "(" ∷ s) refl (ap tail e)

abbrev first_token : List CToken → CToken
first_token [] = LineEnd
first_token (x ∷ xs) = x

target_unique : (x y : Target) → IsTargetInForm x → IsTargetInForm y → target_spelling x ≡ target_spelling y → x ≡ y
target_unique (target.Variable x) (target.Variable y) h i e = ap target.Variable (variable_unique x y h i (ap (λ t. first_bytes (t ∷ [])) e))
target_unique (target.Place x) (target.Place y) h i e = ap target.Place (place_unique x y h i (ap (λ t. first_bytes (t ∷ [])) e))
target_unique (target.Variable x) (target.Place y) h i e =
    absurd (numbers_differ 1 2 refl (sym (variable_first x) ∙ (ap (λ t. token_class (t ∷ [])) e ∙ place_first y)))
target_unique (target.Place x) (target.Variable y) h i e =
    absurd (numbers_differ 2 1 refl (sym (place_first x) ∙ (ap (λ t. token_class (t ∷ [])) e ∙ variable_first y)))

comparison_unique : (c d : Comparison) → comparison_spelling c ≡ comparison_spelling d → c ≡ d
comparison_unique comparison.Equal comparison.Equal e = refl
comparison_unique comparison.NotEqual comparison.NotEqual e = refl
comparison_unique comparison.Equal comparison.NotEqual e = absurd (tokens_differ (sign "==" ∷ []) (sign "!=" ∷ []) refl (ap (λ t. t ∷ []) e))
comparison_unique comparison.NotEqual comparison.Equal e = absurd (tokens_differ (sign "!=" ∷ []) (sign "==" ∷ []) refl (ap (λ t. t ∷ []) e))

comparison_follow : (c : Comparison) (r : List CToken) → is_follow (comparison_spelling c ∷ r) ≡ true
comparison_follow comparison.Equal r = refl
comparison_follow comparison.NotEqual r = refl

label_unique : (j k : ℕ) → IsNumberInForm j → IsNumberInForm k → lettered_name (codes "L") j ≡ lettered_name (codes "L") k → j ≡ k
label_unique j k h i e = number_unique j k h i cc

-- a word that begins a statement or a declaration and is no name
abbrev keyword : List ℕ → ℕ
keyword bytes =
    if bytes_eq bytes (codes "goto") then 5 else
    if bytes_eq bytes (codes "return") then 6 else
    if bytes_eq bytes (codes "if") then 7 else
    if bytes_eq bytes (codes "Py_INCREF") then 8 else
    if bytes_eq bytes (codes "Py_DECREF") then 9 else
    if bytes_eq bytes (codes "int") then 10 else
    if bytes_eq bytes (codes "Py_ssize_t") then 10 else
    if bytes_eq bytes (codes "PyObject") then 10 else 0

abbrev after_name : List CToken → ℕ
after_name [] = 4
after_name (x ∷ xs) =
    if same_token x (sign "=") then 1 else
    if same_token x (sign "(") then 2 else
    if same_token x (sign ":") then 3 else 4

-- what the first two tokens tell
abbrev shape : List CToken → ℕ
shape (Word xs ∷ more) = if nat_eq (keyword xs) 0 then after_name more else keyword xs
shape _ = 0

abbrev statement_shape : CStmt → ℕ
statement_shape (stmt.Assign x v) = 1
statement_shape (stmt.Api None f values) = 2
statement_shape (stmt.Api (Some x) f values) = 1
statement_shape (stmt.Call None f values) = 2
statement_shape (stmt.Call (Some x) f values) = 1
statement_shape (stmt.Incref v) = 8
statement_shape (stmt.Decref v) = 9
statement_shape (stmt.GotoIf a c b label) = 7
statement_shape (stmt.Goto label) = 5
statement_shape (stmt.Return v) = 6

variable_keyword : (x : Variable) → keyword (variable_name x) ≡ 0
variable_keyword (variable.Parameter j) = refl
variable_keyword x = refl

place_keyword : (x : Place) → keyword (place_name x) ≡ 0
place_keyword place.Module = refl
place_keyword x = refl

row_keyword : (f : ApiRow) → keyword (row_name f) ≡ 0
row_keyword (row.Number op.Add) = refl
row_keyword row.ModuleCreate = refl
row_keyword row.ModuleGetDict = refl
row_keyword row.ImportModule = refl
row_keyword row.ErrSetString = refl

function_keyword : (f : FunctionName) → keyword (function_name f) ≡ 0
function_keyword (function.Plain m k) = refl
function_keyword f = refl

-- the shape of a name and a token after it
named_shape : (name : List ℕ) (more : List CToken) → keyword name ≡ 0 → shape (Word name ∷ more) ≡ after_name more
named_shape name more h = ap (λ k. if nat_eq k 0 then after_name more else k) h

statement_shaped : (a : CStmt) (r : List CToken) → shape (statement_spelling a ++ r) ≡ statement_shape a
statement_shaped (stmt.Assign (target.Variable x) v) r = named_shape (variable_name x) (sign "=" ∷ ((value_spelling v ++ (sign ";" ∷ [])) ++ r)) (variable_keyword x)
statement_shaped (stmt.Assign (target.Place x) v) r = named_shape (place_name x) (sign "=" ∷ ((value_spelling v ++ (sign ";" ∷ [])) ++ r)) (place_keyword x)
statement_shaped (stmt.Api None f values) r = named_shape (row_name f) (sign "(" ∷ ((listed_spelling value_spelling values ++ (sign ")" ∷ sign ";" ∷ [])) ++ r)) (row_keyword f)
statement_shaped (stmt.Api (Some x) f values) r = named_shape (variable_name x) (sign "=" ∷ (call_spelling (row_name f) values ++ r)) (variable_keyword x)
statement_shaped (stmt.Call None f values) r = named_shape (function_name f) (sign "(" ∷ ((listed_spelling value_spelling values ++ (sign ")" ∷ sign ";" ∷ [])) ++ r)) (function_keyword f)
statement_shaped (stmt.Call (Some x) f values) r = named_shape (variable_name x) (sign "=" ∷ (call_spelling (function_name f) values ++ r)) (variable_keyword x)
statement_shaped (stmt.Incref v) r = refl
statement_shaped (stmt.Decref v) r = refl
statement_shaped (stmt.GotoIf a c b label) r = refl
statement_shaped (stmt.Goto label) r = refl
statement_shaped (stmt.Return v) r = refl

statements_differ : (a b : CStmt) (r s : List CToken) → nat_eq (statement_shape a) (statement_shape b) ≡ false → statement_spelling a ++ r ≡ statement_spelling b ++ s → ⊥
statements_differ a b r s h e =
    numbers_differ (statement_shape a) (statement_shape b) h (sym (statement_shaped a r) ∙ (ap shape e ∙ statement_shaped b s))

test_unique : (a x : CValue) (c d : Comparison) (b y : CValue) (j k : ℕ) (r s : List CToken)
    → IsStatementInForm (stmt.GotoIf a c b j) → IsStatementInForm (stmt.GotoIf x d y k)
    → statement_spelling (stmt.GotoIf a c b j) ++ r ≡ statement_spelling (stmt.GotoIf x d y k) ++ s → (stmt.GotoIf a c b j ≡ stmt.GotoIf x d y k) × (r ≡ s)
test_unique a x c d b y j k r s h i e =
    let left : List CToken = comparison_spelling c ∷ (value_spelling b ++ (sign ")" ∷ goto_spelling j)) in
    let right : List CToken = comparison_spelling d ∷ (value_spelling y ++ (sign ")" ∷ goto_spelling k)) in
    let first = value_unique a x (left ++ r) (right ++ s) (operand_value a h.0) (operand_value x i.0) (comparison_follow c ((value_spelling b ++ (sign ")" ∷ goto_spelling j)) ++ r)) (comparison_follow d ((value_spelling y ++ (sign ")" ∷ goto_spelling k)) ++ s))
    (sym (append_assoc (value_spelling a) left r) ∙ (ap (λ t. tail (tail t)) e ∙ append_assoc (value_spelling x) right s)) in
    let second = value_unique b y ((sign ")" ∷ goto_spelling j) ++ r) ((sign ")" ∷ goto_spelling k) ++ s) (operand_value b h.1) (operand_value y i.1) refl refl
    (sym (append_assoc (value_spelling b) (sign ")" ∷ goto_spelling j) r) ∙ (ap tail first.1 ∙ append_assoc (value_spelling y) (sign ")" ∷ goto_spelling k) s)) in
    let same : c ≡ d = comparison_unique c d (ap first_token first.1) in
    let label : j ≡ k = label_unique j k h.2 i.2 (ap (λ t. first_bytes (tail (tail t))) second.1) in
    ((λ t. stmt.GotoIf (first.0 t) (same t) (second.0 t) (label t)), ap (λ t. tail (tail (tail (tail t)))) second.1)

statement_unique : (a b : CStmt) (r s : List CToken) → IsStatementInForm a → IsStatementInForm b
    → statement_spelling a ++ r ≡ statement_spelling b ++ s → (a ≡ b) × (r ≡ s)
statement_unique (stmt.Assign x v) (stmt.Assign y w) r s h i e =
    let named : x ≡ y = target_unique x y h.0 i.0 (ap first_token e) in
    let parts = value_end_unique v w (sign ";" ∷ []) r s (operand_value v h.1) (operand_value w i.1) refl refl (ap (λ t. tail (tail t)) e) in
    ((λ t. stmt.Assign (named t) (parts.0 t)), ap tail parts.1)
statement_unique (stmt.Assign x v) (stmt.Api (Some y) f values) r s h i e = absurd (value_not_call v (row_name f) r _ (ap (λ t. tail (tail t)) e))
statement_unique (stmt.Assign x v) (stmt.Call (Some y) f values) r s h i e = absurd (value_not_call v (function_name f) r _ (ap (λ t. tail (tail t)) e))
statement_unique (stmt.Api (Some x) f values) (stmt.Assign y w) r s h i e = absurd (value_not_call w (row_name f) s _ (sym (ap (λ t. tail (tail t)) e)))
statement_unique (stmt.Call (Some x) f values) (stmt.Assign y w) r s h i e = absurd (value_not_call w (function_name f) s _ (sym (ap (λ t. tail (tail t)) e)))
statement_unique (stmt.Api None f xs) (stmt.Api None g ys) r s h i e =
    let parts = call_unique (row_name f) (row_name g) xs ys r s h.1 i.1 e in
    let row : f ≡ g = row_unique f g parts.0 in
    ((λ t. stmt.Api None (row t) (parts.1 t)), parts.2)
statement_unique (stmt.Api (Some x) f xs) (stmt.Api (Some y) g ys) r s h i e =
    let named : x ≡ y = variable_unique x y h.0 i.0 (ap first_bytes e) in
    let parts = call_unique (row_name f) (row_name g) xs ys r s h.1 i.1 (ap (λ t. tail (tail t)) e) in
    let row : f ≡ g = row_unique f g parts.0 in
    ((λ t. stmt.Api (Some (named t)) (row t) (parts.1 t)), parts.2)
statement_unique (stmt.Call None f xs) (stmt.Call None g ys) r s h i e =
    let parts = call_unique (function_name f) (function_name g) xs ys r s h.2 i.2 e in
    let callee : f ≡ g = function_unique f g h.1 i.1 parts.0 in
    ((λ t. stmt.Call None (callee t) (parts.1 t)), parts.2)
statement_unique (stmt.Call (Some x) f xs) (stmt.Call (Some y) g ys) r s h i e =
    let named : x ≡ y = variable_unique x y h.0 i.0 (ap first_bytes e) in
    let parts = call_unique (function_name f) (function_name g) xs ys r s h.2 i.2 (ap (λ t. tail (tail t)) e) in
    let callee : f ≡ g = function_unique f g h.1 i.1 parts.0 in
    ((λ t. stmt.Call (Some (named t)) (callee t) (parts.1 t)), parts.2)
statement_unique (stmt.Api None f xs) (stmt.Call None g ys) r s h i e = absurd (row_not_function f g (ap first_bytes e))
statement_unique (stmt.Call None f xs) (stmt.Api None g ys) r s h i e = absurd (row_not_function g f (sym (ap first_bytes e)))
statement_unique (stmt.Api (Some x) f xs) (stmt.Call (Some y) g ys) r s h i e = absurd (row_not_function f g (ap (λ t. first_bytes (tail (tail t))) e))
statement_unique (stmt.Call (Some x) f xs) (stmt.Api (Some y) g ys) r s h i e = absurd (row_not_function g f (sym (ap (λ t. first_bytes (tail (tail t))) e)))
statement_unique (stmt.Incref v) (stmt.Incref w) r s h i e =
    let parts = value_end_unique v w (sign ")" ∷ sign ";" ∷ []) r s h i refl refl (ap (λ t. tail (tail t)) e) in
    (ap stmt.Incref parts.0, ap (λ t. tail (tail t)) parts.1)
statement_unique (stmt.Decref v) (stmt.Decref w) r s h i e =
    let parts = value_end_unique v w (sign ")" ∷ sign ";" ∷ []) r s h i refl refl (ap (λ t. tail (tail t)) e) in
    (ap stmt.Decref parts.0, ap (λ t. tail (tail t)) parts.1)
statement_unique (stmt.GotoIf a c b j) (stmt.GotoIf x d y k) r s h i e = test_unique a x c d b y j k r s h i e
statement_unique (stmt.Goto j) (stmt.Goto k) r s h i e =
    (ap stmt.Goto (label_unique j k h i (ap (λ t. first_bytes (tail t)) e)), ap (λ t. tail (tail (tail t))) e)
statement_unique (stmt.Return v) (stmt.Return w) r s h i e =
    let parts = value_end_unique v w (sign ";" ∷ []) r s (operand_value v h) (operand_value w i) refl refl (ap tail e) in
    (ap stmt.Return parts.0, ap tail parts.1)
statement_unique a (stmt.Api None f ys) r s h i e = absurd (statements_differ a (stmt.Api None f ys) r s refl e)
statement_unique a (stmt.Api (Some y) f ys) r s h i e = absurd (statements_differ a (stmt.Api (Some y) f ys) r s refl e)
statement_unique a (stmt.Call None f ys) r s h i e = absurd (statements_differ a (stmt.Call None f ys) r s refl e)
statement_unique a (stmt.Call (Some y) f ys) r s h i e = absurd (statements_differ a (stmt.Call (Some y) f ys) r s refl e)
statement_unique a b r s h i e = absurd (statements_differ a b r s refl e)

-- ---- lines and declarations

abbrev line_shape : Line → ℕ
line_shape (line.Label label) = 3
line_shape (line.Statement a) = statement_shape a

line_shaped : (l : Line) (r : List CToken) → shape (line_spelling l ++ r) ≡ line_shape l
line_shaped (line.Label label) r = refl
line_shaped (line.Statement a) r = statement_shaped a r

-- a statement has no shape of another thing
statement_other : (a : CStmt) → (nat_eq (statement_shape a) 0 ≡ false) × (nat_eq (statement_shape a) 3 ≡ false) × (nat_eq (statement_shape a) 10 ≡ false)
statement_other (stmt.Assign x v) = (refl, refl, refl)
statement_other (stmt.Api None f values) = (refl, refl, refl)
statement_other (stmt.Api (Some x) f values) = (refl, refl, refl)
statement_other (stmt.Call None f values) = (refl, refl, refl)
statement_other (stmt.Call (Some x) f values) = (refl, refl, refl)
statement_other (stmt.Incref v) = (refl, refl, refl)
statement_other (stmt.Decref v) = (refl, refl, refl)
statement_other (stmt.GotoIf a c b label) = (refl, refl, refl)
statement_other (stmt.Goto label) = (refl, refl, refl)
statement_other (stmt.Return v) = (refl, refl, refl)

line_other : (l : Line) → (nat_eq (line_shape l) 0 ≡ false) × (nat_eq (line_shape l) 10 ≡ false)
line_other (line.Label label) = (refl, refl)
line_other (line.Statement a) = let other = statement_other a in (other.0, other.2)

line_unique : (l m : Line) (r s : List CToken) → IsLineInForm l → IsLineInForm m → line_spelling l ++ r ≡ line_spelling m ++ s → (l ≡ m) × (r ≡ s)
line_unique (line.Label j) (line.Label k) r s h i e = (ap line.Label (label_unique j k h i (ap first_bytes e)), ap (λ t. tail (tail t)) e)
line_unique (line.Statement a) (line.Statement b) r s h i e =
    let parts = statement_unique a b r s h i e in (ap line.Statement parts.0, parts.1)
line_unique (line.Label j) (line.Statement b) r s h i e =
    absurd (numbers_differ (statement_shape b) 3 (statement_other b).1 (sym (statement_shaped b s) ∙ sym (ap shape e)))
line_unique (line.Statement a) (line.Label k) r s h i e =
    absurd (numbers_differ (statement_shape a) 3 (statement_other a).1 (sym (statement_shaped a r) ∙ ap shape e))

lines_unique : (ls ms : List Line) (r s : List CToken) → AllByRecursion IsLineInForm ls → AllByRecursion IsLineInForm ms
    → flat_map line_spelling ls ++ (sign "}" ∷ r) ≡ flat_map line_spelling ms ++ (sign "}" ∷ s) → (ls ≡ ms) × (r ≡ s)
lines_unique [] [] r s h i e = (refl, ap tail e)
lines_unique [] (m ∷ ms) r s h i e =
    absurd (numbers_differ (line_shape m) 0 (line_other m).0
    (sym (line_shaped m (flat_map line_spelling ms ++ (sign "}" ∷ s)))
    ∙ ap shape (sym (append_assoc (line_spelling m) (flat_map line_spelling ms) (sign "}" ∷ s)) ∙ sym e)))
lines_unique (l ∷ ls) [] r s h i e =
    absurd (numbers_differ (line_shape l) 0 (line_other l).0
    (sym (line_shaped l (flat_map line_spelling ls ++ (sign "}" ∷ r)))
    ∙ ap shape (sym (append_assoc (line_spelling l) (flat_map line_spelling ls) (sign "}" ∷ r)) ∙ e)))
lines_unique (l ∷ ls) (m ∷ ms) r s h i e =
    let parts = line_unique l m (flat_map line_spelling ls ++ (sign "}" ∷ r)) (flat_map line_spelling ms ++ (sign "}" ∷ s)) h.0 i.0
    (sym (append_assoc (line_spelling l) (flat_map line_spelling ls) (sign "}" ∷ r)) ∙ (e ∙ append_assoc (line_spelling m) (flat_map line_spelling ms) (sign "}" ∷ s))) in
    let rest = lines_unique ls ms r s h.1 i.1 parts.1 in
    ((λ t. parts.0 t ∷ rest.0 t), rest.1)

type_unique : (k l : CType) (r s : List CToken) → type_spelling k ++ r ≡ type_spelling l ++ s → (k ≡ l) × (r ≡ s)
type_unique type.Int type.Int r s e = (refl, ap tail e)
type_unique type.PySsizeT type.PySsizeT r s e = (refl, ap tail e)
type_unique type.PyObject type.PyObject r s e = (refl, ap (λ t. tail (tail t)) e)
type_unique k l r s e = absurd (tokens_differ (type_spelling k ++ r) (type_spelling l ++ s) refl e)

initial_unique : (j k : InitialValue) (r s : List CToken) → initial_spelling j ++ r ≡ initial_spelling k ++ s → (j ≡ k) × (r ≡ s)
initial_unique initial.Nothing initial.Nothing r s e = (refl, ap tail e)
initial_unique initial.Null initial.Null r s e = (refl, ap (λ t. tail (tail (tail t))) e)
initial_unique initial.Zero initial.Zero r s e = (refl, ap (λ t. tail (tail (tail t))) e)
initial_unique j k r s e = absurd (tokens_differ (initial_spelling j ++ r) (initial_spelling k ++ s) refl e)

declaration_unique : (d f : Declaration) (r s : List CToken) → IsDeclarationInForm d → IsDeclarationInForm f
    → declaration_spelling d ++ r ≡ declaration_spelling f ++ s → (d ≡ f) × (r ≡ s)
declaration_unique d f r s h i e =
    let left : List CToken = variable_spelling d.variable ∷ initial_spelling d.initial in
    let right : List CToken = variable_spelling f.variable ∷ initial_spelling f.initial in
    let kinds = type_unique d.kind f.kind (left ++ r) (right ++ s)
    (sym (append_assoc (type_spelling d.kind) left r) ∙ (e ∙ append_assoc (type_spelling f.kind) right s)) in
    let named : d.variable ≡ f.variable = variable_unique d.variable f.variable h i (ap first_bytes kinds.1) in
    let ends = initial_unique d.initial f.initial r s (ap tail kinds.1) in
    ((λ t. record { kind = kinds.0 t; variable = named t; initial = ends.0 t }), ends.1)

-- a type before more tokens has the shape of a declaration
type_shape : (kind : CType) (r : List CToken) → shape (type_spelling kind ++ r) ≡ 10
type_shape type.Int r = refl
type_shape type.PySsizeT r = refl
type_shape type.PyObject r = refl

declaration_shaped : (d : Declaration) (r : List CToken) → shape (declaration_spelling d ++ r) ≡ 10
declaration_shaped d r =
    ap shape (append_assoc (type_spelling d.kind) (variable_spelling d.variable ∷ initial_spelling d.initial) r) ∙ type_shape d.kind _

lines_shape : (ls : List Line) (r : List CToken) → nat_eq (shape (flat_map line_spelling ls ++ (sign "}" ∷ r))) 10 ≡ false
lines_shape [] r = refl
lines_shape (l ∷ ls) r =
    ap (λ n. nat_eq n 10)
    (ap shape (append_assoc (line_spelling l) (flat_map line_spelling ls) (sign "}" ∷ r)) ∙ line_shaped l (flat_map line_spelling ls ++ (sign "}" ∷ r)))
    ∙ (line_other l).1

inside_unique : (ds fs : List Declaration) (ls ms : List Line) (r s : List CToken)
    → AllByRecursion IsDeclarationInForm ds → AllByRecursion IsDeclarationInForm fs → AllByRecursion IsLineInForm ls → AllByRecursion IsLineInForm ms
    → flat_map declaration_spelling ds ++ (flat_map line_spelling ls ++ (sign "}" ∷ r)) ≡ flat_map declaration_spelling fs ++ (flat_map line_spelling ms ++ (sign "}" ∷ s))
    → (ds ≡ fs) × (ls ≡ ms) × (r ≡ s)
inside_unique [] [] ls ms r s h i j k e = let parts = lines_unique ls ms r s j k e in (refl, parts.0, parts.1)
inside_unique [] (f ∷ fs) ls ms r s h i j k e =
    let more : List CToken = flat_map line_spelling ms ++ (sign "}" ∷ s) in
    absurd (numbers_differ (shape (flat_map line_spelling ls ++ (sign "}" ∷ r))) 10 (lines_shape ls r)
    (ap shape (e ∙ append_assoc (declaration_spelling f) (flat_map declaration_spelling fs) more) ∙ declaration_shaped f (flat_map declaration_spelling fs ++ more)))
inside_unique (d ∷ ds) [] ls ms r s h i j k e =
    let more : List CToken = flat_map line_spelling ls ++ (sign "}" ∷ r) in
    absurd (numbers_differ (shape (flat_map line_spelling ms ++ (sign "}" ∷ s))) 10 (lines_shape ms s)
    (ap shape (sym e ∙ append_assoc (declaration_spelling d) (flat_map declaration_spelling ds) more) ∙ declaration_shaped d (flat_map declaration_spelling ds ++ more)))
inside_unique (d ∷ ds) (f ∷ fs) ls ms r s h i j k e =
    let left : List CToken = flat_map line_spelling ls ++ (sign "}" ∷ r) in
    let right : List CToken = flat_map line_spelling ms ++ (sign "}" ∷ s) in
    let parts = declaration_unique d f (flat_map declaration_spelling ds ++ left) (flat_map declaration_spelling fs ++ right) h.0 i.0
    (sym (append_assoc (declaration_spelling d) (flat_map declaration_spelling ds) left) ∙ (e ∙ append_assoc (declaration_spelling f) (flat_map declaration_spelling fs) right)) in
    let rest = inside_unique ds fs ls ms r s h.1 i.1 j k parts.1 in
    ((λ t. parts.0 t ∷ rest.0 t), rest.1, rest.2)

body_unique : (f g : CFunction) (r s : List CToken) → IsFunctionInForm f → IsFunctionInForm g
    → body_spelling f ++ r ≡ body_spelling g ++ s → (f.declarations ≡ g.declarations) × (f.lines ≡ g.lines) × (r ≡ s)
body_unique f g r s h i e =
    inside_unique f.declarations g.declarations f.lines g.lines r s h.1 i.1 h.2 i.2
    (sym (regroup f r) ∙ (ap tail e ∙ regroup g s))
  where
    regroup : (f : CFunction) (r : List CToken)
        → (flat_map declaration_spelling f.declarations ++ (flat_map line_spelling f.lines ++ (sign "}" ∷ []))) ++ r
        ≡ flat_map declaration_spelling f.declarations ++ (flat_map line_spelling f.lines ++ (sign "}" ∷ r))
    regroup f r = simp append_assoc

-- ---- heads

void_not_type : (kind : CType) (more r s : List CToken) → word "void" ∷ r ≡ void_or (type_spelling kind ++ more) ++ s → ⊥
void_not_type type.Int more r s e = tokens_differ (word "void" ∷ r) (void_or (type_spelling type.Int ++ more) ++ s) refl e
void_not_type kind more r s e = tokens_differ (word "void" ∷ r) (void_or (type_spelling kind ++ more) ++ s) refl e

void_not_parameter : (kind : CType) (name more r s : List CToken) → word "void" ∷ r ≡ void_or ((type_spelling kind ++ name) ++ more) ++ s → ⊥
void_not_parameter type.Int name more r s e = tokens_differ (word "void" ∷ r) (void_or ((type_spelling type.Int ++ name) ++ more) ++ s) refl e
void_not_parameter kind name more r s e = tokens_differ (word "void" ∷ r) (void_or ((type_spelling kind ++ name) ++ more) ++ s) refl e

-- tokens that begin with a type are not empty
pub type_spelling_first : (kind : CType) (more : List CToken) → void_or (type_spelling kind ++ more) ≡ type_spelling kind ++ more
type_spelling_first type.Int more = refl
type_spelling_first kind more = refl

pub parameter_spelling_first : (kind : CType) (name more : List CToken) → void_or ((type_spelling kind ++ name) ++ more) ≡ (type_spelling kind ++ name) ++ more
parameter_spelling_first type.Int name more = refl
parameter_spelling_first kind name more = refl

type_opens : (kind : CType) (r : List CToken) → is_closing (type_spelling kind ++ r) ≡ false
type_opens type.Int r = refl
type_opens kind r = refl

every_type : (kinds : List CType) → AllByRecursion (λ kind. ⊤) kinds
every_type [] = tt
every_type (kind ∷ kinds) = (tt, every_type kinds)

abbrev types_after : List CType → List CToken
types_after kinds = flat_map (λ x. sign "," ∷ type_spelling x) kinds

types_unique : (ks ls : List CType) (r s : List CToken)
    → void_or (listed_spelling type_spelling ks) ++ (sign ")" ∷ r) ≡ void_or (listed_spelling type_spelling ls) ++ (sign ")" ∷ s) → (ks ≡ ls) × (r ≡ s)
types_unique [] [] r s e = (refl, ap (λ t. tail (tail t)) e)
types_unique [] (l ∷ ls) r s e = absurd (void_not_type l (types_after ls) (sign ")" ∷ r) (sign ")" ∷ s) e)
types_unique (k ∷ ks) [] r s e = absurd (void_not_type k (types_after ks) (sign ")" ∷ s) (sign ")" ∷ r) (sym e))
types_unique (k ∷ ks) (l ∷ ls) r s e =
    listed_unique type_spelling (λ kind. ⊤) (λ x y t u h i j m same. type_unique x y t u same) type_opens (k ∷ ks) (l ∷ ls) r s (every_type (k ∷ ks)) (every_type (l ∷ ls))
    (sym (ap (λ t. t ++ (sign ")" ∷ r)) (type_spelling_first k (types_after ks))) ∙ (e ∙ ap (λ t. t ++ (sign ")" ∷ s)) (type_spelling_first l (types_after ls))))

parameter_unique : (p q : Parameter) (r s : List CToken) → IsParameterInForm p → IsParameterInForm q
    → parameter_spelling p ++ r ≡ parameter_spelling q ++ s → (p ≡ q) × (r ≡ s)
parameter_unique p q r s h i e =
    let left : List CToken = variable_spelling (variable.Parameter p.number) ∷ [] in
    let right : List CToken = variable_spelling (variable.Parameter q.number) ∷ [] in
    let kinds = type_unique p.kind q.kind (left ++ r) (right ++ s)
    (sym (append_assoc (type_spelling p.kind) left r) ∙ (e ∙ append_assoc (type_spelling q.kind) right s)) in
    let number : p.number ≡ q.number = digits (ap first_bytes kinds.1) in
    ((λ t. record { kind = kinds.0 t; number = number t }), ap tail kinds.1)
  where
    digits : variable_name (variable.Parameter p.number) ≡ variable_name (variable.Parameter q.number) → p.number ≡ q.number
    digits e = number_unique p.number q.number h i cc

parameter_opens : (p : Parameter) (r : List CToken) → is_closing (parameter_spelling p ++ r) ≡ false
parameter_opens p r =
    ap is_closing (append_assoc (type_spelling p.kind) (variable_spelling (variable.Parameter p.number) ∷ []) r) ∙ type_opens p.kind _

abbrev parameters_after : List Parameter → List CToken
parameters_after parameters = flat_map (λ x. sign "," ∷ parameter_spelling x) parameters

abbrev parameter_name : Parameter → List CToken
parameter_name p = variable_spelling (variable.Parameter p.number) ∷ []

parameters_unique : (ps qs : List Parameter) (r s : List CToken) → AllByRecursion IsParameterInForm ps → AllByRecursion IsParameterInForm qs
    → void_or (listed_spelling parameter_spelling ps) ++ (sign ")" ∷ r) ≡ void_or (listed_spelling parameter_spelling qs) ++ (sign ")" ∷ s) → (ps ≡ qs) × (r ≡ s)
parameters_unique [] [] r s h i e = (refl, ap (λ t. tail (tail t)) e)
parameters_unique [] (q ∷ qs) r s h i e = absurd (void_not_parameter q.kind (parameter_name q) (parameters_after qs) (sign ")" ∷ r) (sign ")" ∷ s) e)
parameters_unique (p ∷ ps) [] r s h i e = absurd (void_not_parameter p.kind (parameter_name p) (parameters_after ps) (sign ")" ∷ s) (sign ")" ∷ r) (sym e))
parameters_unique (p ∷ ps) (q ∷ qs) r s h i e =
    listed_unique parameter_spelling IsParameterInForm (λ x y t u k l j m same. parameter_unique x y t u k l same) parameter_opens (p ∷ ps) (q ∷ qs) r s h i
    (sym (ap (λ t. t ++ (sign ")" ∷ r)) (parameter_spelling_first p.kind (parameter_name p) (parameters_after ps)))
    ∙ (e ∙ ap (λ t. t ++ (sign ")" ∷ s)) (parameter_spelling_first q.kind (parameter_name q) (parameters_after qs))))

-- what stands between the brackets of a prototype with its `;` and of a function with its `{`
between_differ : (ks : List CType) (ps : List Parameter) (r s : List CToken)
    → void_or (listed_spelling type_spelling ks) ++ (sign ")" ∷ sign ";" ∷ r) ≡ void_or (listed_spelling parameter_spelling ps) ++ (sign ")" ∷ sign "{" ∷ s) → ⊥
between_differ [] [] r s e = tokens_differ (sign ";" ∷ r) (sign "{" ∷ s) refl (ap (λ t. tail (tail t)) e)
between_differ [] (p ∷ ps) r s e = void_not_parameter p.kind (parameter_name p) (parameters_after ps) (sign ")" ∷ sign ";" ∷ r) (sign ")" ∷ sign "{" ∷ s) e
between_differ (k ∷ ks) [] r s e = void_not_type k (types_after ks) (sign ")" ∷ sign "{" ∷ s) (sign ")" ∷ sign ";" ∷ r) (sym e)
between_differ (k ∷ ks) (p ∷ ps) r s e =
    types_end ks (type_unique k p.kind (types_after ks ++ (sign ")" ∷ sign ";" ∷ r)) (parameter_name p ++ (parameters_after ps ++ (sign ")" ∷ sign "{" ∷ s)))
    (sym (ap (λ t. t ++ (sign ")" ∷ sign ";" ∷ r)) (type_spelling_first k (types_after ks)) ∙ append_assoc (type_spelling k) (types_after ks) (sign ")" ∷ sign ";" ∷ r))
    ∙ (e ∙ (ap (λ t. t ++ (sign ")" ∷ sign "{" ∷ s)) (parameter_spelling_first p.kind (parameter_name p) (parameters_after ps))
    ∙ (append_assoc (type_spelling p.kind ++ parameter_name p) (parameters_after ps) (sign ")" ∷ sign "{" ∷ s)
    ∙ append_assoc (type_spelling p.kind) (parameter_name p) (parameters_after ps ++ (sign ")" ∷ sign "{" ∷ s))))))).1
  where
    types_end : (ks : List CType) → types_after ks ++ (sign ")" ∷ sign ";" ∷ r) ≡ parameter_name p ++ (parameters_after ps ++ (sign ")" ∷ sign "{" ∷ s)) → ⊥
    types_end [] e = tokens_differ (types_after [] ++ (sign ")" ∷ sign ";" ∷ r)) (parameter_name p ++ (parameters_after ps ++ (sign ")" ∷ sign "{" ∷ s))) refl e
    types_end (l ∷ ls) e = tokens_differ (types_after (l ∷ ls) ++ (sign ")" ∷ sign ";" ∷ r)) (parameter_name p ++ (parameters_after ps ++ (sign ")" ∷ sign "{" ∷ s))) refl e

plain_numbers : (m k n j : ℕ) → IsNumberInForm m → IsNumberInForm k → IsNumberInForm n → IsNumberInForm j
    → numbered_name (codes "cyc_f_") m k ≡ numbered_name (codes "cyc_f_") n j → (m ≡ n) × (k ≡ j)
plain_numbers m k n j hm hk hn hj e = numbers_unique m k n j hm hk hn hj cc

wrapper_numbers : (m k n j : ℕ) → IsNumberInForm m → IsNumberInForm k → IsNumberInForm n → IsNumberInForm j
    → numbered_name (codes "cyc_w_") m k ≡ numbered_name (codes "cyc_w_") n j → (m ≡ n) × (k ≡ j)
wrapper_numbers m k n j hm hk hn hj e = numbers_unique m k n j hm hk hn hj cc

plain_head_unique : (kind other : CType) (m k n j : ℕ) (between among r s : List CToken)
    → IsNumberInForm m → IsNumberInForm k → IsNumberInForm n → IsNumberInForm j
    → plain_head_spelling kind m k between ++ r ≡ plain_head_spelling other n j among ++ s
    → (kind ≡ other) × (m ≡ n) × (k ≡ j) × (void_or between ++ (sign ")" ∷ r) ≡ void_or among ++ (sign ")" ∷ s))
plain_head_unique kind other m k n j between among r s hm hk hn hj e =
    let left : List CToken = Word (numbered_name (codes "cyc_f_") m k) ∷ sign "(" ∷ (void_or between ++ (sign ")" ∷ [])) in
    let right : List CToken = Word (numbered_name (codes "cyc_f_") n j) ∷ sign "(" ∷ (void_or among ++ (sign ")" ∷ [])) in
    let kinds = type_unique kind other (left ++ r) (right ++ s)
    (sym (append_assoc (type_spelling kind) left r) ∙ (e ∙ append_assoc (type_spelling other) right s)) in
    let numbers = plain_numbers m k n j hm hk hn hj (ap first_bytes kinds.1) in (
      kinds.0,
      numbers.0,
      numbers.1,
      sym (append_assoc (void_or between) (sign ")" ∷ []) r) ∙ (ap (λ t. tail (tail t)) kinds.1 ∙ append_assoc (void_or among) (sign ")" ∷ []) s),
    )

plain_head_shape : (kind : CType) (m k : ℕ) (between r : List CToken) → shape (plain_head_spelling kind m k between ++ r) ≡ 10
plain_head_shape kind m k between r = ap shape (append_assoc (type_spelling kind) _ r) ∙ type_shape kind _

plain_head_differs : (kind : CType) (m k : ℕ) (between r other : List CToken) → nat_eq (shape other) 10 ≡ false → plain_head_spelling kind m k between ++ r ≡ other → ⊥
plain_head_differs kind m k between r other h e =
    numbers_differ (shape other) 10 h (sym (ap shape e) ∙ plain_head_shape kind m k between r)

initializer_name : (name other : List ℕ) → codes "PyInit_" ++ name ≡ codes "PyInit_" ++ other → name ≡ other
initializer_name name other e = cc

head_unique : (h g : CHead) (r s : List CToken) → IsHeadInForm h → IsHeadInForm g → head_spelling h ++ r ≡ head_spelling g ++ s → (h ≡ g) × (r ≡ s)
unfolding c_tokens
head_unique (head.Plain m k kind ps) (head.Plain n j other qs) r s h i e =
    let front = plain_head_unique kind other m k n j (listed_spelling parameter_spelling ps) (listed_spelling parameter_spelling qs) r s h.0 h.1 i.0 i.1 e in
    let inner = parameters_unique ps qs r s h.2 i.2 front.3 in
    ((λ t. head.Plain (front.1 t) (front.2 t) (front.0 t) (inner.0 t)), inner.1)
head_unique (head.Wrapper m k) (head.Wrapper n j) r s h i e =
    let numbers = wrapper_numbers m k n j h.0 h.1 i.0 i.1 (ap (λ t. first_bytes (drop 3 t)) e) in
    ((λ t. head.Wrapper (numbers.0 t) (numbers.1 t)), ap (λ t. drop 18 t) e)
head_unique (head.Initializer name) (head.Initializer other) r s h i e =
    (ap head.Initializer (initializer_name name other (ap (λ t. first_bytes (tail t)) e)), ap (λ t. drop 5 t) e)
head_unique (head.Plain m k kind ps) (head.Wrapper n j) r s h i e =
    absurd (plain_head_differs kind m k (listed_spelling parameter_spelling ps) r (head_spelling (head.Wrapper n j) ++ s) refl e)
head_unique (head.Plain m k kind ps) (head.Initializer other) r s h i e =
    absurd (plain_head_differs kind m k (listed_spelling parameter_spelling ps) r (head_spelling (head.Initializer other) ++ s) refl e)
head_unique (head.Wrapper m k) (head.Plain n j other qs) r s h i e =
    absurd (plain_head_differs other n j (listed_spelling parameter_spelling qs) s (head_spelling (head.Wrapper m k) ++ r) refl (sym e))
head_unique (head.Initializer name) (head.Plain n j other qs) r s h i e =
    absurd (plain_head_differs other n j (listed_spelling parameter_spelling qs) s (head_spelling (head.Initializer name) ++ r) refl (sym e))
head_unique (head.Wrapper m k) (head.Initializer other) r s h i e = absurd (tokens_differ (head_spelling (head.Wrapper m k) ++ r) (head_spelling (head.Initializer other) ++ s) refl e)
head_unique (head.Initializer name) (head.Wrapper n j) r s h i e = absurd (tokens_differ (head_spelling (head.Initializer name) ++ r) (head_spelling (head.Wrapper n j) ++ s) refl e)

-- ---- tables

abbrev table_end : List CToken
table_end = c_tokens (codes "{NULL, NULL, 0, NULL} };")

methods_unique : (rows others : List MethodRow) → AllByRecursion IsMethodInForm rows → AllByRecursion IsMethodInForm others
    → flat_map method_spelling rows ++ table_end ≡ flat_map method_spelling others ++ table_end → rows ≡ others
unfolding c_tokens
methods_unique [] [] h i e = refl
methods_unique [] (n ∷ ns) h i e = absurd (tokens_differ table_end (flat_map method_spelling (n ∷ ns) ++ table_end) refl e)
methods_unique (m ∷ ms) [] h i e = absurd (tokens_differ (flat_map method_spelling (m ∷ ms) ++ table_end) table_end refl e)
methods_unique (m ∷ ms) (n ∷ ns) h i e =
    let named : m.name ≡ n.name = string_unique m.name n.name (ap (λ t. first_bytes (tail t)) e) in
    let numbers = wrapper_numbers m.module m.index n.module n.index h.0.1 h.0.2 i.0.1 i.0.2 (ap (λ t. first_bytes (drop 15 t)) e) in
    let rest : ms ≡ ns = methods_unique ms ns h.1 i.1 (ap (λ t. drop 22 t) e) in
    λ t. record { name = named t; «module» = numbers.0 t; index = numbers.1 t } ∷ rest t

-- ---- items

-- what the first three tokens of an item tell
abbrev item_shape : List CToken → ℕ
item_shape (x ∷ y ∷ z ∷ more) =
    if same_token x (word "static")
    then (if same_token y (word "PyMethodDef") then 2 else if same_token y (word "struct") then 3 else 1)
    else if same_token x (sign "#")
    then (if same_token y (word "define") then 5 else if same_token z (HeaderName (codes "Python.h")) then 6 else 4)
    else if same_token x (word "typedef") then 7
    else if same_token x (word "struct") then 8
    else if same_token x (word "PyMODINIT_FUNC") then 9 else 10
item_shape _ = 0

abbrev head_class : CHead → ℕ
head_class (head.Plain m k kind parameters) = 10
head_class (head.Wrapper m k) = 1
head_class (head.Initializer name) = 9

abbrev item_class : CItem → ℕ
item_class item.DefineClean = 5
item_class item.IncludePython = 6
item_class item.IncludeSet = 4
item_class item.ViewType = 7
item_class item.RootStruct = 8
item_class item.FormatTest = 1
item_class (item.Prototype kind m k kinds) = 10
item_class (item.Static kind x) = 1
item_class (item.Function f) = head_class f.head
item_class (item.Methods rows) = 2
item_class (item.ModuleDefinition name) = 3

plain_head_shaped : (kind : CType) (m k : ℕ) (between r : List CToken) → item_shape (plain_head_spelling kind m k between ++ r) ≡ 10
plain_head_shaped type.Int m k between r = refl
plain_head_shaped kind m k between r = refl

head_shaped : (h : CHead) (r : List CToken) → item_shape (head_spelling h ++ r) ≡ head_class h
unfolding c_tokens
head_shaped (head.Plain m k kind parameters) r = plain_head_shaped kind m k (listed_spelling parameter_spelling parameters) r
head_shaped (head.Wrapper m k) r = refl
head_shaped (head.Initializer name) r = refl

item_shaped : (a : CItem) → item_shape (spelling a) ≡ item_class a
unfolding spelling
item_shaped item.DefineClean = refl
item_shaped item.IncludePython = refl
item_shaped item.IncludeSet = refl
item_shaped item.ViewType = refl
item_shaped item.RootStruct = refl
item_shaped item.FormatTest = refl
item_shaped (item.Prototype kind m k kinds) = plain_head_shaped kind m k (listed_spelling type_spelling kinds) (sign ";" ∷ [])
item_shaped (item.Static type.Int x) = refl
item_shaped (item.Static type.PySsizeT x) = refl
item_shaped (item.Static type.PyObject x) = refl
item_shaped (item.Function f) = head_shaped f.head (body_spelling f)
item_shaped (item.Methods rows) = refl
item_shaped (item.ModuleDefinition name) = refl

items_differ : (a b : CItem) → nat_eq (item_class a) (item_class b) ≡ false → spelling a ≡ spelling b → ⊥
items_differ a b h e = numbers_differ (item_class a) (item_class b) h (sym (item_shaped a) ∙ (ap item_shape e ∙ item_shaped b))

abbrev is_function : CItem → Bool
is_function (item.Function f) = true
is_function _ = false

static_not_wrapper : (kind : CType) (name : List ℕ) (m k : ℕ) (r : List CToken)
    → word "static" ∷ (type_spelling kind ++ (Word name ∷ sign ";" ∷ [])) ≡ head_spelling (head.Wrapper m k) ++ r → ⊥
unfolding c_tokens
static_not_wrapper type.Int name m k r e = tokens_differ (word "static" ∷ (type_spelling type.Int ++ (Word name ∷ sign ";" ∷ []))) (head_spelling (head.Wrapper m k) ++ r) refl e
static_not_wrapper type.PySsizeT name m k r e = tokens_differ (word "static" ∷ (type_spelling type.PySsizeT ++ (Word name ∷ sign ";" ∷ []))) (head_spelling (head.Wrapper m k) ++ r) refl e
static_not_wrapper type.PyObject name m k r e = tokens_differ (sign ";" ∷ []) (drop 4 (head_spelling (head.Wrapper m k) ++ r)) refl (ap (λ t. drop 4 t) e)

static_not_format : (kind : CType) (name : List ℕ) → word "static" ∷ (type_spelling kind ++ (Word name ∷ sign ";" ∷ [])) ≡ spelling item.FormatTest → ⊥
unfolding spelling
static_not_format type.Int name e = tokens_differ (sign ";" ∷ []) (drop 3 (spelling item.FormatTest)) refl (ap (λ t. drop 3 t) e)
static_not_format type.PySsizeT name e = tokens_differ (word "static" ∷ (type_spelling type.PySsizeT ++ (Word name ∷ sign ";" ∷ []))) (spelling item.FormatTest) refl e
static_not_format type.PyObject name e = tokens_differ (word "static" ∷ (type_spelling type.PyObject ++ (Word name ∷ sign ";" ∷ []))) (spelling item.FormatTest) refl e

format_not_wrapper : (m k : ℕ) (r : List CToken) → spelling item.FormatTest ≡ head_spelling (head.Wrapper m k) ++ r → ⊥
unfolding spelling
format_not_wrapper m k r e = tokens_differ (spelling item.FormatTest) (head_spelling (head.Wrapper m k) ++ r) refl e

head_items_differ : (a : CItem) (h : CHead) (r : List CToken) → nat_eq (item_class a) (head_class h) ≡ false → spelling a ≡ head_spelling h ++ r → ⊥
head_items_differ a h r differ e = numbers_differ (item_class a) (head_class h) differ (sym (item_shaped a) ∙ (ap item_shape e ∙ head_shaped h r))

-- no other item is spelled as a function
function_other : (a : CItem) (h : CHead) (r : List CToken) → is_function a ≡ false → IsItemInForm a → IsHeadInForm h
    → spelling a ≡ head_spelling h ++ (sign "{" ∷ r) → ⊥
unfolding spelling IsItemInForm
function_other (item.Function f) h r other i j e = cc
function_other (item.Prototype kind m k kinds) (head.Plain n l result parameters) r other i j e =
    between_differ kinds parameters [] r
    (plain_head_unique kind result m k n l (listed_spelling type_spelling kinds) (listed_spelling parameter_spelling parameters) (sign ";" ∷ []) (sign "{" ∷ r) i.0 i.1 j.0 j.1 e).3
function_other (item.Static kind x) (head.Wrapper m k) r other i j e = static_not_wrapper kind (place_name x) m k (sign "{" ∷ r) e
function_other item.FormatTest (head.Wrapper m k) r other i j e = format_not_wrapper m k (sign "{" ∷ r) e
function_other a (head.Plain m k kind parameters) r other i j e = head_items_differ a (head.Plain m k kind parameters) (sign "{" ∷ r) refl e
function_other a (head.Wrapper m k) r other i j e = head_items_differ a (head.Wrapper m k) (sign "{" ∷ r) refl e
function_other a (head.Initializer name) r other i j e = head_items_differ a (head.Initializer name) (sign "{" ∷ r) refl e

c_function_unique : (f g : CFunction) → IsFunctionInForm f → IsFunctionInForm g → head_spelling f.head ++ body_spelling f ≡ head_spelling g.head ++ body_spelling g → f ≡ g
c_function_unique f g h i e =
    let heads = head_unique f.head g.head (body_spelling f) (body_spelling g) h.0 i.0 e in
    let bodies = body_unique f g [] [] h i (ap (λ t. t ++ []) heads.1) in
    λ t. record { head = heads.0 t; declarations = bodies.0 t; lines = bodies.1 t }

static_unique : (kind other : CType) (x y : Place) → IsPlaceInForm x → IsPlaceInForm y
    → word "static" ∷ (type_spelling kind ++ (Word (place_name x) ∷ sign ";" ∷ [])) ≡ word "static" ∷ (type_spelling other ++ (Word (place_name y) ∷ sign ";" ∷ []))
    → item.Static kind x ≡ item.Static other y
static_unique kind other x y h i e =
    let kinds = type_unique kind other (Word (place_name x) ∷ sign ";" ∷ []) (Word (place_name y) ∷ sign ";" ∷ []) (ap tail e) in
    let same : x ≡ y = place_unique x y h i (ap first_bytes kinds.1) in
    λ t. item.Static (kinds.0 t) (same t)

prototype_unique : (kind other : CType) (m k n j : ℕ) (ks ls : List CType) → IsNumberInForm m → IsNumberInForm k → IsNumberInForm n → IsNumberInForm j
    → plain_head_spelling kind m k (listed_spelling type_spelling ks) ++ (sign ";" ∷ []) ≡ plain_head_spelling other n j (listed_spelling type_spelling ls) ++ (sign ";" ∷ [])
    → item.Prototype kind m k ks ≡ item.Prototype other n j ls
prototype_unique kind other m k n j ks ls hm hk hn hj e =
    let front = plain_head_unique kind other m k n j (listed_spelling type_spelling ks) (listed_spelling type_spelling ls) (sign ";" ∷ []) (sign ";" ∷ []) hm hk hn hj e in
    let inner = types_unique ks ls (sign ";" ∷ []) (sign ";" ∷ []) front.3 in
    λ t. item.Prototype (front.0 t) (front.1 t) (front.2 t) (inner.0 t)

-- trees in form with one spelling are one tree
pub spelling_unique : (a b : CItem) → IsItemInForm a → IsItemInForm b → spelling a ≡ spelling b → a ≡ b
unfolding spelling IsItemInForm
spelling_unique item.DefineClean item.DefineClean h i e = refl
spelling_unique item.IncludePython item.IncludePython h i e = refl
spelling_unique item.IncludeSet item.IncludeSet h i e = refl
spelling_unique item.ViewType item.ViewType h i e = refl
spelling_unique item.RootStruct item.RootStruct h i e = refl
spelling_unique item.FormatTest item.FormatTest h i e = refl
spelling_unique (item.Prototype kind m k ks) (item.Prototype other n j ls) h i e = prototype_unique kind other m k n j ks ls h.0 h.1 i.0 i.1 e
spelling_unique (item.Static kind x) (item.Static other y) h i e = static_unique kind other x y h i e
spelling_unique (item.Function f) (item.Function g) h i e = ap item.Function (c_function_unique f g h i e)
spelling_unique (item.Methods rows) (item.Methods others) h i e = ap item.Methods (methods_unique rows others h i (ap (λ t. drop 7 t) e))
spelling_unique (item.ModuleDefinition name) (item.ModuleDefinition other) h i e = ap item.ModuleDefinition (string_unique name other (ap (λ t. first_bytes (drop 8 t)) e))
spelling_unique (item.Function f) b h i e = absurd (function_other b f.head _ refl i h.0 (sym e))
spelling_unique a (item.Function g) h i e = absurd (function_other a g.head _ refl h i.0 e)
spelling_unique (item.Static kind x) item.FormatTest h i e = absurd (static_not_format kind (place_name x) e)
spelling_unique item.FormatTest (item.Static kind x) h i e = absurd (static_not_format kind (place_name x) (sym e))
spelling_unique a b h i e = absurd (items_differ a b refl e)

-- a text has one reading
pub reading_unique : (items : List (List CToken)) (trees others : List CItem) (whole all : Bool) → IsReading items trees whole → IsReading items others all → (trees ≡ others) × (whole ≡ all)
unfolding IsReading
reading_unique [] [] [] whole all h i = (refl, h ∙ sym i)
reading_unique [] [] (b ∷ bs) whole all h i = absurd i
reading_unique [] (a ∷ more) others whole all h i = absurd h
reading_unique (tokens ∷ items) [] [] whole all h i = (refl, h.0 ∙ sym i.0)
reading_unique (tokens ∷ items) [] (b ∷ bs) whole all h i = absurd (h.1 b i.0 i.1)
reading_unique (tokens ∷ items) (a ∷ more) [] whole all h i = absurd (i.1 a h.0 h.1)
reading_unique (tokens ∷ items) (a ∷ more) (b ∷ bs) whole all h i =
    let first : a ≡ b = spelling_unique a b h.0 i.0 (h.1 ∙ sym i.1) in
    let rest = reading_unique items more bs whole all h.2 i.2 in
    ((λ t. first t ∷ rest.0 t), rest.1)
