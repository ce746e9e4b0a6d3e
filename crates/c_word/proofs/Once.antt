-- No two variables, places, tables, exceptions or functions in form have one name.
use Rattle.std.proofs.Common.{◌≡◌, ℕ, ◌<◌, ◌≤◌, Bool, true, false, not, ◌&&◌, List, [], ◌∷◌, ◌++◌, Option, Some, None, Result, Ok, Err, length, get_or, refl, sym, ap, ◌∙◌, subst, append_assoc, arith, decimal}
use Rattle.std.specs.Prelude.{nat_eq, if◌then◌else◌, codes, IfOk, IfSome, MatchOption}
use Rattle.std.specs.Bool.{Decides}
use Rattle.std.specs.Char.{is_ascii_digit}
use Rattle.std.specs.List.{AllByRecursion, list_all}
use Rattle.c_token.specs.CTokens.{is_word_byte}
use Rattle.std.specs.Str.{bytes_eq}
use Rattle.std.proofs.lemmas.Bool.{eq-eqb, ne_eqb}
use Rattle.std.proofs.lemmas.Fmt.{decimal_injective, decimal_nonempty}
use Rattle.c_token.specs.declared.exception.Exception.{Exception}
use Rattle.c_token.specs.declared.exception.Exception.TheVariants as exception
use Rattle.c_tree.specs.declared.name.FieldNumber.{FieldNumber}
use Rattle.c_tree.specs.declared.name.FixedParameter.{FixedParameter}
use Rattle.c_tree.specs.declared.name.FixedParameter.TheVariants as fixed
use Rattle.c_tree.specs.declared.name.FunctionName.{FunctionName}
use Rattle.c_tree.specs.declared.name.FunctionName.TheVariants as function
use Rattle.c_tree.specs.declared.name.Numbered.{Numbered}
use Rattle.c_tree.specs.declared.name.Place.{Place}
use Rattle.c_tree.specs.declared.name.Place.TheVariants as place
use Rattle.c_tree.specs.declared.name.Variable.{Variable}
use Rattle.c_tree.specs.declared.name.Variable.TheVariants as variable
use Rattle.c_tree.specs.Names.{fixed_name, function_name, place_name, variable_name}
use Rattle.c_tree.specs.Values.{exception_name}
use Rattle.c_tree.specs.Forms.{IsFunctionName, IsFieldNumber, IsIdentifier, IsNumber, IsNumbered, IsPlace, IsVariable}
use Rattle.c_word.specs.Numbers.{AreDigits, is_identifier, two_numbers}
use Rattle.c_word.proofs.Halves.{decimal_digits}
use Rattle.c_word.proofs.Parts.{field_parts}

-- ---- what tests say

pub equal : (xs ys : List ℕ) (r : Bool) → Decides r (xs ≡ ys) → r ≡ true → ys ≡ xs
equal xs ys r d e = sym (d.0 e)

unequal : (xs ys : List ℕ) (r : Bool) → Decides r (xs ≡ ys) → r ≡ false → ys ≡ xs → ⊥
unequal xs ys r d e same = let yes : r ≡ true = d.1 (sym same) in cc

pub not_equal : (letters word bytes : List ℕ) (r : Bool) → Decides r (bytes ≡ word) → r ≡ false → word ≡ letters → letters ≡ bytes → ⊥
not_equal letters word bytes r d e l same = unequal bytes word r d e (l ∙ same)

bytes_same : (xs : List ℕ) → bytes_eq xs xs ≡ true
bytes_same [] = refl
bytes_same (x ∷ xs) = rw (eq-eqb x x refl) (bytes_same xs)

bytes_differ : (xs ys : List ℕ) → bytes_eq xs ys ≡ false → xs ≡ ys → ⊥
bytes_differ xs ys h e =
    let same : bytes_eq xs ys ≡ true = subst (λ zs. bytes_eq xs zs ≡ true) e (bytes_same xs) in
    cc

numbers_differ : (m n : ℕ) → nat_eq m n ≡ false → m ≡ n → ⊥
numbers_differ m n h e =
    let same : nat_eq m n ≡ true = subst (λ k. nat_eq m k ≡ true) e (eq-eqb m m refl) in
    cc

-- ---- numbers

number_once : (j k : ℕ) → IsNumber j → IsNumber k → decimal j ≡ decimal k → j ≡ k
number_once j k h i e = decimal_injective j k (omega arith) (omega arith) e

digits_split : (xs ys a b : List ℕ) → AreDigits xs → AreDigits ys → xs ++ (95 ∷ a) ≡ ys ++ (95 ∷ b) → (xs ≡ ys) × (a ≡ b)
digits_split [] [] a b h k e = (refl, cc)
digits_split [] (y ∷ ys) a b h k e = let same : 95 ≡ y = cc in absurd (omega arith)
digits_split (x ∷ xs) [] a b h k e = let same : x ≡ 95 = cc in absurd (omega arith)
digits_split (x ∷ xs) (y ∷ ys) a b h k e =
    let more : xs ++ (95 ∷ a) ≡ ys ++ (95 ∷ b) = cc in
    let same : x ≡ y = cc in
    let rest = digits_split xs ys a b h.1 k.1 more in
    ((λ i. same i ∷ rest.0 i), rest.1)

numbers_once : (m k n j : ℕ) → IsNumber m → IsNumber k → IsNumber n → IsNumber j → two_numbers m k ≡ two_numbers n j → (m ≡ n) × (k ≡ j)
numbers_once m k n j hm hk hn hj e =
    let parts = digits_split (decimal m) (decimal n) (decimal k) (decimal j) (decimal_digits m (omega arith)) (decimal_digits n (omega arith)) e in
    (number_once m n hm hn parts.0, number_once k j hk hj parts.1)

numbered_once : (m n : Numbered) → IsNumbered m → IsNumbered n → two_numbers m.module m.index ≡ two_numbers n.module n.index → m ≡ n
numbered_once m n h i e =
    let same = numbers_once m.module m.index n.module n.index h.0 h.1 i.0 i.1 e in
    λ t. record { «module» = same.0 t; index = same.1 t }

field_once : (letters : List ℕ) (f g : FieldNumber) → IsFieldNumber f → IsFieldNumber g
    → (letters ++ two_numbers f.class.module f.class.index) ++ 95 ∷ decimal f.field ≡ letters ++ (decimal g.class.module ++ 95 ∷ two_numbers g.class.index g.field) → f ≡ g
field_once letters f g h i e =
    let rest = field_parts letters (decimal g.class.module ++ 95 ∷ two_numbers g.class.index g.field) f.class.module f.class.index f.field e in
    let parts = digits_split (decimal f.class.module) (decimal g.class.module) (two_numbers f.class.index f.field) (two_numbers g.class.index g.field) (decimal_digits f.class.module (omega (arith, h.0.0))) (decimal_digits g.class.module (omega (arith, i.0.0))) rest in
    let first = number_once f.class.module g.class.module h.0.0 i.0.0 parts.0 in
    let more = numbers_once f.class.index f.field g.class.index g.field h.0.1 h.1 i.0.1 i.1 parts.1 in
    λ t. record { class = record { «module» = first t; index = more.0 t }; field = more.1 t }

field_whole : (letters : List ℕ) (g : FieldNumber)
    → (letters ++ two_numbers g.class.module g.class.index) ++ 95 ∷ decimal g.field ≡ letters ++ (decimal g.class.module ++ 95 ∷ two_numbers g.class.index g.field)
field_whole letters g =
    append_assoc letters (two_numbers g.class.module g.class.index) (95 ∷ decimal g.field)
    ∙ ap (λ (t : List ℕ). letters ++ t) (append_assoc (decimal g.class.module) (95 ∷ decimal g.class.index) (95 ∷ decimal g.field))

first_digit : (ds : List ℕ) → 0 < length ds → AreDigits ds → get_or ds 0 0 ≤ 57
first_digit [] h k = absurd (omega arith)
first_digit (d ∷ ds) h k = k.0.1

digit_not : (j c : ℕ) → IsNumber j → 57 < c → nat_eq (get_or (decimal j) 0 0) c ≡ false
digit_not j c h k =
    let digit = first_digit (decimal j) (decimal_nonempty j (omega arith)) (decimal_digits j (omega arith)) in
    ne_eqb (get_or (decimal j) 0 0) c (λ e. omega arith)

-- ---- names

pub fixed_once : (x y : FixedParameter) → fixed_name x ≡ fixed_name y → x ≡ y
fixed_once fixed.SelfObject fixed.SelfObject e = refl
fixed_once fixed.Arguments fixed.Arguments e = refl
fixed_once fixed.ArgumentCount fixed.ArgumentCount e = refl
fixed_once fixed.Type fixed.Type e = refl
fixed_once fixed.Keywords fixed.Keywords e = refl
fixed_once fixed.Key fixed.Key e = refl
fixed_once fixed.Value fixed.Value e = refl
fixed_once fixed.Closure fixed.Closure e = refl
fixed_once x y e = absurd (bytes_differ (fixed_name x) (fixed_name y) refl e)

pub place_once : (x y : Place) → IsPlace x → IsPlace y → place_name x ≡ place_name y → x ≡ y
place_once place.Module place.Module h i e = refl
place_once place.Dictionary place.Dictionary h i e = refl
place_once place.Builtins place.Builtins h i e = refl
place_once place.Ready place.Ready h i e = refl
place_once (place.Constant j) (place.Constant k) h i e = ap place.Constant (number_once j k h i cc)
place_once (place.Global j) (place.Global k) h i e = ap place.Global (number_once j k h i cc)
place_once x y h i e = absurd (bytes_differ (place_name x) (place_name y) refl e)

-- the kind of a variable, and that of a name, by its first bytes
abbrev kind : Variable → ℕ
kind (variable.Parameter j) = 1
kind (variable.Local j) = 2
kind (variable.Temporary j) = 3
kind variable.Returned = 4
kind (variable.Fixed x) = 5
kind (variable.Place x) = 6

abbrev class : List ℕ → ℕ
class [] = 0
class (b ∷ more) =
    if nat_eq b 112 then 1 else
    if nat_eq b 118 then (if nat_eq (get_or more 0 0) 97 then 5 else 2) else
    if nat_eq b 116 then (if nat_eq (get_or more 0 0) 121 then 5 else 3) else
    if nat_eq b 114 then 4 else
    if nat_eq b 99 then (if nat_eq (get_or more 0 0) 108 then 5 else 6) else 5

variable_class : (x : Variable) → IsVariable x → class (variable_name x) ≡ kind x
variable_class (variable.Parameter j) h = refl
variable_class (variable.Local j) h = ap (λ (t : Bool). if t then 5 else 2) (digit_not j 97 h (omega arith))
variable_class (variable.Temporary j) h = ap (λ (t : Bool). if t then 5 else 3) (digit_not j 121 h (omega arith))
variable_class variable.Returned h = refl
variable_class (variable.Fixed fixed.SelfObject) h = refl
variable_class (variable.Fixed fixed.Arguments) h = refl
variable_class (variable.Fixed fixed.ArgumentCount) h = refl
variable_class (variable.Fixed fixed.Type) h = refl
variable_class (variable.Fixed fixed.Keywords) h = refl
variable_class (variable.Fixed fixed.Key) h = refl
variable_class (variable.Fixed fixed.Value) h = refl
variable_class (variable.Fixed fixed.Closure) h = refl
variable_class (variable.Place place.Module) h = refl
variable_class (variable.Place place.Dictionary) h = refl
variable_class (variable.Place place.Builtins) h = refl
variable_class (variable.Place place.Ready) h = refl
variable_class (variable.Place (place.Constant j)) h = refl
variable_class (variable.Place (place.Global j)) h = refl

pub variable_once : (x y : Variable) → IsVariable x → IsVariable y → variable_name x ≡ variable_name y → x ≡ y
variable_once (variable.Parameter j) (variable.Parameter k) h i e = ap variable.Parameter (number_once j k h i cc)
variable_once (variable.Local j) (variable.Local k) h i e = ap variable.Local (number_once j k h i cc)
variable_once (variable.Temporary j) (variable.Temporary k) h i e = ap variable.Temporary (number_once j k h i cc)
variable_once variable.Returned variable.Returned h i e = refl
variable_once (variable.Fixed x) (variable.Fixed y) h i e = ap variable.Fixed (fixed_once x y e)
variable_once (variable.Place x) (variable.Place y) h i e = ap variable.Place (place_once x y h i e)
variable_once x y h i e = absurd (numbers_differ (kind x) (kind y) refl (sym (variable_class x h) ∙ (ap class e ∙ variable_class y i)))

pub exception_once : (x y : Exception) → exception_name x ≡ exception_name y → x ≡ y
exception_once exception.BaseException exception.BaseException e = refl
exception_once exception.TypeError exception.TypeError e = refl
exception_once exception.NotImplementedError exception.NotImplementedError e = refl
exception_once exception.OverflowError exception.OverflowError e = refl
exception_once exception.ZeroDivisionError exception.ZeroDivisionError e = refl
exception_once exception.ValueError exception.ValueError e = refl
exception_once exception.IndexError exception.IndexError e = refl
exception_once exception.AttributeError exception.AttributeError e = refl
exception_once exception.SystemError exception.SystemError e = refl
exception_once exception.NameError exception.NameError e = refl
exception_once exception.UnboundLocalError exception.UnboundLocalError e = refl
exception_once x y e = absurd (bytes_differ (exception_name x) (exception_name y) refl e)

pub function_once : (f g : FunctionName) → IsFunctionName f → IsFunctionName g → function_name f ≡ function_name g → f ≡ g
function_once (function.Plain m) (function.Plain n) h i e = ap function.Plain (numbered_once m n h i cc)
function_once (function.Wrapper m) (function.Wrapper n) h i e = ap function.Wrapper (numbered_once m n h i cc)
function_once (function.Overridable m) (function.Overridable n) h i e = ap function.Overridable (numbered_once m n h i cc)
function_once (function.New m) (function.New n) h i e = ap function.New (numbered_once m n h i cc)
function_once (function.Init m) (function.Init n) h i e = ap function.Init (numbered_once m n h i cc)
function_once (function.Dealloc m) (function.Dealloc n) h i e = ap function.Dealloc (numbered_once m n h i cc)
function_once (function.Len m) (function.Len n) h i e = ap function.Len (numbered_once m n h i cc)
function_once (function.Item m) (function.Item n) h i e = ap function.Item (numbered_once m n h i cc)
function_once (function.Has m) (function.Has n) h i e = ap function.Has (numbered_once m n h i cc)
function_once (function.Getter f) (function.Getter g) h i e =
    ap function.Getter (field_once (codes "cyc_get_") f g h i (e ∙ field_whole (codes "cyc_get_") g))
function_once (function.Setter f) (function.Setter g) h i e =
    ap function.Setter (field_once (codes "cyc_set_") f g h i (e ∙ field_whole (codes "cyc_set_") g))
function_once function.Body function.Body h i e = refl
function_once (function.Initializer a) (function.Initializer b) h i e = ap function.Initializer cc
function_once f g h i e = absurd (bytes_differ (function_name f) (function_name g) refl e)

bytes_are : (xs : List ℕ) → list_all is_word_byte xs ≡ true → AllByRecursion (λ b. is_word_byte b ≡ true) xs
bytes_are [] h = tt
bytes_are (x ∷ xs) h = go (is_word_byte x) (list_all is_word_byte xs) refl refl h (bytes_are xs)
  where
    go : (a b : Bool) → is_word_byte x ≡ a → list_all is_word_byte xs ≡ b → (a && b) ≡ true → (list_all is_word_byte xs ≡ true → AllByRecursion (λ c. is_word_byte c ≡ true) xs)
        → (is_word_byte x ≡ true) × AllByRecursion (λ c. is_word_byte c ≡ true) xs
    go true true e f k more = (e, more f)
    go true false e f k more = cc
    go false b e f k more = cc

bytes_test : (xs : List ℕ) → AllByRecursion (λ b. is_word_byte b ≡ true) xs → list_all is_word_byte xs ≡ true
bytes_test [] h = refl
bytes_test (x ∷ xs) h = rw h.0 (bytes_test xs h.1)

pub identifier_is : (bytes : List ℕ) → is_identifier bytes ≡ true → IsIdentifier bytes
identifier_is [] h = cc
identifier_is (x ∷ xs) h = go (is_ascii_digit x) (list_all is_word_byte (x ∷ xs)) refl refl h
  where
    go : (a b : Bool) → is_ascii_digit x ≡ a → list_all is_word_byte (x ∷ xs) ≡ b → (not a && b) ≡ true → (is_ascii_digit x ≡ false) × AllByRecursion (λ c. is_word_byte c ≡ true) (x ∷ xs)
    go false true e f k = (e, bytes_are (x ∷ xs) f)
    go false false e f k = cc
    go true b e f k = cc

pub identifier_test : (bytes : List ℕ) → IsIdentifier bytes → is_identifier bytes ≡ true
identifier_test [] h = absurd h
identifier_test (x ∷ xs) h = ap (λ (t : Bool). not t && list_all is_word_byte (x ∷ xs)) h.0 ∙ bytes_test (x ∷ xs) h.1

-- a name behind `PyInit_` is that of one function alone
initializer_only : (f : FunctionName) (name : List ℕ) → IsFunctionName f → function_name f ≡ codes "PyInit_" ++ name → IsIdentifier name
initializer_only (function.Initializer a) name h e = let same : a ≡ name = cc in subst IsIdentifier same h
initializer_only f name h e = absurd (bytes_differ (function_name f) (codes "PyInit_" ++ name) refl e)

pub initializer_some : {E : Type 0} (r : Result (Option FunctionName) E) (name bytes : List ℕ) → bytes ≡ codes "PyInit_" ++ name
    → IfOk r (λ found. MatchOption found (¬ (IsIdentifier name)) (λ f. (f ≡ function.Initializer name) × IsIdentifier name))
    → IfOk r (λ found. IfSome found (λ f. IsFunctionName f × (function_name f ≡ bytes)))
initializer_some (Err x) name bytes e h = tt
initializer_some (Ok None) name bytes e h = tt
initializer_some (Ok (Some f)) name bytes e h = (subst IsFunctionName (sym h.0) h.1, ap function_name h.0 ∙ sym e)

pub initializer_every : {E : Type 0} (r : Result (Option FunctionName) E) (name bytes : List ℕ) → bytes ≡ codes "PyInit_" ++ name
    → IfOk r (λ found. MatchOption found (¬ (IsIdentifier name)) (λ f. (f ≡ function.Initializer name) × IsIdentifier name))
    → IfOk r (λ found. (f : FunctionName) → IsFunctionName f → function_name f ≡ bytes → found ≡ Some f)
initializer_every (Err x) name bytes e h = tt
initializer_every (Ok None) name bytes e h = λ f form same. absurd (h (initializer_only f name form (same ∙ e)))
initializer_every (Ok (Some g)) name bytes e h = λ f form same.
    ap Some (function_once g f (subst IsFunctionName (sym h.0) h.1) form (ap function_name h.0 ∙ (sym e ∙ sym same)))
