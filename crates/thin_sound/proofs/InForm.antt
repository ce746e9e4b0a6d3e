-- The trees that are written for a thin file are trees of the profile.
use Rattle.std.proofs.Common.{◌≡◌, ℕ, zero, suc, ◌+◌, ◌<◌, ◌≤◌, true, false, List, [], ◌∷◌, ◌++◌, length, map, decimal, Option, Some, None, refl, Bool, arith}
use Rattle.std.specs.Prelude.{codes, unwrap_or, All, IsTrue, nat_lt, ◌&&◌}
use Rattle.std.specs.Char.{is_ascii_digit}
use Rattle.std.specs.List.{AllByRecursion, range_with_len}
use Rattle.std.specs.Str.{bytes_eq}
use Rattle.std.proofs.lemmas.Bool.{false≢true}
use Rattle.std.proofs.lemmas.Bool.Decides.{nat_tests}
use Rattle.std.proofs.lemmas.List.Elements.{recursion_from_All}
use Rattle.std.proofs.lemmas.List.Quantifiers.{position-Some}
use Rattle.c_token.specs.CTokens.{is_word_byte}
use Rattle.c_token.specs.Spelled.{AreWordBytes, IsNumberInForm, IsNameInForm}
use Rattle.thin_state.specs.CReading.{IsStringInForm, IsValueInForm, IsLineInForm, IsParameterInForm, IsFunctionInForm, IsMethodInForm, IsItemInForm, IsFileInForm}
use Rattle.c_token.proofs.Tokens.{decimal_name, name_words}
use Rattle.thin_state.specs.declared.Variable.TheVariants as variable
use Rattle.thin_state.specs.declared.CValue.TheVariants as value
use Rattle.thin_state.specs.declared.Comparison.TheVariants as comparison
use Rattle.thin_state.specs.declared.CStmt.TheVariants as stmt
use Rattle.thin_state.specs.declared.Line.TheVariants as line
use Rattle.cy_mean.specs.declared.ThinFunction.{ThinFunction}
use Rattle.cy_mean.specs.Texts.{arity_text}
use Rattle.thin_source.specs.Thin.{IsThin, is_name_start, is_name_byte}
use Rattle.thin_code.specs.ThinC.{object_parameter, sum_function, wrong_count, wrapper_function, number_of, position_of, header_items, module_items, initialiser_function, thin_files}
use Rattle.thin_source.specs.Thin.{IsIdentifier}

-- ---- lists

every : {A : Type 0} (P Q : A → Type 0) → ((x : A) → P x → Q x) → (xs : List A) → AllByRecursion P xs → AllByRecursion Q xs
every P Q step [] h = tt
every P Q step (x ∷ xs) h = (step x h.0, every P Q step xs h.1)

append : {A : Type 0} (P : A → Type 0) (xs ys : List A) → AllByRecursion P xs → AllByRecursion P ys → AllByRecursion P (xs ++ ys)
append P [] ys h k = k
append P (x ∷ xs) ys h k = (h.0, append P xs ys h.1 k)

-- what is made of the numbers of a range
made : {A : Type 0} (P : A → Type 0) (f : ℕ → A) (most : ℕ) → ((j : ℕ) → j < most → P (f j))
    → (first count : ℕ) → first + count ≤ most → AllByRecursion P (map f (range_with_len first count))
made P f most h first zero within = tt
made P f most h first (suc count) within =
    (h first (omega arith), made P f most h (first + 1) count (omega arith))

-- ---- names

-- the bytes of names are the bytes of words
is_word_byte-name : (b : ℕ) → IsTrue (is_name_byte b) → is_word_byte b ≡ true
is_word_byte-name b h = grind (arith, nat_tests)

word_byte_small : (b : ℕ) → is_word_byte b ≡ true → b < 256
word_byte_small b h = grind (arith, nat_tests)

word_bytes : (name : List ℕ) → All (λ byte. IsTrue (is_name_byte byte)) name → AreWordBytes name
word_bytes name h =
    every (λ b. IsTrue (is_name_byte b)) (λ b. is_word_byte b ≡ true) is_word_byte-name name
    (recursion_from_All (λ b. IsTrue (is_name_byte b)) name h)

no_digit-start : (b : ℕ) → IsTrue (is_name_start b) → is_ascii_digit b ≡ false
no_digit-start b h = grind (arith, nat_tests)

identifier_in_form : (name : List ℕ) → IsIdentifier name → IsNameInForm name
identifier_in_form [] identifier = absurd (false≢true identifier.starts)
identifier_in_form (b ∷ more) identifier = (no_digit-start b identifier.starts, word_bytes (b ∷ more) identifier.bytes)

string_in_form : (name : List ℕ) → AreWordBytes name → IsStringInForm name
string_in_form name h = every (λ b. is_word_byte b ≡ true) (λ b. b < 256) word_byte_small name h

abbrev are_small : List ℕ → Bool
are_small [] = true
are_small (b ∷ bytes) = nat_lt b 256 && are_small bytes

small_head : (b : ℕ) (rest : Bool) → (nat_lt b 256 && rest) ≡ true → b < 256
small_head b rest h = grind (arith, nat_tests)

small_tail : (b : ℕ) (rest : Bool) → (nat_lt b 256 && rest) ≡ true → rest ≡ true
small_tail b rest h = grind (arith, nat_tests)

-- a fixed text, by a test of its bytes
by_test : (bytes : List ℕ) → are_small bytes ≡ true → IsStringInForm bytes
by_test [] h = tt
by_test (b ∷ bytes) h = (small_head b (are_small bytes) h, by_test bytes (small_tail b (are_small bytes) h))

-- the text of the exception for a wrong number of arguments
arity_in_form : (name : List ℕ) (count : ℕ) → IsStringInForm name → IsNumberInForm count → IsStringInForm (arity_text name count)
arity_in_form name count h k =
    let Small : ℕ → Type 0 = λ b. b < 256 in
    append Small name (codes "() takes " ++ (decimal count ++ codes " arguments")) h
    (append Small (codes "() takes ") (decimal count ++ codes " arguments") (by_test (codes "() takes ") refl)
    (append Small (decimal count) (codes " arguments") (string_in_form (decimal count) (decimal_name count k)) (by_test (codes " arguments") refl)))

-- ---- numbers of parameters

unwrap_or_below : (found : Option ℕ) (most : ℕ) → 0 < most → ((i : ℕ) → found ≡ Some i → i < most) → unwrap_or found 0 < most
unwrap_or_below None most some h = some
unwrap_or_below (Some i) most some h = h i refl

number_of_below : (name : List ℕ) (parameters : List (List ℕ)) (most : ℕ) → 0 < most → length parameters ≤ most → number_of name parameters < most
number_of_below name parameters most some few =
    unwrap_or_below (position_of name parameters) most some
    (λ i e. let at = position-Some (λ p. bytes_eq p name) parameters i [] e in omega (arith, at.0))

-- ---- trees

sum_in_form : (count left right : ℕ) → count ≤ 32 → left < 32 → right < 32 → IsFunctionInForm (sum_function count left right)
sum_in_form count left right few l r =
    let parameters = made IsParameterInForm object_parameter 32 (λ j h. omega arith) 0 count (omega arith) in
    ((omega arith, omega arith, parameters), (tt, (omega arith, tt)), search arith, tt)

wrapper_in_form : (name : List ℕ) (count : ℕ) → AreWordBytes name → count ≤ 32 → IsFunctionInForm (wrapper_function name count)
wrapper_in_form name count h few =
    let text = arity_in_form name count (string_in_form name h) (omega arith) in
    let arguments = made IsValueInForm value.Argument 32 (λ j h. omega arith) 0 count (omega arith) in
    let test : IsLineInForm (line.Statement (stmt.GotoIf (value.Variable variable.ArgumentCount) comparison.NotEqual (value.Int count) 0)) = (tt, omega arith, omega arith) in
    let error : IsLineInForm (wrong_count name count) = (tt, (tt, (text, tt))) in
    ((omega arith, omega arith), (tt, tt), (test, ((tt, (omega arith, omega arith), arguments), (tt, (omega arith, (error, (tt, tt)))))), tt)

initialiser_in_form : (name : List ℕ) → IsNameInForm name → IsFunctionInForm (initialiser_function name)
initialiser_in_form name h = (h, (tt, (omega arith, (omega arith, tt))), search arith, tt)

header_in_form : (count : ℕ) → AllByRecursion IsItemInForm (header_items count)
unfolding IsItemInForm
header_in_form count = (tt, (tt, (tt, (tt, (tt, ((omega arith, omega arith), tt))))))

module_in_form : (name : List ℕ) (thin : ThinFunction) → IsNameInForm name → IsThin thin → AllByRecursion IsItemInForm (module_items name thin)
unfolding IsItemInForm
module_in_form name thin h is_thin =
    let count = length thin.parameters in
    let own = word_bytes thin.name is_thin.name.bytes in
    let left = number_of_below thin.left thin.parameters 32 (omega arith) is_thin.few in
    let right = number_of_below thin.right thin.parameters 32 (omega arith) is_thin.few in
    let sum = sum_in_form count (number_of thin.left thin.parameters) (number_of thin.right thin.parameters) is_thin.few left right in
    let wrapper = wrapper_in_form thin.name count own is_thin.few in
    let row : IsMethodInForm (record { name = thin.name; «module» = 0; index = 0 }) = (string_in_form thin.name own, omega arith, omega arith) in
    let initialiser = initialiser_in_form name h in
    (tt, (tt, (tt, (tt, (tt, (sum, (wrapper, ((row, tt), (string_in_form name (name_words name h), (initialiser, tt))))))))))

-- both files of a thin function are in form, where the module's name is an identifier
pub thin_in_form : (name : List ℕ) (thin : ThinFunction) → IsIdentifier name → IsThin thin → AllByRecursion IsFileInForm (thin_files name thin)
unfolding IsFileInForm
thin_in_form name thin identifier is_thin =
    (header_in_form (length thin.parameters), (module_in_form name thin (identifier_in_form name identifier) is_thin, tt))
