-- How operands begin.
use Rattle.std.proofs.Common.{◌≡◌, ℕ, ◌+◌, ◌%◌, ◌<◌, ◌≤◌, ◌^◌, Bool, true, false, ◌⊎◌, inl, inr, List, [], ◌∷◌, ◌++◌, Option, Some, refl, sym, ap, ◌∙◌, arith}
use Rattle.std.specs.Prelude.{⊤, pos, negsuc, ◌≤ℤ◌, decimal, codes, slice_get, nat_lt}
use Rattle.std.proofs.lemmas.Grind.{common_steps}
use Rattle.std.proofs.lemmas.Int.{ints}
use Rattle.std.proofs.lemmas.Fmt.{decimal_by_steps}
use Rattle.std.specs.Char.{is_ascii_digit}
use Rattle.std.specs.Str.{bytes_eq}
use Rattle.c_token.specs.CTokens.{CToken, Character, HeaderName, LineEnd, Other, Sign, Str, Word, word, sign, c_tokens, tokens_from}
use Rattle.c_token.specs.declared.exception.Exception.{Exception}
use Rattle.c_token.specs.declared.exception.Exception.TheVariants as exception
use Rattle.c_tree.specs.declared.name.FixedParameter.TheVariants as fixed
use Rattle.c_tree.specs.declared.name.Numbered.{Numbered}
use Rattle.c_tree.specs.declared.name.Place.TheVariants as place
use Rattle.c_tree.specs.declared.name.Variable.{Variable}
use Rattle.c_tree.specs.declared.name.Variable.TheVariants as variable
use Rattle.c_tree.specs.declared.value.CValue.{CValue}
use Rattle.c_tree.specs.declared.value.CValue.TheVariants as value
use Rattle.c_tree.specs.declared.value.Literal.{Literal}
use Rattle.c_tree.specs.declared.value.Literal.TheVariants as literal
use Rattle.c_tree.specs.Forms.{IsLiteral, IsValue}
use Rattle.c_tree.specs.Names.{name_token, variable_name}
use Rattle.c_tree.specs.Values.{exception_name, literal_spelling, value_spelling}
use Rattle.c_input.specs.Addresses.{IsAddress, IsStored}
use Rattle.c_input.specs.Literals.{IsNegative}
use Rattle.c_input.proofs.Fixed.{cast_spelled, definition_spelled}
use Rattle.c_input.proofs.Sides.{negative_spelled}
use Rattle.c_operand.proofs.Tokens.{letters_of, tokens_differ}
use Rattle.c_operand.specs.Values.{begins_number, object_word, IsBracketed, IsObject, IsPlainLiteral, IsWorded}

-- ---- words

pub object_words : (v : CValue) → IsObject v → value_spelling v ≡ Word (object_word v) ∷ []
unfolding c_tokens tokens_from
object_words value.Null h = refl
object_words value.NoneObject h = refl
object_words value.TrueObject h = refl
object_words value.FalseObject h = refl
object_words (value.Exception e) h = refl
object_words (value.Variable x) h = absurd h
object_words (value.Argument j) h = absurd h
object_words (value.Literal l) h = absurd h
object_words (value.ClassObject n) h = absurd h
object_words (value.TypeAddress n) h = absurd h
object_words value.Definition h = absurd h

-- names of variables begin with small letters, and those of objects don't
abbrev pub begins_small : List ℕ → Bool
begins_small [] = false
begins_small (first ∷ more) = nat_lt 96 first

pub variable_small : (x : Variable) → begins_small (variable_name x) ≡ true
variable_small (variable.Parameter j) = refl
variable_small (variable.Local j) = refl
variable_small (variable.Temporary j) = refl
variable_small variable.Returned = refl
variable_small (variable.Fixed fixed.SelfObject) = refl
variable_small (variable.Fixed fixed.Arguments) = refl
variable_small (variable.Fixed fixed.ArgumentCount) = refl
variable_small (variable.Fixed fixed.Type) = refl
variable_small (variable.Fixed fixed.Keywords) = refl
variable_small (variable.Fixed fixed.Key) = refl
variable_small (variable.Fixed fixed.Value) = refl
variable_small (variable.Fixed fixed.Closure) = refl
variable_small (variable.Place place.Module) = refl
variable_small (variable.Place place.Dictionary) = refl
variable_small (variable.Place place.Builtins) = refl
variable_small (variable.Place place.Ready) = refl
variable_small (variable.Place (place.Constant j)) = refl
variable_small (variable.Place (place.Global j)) = refl

pub variable_no_number : (x : Variable) → begins_number (variable_name x) ≡ false
variable_no_number (variable.Parameter j) = refl
variable_no_number (variable.Local j) = refl
variable_no_number (variable.Temporary j) = refl
variable_no_number variable.Returned = refl
variable_no_number (variable.Fixed fixed.SelfObject) = refl
variable_no_number (variable.Fixed fixed.Arguments) = refl
variable_no_number (variable.Fixed fixed.ArgumentCount) = refl
variable_no_number (variable.Fixed fixed.Type) = refl
variable_no_number (variable.Fixed fixed.Keywords) = refl
variable_no_number (variable.Fixed fixed.Key) = refl
variable_no_number (variable.Fixed fixed.Value) = refl
variable_no_number (variable.Fixed fixed.Closure) = refl
variable_no_number (variable.Place place.Module) = refl
variable_no_number (variable.Place place.Dictionary) = refl
variable_no_number (variable.Place place.Builtins) = refl
variable_no_number (variable.Place place.Ready) = refl
variable_no_number (variable.Place (place.Constant j)) = refl
variable_no_number (variable.Place (place.Global j)) = refl

exception_first : (e : Exception) → (begins_small (exception_name e) ≡ false) × (begins_number (exception_name e) ≡ false)
exception_first exception.BaseException = (refl, refl)
exception_first exception.TypeError = (refl, refl)
exception_first exception.NotImplementedError = (refl, refl)
exception_first exception.OverflowError = (refl, refl)
exception_first exception.ZeroDivisionError = (refl, refl)
exception_first exception.ValueError = (refl, refl)
exception_first exception.IndexError = (refl, refl)
exception_first exception.AttributeError = (refl, refl)
exception_first exception.SystemError = (refl, refl)
exception_first exception.NameError = (refl, refl)
exception_first exception.UnboundLocalError = (refl, refl)

pub object_first : (v : CValue) → IsObject v → (begins_small (object_word v) ≡ false) × (begins_number (object_word v) ≡ false)
object_first value.Null h = (refl, refl)
object_first value.NoneObject h = (refl, refl)
object_first value.TrueObject h = (refl, refl)
object_first value.FalseObject h = (refl, refl)
object_first (value.Exception e) h = exception_first e
object_first (value.Variable x) h = absurd h
object_first (value.Argument j) h = absurd h
object_first (value.Literal l) h = absurd h
object_first (value.ClassObject n) h = absurd h
object_first (value.TypeAddress n) h = absurd h
object_first value.Definition h = absurd h

-- digits, of which there is one
abbrev AreDigits : List ℕ → Type 0
AreDigits [] = ⊥
AreDigits (first ∷ more) = (48 ≤ first) × (first ≤ 57)

more_digits : (xs ys : List ℕ) → AreDigits xs → AreDigits (xs ++ ys)
more_digits [] ys h = absurd h
more_digits (x ∷ xs) ys h = h

decimal_digits : (n : ℕ) → n < 2 ^ 64 → AreDigits (decimal n)
decimal_digits n h = decimal_by_steps (λ n ds. AreDigits ds) (λ n small. (omega arith, omega arith)) (λ n ds big front. more_digits ds ((48 + n % 10) ∷ []) front) n h

is_digit : (b : ℕ) → 48 ≤ b → b ≤ 57 → is_ascii_digit b ≡ true
is_digit b h k = grind (arith, common_steps)

digit_first : (front letters : List ℕ) → AreDigits front → begins_number (front ++ letters) ≡ true
digit_first [] letters h = absurd h
digit_first (b ∷ front) letters h = is_digit b h.0 h.1

number_first : (n : ℕ) (letters : List ℕ) → n < 2 ^ 64 → begins_number (decimal n ++ letters) ≡ true
number_first n letters small = digit_first (decimal n) letters (decimal_digits n small)

below : (n m : ℕ) → pos n ≤ℤ pos m → m < 2 ^ 64 → n < 2 ^ 64
below n m h k = omega (arith, ints)

append_nil : (xs : List ℕ) → xs ++ [] ≡ xs
append_nil xs = grind (arith, common_steps)

-- a literal that is one word
pub record IsNumberWord (l : Literal) : Type 0 where
  pub letters : List ℕ
  pub is : literal_spelling l ≡ Word letters ∷ []
  pub number : begins_number letters ≡ true

pub plain_word : (l : Literal) → IsPlainLiteral l → IsNumberWord l
plain_word (literal.Int (pos n)) h =
    record { letters = decimal n; is = refl; number = ap begins_number (sym (append_nil (decimal n))) ∙ number_first n [] (below n _ h.1 (omega arith)) }
plain_word (literal.Unsigned n) h = record { letters = decimal n ++ codes "u"; is = refl; number = number_first n (codes "u") (omega (arith, h)) }
plain_word (literal.Long (pos n)) h = record { letters = decimal n ++ codes "L"; is = refl; number = number_first n (codes "L") (below n _ h.1 (omega arith)) }
plain_word (literal.UnsignedLong n) h = record { letters = decimal n ++ codes "uL"; is = refl; number = number_first n (codes "uL") h }
plain_word (literal.Int (negsuc n)) h = absurd h
plain_word (literal.Long (negsuc n)) h = absurd h

plain_literal : (l : Literal) → IsPlainLiteral l → IsLiteral l
plain_literal (literal.Int (pos n)) h = h
plain_literal (literal.Unsigned n) h = h
plain_literal (literal.Long (pos n)) h = h
plain_literal (literal.UnsignedLong n) h = h
plain_literal (literal.Int (negsuc n)) h = absurd h
plain_literal (literal.Long (negsuc n)) h = absurd h

-- ---- sorts of operands

literal_sorts : (l : Literal) → IsLiteral l → IsNegative l ⊎ IsPlainLiteral l
literal_sorts (literal.Int (pos n)) h = inr h
literal_sorts (literal.Int (negsuc n)) h = inl (h, tt)
literal_sorts (literal.Unsigned n) h = inr h
literal_sorts (literal.Long (pos n)) h = inr h
literal_sorts (literal.Long (negsuc n)) h = inl (h, tt)
literal_sorts (literal.UnsignedLong n) h = inr h

pub sorts : (v : CValue) → IsValue v → IsAddress v ⊎ (IsBracketed v ⊎ IsWorded v)
sorts (value.Variable x) h = inr (inr h)
sorts (value.Argument j) h = inr (inr h)
sorts (value.Literal l) h = inr (literal_sorts l h)
sorts value.Null h = inr (inr tt)
sorts value.NoneObject h = inr (inr tt)
sorts value.TrueObject h = inr (inr tt)
sorts value.FalseObject h = inr (inr tt)
sorts (value.Exception e) h = inr (inr tt)
sorts (value.ClassObject n) h = inr (inl h)
sorts (value.TypeAddress n) h = inl h
sorts value.Definition h = inl tt

pub address_first : (v : CValue) (rest : List CToken) → IsAddress v → slice_get (value_spelling v ++ rest) 0 ≡ Some (sign "&")
address_first (value.TypeAddress n) rest h = refl
address_first value.Definition rest h = ap (λ (t : List CToken). slice_get (t ++ rest) 0) definition_spelled
address_first (value.Variable x) rest h = absurd h
address_first (value.Argument j) rest h = absurd h
address_first (value.Literal l) rest h = absurd h
address_first value.Null rest h = absurd h
address_first value.NoneObject rest h = absurd h
address_first value.TrueObject rest h = absurd h
address_first value.FalseObject rest h = absurd h
address_first (value.Exception e) rest h = absurd h
address_first (value.ClassObject n) rest h = absurd h

pub bracketed_first : (v : CValue) (rest : List CToken) → IsBracketed v → slice_get (value_spelling v ++ rest) 0 ≡ Some (sign "(")
bracketed_first (value.Literal l) rest h = ap (λ (t : List CToken). slice_get (t ++ rest) 0) (negative_spelled l h.1)
bracketed_first (value.ClassObject n) rest h = ap (λ (t : List CToken). slice_get ((t ++ (name_token "cyc_ty_" n ∷ [])) ++ rest) 0) cast_spelled
bracketed_first (value.Variable x) rest h = absurd h
bracketed_first (value.Argument j) rest h = absurd h
bracketed_first value.Null rest h = absurd h
bracketed_first value.NoneObject rest h = absurd h
bracketed_first value.TrueObject rest h = absurd h
bracketed_first value.FalseObject rest h = absurd h
bracketed_first (value.Exception e) rest h = absurd h
bracketed_first (value.TypeAddress n) rest h = absurd h
bracketed_first value.Definition rest h = absurd h

-- what an operand is that begins with a word
pub record HasWord (v : CValue) : Type 0 where
  pub letters : List ℕ
  pub more : List CToken
  pub is : value_spelling v ≡ Word letters ∷ more

pub worded_first : (v : CValue) → IsWorded v → HasWord v
worded_first (value.Variable x) h = record { letters = variable_name x; more = []; is = refl }
worded_first (value.Argument j) h = record { letters = codes "args"; more = sign "[" ∷ Word (decimal j) ∷ sign "]" ∷ []; is = refl }
worded_first (value.Literal l) h = let w = plain_word l h in record { letters = w.letters; more = []; is = w.is }
worded_first value.Null h = record { letters = codes "NULL"; more = []; is = object_words value.Null tt }
worded_first value.NoneObject h = record { letters = codes "Py_None"; more = []; is = object_words value.NoneObject tt }
worded_first value.TrueObject h = record { letters = codes "Py_True"; more = []; is = object_words value.TrueObject tt }
worded_first value.FalseObject h = record { letters = codes "Py_False"; more = []; is = object_words value.FalseObject tt }
worded_first (value.Exception e) h = record { letters = exception_name e; more = []; is = refl }
worded_first (value.ClassObject n) h = absurd h
worded_first (value.TypeAddress n) h = absurd h
worded_first value.Definition h = absurd h

-- ---- second tokens in brackets

pub negative_second : (l : Literal) (rest : List CToken) → IsNegative l → slice_get (literal_spelling l ++ rest) 1 ≡ Some (sign "-")
negative_second l rest h = ap (λ (t : List CToken). slice_get (t ++ rest) 1) (negative_spelled l h.1)

pub class_second : (n : Numbered) (rest : List CToken) → slice_get (value_spelling (value.ClassObject n) ++ rest) 1 ≡ Some (word "PyObject")
class_second n rest = ap (λ (t : List CToken). slice_get ((t ++ (name_token "cyc_ty_" n ∷ [])) ++ rest) 1) cast_spelled

pub two_signs : (old : List CToken) (at : ℕ) (s t : CToken) → bytes_eq (letters_of s) (letters_of t) ≡ false → slice_get old at ≡ Some s → slice_get old at ≡ Some t → ⊥
two_signs old at s t h e f = tokens_differ s t h cc

-- ---- words at the front

wrong : true ≡ false → ⊥
wrong e = cc

pub not_false : {b : Bool} → b ≡ false → b ≡ true → ⊥
not_false e f = wrong (sym f ∙ e)

pub same_front : (old rest : List CToken) (v w : List ℕ) → old ≡ Word v ∷ rest → slice_get old 0 ≡ Some (Word w) → v ≡ w
same_front old rest v w e at = let first : slice_get old 0 ≡ Some (Word v) = ap (λ (t : List CToken). slice_get t 0) e in cc

pub object_value : (v : CValue) → IsObject v → IsValue v
object_value value.Null h = tt
object_value value.NoneObject h = tt
object_value value.TrueObject h = tt
object_value value.FalseObject h = tt
object_value (value.Exception e) h = tt
object_value (value.Variable x) h = absurd h
object_value (value.Argument j) h = absurd h
object_value (value.Literal l) h = absurd h
object_value (value.ClassObject n) h = absurd h
object_value (value.TypeAddress n) h = absurd h
object_value value.Definition h = absurd h

one_word : (v w : List ℕ) (xs ys : List CToken) → Word v ∷ xs ≡ Word w ∷ ys → v ≡ w
one_word v w xs ys e = cc

-- the operand begins with this word
pub record BeginsWith (v : CValue) (w : List ℕ) : Type 0 where
  pub more : List CToken
  pub is : value_spelling v ≡ Word w ∷ more

pub front_word : (v : CValue) (rest old : List CToken) (w : List ℕ) → IsWorded v → old ≡ value_spelling v ++ rest → slice_get old 0 ≡ Some (Word w) → BeginsWith v w
front_word v rest old w h e at =
    let f = worded_first v h in
    let front : old ≡ Word f.letters ∷ (f.more ++ rest) = e ∙ ap (λ (t : List CToken). t ++ rest) f.is in
    let first : slice_get old 0 ≡ Some (Word f.letters) = ap (λ (t : List CToken). slice_get t 0) front in
    let same : f.letters ≡ w = cc in
    record { more = f.more; is = f.is ∙ ap (λ (t : List ℕ). Word t ∷ f.more) same }

pub record IsLiteralOf (v : CValue) : Type 0 where
  pub literal : Literal
  pub is : v ≡ value.Literal literal
  pub form : IsLiteral literal

no_digit : (name w : List ℕ) → begins_number name ≡ false → name ≡ w → begins_number w ≡ true → ⊥
no_digit name w h e b = let same : begins_number name ≡ begins_number w = ap begins_number e in cc

pub number_only : (v : CValue) (w : List ℕ) → IsWorded v → BeginsWith v w → begins_number w ≡ true → IsLiteralOf v
number_only (value.Literal l) w h f b = record { literal = l; is = refl; form = plain_literal l h }
number_only (value.Variable x) w h f b = absurd (no_digit (variable_name x) w (variable_no_number x) (one_word (variable_name x) w _ _ f.is) b)
number_only (value.Argument j) w h f b = absurd (no_digit (codes "args") w refl (one_word (codes "args") w _ _ f.is) b)
number_only value.Null w h f b = absurd (no_digit (codes "NULL") w refl (one_word (codes "NULL") w _ _ (sym (object_words value.Null tt) ∙ f.is)) b)
number_only value.NoneObject w h f b = absurd (no_digit (codes "Py_None") w refl (one_word (codes "Py_None") w _ _ (sym (object_words value.NoneObject tt) ∙ f.is)) b)
number_only value.TrueObject w h f b = absurd (no_digit (codes "Py_True") w refl (one_word (codes "Py_True") w _ _ (sym (object_words value.TrueObject tt) ∙ f.is)) b)
number_only value.FalseObject w h f b = absurd (no_digit (codes "Py_False") w refl (one_word (codes "Py_False") w _ _ (sym (object_words value.FalseObject tt) ∙ f.is)) b)
number_only (value.Exception x) w h f b = absurd (no_digit (exception_name x) w (object_first (value.Exception x) tt).1 (one_word (exception_name x) w _ _ f.is) b)
number_only (value.ClassObject n) w h f b = absurd h
number_only (value.TypeAddress n) w h f b = absurd h
number_only value.Definition w h f b = absurd h

pub no_number : (v : CValue) (w : List ℕ) → IsWorded v → BeginsWith v w → begins_number w ≡ false → IsObject v ⊎ IsStored v
no_number (value.Literal l) w h f b =
    let p = plain_word l h in
    let same : p.letters ≡ w = one_word p.letters w _ _ (sym p.is ∙ f.is) in
    let is : begins_number p.letters ≡ begins_number w = ap begins_number same in
    let number = p.number in
    absurd (wrong cc)
no_number (value.Variable x) w h f b = inr h
no_number (value.Argument j) w h f b = inr h
no_number value.Null w h f b = inl tt
no_number value.NoneObject w h f b = inl tt
no_number value.TrueObject w h f b = inl tt
no_number value.FalseObject w h f b = inl tt
no_number (value.Exception x) w h f b = inl tt
no_number (value.ClassObject n) w h f b = absurd h
no_number (value.TypeAddress n) w h f b = absurd h
no_number value.Definition w h f b = absurd h

pub object_is : (v : CValue) (w : List ℕ) → IsObject v → BeginsWith v w → object_word v ≡ w
object_is v w h f = one_word (object_word v) w _ _ (sym (object_words v h) ∙ f.is)

small_name : (name w : List ℕ) → begins_small name ≡ true → name ≡ w → begins_small w ≡ true
small_name name w h e = ap begins_small (sym e) ∙ h

stored_small : (v : CValue) (w : List ℕ) → IsStored v → BeginsWith v w → begins_small w ≡ true
stored_small (value.Variable x) w h f = small_name (variable_name x) w (variable_small x) (one_word (variable_name x) w _ _ f.is)
stored_small (value.Argument j) w h f = small_name (codes "args") w refl (one_word (codes "args") w _ _ f.is)
stored_small (value.Literal l) w h f = absurd h
stored_small value.Null w h f = absurd h
stored_small value.NoneObject w h f = absurd h
stored_small value.TrueObject w h f = absurd h
stored_small value.FalseObject w h f = absurd h
stored_small (value.Exception x) w h f = absurd h
stored_small (value.ClassObject n) w h f = absurd h
stored_small (value.TypeAddress n) w h f = absurd h
stored_small value.Definition w h f = absurd h

-- no variable has the name of an object
pub stored_no_object : (v o : CValue) (w : List ℕ) → IsStored v → BeginsWith v w → IsObject o → object_word o ≡ w → ⊥
stored_no_object v o w h f k e =
    let small = stored_small v w h f in
    let big = (object_first o k).0 in
    let same : begins_small (object_word o) ≡ begins_small w = ap begins_small e in
    wrong cc

-- ---- first tokens, where the operand stands at the front

pub address_at : (v : CValue) (rest old : List CToken) → IsAddress v → old ≡ value_spelling v ++ rest → slice_get old 0 ≡ Some (sign "&")
address_at v rest old h e = ap (λ (t : List CToken). slice_get t 0) e ∙ address_first v rest h

pub bracketed_at : (v : CValue) (rest old : List CToken) → IsBracketed v → old ≡ value_spelling v ++ rest → slice_get old 0 ≡ Some (sign "(")
bracketed_at v rest old h e = ap (λ (t : List CToken). slice_get t 0) e ∙ bracketed_first v rest h

no_sign : (w letters : List ℕ) (r : Option CToken) → r ≡ Some (Word w) → r ≡ Some (Sign letters) → ⊥
no_sign w letters r e f = cc

-- an operand that begins with a word begins with no sign
pub worded_at : (v : CValue) (rest old : List CToken) (letters : List ℕ) → IsWorded v → old ≡ value_spelling v ++ rest → slice_get old 0 ≡ Some (Sign letters) → ⊥
worded_at v rest old letters h e at =
    let f = worded_first v h in
    let front : old ≡ Word f.letters ∷ (f.more ++ rest) = e ∙ ap (λ (t : List CToken). t ++ rest) f.is in
    no_sign f.letters letters (slice_get old 0) (ap (λ (t : List CToken). slice_get t 0) front) at

-- a word or a sign
abbrev letters_only : CToken → Type 0
letters_only (Word w) = ⊤
letters_only (Sign w) = ⊤
letters_only _ = ⊥

no_string : (t : CToken) (raw : List ℕ) (r : Option CToken) → r ≡ Some t → letters_only t → r ≡ Some (Str raw) → ⊥
no_string (Word w) raw r e h f = cc
no_string (Sign w) raw r e h f = cc
no_string (Str w) raw r e h f = h
no_string (Character w) raw r e h f = h
no_string (HeaderName w) raw r e h f = h
no_string LineEnd raw r e h f = h
no_string (Other w) raw r e h f = h

-- no operand begins with a string
pub value_no_string : (v : CValue) (rest old more : List CToken) (raw : List ℕ) → IsValue v → old ≡ value_spelling v ++ rest → old ≡ Str raw ∷ more → ⊥
value_no_string v rest old more raw form e f = go (sorts v form)
  where
    first : slice_get old 0 ≡ Some (Str raw)
    first = ap (λ (t : List CToken). slice_get t 0) f

    go : IsAddress v ⊎ (IsBracketed v ⊎ IsWorded v) → ⊥
    go (inl h) = no_string (sign "&") raw (slice_get old 0) (address_at v rest old h e) tt first
    go (inr (inl h)) = no_string (sign "(") raw (slice_get old 0) (bracketed_at v rest old h e) tt first
    go (inr (inr h)) =
        let w = worded_first v h in
        no_string (Word w.letters) raw (slice_get old 0) (ap (λ (t : List CToken). slice_get t 0) e ∙ ap (λ (t : List CToken). slice_get (t ++ rest) 0) w.is) tt first

-- no operand begins with `)`
pub value_no_close : (v : CValue) (rest old more : List CToken) → IsValue v → old ≡ value_spelling v ++ rest → old ≡ sign ")" ∷ more → ⊥
value_no_close v rest old more form e f = go (sorts v form)
  where
    first : slice_get old 0 ≡ Some (sign ")")
    first = ap (λ (t : List CToken). slice_get t 0) f

    go : IsAddress v ⊎ (IsBracketed v ⊎ IsWorded v) → ⊥
    go (inl h) = two_signs old 0 (sign "&") (sign ")") refl (address_at v rest old h e) first
    go (inr (inl h)) = two_signs old 0 (sign "(") (sign ")") refl (bracketed_at v rest old h e) first
    go (inr (inr h)) = worded_at v rest old (codes ")") h e first
