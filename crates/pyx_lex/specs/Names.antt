-- Identifiers and keywords (Python language reference, section 2.3; Unicode Standard Annex 31).
use Prim.Native.Nat.{ℕ}
use Rattle.std.specs.Prelude.{List, [], ◌∷◌, Bool, false, not, ◌||◌, ◌==◌, nat_lt, length, codes, chars, encode_utf8_all, take_while, bytes_eq}
use Rattle.std.specs.List.{list_any}
use Rattle.unicode_ident.specs.Ident.{is_xid_start, is_xid_continue}
use Rattle.unicode_normalization.specs.Forms.{is_in_form, Nfkc}

-- `_` or an XID_Start character begins a name
abbrev pub starts_name : ℕ → Bool
starts_name c = is_xid_start c || (c == 95)

abbrev pub first_passes : (ℕ → Bool) → List ℕ → Bool
first_passes p [] = false
first_passes p (c ∷ cs) = p c

abbrev pub begins_name : List ℕ → Bool
begins_name text = first_passes starts_name (chars text)

-- whether the first character of a text is an XID_Continue character
abbrev pub begins_with_continue : List ℕ → Bool
begins_with_continue text = first_passes is_xid_continue (chars text)

-- the longest name that a text which begins with a name begins with
abbrev pub name_at : List ℕ → List ℕ
name_at text = encode_utf8_all (take_while is_xid_continue (chars text))

-- the reserved words in their order, which are the project's own
abbrev pub words_to_async : List (List ℕ)
words_to_async = codes "False" ∷ codes "None" ∷ codes "True" ∷ codes "and" ∷ codes "as" ∷ codes "assert" ∷ codes "async" ∷ []

abbrev pub words_to_const : List (List ℕ)
words_to_const = codes "await" ∷ codes "break" ∷ codes "cdef" ∷ codes "cimport" ∷ codes "class" ∷ codes "const" ∷ []

abbrev pub words_to_elif : List (List ℕ)
words_to_elif = codes "continue" ∷ codes "cpdef" ∷ codes "ctypedef" ∷ codes "def" ∷ codes "del" ∷ codes "elif" ∷ []

abbrev pub words_to_gil : List (List ℕ)
words_to_gil = codes "else" ∷ codes "except" ∷ codes "finally" ∷ codes "for" ∷ codes "from" ∷ codes "gil" ∷ []

abbrev pub words_to_is : List (List ℕ)
words_to_is = codes "global" ∷ codes "if" ∷ codes "import" ∷ codes "in" ∷ codes "include" ∷ codes "is" ∷ []

abbrev pub words_to_or : List (List ℕ)
words_to_or = codes "lambda" ∷ codes "noexcept" ∷ codes "nogil" ∷ codes "nonlocal" ∷ codes "not" ∷ codes "or" ∷ []

abbrev pub words_to_try : List (List ℕ)
words_to_try = codes "pass" ∷ codes "public" ∷ codes "raise" ∷ codes "readonly" ∷ codes "return" ∷ codes "try" ∷ []

abbrev pub words_to_yield : List (List ℕ)
words_to_yield = codes "while" ∷ codes "with" ∷ codes "yield" ∷ []

abbrev pub is_among : List ℕ → List (List ℕ) → Bool
is_among name words = list_any (bytes_eq name) words

unfoldable pub is_reserved : List ℕ → Bool
is_reserved name =
    ((is_among name words_to_async || is_among name words_to_const) || (is_among name words_to_elif || is_among name words_to_gil))
    || ((is_among name words_to_is || is_among name words_to_or) || (is_among name words_to_try || is_among name words_to_yield))

-- A name goes wrong where it takes over 255 bytes or isn't in normalization form KC (Unicode Standard Annex 15).
unfoldable pub is_wrong_name : List ℕ → Bool
is_wrong_name name = nat_lt 255 (length name) || not (is_in_form Nfkc (chars name))
