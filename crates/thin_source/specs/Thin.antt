-- What a thin file is: one line `def F(P, ..): return X + Y`. The project's own, a small part of the language.
use Rattle.std.specs.Prelude.{◌≢◌, ℕ, ◌<◌, ◌≤◌, Bool, ◌||◌, List, [], ◌∷◌, ◌++◌, length, slice_index, slice_index_or, codes, IsTrue, All, Contains, ◌==◌}
use Rattle.std.specs.Char.{is_ascii_alphabetic, is_ascii_alphanumeric}
use Rattle.cy_mean.specs.declared.ThinFunction.{ThinFunction}

-- the words that name nothing
abbrev pub reserved_words : List (List ℕ)
reserved_words =
    codes "False" ∷ codes "None" ∷ codes "True" ∷ codes "and" ∷ codes "as" ∷
    codes "assert" ∷ codes "async" ∷ codes "await" ∷ codes "break" ∷ codes "cdef" ∷
    codes "cimport" ∷ codes "class" ∷ codes "const" ∷ codes "continue" ∷ codes "cpdef" ∷
    codes "ctypedef" ∷ codes "def" ∷ codes "del" ∷ codes "elif" ∷ codes "else" ∷
    codes "except" ∷ codes "finally" ∷ codes "for" ∷ codes "from" ∷ codes "gil" ∷
    codes "global" ∷ codes "if" ∷ codes "import" ∷ codes "in" ∷ codes "include" ∷
    codes "is" ∷ codes "lambda" ∷ codes "noexcept" ∷ codes "nogil" ∷ codes "nonlocal" ∷
    codes "not" ∷ codes "or" ∷ codes "pass" ∷ codes "public" ∷ codes "raise" ∷
    codes "readonly" ∷ codes "return" ∷ codes "try" ∷ codes "while" ∷ codes "with" ∷
    codes "yield" ∷ []

-- the words that number types are written with
abbrev pub number_words : List (List ℕ)
number_words =
    codes "signed" ∷ codes "unsigned" ∷ codes "char" ∷ codes "short" ∷ codes "int" ∷
    codes "long" ∷ codes "Py_ssize_t" ∷ codes "size_t" ∷ codes "bint" ∷ codes "void" ∷ []

-- a letter of ASCII or `_`
abbrev pub is_name_start : ℕ → Bool
is_name_start byte = is_ascii_alphabetic byte || byte == 95

-- a letter or a digit of ASCII, or `_`
abbrev pub is_name_byte : ℕ → Bool
is_name_byte byte = is_ascii_alphanumeric byte || byte == 95

-- an identifier of ASCII: a letter or `_`, and then letters, digits and `_`
pub record IsIdentifier (name : List ℕ) : Type 0 where
  pub starts : IsTrue (is_name_start (slice_index name 0))
  pub bytes : All (λ byte. IsTrue (is_name_byte byte)) name

-- a name of a function: ASCII, at most 255 bytes, and no reserved word
pub record IsName (name : List ℕ) : Type 0 where
  pub starts : IsTrue (is_name_start (slice_index name 0))
  pub bytes : All (λ byte. IsTrue (is_name_byte byte)) name
  pub short : length name ≤ 255
  pub free : ¬ Contains reserved_words name

-- a name of a parameter: one that is no number word
pub record IsParameterName (name : List ℕ) : Type 0 where
  pub name_is : IsName name
  pub no_number : ¬ Contains number_words name

-- no two places of the list hold the same name
abbrev pub IsDistinct : List (List ℕ) → Type 0
IsDistinct names = (i j : ℕ) → i < j → j < length names → slice_index_or names i [] ≢ slice_index_or names j []

-- 1 to 32 names of parameters that differ
pub record IsParameterList (names : List (List ℕ)) : Type 0 where
  pub parameters : All IsParameterName names
  pub distinct : IsDistinct names
  pub some : 1 ≤ length names
  pub few : length names ≤ 32

-- the names with a comma and one space between them
abbrev pub joined : List (List ℕ) → List ℕ
joined [] = []
joined (name ∷ []) = name
joined (name ∷ next ∷ names) = name ++ (codes ", " ++ joined (next ∷ names))

-- the line of a thin function, with its line feed
abbrev pub thin_text : ThinFunction → List ℕ
thin_text thin =
    codes "def " ++ thin.name ++ codes "(" ++ joined thin.parameters ++ codes "): return " ++ thin.left ++ codes " + " ++ thin.right ++ codes "\n"

-- a function that can stand alone in a thin file
pub record IsThin (thin : ThinFunction) : Type 0 where
  pub name : IsName thin.name
  pub parameters : All IsParameterName thin.parameters
  pub distinct : IsDistinct thin.parameters
  pub some : 1 ≤ length thin.parameters
  pub few : length thin.parameters ≤ 32
  pub left_among : Contains thin.parameters thin.left
  pub right_among : Contains thin.parameters thin.right
