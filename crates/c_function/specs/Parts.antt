-- Parts of functions. The project's own profile of C (ISO/IEC 9899:2011 6.7, 6.9.1).
use Rattle.std.specs.Prelude.{ℕ, List, [], ◌∷◌, ◌++◌, Bool, true, false, not, ◌&&◌, ◌||◌, codes}
use Rattle.std.specs.Str.{bytes_eq}
use Rattle.c_token.specs.CTokens.{CToken, Word, Sign, sign, word}
use Rattle.c_tree.specs.declared.item.InitialValue.{InitialValue}
use Rattle.c_tree.specs.declared.item.InitialValue.TheVariants as initial
use Rattle.c_tree.specs.declared.item.Parameter.{Parameter}
use Rattle.c_tree.specs.declared.name.Variable.{Variable}
use Rattle.c_tree.specs.declared.name.Variable.TheVariants as variable
use Rattle.c_tree.specs.Items.{parameter_spelling, void_or}
use Rattle.c_tree.specs.Names.{listed}

-- `(T p0, ..)`, or `(void)`
abbrev pub parameters_spelling : List Parameter → List CToken
parameters_spelling parameters = sign "(" ∷ (void_or (listed parameter_spelling parameters) ++ (sign ")" ∷ []))

-- a place of the file
abbrev pub is_place : Variable → Bool
is_place (variable.Place x) = true
is_place _ = false

-- what a variable begins with, and `;`
abbrev pub initial_tokens : InitialValue → List CToken
initial_tokens initial.Nothing = sign ";" ∷ []
initial_tokens initial.Zero = sign "=" ∷ word "0" ∷ sign ";" ∷ []
initial_tokens initial.Null = sign "=" ∷ word "NULL" ∷ sign ";" ∷ []
initial_tokens initial.Zeros = sign "=" ∷ sign "{" ∷ word "0" ∷ sign "}" ∷ sign ";" ∷ []

-- a word that a type begins with (ISO/IEC 9899:2011 6.7.2; Python/C API manual)
abbrev pub is_type_word : List ℕ → Bool
is_type_word word =
    (bytes_eq word (codes "signed") || (bytes_eq word (codes "unsigned") || (bytes_eq word (codes "short") || (bytes_eq word (codes "int") || bytes_eq word (codes "long")))))
    || ((bytes_eq word (codes "Py_ssize_t") || (bytes_eq word (codes "PyObject") || bytes_eq word (codes "cyc_view")))
    || (bytes_eq word (codes "PyThreadState") || (bytes_eq word (codes "PyGILState_STATE") || bytes_eq word (codes "PyTypeObject"))))

-- whether `(` stands first
abbrev pub opens : List CToken → Bool
opens (Sign letters ∷ rest) = bytes_eq letters (codes "(")
opens _ = false

-- Whether a declaration begins here: with a type's word, that isn't called.
abbrev pub is_declared : List CToken → Bool
is_declared (Word letters ∷ rest) = is_type_word letters && not (opens rest)
is_declared _ = false
