-- The class of a token by its kind and its text.
use Rattle.std.specs.Prelude.{ℕ, List, [], ◌∷◌, Option, Some, None, if◌then◌else◌, codes, bytes_eq}
use Rattle.pyx_lex.specs.declared.token.TokenKind.{TokenKind}
use Rattle.pyx_lex.specs.declared.token.TokenKind.TheVariants as kind
use Rattle.token_class.specs.declared.class.TokenClass.{TokenClass}
use Rattle.token_class.specs.declared.class.TokenClass.TheVariants as c

-- the class that a table gives to a text
abbrev pub class_among : List ℕ → List (List ℕ × TokenClass) → Option TokenClass
class_among text [] = None
class_among text (row ∷ rows) = if bytes_eq text row.0 then Some row.1 else class_among text rows

abbrev pub or_class : Option TokenClass → TokenClass → TokenClass
or_class (Some class) rest = class
or_class None rest = rest

-- ---- the reserved words, which are the project's own

abbrev pub words_to_await : List (List ℕ × TokenClass)
words_to_await = (codes "False", c.False) ∷ (codes "None", c.None) ∷ (codes "True", c.True) ∷ (codes "and", c.And) ∷ (codes "as", c.As) ∷ (codes "assert", c.Assert) ∷ (codes "async", c.Async) ∷ (codes "await", c.Await) ∷ []

abbrev pub words_to_ctypedef : List (List ℕ × TokenClass)
words_to_ctypedef = (codes "break", c.Break) ∷ (codes "cdef", c.Cdef) ∷ (codes "cimport", c.Cimport) ∷ (codes "class", c.Class) ∷ (codes "const", c.Const) ∷ (codes "continue", c.Continue) ∷ (codes "cpdef", c.Cpdef) ∷ (codes "ctypedef", c.Ctypedef) ∷ []

abbrev pub words_to_from : List (List ℕ × TokenClass)
words_to_from = (codes "def", c.Def) ∷ (codes "del", c.Del) ∷ (codes "elif", c.Elif) ∷ (codes "else", c.Else) ∷ (codes "except", c.Except) ∷ (codes "finally", c.Finally) ∷ (codes "for", c.For) ∷ (codes "from", c.From) ∷ []

abbrev pub words_to_lambda : List (List ℕ × TokenClass)
words_to_lambda = (codes "gil", c.Gil) ∷ (codes "global", c.Global) ∷ (codes "if", c.If) ∷ (codes "import", c.Import) ∷ (codes "in", c.In) ∷ (codes "include", c.Include) ∷ (codes "is", c.Is) ∷ (codes "lambda", c.Lambda) ∷ []

abbrev pub words_to_raise : List (List ℕ × TokenClass)
words_to_raise = (codes "noexcept", c.Noexcept) ∷ (codes "nogil", c.Nogil) ∷ (codes "nonlocal", c.Nonlocal) ∷ (codes "not", c.Not) ∷ (codes "or", c.Or) ∷ (codes "pass", c.Pass) ∷ (codes "public", c.Public) ∷ (codes "raise", c.Raise) ∷ []

abbrev pub words_to_yield : List (List ℕ × TokenClass)
words_to_yield = (codes "readonly", c.Readonly) ∷ (codes "return", c.Return) ∷ (codes "try", c.Try) ∷ (codes "while", c.While) ∷ (codes "with", c.With) ∷ (codes "yield", c.Yield) ∷ []

unfoldable pub word_class : List ℕ → TokenClass
word_class text = or_class (class_among text words_to_await) (or_class (class_among text words_to_ctypedef) (or_class (class_among text words_to_from) (or_class (class_among text words_to_lambda) (or_class (class_among text words_to_raise) (or_class (class_among text words_to_yield) c.Other)))))

-- ---- the operators and delimiters (Python language reference, sections 2.5 and 2.6)

abbrev pub signs_to_greater_equal : List (List ℕ × TokenClass)
signs_to_greater_equal = (codes "<<=", c.ShiftLeftAssign) ∷ (codes ">>=", c.ShiftRightAssign) ∷ (codes "//=", c.FloorDivideAssign) ∷ (codes "==", c.Equal) ∷ (codes "!=", c.NotEqual) ∷ (codes "<=", c.LessEqual) ∷ (codes ">=", c.GreaterEqual) ∷ []

abbrev pub signs_to_slash_assign : List (List ℕ × TokenClass)
signs_to_slash_assign = (codes "<<", c.ShiftLeft) ∷ (codes ">>", c.ShiftRight) ∷ (codes "//", c.FloorDivide) ∷ (codes "+=", c.PlusAssign) ∷ (codes "-=", c.MinusAssign) ∷ (codes "*=", c.StarAssign) ∷ (codes "/=", c.SlashAssign) ∷ []

abbrev pub signs_to_star : List (List ℕ × TokenClass)
signs_to_star = (codes "%=", c.PercentAssign) ∷ (codes "&=", c.AmpersandAssign) ∷ (codes "|=", c.BarAssign) ∷ (codes "^=", c.CaretAssign) ∷ (codes "+", c.Plus) ∷ (codes "-", c.Minus) ∷ (codes "*", c.Star) ∷ []

abbrev pub signs_to_less : List (List ℕ × TokenClass)
signs_to_less = (codes "/", c.Slash) ∷ (codes "%", c.Percent) ∷ (codes "&", c.Ampersand) ∷ (codes "|", c.Bar) ∷ (codes "^", c.Caret) ∷ (codes "~", c.Tilde) ∷ (codes "<", c.Less) ∷ []

abbrev pub signs_to_open_brace : List (List ℕ × TokenClass)
signs_to_open_brace = (codes ">", c.Greater) ∷ (codes "=", c.Assign) ∷ (codes "(", c.OpenParenthesis) ∷ (codes ")", c.CloseParenthesis) ∷ (codes "[", c.OpenBracket) ∷ (codes "]", c.CloseBracket) ∷ (codes "{", c.OpenBrace) ∷ []

abbrev pub signs_to_question_mark : List (List ℕ × TokenClass)
signs_to_question_mark = (codes "}", c.CloseBrace) ∷ (codes ",", c.Comma) ∷ (codes ":", c.Colon) ∷ (codes ";", c.Semicolon) ∷ (codes ".", c.Dot) ∷ (codes "?", c.QuestionMark) ∷ []

unfoldable pub sign_class : List ℕ → TokenClass
sign_class text = or_class (class_among text signs_to_greater_equal) (or_class (class_among text signs_to_slash_assign) (or_class (class_among text signs_to_star) (or_class (class_among text signs_to_less) (or_class (class_among text signs_to_open_brace) (or_class (class_among text signs_to_question_mark) c.Other)))))

-- ---- the words of C number types, `bint` and `void` (Cython documentation, "Language Basics")

abbrev pub number_words_to_int_word : List (List ℕ × TokenClass)
number_words_to_int_word = (codes "signed", c.Signed) ∷ (codes "unsigned", c.Unsigned) ∷ (codes "char", c.Char) ∷ (codes "short", c.Short) ∷ (codes "int", c.IntWord) ∷ []

abbrev pub number_words_to_void : List (List ℕ × TokenClass)
number_words_to_void = (codes "long", c.Long) ∷ (codes "Py_ssize_t", c.PySsizeT) ∷ (codes "size_t", c.SizeT) ∷ (codes "bint", c.Bint) ∷ (codes "void", c.Void) ∷ []

unfoldable pub name_class : List ℕ → TokenClass
name_class text = or_class (class_among text number_words_to_int_word) (or_class (class_among text number_words_to_void) c.Name)

abbrev pub class_of : TokenKind → TokenClass
class_of (kind.Name text) = name_class text
class_of (kind.Word text) = word_class text
class_of (kind.Sign text) = sign_class text
class_of (kind.Int n) = c.Int
class_of (kind.Str text) = c.Str
class_of kind.Newline = c.Newline
class_of kind.Indent = c.Indent
class_of kind.Dedent = c.Dedent
class_of kind.End = c.End
