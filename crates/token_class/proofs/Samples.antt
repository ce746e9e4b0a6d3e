-- A token of each class.
use Rattle.std.proofs.Common.{◌≡◌, [], refl}
use Rattle.std.specs.Prelude.{codes}
use Rattle.pyx_lex.specs.declared.token.Token.{Token}
use Rattle.pyx_lex.specs.declared.token.TokenKind.{TokenKind}
use Rattle.pyx_lex.specs.declared.token.TokenKind.TheVariants as kind
use Rattle.token_class.specs.declared.class.TokenClass.{TokenClass}
use Rattle.token_class.specs.declared.class.TokenClass.TheVariants as c
use Rattle.token_class.specs.Classes.{word_class, sign_class, name_class, class_of}

abbrev pub kind_for : TokenClass → TokenKind
kind_for c.False = kind.Word (codes "False")
kind_for c.None = kind.Word (codes "None")
kind_for c.True = kind.Word (codes "True")
kind_for c.And = kind.Word (codes "and")
kind_for c.As = kind.Word (codes "as")
kind_for c.Assert = kind.Word (codes "assert")
kind_for c.Async = kind.Word (codes "async")
kind_for c.Await = kind.Word (codes "await")
kind_for c.Break = kind.Word (codes "break")
kind_for c.Cdef = kind.Word (codes "cdef")
kind_for c.Cimport = kind.Word (codes "cimport")
kind_for c.Class = kind.Word (codes "class")
kind_for c.Const = kind.Word (codes "const")
kind_for c.Continue = kind.Word (codes "continue")
kind_for c.Cpdef = kind.Word (codes "cpdef")
kind_for c.Ctypedef = kind.Word (codes "ctypedef")
kind_for c.Def = kind.Word (codes "def")
kind_for c.Del = kind.Word (codes "del")
kind_for c.Elif = kind.Word (codes "elif")
kind_for c.Else = kind.Word (codes "else")
kind_for c.Except = kind.Word (codes "except")
kind_for c.Finally = kind.Word (codes "finally")
kind_for c.For = kind.Word (codes "for")
kind_for c.From = kind.Word (codes "from")
kind_for c.Gil = kind.Word (codes "gil")
kind_for c.Global = kind.Word (codes "global")
kind_for c.If = kind.Word (codes "if")
kind_for c.Import = kind.Word (codes "import")
kind_for c.In = kind.Word (codes "in")
kind_for c.Include = kind.Word (codes "include")
kind_for c.Is = kind.Word (codes "is")
kind_for c.Lambda = kind.Word (codes "lambda")
kind_for c.Noexcept = kind.Word (codes "noexcept")
kind_for c.Nogil = kind.Word (codes "nogil")
kind_for c.Nonlocal = kind.Word (codes "nonlocal")
kind_for c.Not = kind.Word (codes "not")
kind_for c.Or = kind.Word (codes "or")
kind_for c.Pass = kind.Word (codes "pass")
kind_for c.Public = kind.Word (codes "public")
kind_for c.Raise = kind.Word (codes "raise")
kind_for c.Readonly = kind.Word (codes "readonly")
kind_for c.Return = kind.Word (codes "return")
kind_for c.Try = kind.Word (codes "try")
kind_for c.While = kind.Word (codes "while")
kind_for c.With = kind.Word (codes "with")
kind_for c.Yield = kind.Word (codes "yield")
kind_for c.ShiftLeftAssign = kind.Sign (codes "<<=")
kind_for c.ShiftRightAssign = kind.Sign (codes ">>=")
kind_for c.FloorDivideAssign = kind.Sign (codes "//=")
kind_for c.Equal = kind.Sign (codes "==")
kind_for c.NotEqual = kind.Sign (codes "!=")
kind_for c.LessEqual = kind.Sign (codes "<=")
kind_for c.GreaterEqual = kind.Sign (codes ">=")
kind_for c.ShiftLeft = kind.Sign (codes "<<")
kind_for c.ShiftRight = kind.Sign (codes ">>")
kind_for c.FloorDivide = kind.Sign (codes "//")
kind_for c.PlusAssign = kind.Sign (codes "+=")
kind_for c.MinusAssign = kind.Sign (codes "-=")
kind_for c.StarAssign = kind.Sign (codes "*=")
kind_for c.SlashAssign = kind.Sign (codes "/=")
kind_for c.PercentAssign = kind.Sign (codes "%=")
kind_for c.AmpersandAssign = kind.Sign (codes "&=")
kind_for c.BarAssign = kind.Sign (codes "|=")
kind_for c.CaretAssign = kind.Sign (codes "^=")
kind_for c.Plus = kind.Sign (codes "+")
kind_for c.Minus = kind.Sign (codes "-")
kind_for c.Star = kind.Sign (codes "*")
kind_for c.Slash = kind.Sign (codes "/")
kind_for c.Percent = kind.Sign (codes "%")
kind_for c.Ampersand = kind.Sign (codes "&")
kind_for c.Bar = kind.Sign (codes "|")
kind_for c.Caret = kind.Sign (codes "^")
kind_for c.Tilde = kind.Sign (codes "~")
kind_for c.Less = kind.Sign (codes "<")
kind_for c.Greater = kind.Sign (codes ">")
kind_for c.Assign = kind.Sign (codes "=")
kind_for c.OpenParenthesis = kind.Sign (codes "(")
kind_for c.CloseParenthesis = kind.Sign (codes ")")
kind_for c.OpenBracket = kind.Sign (codes "[")
kind_for c.CloseBracket = kind.Sign (codes "]")
kind_for c.OpenBrace = kind.Sign (codes "{")
kind_for c.CloseBrace = kind.Sign (codes "}")
kind_for c.Comma = kind.Sign (codes ",")
kind_for c.Colon = kind.Sign (codes ":")
kind_for c.Semicolon = kind.Sign (codes ";")
kind_for c.Dot = kind.Sign (codes ".")
kind_for c.QuestionMark = kind.Sign (codes "?")
kind_for c.Signed = kind.Name (codes "signed")
kind_for c.Unsigned = kind.Name (codes "unsigned")
kind_for c.Char = kind.Name (codes "char")
kind_for c.Short = kind.Name (codes "short")
kind_for c.IntWord = kind.Name (codes "int")
kind_for c.Long = kind.Name (codes "long")
kind_for c.PySsizeT = kind.Name (codes "Py_ssize_t")
kind_for c.SizeT = kind.Name (codes "size_t")
kind_for c.Bint = kind.Name (codes "bint")
kind_for c.Void = kind.Name (codes "void")
kind_for c.Name = kind.Name []
kind_for c.Int = kind.Int 0
kind_for c.Str = kind.Str []
kind_for c.Newline = kind.Newline
kind_for c.Indent = kind.Indent
kind_for c.Dedent = kind.Dedent
kind_for c.End = kind.End
kind_for c.Other = kind.Word []

pub class_for : (x : TokenClass) → class_of (kind_for x) ≡ x
unfolding word_class sign_class name_class
class_for = elim [ c.False ↦ refl | c.None ↦ refl | c.True ↦ refl | c.And ↦ refl | c.As ↦ refl | c.Assert ↦ refl | c.Async ↦ refl | c.Await ↦ refl | c.Break ↦ refl | c.Cdef ↦ refl | c.Cimport ↦ refl | c.Class ↦ refl | c.Const ↦ refl | c.Continue ↦ refl | c.Cpdef ↦ refl | c.Ctypedef ↦ refl | c.Def ↦ refl | c.Del ↦ refl | c.Elif ↦ refl | c.Else ↦ refl | c.Except ↦ refl | c.Finally ↦ refl | c.For ↦ refl | c.From ↦ refl | c.Gil ↦ refl | c.Global ↦ refl | c.If ↦ refl | c.Import ↦ refl | c.In ↦ refl | c.Include ↦ refl | c.Is ↦ refl | c.Lambda ↦ refl | c.Noexcept ↦ refl | c.Nogil ↦ refl | c.Nonlocal ↦ refl | c.Not ↦ refl | c.Or ↦ refl | c.Pass ↦ refl | c.Public ↦ refl | c.Raise ↦ refl | c.Readonly ↦ refl | c.Return ↦ refl | c.Try ↦ refl | c.While ↦ refl | c.With ↦ refl | c.Yield ↦ refl | c.ShiftLeftAssign ↦ refl | c.ShiftRightAssign ↦ refl | c.FloorDivideAssign ↦ refl | c.Equal ↦ refl | c.NotEqual ↦ refl | c.LessEqual ↦ refl | c.GreaterEqual ↦ refl | c.ShiftLeft ↦ refl | c.ShiftRight ↦ refl | c.FloorDivide ↦ refl | c.PlusAssign ↦ refl | c.MinusAssign ↦ refl | c.StarAssign ↦ refl | c.SlashAssign ↦ refl | c.PercentAssign ↦ refl | c.AmpersandAssign ↦ refl | c.BarAssign ↦ refl | c.CaretAssign ↦ refl | c.Plus ↦ refl | c.Minus ↦ refl | c.Star ↦ refl | c.Slash ↦ refl | c.Percent ↦ refl | c.Ampersand ↦ refl | c.Bar ↦ refl | c.Caret ↦ refl | c.Tilde ↦ refl | c.Less ↦ refl | c.Greater ↦ refl | c.Assign ↦ refl | c.OpenParenthesis ↦ refl | c.CloseParenthesis ↦ refl | c.OpenBracket ↦ refl | c.CloseBracket ↦ refl | c.OpenBrace ↦ refl | c.CloseBrace ↦ refl | c.Comma ↦ refl | c.Colon ↦ refl | c.Semicolon ↦ refl | c.Dot ↦ refl | c.QuestionMark ↦ refl | c.Signed ↦ refl | c.Unsigned ↦ refl | c.Char ↦ refl | c.Short ↦ refl | c.IntWord ↦ refl | c.Long ↦ refl | c.PySsizeT ↦ refl | c.SizeT ↦ refl | c.Bint ↦ refl | c.Void ↦ refl | c.Name ↦ refl | c.Int ↦ refl | c.Str ↦ refl | c.Newline ↦ refl | c.Indent ↦ refl | c.Dedent ↦ refl | c.End ↦ refl | c.Other ↦ refl ]

abbrev pub sample : TokenClass → Token
sample x = record { kind = kind_for x; span = record { start = 0; end = 0 } }
