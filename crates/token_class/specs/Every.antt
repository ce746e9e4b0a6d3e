-- Sets of classes, and tests of every class.
use Rattle.std.specs.Prelude.{Bool, ◌&&◌}
use Rattle.token_class.specs.declared.class.TokenClass.{TokenClass}
use Rattle.token_class.specs.declared.class.TokenClass.TheVariants as c

-- the test holds of every class
abbrev pub every : (TokenClass → Bool) → Bool
every p = p c.False && (p c.None && (p c.True && (p c.And && (p c.As && (p c.Assert && (p c.Async && (p c.Await && (p c.Break && (p c.Cdef && (p c.Cimport && (p c.Class && (p c.Const && (p c.Continue && (p c.Cpdef && (p c.Ctypedef && (p c.Def && (p c.Del && (p c.Elif && (p c.Else && (p c.Except && (p c.Finally && (p c.For && (p c.From && (p c.Gil && (p c.Global && (p c.If && (p c.Import && (p c.In && (p c.Include && (p c.Is && (p c.Lambda && (p c.Noexcept && (p c.Nogil && (p c.Nonlocal && (p c.Not && (p c.Or && (p c.Pass && (p c.Public && (p c.Raise && (p c.Readonly && (p c.Return && (p c.Try && (p c.While && (p c.With && (p c.Yield && (p c.ShiftLeftAssign && (p c.ShiftRightAssign && (p c.FloorDivideAssign && (p c.Equal && (p c.NotEqual && (p c.LessEqual && (p c.GreaterEqual && (p c.ShiftLeft && (p c.ShiftRight && (p c.FloorDivide && (p c.PlusAssign && (p c.MinusAssign && (p c.StarAssign && (p c.SlashAssign && (p c.PercentAssign && (p c.AmpersandAssign && (p c.BarAssign && (p c.CaretAssign && (p c.Plus && (p c.Minus && (p c.Star && (p c.Slash && (p c.Percent && (p c.Ampersand && (p c.Bar && (p c.Caret && (p c.Tilde && (p c.Less && (p c.Greater && (p c.Assign && (p c.OpenParenthesis && (p c.CloseParenthesis && (p c.OpenBracket && (p c.CloseBracket && (p c.OpenBrace && (p c.CloseBrace && (p c.Comma && (p c.Colon && (p c.Semicolon && (p c.Dot && (p c.QuestionMark && (p c.Signed && (p c.Unsigned && (p c.Char && (p c.Short && (p c.IntWord && (p c.Long && (p c.PySsizeT && (p c.SizeT && (p c.Bint && (p c.Void && (p c.Name && (p c.Int && (p c.Str && (p c.Newline && (p c.Indent && (p c.Dedent && (p c.End && (p c.Other))))))))))))))))))))))))))))))))))))))))))))))))))))))))))))))))))))))))))))))))))))))))))))))))))))))))
