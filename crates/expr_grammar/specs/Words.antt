-- Sets of classes: the tokens of the grammar of expressions, and what each level begins with and goes on with.
use Rattle.std.specs.Prelude.{true, false}
use Rattle.token_class.specs.declared.class.TokenClass.TheVariants as c
use Rattle.token_class.specs.Sets.{Classes}

-- NAME; a number word is one too
abbrev pub is_name : Classes
is_name c.Name = true
is_name c.Signed = true
is_name c.Unsigned = true
is_name c.Char = true
is_name c.Short = true
is_name c.IntWord = true
is_name c.Long = true
is_name c.PySsizeT = true
is_name c.SizeT = true
is_name c.Bint = true
is_name c.Void = true
is_name _ = false

-- a NAME that is no number word
abbrev pub is_plain_name : Classes
is_plain_name c.Name = true
is_plain_name _ = false

abbrev pub is_int : Classes
is_int c.Int = true
is_int _ = false

abbrev pub is_str : Classes
is_str c.Str = true
is_str _ = false

abbrev pub is_none : Classes
is_none c.None = true
is_none _ = false

abbrev pub is_true : Classes
is_true c.True = true
is_true _ = false

abbrev pub is_false : Classes
is_false c.False = true
is_false _ = false

abbrev pub is_if : Classes
is_if c.If = true
is_if _ = false

abbrev pub is_else : Classes
is_else c.Else = true
is_else _ = false

abbrev pub is_or : Classes
is_or c.Or = true
is_or _ = false

abbrev pub is_and : Classes
is_and c.And = true
is_and _ = false

abbrev pub is_not : Classes
is_not c.Not = true
is_not _ = false

abbrev pub is_is : Classes
is_is c.Is = true
is_is _ = false

abbrev pub is_in : Classes
is_in c.In = true
is_in _ = false

abbrev pub is_const : Classes
is_const c.Const = true
is_const _ = false

abbrev pub is_dot : Classes
is_dot c.Dot = true
is_dot _ = false

abbrev pub is_comma : Classes
is_comma c.Comma = true
is_comma _ = false

abbrev pub is_colon : Classes
is_colon c.Colon = true
is_colon _ = false

abbrev pub is_question_mark : Classes
is_question_mark c.QuestionMark = true
is_question_mark _ = false

abbrev pub is_less : Classes
is_less c.Less = true
is_less _ = false

abbrev pub is_greater : Classes
is_greater c.Greater = true
is_greater _ = false

abbrev pub is_open_parenthesis : Classes
is_open_parenthesis c.OpenParenthesis = true
is_open_parenthesis _ = false

abbrev pub is_close_parenthesis : Classes
is_close_parenthesis c.CloseParenthesis = true
is_close_parenthesis _ = false

abbrev pub is_open_bracket : Classes
is_open_bracket c.OpenBracket = true
is_open_bracket _ = false

abbrev pub is_close_bracket : Classes
is_close_bracket c.CloseBracket = true
is_close_bracket _ = false

abbrev pub is_open_brace : Classes
is_open_brace c.OpenBrace = true
is_open_brace _ = false

abbrev pub is_close_brace : Classes
is_close_brace c.CloseBrace = true
is_close_brace _ = false

abbrev pub is_bar : Classes
is_bar c.Bar = true
is_bar _ = false

abbrev pub is_caret : Classes
is_caret c.Caret = true
is_caret _ = false

abbrev pub is_ampersand : Classes
is_ampersand c.Ampersand = true
is_ampersand _ = false

abbrev pub is_shift : Classes
is_shift c.ShiftLeft = true
is_shift c.ShiftRight = true
is_shift _ = false

abbrev pub is_sum : Classes
is_sum c.Plus = true
is_sum c.Minus = true
is_sum _ = false

abbrev pub is_term : Classes
is_term c.Star = true
is_term c.Slash = true
is_term c.FloorDivide = true
is_term c.Percent = true
is_term _ = false

abbrev pub is_prefix : Classes
is_prefix c.Plus = true
is_prefix c.Minus = true
is_prefix c.Tilde = true
is_prefix _ = false

-- the comparison operators of one token, but `in` and `is`
abbrev pub is_order : Classes
is_order c.Less = true
is_order c.LessEqual = true
is_order c.Equal = true
is_order c.NotEqual = true
is_order c.Greater = true
is_order c.GreaterEqual = true
is_order _ = false

abbrev pub is_signed : Classes
is_signed c.Signed = true
is_signed _ = false

abbrev pub is_unsigned : Classes
is_unsigned c.Unsigned = true
is_unsigned _ = false

abbrev pub is_char : Classes
is_char c.Char = true
is_char _ = false

abbrev pub is_short : Classes
is_short c.Short = true
is_short _ = false

abbrev pub is_int_word : Classes
is_int_word c.IntWord = true
is_int_word _ = false

abbrev pub is_long : Classes
is_long c.Long = true
is_long _ = false

-- the number words that are a type by themselves alone
abbrev pub is_lone : Classes
is_lone c.PySsizeT = true
is_lone c.SizeT = true
is_lone c.Bint = true
is_lone c.Void = true
is_lone _ = false

-- what a postfix begins with
abbrev pub begins_postfix : Classes
begins_postfix c.Name = true
begins_postfix c.Signed = true
begins_postfix c.Unsigned = true
begins_postfix c.Char = true
begins_postfix c.Short = true
begins_postfix c.IntWord = true
begins_postfix c.Long = true
begins_postfix c.PySsizeT = true
begins_postfix c.SizeT = true
begins_postfix c.Bint = true
begins_postfix c.Void = true
begins_postfix c.Int = true
begins_postfix c.Str = true
begins_postfix c.None = true
begins_postfix c.True = true
begins_postfix c.False = true
begins_postfix c.OpenParenthesis = true
begins_postfix c.OpenBracket = true
begins_postfix c.OpenBrace = true
begins_postfix _ = false

abbrev pub begins_unary : Classes
begins_unary c.Name = true
begins_unary c.Signed = true
begins_unary c.Unsigned = true
begins_unary c.Char = true
begins_unary c.Short = true
begins_unary c.IntWord = true
begins_unary c.Long = true
begins_unary c.PySsizeT = true
begins_unary c.SizeT = true
begins_unary c.Bint = true
begins_unary c.Void = true
begins_unary c.Int = true
begins_unary c.Str = true
begins_unary c.None = true
begins_unary c.True = true
begins_unary c.False = true
begins_unary c.OpenParenthesis = true
begins_unary c.OpenBracket = true
begins_unary c.OpenBrace = true
begins_unary c.Plus = true
begins_unary c.Minus = true
begins_unary c.Tilde = true
begins_unary c.Less = true
begins_unary _ = false

-- what an expression begins with
abbrev pub begins_expr : Classes
begins_expr c.Name = true
begins_expr c.Signed = true
begins_expr c.Unsigned = true
begins_expr c.Char = true
begins_expr c.Short = true
begins_expr c.IntWord = true
begins_expr c.Long = true
begins_expr c.PySsizeT = true
begins_expr c.SizeT = true
begins_expr c.Bint = true
begins_expr c.Void = true
begins_expr c.Int = true
begins_expr c.Str = true
begins_expr c.None = true
begins_expr c.True = true
begins_expr c.False = true
begins_expr c.OpenParenthesis = true
begins_expr c.OpenBracket = true
begins_expr c.OpenBrace = true
begins_expr c.Plus = true
begins_expr c.Minus = true
begins_expr c.Tilde = true
begins_expr c.Less = true
begins_expr c.Not = true
begins_expr _ = false

-- what a part of a postfix begins with
abbrev pub trails : Classes
trails c.Dot = true
trails c.OpenParenthesis = true
trails c.OpenBracket = true
trails _ = false

abbrev pub begins_index : Classes
begins_index c.Name = true
begins_index c.Signed = true
begins_index c.Unsigned = true
begins_index c.Char = true
begins_index c.Short = true
begins_index c.IntWord = true
begins_index c.Long = true
begins_index c.PySsizeT = true
begins_index c.SizeT = true
begins_index c.Bint = true
begins_index c.Void = true
begins_index c.Int = true
begins_index c.Str = true
begins_index c.None = true
begins_index c.True = true
begins_index c.False = true
begins_index c.OpenParenthesis = true
begins_index c.OpenBracket = true
begins_index c.OpenBrace = true
begins_index c.Plus = true
begins_index c.Minus = true
begins_index c.Tilde = true
begins_index c.Less = true
begins_index c.Not = true
begins_index c.Colon = true
begins_index _ = false

-- what opens something at the beginning of an expression
abbrev pub opens : Classes
opens c.OpenParenthesis = true
opens c.OpenBracket = true
opens c.OpenBrace = true
opens c.Plus = true
opens c.Minus = true
opens c.Tilde = true
opens c.Less = true
opens c.Not = true
opens _ = false

-- what a spelling of a number type begins with
abbrev pub begins_number : Classes
begins_number c.Signed = true
begins_number c.Unsigned = true
begins_number c.Short = true
begins_number c.IntWord = true
begins_number c.Long = true
begins_number c.PySsizeT = true
begins_number c.SizeT = true
begins_number c.Bint = true
begins_number c.Void = true
begins_number _ = false

abbrev pub begins_type : Classes
begins_type c.Const = true
begins_type c.Name = true
begins_type c.Signed = true
begins_type c.Unsigned = true
begins_type c.Short = true
begins_type c.IntWord = true
begins_type c.Long = true
begins_type c.PySsizeT = true
begins_type c.SizeT = true
begins_type c.Bint = true
begins_type c.Void = true
begins_type _ = false

abbrev pub begins_cop : Classes
begins_cop c.Less = true
begins_cop c.LessEqual = true
begins_cop c.Equal = true
begins_cop c.NotEqual = true
begins_cop c.Greater = true
begins_cop c.GreaterEqual = true
begins_cop c.Is = true
begins_cop c.In = true
begins_cop c.Not = true
begins_cop _ = false

-- what a postfix may go on with
abbrev pub more_postfix : Classes
more_postfix c.Dot = true
more_postfix c.OpenParenthesis = true
more_postfix c.OpenBracket = true
more_postfix c.Str = true
more_postfix _ = false

abbrev pub more_term : Classes
more_term c.Dot = true
more_term c.OpenParenthesis = true
more_term c.OpenBracket = true
more_term c.Str = true
more_term c.Star = true
more_term c.Slash = true
more_term c.FloorDivide = true
more_term c.Percent = true
more_term _ = false

abbrev pub more_sum : Classes
more_sum c.Dot = true
more_sum c.OpenParenthesis = true
more_sum c.OpenBracket = true
more_sum c.Str = true
more_sum c.Star = true
more_sum c.Slash = true
more_sum c.FloorDivide = true
more_sum c.Percent = true
more_sum c.Plus = true
more_sum c.Minus = true
more_sum _ = false

abbrev pub more_shift : Classes
more_shift c.Dot = true
more_shift c.OpenParenthesis = true
more_shift c.OpenBracket = true
more_shift c.Str = true
more_shift c.Star = true
more_shift c.Slash = true
more_shift c.FloorDivide = true
more_shift c.Percent = true
more_shift c.Plus = true
more_shift c.Minus = true
more_shift c.ShiftLeft = true
more_shift c.ShiftRight = true
more_shift _ = false

abbrev pub more_band : Classes
more_band c.Dot = true
more_band c.OpenParenthesis = true
more_band c.OpenBracket = true
more_band c.Str = true
more_band c.Star = true
more_band c.Slash = true
more_band c.FloorDivide = true
more_band c.Percent = true
more_band c.Plus = true
more_band c.Minus = true
more_band c.ShiftLeft = true
more_band c.ShiftRight = true
more_band c.Ampersand = true
more_band _ = false

abbrev pub more_xor : Classes
more_xor c.Dot = true
more_xor c.OpenParenthesis = true
more_xor c.OpenBracket = true
more_xor c.Str = true
more_xor c.Star = true
more_xor c.Slash = true
more_xor c.FloorDivide = true
more_xor c.Percent = true
more_xor c.Plus = true
more_xor c.Minus = true
more_xor c.ShiftLeft = true
more_xor c.ShiftRight = true
more_xor c.Ampersand = true
more_xor c.Caret = true
more_xor _ = false

abbrev pub more_bor : Classes
more_bor c.Dot = true
more_bor c.OpenParenthesis = true
more_bor c.OpenBracket = true
more_bor c.Str = true
more_bor c.Star = true
more_bor c.Slash = true
more_bor c.FloorDivide = true
more_bor c.Percent = true
more_bor c.Plus = true
more_bor c.Minus = true
more_bor c.ShiftLeft = true
more_bor c.ShiftRight = true
more_bor c.Ampersand = true
more_bor c.Caret = true
more_bor c.Bar = true
more_bor _ = false

abbrev pub more_cmp : Classes
more_cmp c.Dot = true
more_cmp c.OpenParenthesis = true
more_cmp c.OpenBracket = true
more_cmp c.Str = true
more_cmp c.Star = true
more_cmp c.Slash = true
more_cmp c.FloorDivide = true
more_cmp c.Percent = true
more_cmp c.Plus = true
more_cmp c.Minus = true
more_cmp c.ShiftLeft = true
more_cmp c.ShiftRight = true
more_cmp c.Ampersand = true
more_cmp c.Caret = true
more_cmp c.Bar = true
more_cmp c.Less = true
more_cmp c.LessEqual = true
more_cmp c.Equal = true
more_cmp c.NotEqual = true
more_cmp c.Greater = true
more_cmp c.GreaterEqual = true
more_cmp c.Is = true
more_cmp c.In = true
more_cmp c.Not = true
more_cmp _ = false

abbrev pub more_and : Classes
more_and c.Dot = true
more_and c.OpenParenthesis = true
more_and c.OpenBracket = true
more_and c.Str = true
more_and c.Star = true
more_and c.Slash = true
more_and c.FloorDivide = true
more_and c.Percent = true
more_and c.Plus = true
more_and c.Minus = true
more_and c.ShiftLeft = true
more_and c.ShiftRight = true
more_and c.Ampersand = true
more_and c.Caret = true
more_and c.Bar = true
more_and c.Less = true
more_and c.LessEqual = true
more_and c.Equal = true
more_and c.NotEqual = true
more_and c.Greater = true
more_and c.GreaterEqual = true
more_and c.Is = true
more_and c.In = true
more_and c.Not = true
more_and c.And = true
more_and _ = false

abbrev pub more_or : Classes
more_or c.Dot = true
more_or c.OpenParenthesis = true
more_or c.OpenBracket = true
more_or c.Str = true
more_or c.Star = true
more_or c.Slash = true
more_or c.FloorDivide = true
more_or c.Percent = true
more_or c.Plus = true
more_or c.Minus = true
more_or c.ShiftLeft = true
more_or c.ShiftRight = true
more_or c.Ampersand = true
more_or c.Caret = true
more_or c.Bar = true
more_or c.Less = true
more_or c.LessEqual = true
more_or c.Equal = true
more_or c.NotEqual = true
more_or c.Greater = true
more_or c.GreaterEqual = true
more_or c.Is = true
more_or c.In = true
more_or c.Not = true
more_or c.And = true
more_or c.Or = true
more_or _ = false

abbrev pub more_expr : Classes
more_expr c.Dot = true
more_expr c.OpenParenthesis = true
more_expr c.OpenBracket = true
more_expr c.Str = true
more_expr c.Star = true
more_expr c.Slash = true
more_expr c.FloorDivide = true
more_expr c.Percent = true
more_expr c.Plus = true
more_expr c.Minus = true
more_expr c.ShiftLeft = true
more_expr c.ShiftRight = true
more_expr c.Ampersand = true
more_expr c.Caret = true
more_expr c.Bar = true
more_expr c.Less = true
more_expr c.LessEqual = true
more_expr c.Equal = true
more_expr c.NotEqual = true
more_expr c.Greater = true
more_expr c.GreaterEqual = true
more_expr c.Is = true
more_expr c.In = true
more_expr c.Not = true
more_expr c.And = true
more_expr c.Or = true
more_expr c.If = true
more_expr _ = false

abbrev pub more_number : Classes
more_number c.Short = true
more_number c.IntWord = true
more_number c.Long = true
more_number c.Char = true
more_number _ = false

abbrev pub more_type : Classes
more_type c.Short = true
more_type c.IntWord = true
more_type c.Long = true
more_type c.Char = true
more_type c.Dot = true
more_type c.OpenBracket = true
more_type _ = false
