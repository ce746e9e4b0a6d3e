-- The classes of each set.
use Rattle.std.specs.Prelude.{◌≡◌, false, refl}
use Rattle.token_class.specs.Sets.{Classes}
use Rattle.token_class.specs.declared.class.TokenClass.TheVariants.{End}
use Rattle.token_input.specs.declared.words.ExprSet.{ExprSet}
use Rattle.token_input.specs.declared.words.ExprSet.TheVariants as set
use Rattle.expr_grammar.specs.Words.{is_name, is_plain_name, is_int, is_str, is_none, is_true, is_false, is_if, is_else, is_or, is_and, is_not, is_is, is_in, is_const, is_dot, is_comma, is_colon, is_question_mark, is_less, is_greater, is_open_parenthesis, is_close_parenthesis, is_open_bracket, is_close_bracket, is_open_brace, is_close_brace, is_bar, is_caret, is_ampersand, is_shift, is_sum, is_term, is_prefix, is_order, is_signed, is_unsigned, is_char, is_short, is_int_word, is_long, is_lone, begins_expr, begins_number, begins_cop, begins_index, trails, opens}

-- the classes of a set
abbrev pub has : ExprSet → Classes
has set.Name = is_name
has set.PlainName = is_plain_name
has set.Int = is_int
has set.Str = is_str
has set.None = is_none
has set.True = is_true
has set.False = is_false
has set.If = is_if
has set.Else = is_else
has set.Or = is_or
has set.And = is_and
has set.Not = is_not
has set.Is = is_is
has set.In = is_in
has set.Const = is_const
has set.Dot = is_dot
has set.Comma = is_comma
has set.Colon = is_colon
has set.QuestionMark = is_question_mark
has set.Less = is_less
has set.Greater = is_greater
has set.OpenParenthesis = is_open_parenthesis
has set.CloseParenthesis = is_close_parenthesis
has set.OpenBracket = is_open_bracket
has set.CloseBracket = is_close_bracket
has set.OpenBrace = is_open_brace
has set.CloseBrace = is_close_brace
has set.Bar = is_bar
has set.Caret = is_caret
has set.Ampersand = is_ampersand
has set.Shift = is_shift
has set.Sum = is_sum
has set.Term = is_term
has set.Prefix = is_prefix
has set.Order = is_order
has set.Signed = is_signed
has set.Unsigned = is_unsigned
has set.Char = is_char
has set.Short = is_short
has set.IntWord = is_int_word
has set.Long = is_long
has set.Lone = is_lone
has set.BeginsExpr = begins_expr
has set.BeginsNumber = begins_number
has set.BeginsCop = begins_cop
has set.BeginsIndex = begins_index
has set.Trails = trails
has set.Opens = opens

-- the end is in no set
pub has-end : (s : ExprSet) → has s End ≡ false
has-end set.Name = refl
has-end set.PlainName = refl
has-end set.Int = refl
has-end set.Str = refl
has-end set.None = refl
has-end set.True = refl
has-end set.False = refl
has-end set.If = refl
has-end set.Else = refl
has-end set.Or = refl
has-end set.And = refl
has-end set.Not = refl
has-end set.Is = refl
has-end set.In = refl
has-end set.Const = refl
has-end set.Dot = refl
has-end set.Comma = refl
has-end set.Colon = refl
has-end set.QuestionMark = refl
has-end set.Less = refl
has-end set.Greater = refl
has-end set.OpenParenthesis = refl
has-end set.CloseParenthesis = refl
has-end set.OpenBracket = refl
has-end set.CloseBracket = refl
has-end set.OpenBrace = refl
has-end set.CloseBrace = refl
has-end set.Bar = refl
has-end set.Caret = refl
has-end set.Ampersand = refl
has-end set.Shift = refl
has-end set.Sum = refl
has-end set.Term = refl
has-end set.Prefix = refl
has-end set.Order = refl
has-end set.Signed = refl
has-end set.Unsigned = refl
has-end set.Char = refl
has-end set.Short = refl
has-end set.IntWord = refl
has-end set.Long = refl
has-end set.Lone = refl
has-end set.BeginsExpr = refl
has-end set.BeginsNumber = refl
has-end set.BeginsCop = refl
has-end set.BeginsIndex = refl
has-end set.Trails = refl
has-end set.Opens = refl
