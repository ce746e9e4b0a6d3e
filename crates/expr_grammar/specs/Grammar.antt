-- The grammar of expressions (Python language reference, 6; casts, views and number types are Cython's).
-- Quoted words are tokens; [x] is optional, {x} is any number, | is a choice.
use Rattle.std.specs.Prelude.{ℕ, zero, suc, Bool, true, false, cond, List, [], Option, None}
use Rattle.pyx_lex.specs.declared.token.Token.{Token}
use Rattle.token_class.specs.Sets.{Classes, of}
use Rattle.cy_tree.specs.declared.expr.Comparison.{Comparison}
use Rattle.cy_tree.specs.declared.expr.Expr.{Expr}
use Rattle.cy_tree.specs.declared.expr.Part.{Part}
use Rattle.cy_tree.specs.declared.expr.Index.{Index}
use Rattle.cy_tree.specs.declared.types.NumberWords.{NumberWords}
use Rattle.cy_tree.specs.declared.types.NumberWords.TheVariants as number
use Rattle.cy_tree.specs.declared.types.TypeName.{TypeName}
use Rattle.cy_tree.specs.declared.types.Dim.{Dim}
use Rattle.cy_tree.specs.declared.types.TypeNode.{TypeNode}
use Rattle.expr_grammar.specs.declared.Level.{Level}
use Rattle.expr_grammar.specs.declared.Longs.{Longs}
use Rattle.expr_grammar.specs.declared.Longs.TheVariants as longs
use Rattle.expr_grammar.specs.declared.Level.TheVariants as level
use Rattle.forms.specs.Lists.{Row, push, first, second, pair, itself, trail, trail_upto, many_upto}
use Rattle.expr_grammar.specs.Words.{is_name, is_plain_name, is_int, is_str, is_none, is_true, is_false, is_if, is_else, is_or, is_and, is_not, is_is, is_in, is_const, is_dot, is_comma, is_colon, is_question_mark, is_less, is_greater, is_open_parenthesis, is_close_parenthesis, is_open_bracket, is_close_bracket, is_open_brace, is_close_brace, is_bar, is_caret, is_ampersand, is_shift, is_sum, is_term, is_prefix, is_order, is_signed, is_unsigned, is_char, is_short, is_int_word, is_long, is_lone, opens}
use Rattle.expr_grammar.specs.Nodes.{class, from, text, ident, lone, yes, short_node, second_long, long_node, unsigned_short, unsigned_long, number_node, named_node, some, dim_node, int_of, cons, type_node, triple, name_node, int_node, none_node, true_node, false_node, str_node, group_node, list_node, dict_node, attribute_node, call_node, item_node, low_slice, index_node, postfix_node, prefix_node, cast_node, term_operand, term_node, sum_operand, sum_node, shift_operand, shift_node, operand, bit_and_node, bit_xor_node, bit_or_node, order, is_node, in_node, not_in_node, compare_node, not_node, and_node, or_node, conditional_node}
use Rattle.cy_tree.specs.declared.types.Ident.{Ident}
use Rattle.forms.specs.Forms.{Form, one, both, nothing, or, many, placed, over, guard}

abbrev pub two : Token → ℕ
two x = 2

abbrev pub four : Token → ℕ
four x = 4

-- At a 33rd argument rule 3 is broken, or rule 2 where it opens something for which there is no room.
abbrev pub argument_rule : Bool → Token → ℕ
argument_rule true x = 3
argument_rule false x = cond (opens (class x)) 2 3

abbrev pub pair_of_three : {A B C : Type 0} → A → B × C → A × B × C
pair_of_three a b = (a, b.0, b.1)

-- [x]
abbrev pub opt : {A : Type 0} → Form Token A → Form Token (Option A)
opt L = or (both some L (nothing tt)) (nothing None)

-- whether the token stands there
abbrev pub flag : Classes → Form Token Bool
flag b = or (one (of b) yes) (nothing false)

-- 'short' ['int']
unfoldable pub short : Form Token NumberWords
short = both short_node (one (of is_short) itself) (flag is_int_word)

-- ['long' ['int'] | 'int'], behind 'long'
unfoldable pub length : Form Token Longs
length = or (both second_long (one (of is_long) itself) (flag is_int_word)) (or (one (of is_int_word) (λ x. longs.Int)) (nothing longs.Bare))

-- 'long' length
unfoldable pub long : Form Token NumberWords
long = both long_node (one (of is_long) itself) length

-- 'signed' 'char'
unfoldable pub signed : Form Token NumberWords
signed = both second (one (of is_signed) itself) (one (of is_char) (λ x. number.SignedChar))

-- ['char' | 'short' ['int'] | 'int' | 'long' length]
unfoldable pub behind_unsigned : Form Token NumberWords
behind_unsigned = or (one (of is_char) (λ x. number.UnsignedChar)) (or (both unsigned_short (one (of is_short) itself) (flag is_int_word)) (or (one (of is_int_word) (λ x. number.UnsignedInt)) (or (both unsigned_long (one (of is_long) itself) length) (nothing number.Unsigned))))

-- 'unsigned' behind_unsigned
unfoldable pub unsigned : Form Token NumberWords
unsigned = both second (one (of is_unsigned) itself) behind_unsigned

-- one whole spelling of a number type, `bint` or `void`
unfoldable pub number_words : Form Token NumberWords
number_words = or signed (or unsigned (or short (or (one (of is_int_word) (λ x. number.Int)) (or long (one (of is_lone) lone)))))

-- '.' NAME
unfoldable pub member : Form Token Ident
member = both second (one (of is_dot) itself) (one (of is_name) ident)

-- number words | NAME ['.' NAME]
unfoldable pub type_name : Form Token TypeName
type_name = or (both number_node number_words (nothing tt)) (both named_node (one (of is_plain_name) ident) (opt member))

-- ':' [':' INT]
unfoldable pub dim : Form Token Dim
dim = both dim_node (one (of is_colon) itself) (opt (both second (one (of is_colon) itself) (one (of is_int) int_of)))

-- dim {',' dim}, of which the fourth breaks rule 4
unfoldable pub dims : Form Token (List Dim)
dims = both cons dim (many_upto 2 (both second (one (of is_comma) itself) dim) (both second (one (of is_comma) itself) (over four dim)))

-- '<' | '<=' | '==' | '!=' | '>' | '>=' | 'is' ['not'] | 'in' | 'not' 'in'
unfoldable pub cop : Form Token (Comparison × ℕ)
cop = or (one (of is_order) order) (or (both is_node (one (of is_is) itself) (flag is_not)) (or (one (of is_in) in_node) (both not_in_node (one (of is_not) itself) (one (of is_in) itself))))

-- STRING {STRING}
unfoldable pub strings : Form Token Expr
strings = placed str_node (both pair (one (of is_str) text) (many (one (of is_str) text)))

-- '.' NAME
unfoldable pub attribute : Form Token Part
attribute = both attribute_node (one (of is_dot) itself) (one (of is_name) ident)

-- Whether something may be opened here, whether something more may be opened in there, and what is nested.
module _ (here inside : Bool) (inner : Level → Form Token Expr) where
  -- ['const'] (number words | NAME ['.' NAME]) ['[' dims ']']
  unfoldable pub type : Form Token TypeNode
  type = placed type_node (both triple (flag is_const) (both pair type_name (or (guard inside two (both second (one (of is_open_bracket) itself) (both first dims (one (of is_close_bracket) itself)))) (nothing []))))

  -- [expr {',' expr} [',']]
  unfoldable pub exprs : Form Token (Row Expr)
  exprs = or (both push (inner level.Expr) (trail (of is_comma) (inner level.Expr))) (nothing ([], false))

  -- [expr {',' expr} [',']], of which the 33rd breaks rule 3
  unfoldable pub arguments : Form Token (Row Expr)
  arguments = or (both push (inner level.Expr) (trail_upto 31 (of is_comma) (argument_rule inside) (inner level.Expr))) (nothing ([], false))

  -- expr ':' expr
  unfoldable pub item : Form Token (Expr × Expr)
  item = both pair (inner level.Expr) (both second (one (of is_colon) itself) (inner level.Expr))

  -- [expr ':' expr {',' expr ':' expr} [',']]
  unfoldable pub items : Form Token (Row (Expr × Expr))
  items = or (both push item (trail (of is_comma) item)) (nothing ([], false))

  -- ':' [expr]
  unfoldable pub high : Form Token (Option Expr)
  high = both second (one (of is_colon) itself) (opt (inner level.Expr))

  -- expr | [expr] ':' [expr]
  unfoldable pub index : Form Token Index
  index = or (both low_slice (one (of is_colon) itself) (opt (inner level.Expr))) (placed (from index_node) (both pair (inner level.Expr) (opt high)))

  -- index {',' index} [',']
  unfoldable pub indexes : Form Token (Row Index)
  indexes = both push index (trail (of is_comma) index)

  -- '(' [exprs] ')'
  unfoldable pub group : Form Token Expr
  group = guard here two (both (from group_node) (one (of is_open_parenthesis) itself) (both first exprs (one (of is_close_parenthesis) itself)))

  -- '[' [exprs] ']'
  unfoldable pub list_display : Form Token Expr
  list_display = guard here two (both list_node (one (of is_open_bracket) itself) (both first exprs (one (of is_close_bracket) itself)))

  -- '{' items '}'
  unfoldable pub dict_display : Form Token Expr
  dict_display = guard here two (both dict_node (one (of is_open_brace) itself) (both first items (one (of is_close_brace) itself)))

  -- NAME | INT | STRING {STRING} | 'None' | 'True' | 'False' | '(' [exprs] ')' | '[' [exprs] ']' | '{' items '}'
  unfoldable pub atom : Form Token Expr
  atom = or (one (of is_name) name_node) (or (one (of is_int) int_node) (or strings (or (one (of is_none) none_node) (or (one (of is_true) true_node) (or (one (of is_false) false_node) (or group (or list_display dict_display)))))))

  -- '(' arguments ')'
  unfoldable pub call : Form Token Part
  call = guard here two (both call_node (one (of is_open_parenthesis) itself) (both first arguments (one (of is_close_parenthesis) itself)))

  -- '[' indexes ']'
  unfoldable pub indexing : Form Token Part
  indexing = guard here two (both item_node (one (of is_open_bracket) itself) (both first indexes (one (of is_close_bracket) itself)))

  -- '.' NAME | '(' arguments ')' | '[' indexes ']'
  unfoldable pub part : Form Token Part
  part = or attribute (or call indexing)

  -- atom {part}
  unfoldable pub postfix : Form Token Expr
  postfix = placed (from postfix_node) (both pair atom (many part))

  -- ('-' | '+' | '~') unary
  unfoldable pub prefixed : Form Token Expr
  prefixed = guard here two (both prefix_node (one (of is_prefix) itself) (inner level.Unary))

  -- ['?'] '>' unary
  unfoldable pub behind_type : Form Token (Bool × Expr)
  behind_type = both pair (flag is_question_mark) (both second (one (of is_greater) itself) (inner level.Unary))

  -- '<' type ['?'] '>' unary
  unfoldable pub cast : Form Token Expr
  cast = guard here two (both cast_node (one (of is_less) itself) (both pair_of_three type behind_type))

  -- ('-' | '+' | '~') unary | '<' type ['?'] '>' unary | postfix
  unfoldable pub unary : Form Token Expr
  unary = or prefixed (or cast postfix)

  -- unary {('*' | '/' | '//' | '%') unary}
  unfoldable pub term : Form Token Expr
  term = placed (from term_node) (both pair unary (many (both term_operand (one (of is_term) itself) unary)))

  -- term {('+' | '-') term}
  unfoldable pub sum : Form Token Expr
  sum = placed (from sum_node) (both pair term (many (both sum_operand (one (of is_sum) itself) term)))

  -- sum {('<<' | '>>') sum}
  unfoldable pub shift : Form Token Expr
  shift = placed (from shift_node) (both pair sum (many (both shift_operand (one (of is_shift) itself) sum)))

  -- shift {'&' shift}
  unfoldable pub bit_and : Form Token Expr
  bit_and = placed (from bit_and_node) (both pair shift (many (both operand (one (of is_ampersand) itself) shift)))

  -- bit_and {'^' bit_and}
  unfoldable pub bit_xor : Form Token Expr
  bit_xor = placed (from bit_xor_node) (both pair bit_and (many (both operand (one (of is_caret) itself) bit_and)))

  -- bit_xor {'|' bit_xor}
  unfoldable pub bit_or : Form Token Expr
  bit_or = placed (from bit_or_node) (both pair bit_xor (many (both operand (one (of is_bar) itself) bit_xor)))

  -- bit_or [cop bit_or]
  unfoldable pub compare : Form Token Expr
  compare = placed (from compare_node) (both pair bit_or (opt (both pair cop bit_or)))

  -- 'not' not
  unfoldable pub negated : Form Token Expr
  negated = guard here two (both not_node (one (of is_not) itself) (inner level.Not))

  -- 'not' not | compare
  unfoldable pub negation : Form Token Expr
  negation = or negated compare

  -- negation {'and' negation}
  unfoldable pub conjunction : Form Token Expr
  conjunction = placed (from and_node) (both pair negation (many (both second (one (of is_and) itself) negation)))

  -- conjunction {'or' conjunction}
  unfoldable pub disjunction : Form Token Expr
  disjunction = placed (from or_node) (both pair conjunction (many (both second (one (of is_or) itself) conjunction)))

  -- 'else' expr
  unfoldable pub otherwise : Form Token Expr
  otherwise = guard here two (both second (one (of is_else) itself) (inner level.Expr))

  -- 'if' disjunction 'else' expr
  unfoldable pub condition : Form Token (Expr × Expr)
  condition = both second (one (of is_if) itself) (both pair disjunction otherwise)

  -- disjunction ['if' disjunction 'else' expr]
  unfoldable pub expr : Form Token Expr
  expr = placed (from conditional_node) (both pair disjunction (opt condition))

  abbrev pub at_level : Level → Form Token Expr
  at_level level.Expr = expr
  at_level level.Not = negation
  at_level level.Unary = unary
  at_level level.Postfix = postfix

-- ---- nesting

-- at most so deep, without limits on nesting
abbrev pub nested : ℕ → Level → Form Token Expr
nested zero l = one (of is_name) name_node
nested (suc n) l = at_level true true (nested n) l

-- however deep
abbrev pub deep : Level → Form Token Expr
deep l ts e = (n : ℕ) × nested n l ts e

abbrev pub is_positive : ℕ → Bool
is_positive zero = false
is_positive (suc n) = true

-- What spells an expression, where n more things may be opened: a token that opens one more breaks rule 2.
abbrev pub Spells : ℕ → Level → Form Token Expr
Spells zero = at_level false false deep
Spells (suc n) = at_level true (is_positive n) (Spells n)
