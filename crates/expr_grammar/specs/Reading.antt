-- What reads an expression, in the shape of the grammar.
use Rattle.std.specs.Prelude.{ℕ, zero, suc, Bool, true, false, List, [], Option, None}
use Rattle.pyx_lex.specs.declared.token.Token.{Token}
use Rattle.token_class.specs.Sets.{Classes, of}
use Rattle.cy_tree.specs.declared.expr.Comparison.{Comparison}
use Rattle.cy_tree.specs.declared.expr.Expr.{Expr}
use Rattle.cy_tree.specs.declared.expr.Part.{Part}
use Rattle.cy_tree.specs.declared.expr.Index.{Index}
use Rattle.cy_tree.specs.declared.types.NumberWords.{NumberWords}
use Rattle.cy_tree.specs.declared.types.NumberWords.TheVariants as number
use Rattle.cy_tree.specs.declared.types.TypeName.{TypeName}
use Rattle.cy_tree.specs.declared.types.Dim.{Dim}
use Rattle.cy_tree.specs.declared.types.TypeNode.{TypeNode}
use Rattle.expr_grammar.specs.declared.Level.{Level}
use Rattle.expr_grammar.specs.declared.Longs.{Longs}
use Rattle.expr_grammar.specs.declared.Longs.TheVariants as longs
use Rattle.expr_grammar.specs.declared.Level.TheVariants as level
use Rattle.forms.specs.Lists.{Row, push, first, second, pair, itself, read_trail, read_trail_upto, read_many_upto}
use Rattle.expr_grammar.specs.Words.{is_name, is_plain_name, is_int, is_str, is_none, is_true, is_false, is_if, is_else, is_or, is_and, is_not, is_is, is_in, is_const, is_dot, is_comma, is_colon, is_question_mark, is_less, is_greater, is_open_parenthesis, is_close_parenthesis, is_open_bracket, is_close_bracket, is_open_brace, is_close_brace, is_bar, is_caret, is_ampersand, is_shift, is_sum, is_term, is_prefix, is_order, is_signed, is_unsigned, is_char, is_short, is_int_word, is_long, is_lone, begins_expr, begins_number, begins_cop, trails, begins_index}
use Rattle.expr_grammar.specs.Nodes.{from, text, ident, lone, yes, short_node, second_long, long_node, unsigned_short, unsigned_long, number_node, named_node, some, dim_node, int_of, cons, type_node, triple, name_node, int_node, none_node, true_node, false_node, str_node, group_node, list_node, dict_node, attribute_node, call_node, item_node, low_slice, index_node, postfix_node, prefix_node, cast_node, term_operand, term_node, sum_operand, sum_node, shift_operand, shift_node, operand, bit_and_node, bit_xor_node, bit_or_node, order, is_node, in_node, not_in_node, compare_node, not_node, and_node, or_node, conditional_node}
use Rattle.cy_tree.specs.declared.types.Ident.{Ident}
use Rattle.forms.specs.Readers.{Reader, bad, unexpected, read_one, read_both, read_nothing, read_or, read_many, read_placed, read_guard, refuse}
use Rattle.expr_grammar.specs.Grammar.{two, four, argument_rule, pair_of_three, is_positive}

abbrev pub read_opt : {A : Type 0} → Classes → Reader Token A → Reader Token (Option A)
read_opt b p = read_or (of b) (read_both some p (read_nothing tt)) (read_nothing None)

abbrev pub read_flag : Classes → Reader Token Bool
read_flag b = read_or (of b) (read_one (of b) yes) (read_nothing false)

unfoldable pub read_short : Reader Token NumberWords
read_short = read_both short_node (read_one (of is_short) itself) (read_flag is_int_word)

unfoldable pub read_length : Reader Token Longs
read_length = read_or (of is_long) (read_both second_long (read_one (of is_long) itself) (read_flag is_int_word)) (read_or (of is_int_word) (read_one (of is_int_word) (λ x. longs.Int)) (read_nothing longs.Bare))

unfoldable pub read_long : Reader Token NumberWords
read_long = read_both long_node (read_one (of is_long) itself) read_length

unfoldable pub read_signed : Reader Token NumberWords
read_signed = read_both second (read_one (of is_signed) itself) (read_one (of is_char) (λ x. number.SignedChar))

unfoldable pub read_behind_unsigned : Reader Token NumberWords
read_behind_unsigned = read_or (of is_char) (read_one (of is_char) (λ x. number.UnsignedChar)) (read_or (of is_short) (read_both unsigned_short (read_one (of is_short) itself) (read_flag is_int_word)) (read_or (of is_int_word) (read_one (of is_int_word) (λ x. number.UnsignedInt)) (read_or (of is_long) (read_both unsigned_long (read_one (of is_long) itself) read_length) (read_nothing number.Unsigned))))

unfoldable pub read_unsigned : Reader Token NumberWords
read_unsigned = read_both second (read_one (of is_unsigned) itself) read_behind_unsigned

unfoldable pub read_number_words : Reader Token NumberWords
read_number_words = read_or (of is_signed) read_signed (read_or (of is_unsigned) read_unsigned (read_or (of is_short) read_short (read_or (of is_int_word) (read_one (of is_int_word) (λ x. number.Int)) (read_or (of is_long) read_long (read_one (of is_lone) lone)))))

unfoldable pub read_member : Reader Token Ident
read_member = read_both second (read_one (of is_dot) itself) (read_one (of is_name) ident)

unfoldable pub read_type_name : Reader Token TypeName
read_type_name = read_or (of begins_number) (read_both number_node read_number_words (read_nothing tt)) (read_both named_node (read_one (of is_plain_name) ident) (read_opt is_dot read_member))

unfoldable pub read_dim : Reader Token Dim
read_dim = read_both dim_node (read_one (of is_colon) itself) (read_opt is_colon (read_both second (read_one (of is_colon) itself) (read_one (of is_int) int_of)))

unfoldable pub read_dims : Reader Token (List Dim)
read_dims = read_both cons read_dim (read_many_upto 2 (of is_comma) (read_both second (read_one (of is_comma) itself) read_dim) (read_both second (read_one (of is_comma) itself) (refuse (of is_colon) four)))

unfoldable pub read_cop : Reader Token (Comparison × ℕ)
read_cop = read_or (of is_order) (read_one (of is_order) order) (read_or (of is_is) (read_both is_node (read_one (of is_is) itself) (read_flag is_not)) (read_or (of is_in) (read_one (of is_in) in_node) (read_both not_in_node (read_one (of is_not) itself) (read_one (of is_in) itself))))

unfoldable pub read_strings : Reader Token Expr
read_strings = read_placed str_node (read_both pair (read_one (of is_str) text) (read_many (of is_str) (read_one (of is_str) text)))

unfoldable pub read_attribute : Reader Token Part
read_attribute = read_both attribute_node (read_one (of is_dot) itself) (read_one (of is_name) ident)

module _ (here inside : Bool) (inner : Level → Reader Token Expr) where
  unfoldable pub read_type : Reader Token TypeNode
  read_type = read_placed type_node (read_both triple (read_flag is_const) (read_both pair read_type_name (read_or (of is_open_bracket) (read_guard inside (of is_open_bracket) two (read_both second (read_one (of is_open_bracket) itself) (read_both first read_dims (read_one (of is_close_bracket) itself)))) (read_nothing []))))

  unfoldable pub read_exprs : Reader Token (Row Expr)
  read_exprs = read_or (of begins_expr) (read_both push (inner level.Expr) (read_trail (of is_comma) (of begins_expr) (inner level.Expr))) (read_nothing ([], false))

  unfoldable pub read_arguments : Reader Token (Row Expr)
  read_arguments = read_or (of begins_expr) (read_both push (inner level.Expr) (read_trail_upto 31 (of is_comma) (of begins_expr) (argument_rule inside) (inner level.Expr))) (read_nothing ([], false))

  unfoldable pub read_item : Reader Token (Expr × Expr)
  read_item = read_both pair (inner level.Expr) (read_both second (read_one (of is_colon) itself) (inner level.Expr))

  unfoldable pub read_items : Reader Token (Row (Expr × Expr))
  read_items = read_or (of begins_expr) (read_both push read_item (read_trail (of is_comma) (of begins_expr) read_item)) (read_nothing ([], false))

  unfoldable pub read_high : Reader Token (Option Expr)
  read_high = read_both second (read_one (of is_colon) itself) (read_opt begins_expr (inner level.Expr))

  unfoldable pub read_index : Reader Token Index
  read_index = read_or (of is_colon) (read_both low_slice (read_one (of is_colon) itself) (read_opt begins_expr (inner level.Expr))) (read_placed (from index_node) (read_both pair (inner level.Expr) (read_opt is_colon read_high)))

  unfoldable pub read_indexes : Reader Token (Row Index)
  read_indexes = read_both push read_index (read_trail (of is_comma) (of begins_index) read_index)

  unfoldable pub read_group : Reader Token Expr
  read_group = read_guard here (of is_open_parenthesis) two (read_both (from group_node) (read_one (of is_open_parenthesis) itself) (read_both first read_exprs (read_one (of is_close_parenthesis) itself)))

  unfoldable pub read_list_display : Reader Token Expr
  read_list_display = read_guard here (of is_open_bracket) two (read_both list_node (read_one (of is_open_bracket) itself) (read_both first read_exprs (read_one (of is_close_bracket) itself)))

  unfoldable pub read_dict_display : Reader Token Expr
  read_dict_display = read_guard here (of is_open_brace) two (read_both dict_node (read_one (of is_open_brace) itself) (read_both first read_items (read_one (of is_close_brace) itself)))

  unfoldable pub read_atom : Reader Token Expr
  read_atom = read_or (of is_name) (read_one (of is_name) name_node) (read_or (of is_int) (read_one (of is_int) int_node) (read_or (of is_str) read_strings (read_or (of is_none) (read_one (of is_none) none_node) (read_or (of is_true) (read_one (of is_true) true_node) (read_or (of is_false) (read_one (of is_false) false_node) (read_or (of is_open_parenthesis) read_group (read_or (of is_open_bracket) read_list_display read_dict_display)))))))

  unfoldable pub read_call : Reader Token Part
  read_call = read_guard here (of is_open_parenthesis) two (read_both call_node (read_one (of is_open_parenthesis) itself) (read_both first read_arguments (read_one (of is_close_parenthesis) itself)))

  unfoldable pub read_indexing : Reader Token Part
  read_indexing = read_guard here (of is_open_bracket) two (read_both item_node (read_one (of is_open_bracket) itself) (read_both first read_indexes (read_one (of is_close_bracket) itself)))

  unfoldable pub read_part : Reader Token Part
  read_part = read_or (of is_dot) read_attribute (read_or (of is_open_parenthesis) read_call read_indexing)

  unfoldable pub read_postfix : Reader Token Expr
  read_postfix = read_placed (from postfix_node) (read_both pair read_atom (read_many (of trails) read_part))

  unfoldable pub read_prefixed : Reader Token Expr
  read_prefixed = read_guard here (of is_prefix) two (read_both prefix_node (read_one (of is_prefix) itself) (inner level.Unary))

  unfoldable pub read_behind_type : Reader Token (Bool × Expr)
  read_behind_type = read_both pair (read_flag is_question_mark) (read_both second (read_one (of is_greater) itself) (inner level.Unary))

  unfoldable pub read_cast : Reader Token Expr
  read_cast = read_guard here (of is_less) two (read_both cast_node (read_one (of is_less) itself) (read_both pair_of_three read_type read_behind_type))

  unfoldable pub read_unary : Reader Token Expr
  read_unary = read_or (of is_prefix) read_prefixed (read_or (of is_less) read_cast read_postfix)

  unfoldable pub read_term : Reader Token Expr
  read_term = read_placed (from term_node) (read_both pair read_unary (read_many (of is_term) (read_both term_operand (read_one (of is_term) itself) read_unary)))

  unfoldable pub read_sum : Reader Token Expr
  read_sum = read_placed (from sum_node) (read_both pair read_term (read_many (of is_sum) (read_both sum_operand (read_one (of is_sum) itself) read_term)))

  unfoldable pub read_shift : Reader Token Expr
  read_shift = read_placed (from shift_node) (read_both pair read_sum (read_many (of is_shift) (read_both shift_operand (read_one (of is_shift) itself) read_sum)))

  unfoldable pub read_bit_and : Reader Token Expr
  read_bit_and = read_placed (from bit_and_node) (read_both pair read_shift (read_many (of is_ampersand) (read_both operand (read_one (of is_ampersand) itself) read_shift)))

  unfoldable pub read_bit_xor : Reader Token Expr
  read_bit_xor = read_placed (from bit_xor_node) (read_both pair read_bit_and (read_many (of is_caret) (read_both operand (read_one (of is_caret) itself) read_bit_and)))

  unfoldable pub read_bit_or : Reader Token Expr
  read_bit_or = read_placed (from bit_or_node) (read_both pair read_bit_xor (read_many (of is_bar) (read_both operand (read_one (of is_bar) itself) read_bit_xor)))

  unfoldable pub read_compare : Reader Token Expr
  read_compare = read_placed (from compare_node) (read_both pair read_bit_or (read_opt begins_cop (read_both pair read_cop read_bit_or)))

  unfoldable pub read_negated : Reader Token Expr
  read_negated = read_guard here (of is_not) two (read_both not_node (read_one (of is_not) itself) (inner level.Not))

  unfoldable pub read_negation : Reader Token Expr
  read_negation = read_or (of is_not) read_negated read_compare

  unfoldable pub read_conjunction : Reader Token Expr
  read_conjunction = read_placed (from and_node) (read_both pair read_negation (read_many (of is_and) (read_both second (read_one (of is_and) itself) read_negation)))

  unfoldable pub read_disjunction : Reader Token Expr
  read_disjunction = read_placed (from or_node) (read_both pair read_conjunction (read_many (of is_or) (read_both second (read_one (of is_or) itself) read_conjunction)))

  unfoldable pub read_otherwise : Reader Token Expr
  read_otherwise = read_guard here (of is_else) two (read_both second (read_one (of is_else) itself) (inner level.Expr))

  unfoldable pub read_condition : Reader Token (Expr × Expr)
  read_condition = read_both second (read_one (of is_if) itself) (read_both pair read_disjunction read_otherwise)

  unfoldable pub read_expr : Reader Token Expr
  read_expr = read_placed (from conditional_node) (read_both pair read_disjunction (read_opt is_if read_condition))

  abbrev pub read_at_level : Level → Reader Token Expr
  read_at_level level.Expr = read_expr
  read_at_level level.Not = read_negation
  read_at_level level.Unary = read_unary
  read_at_level level.Postfix = read_postfix

-- What reads an expression, where n more things may be opened.
abbrev pub reads : ℕ → Level → Reader Token Expr
reads zero = read_at_level false false (λ l ts. bad unexpected ts)
reads (suc n) = read_at_level true (is_positive n) (reads n)
