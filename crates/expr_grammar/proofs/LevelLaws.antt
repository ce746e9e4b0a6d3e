-- What reads each level is exact, where what reads the nested levels is.
use Rattle.std.proofs.Common.{◌≡◌, ℕ, zero, suc, Bool, true, false, [], refl}
use Rattle.std.specs.Prelude.{Option, None}
use Rattle.pyx_lex.specs.declared.token.Token.{Token}
use Rattle.token_class.specs.declared.class.TokenClass.TheVariants as c
use Rattle.token_class.specs.Sets.{Classes}
use Rattle.cy_tree.specs.declared.expr.Expr.{Expr}
use Rattle.cy_tree.specs.declared.expr.Part.{Part}
use Rattle.cy_tree.specs.declared.expr.Index.{Index}
use Rattle.cy_tree.specs.declared.types.TypeNode.{TypeNode}
use Rattle.forms.specs.Forms.{Form, none, either, Sentence}
use Rattle.forms.specs.Readers.{Reader, bad, unexpected}
use Rattle.forms.specs.Lists.{Row, push, first, second, pair, itself}
use Rattle.forms.proofs.Beginnings.{some_both, some_nothing, some_this, some_that}
use Rattle.forms.proofs.TrailLaws.{some_trail}
use Rattle.token_class.proofs.Laws.{ExactFor, optional, token, seq, place, loop, list, list_upto, opened, some_token, within_room, sets, after, after_maybe, either_of, maybe}
use Rattle.expr_grammar.specs.declared.Level.{Level}
use Rattle.expr_grammar.specs.declared.Level.TheVariants as level
use Rattle.expr_grammar.specs.Words.{is_name, is_int, is_str, is_none, is_true, is_false, is_if, is_else, is_or, is_and, is_not, is_comma, is_colon, is_question_mark, is_less, is_greater, is_open_parenthesis, is_close_parenthesis, is_open_bracket, is_close_bracket, is_open_brace, is_close_brace, is_bar, is_caret, is_ampersand, is_shift, is_sum, is_term, is_prefix, begins_postfix, begins_unary, begins_expr, begins_type, begins_index, trails, more_postfix, more_term, more_sum, more_shift, more_band, more_xor, more_bor, more_cmp, more_and, more_or, more_expr, more_type}
use Rattle.expr_grammar.specs.Nodes.{from, type_node, triple, name_node, int_node, none_node, true_node, false_node, group_node, list_node, dict_node, call_node, item_node, low_slice, index_node, postfix_node, prefix_node, cast_node, term_operand, term_node, sum_operand, sum_node, shift_operand, shift_node, operand, bit_and_node, bit_xor_node, bit_or_node, compare_node, not_node, and_node, or_node, conditional_node}
use Rattle.expr_grammar.specs.Grammar.{two, argument_rule, pair_of_three, is_positive, type, exprs, arguments, item, items, high, index, indexes, group, list_display, dict_display, atom, call, indexing, part, postfix, prefixed, behind_type, cast, unary, term, sum, shift, bit_and, bit_xor, bit_or, compare, negated, negation, conjunction, disjunction, otherwise, condition, expr, at_level, deep, Spells}
use Rattle.expr_grammar.specs.Reading.{read_type, read_exprs, read_arguments, read_item, read_items, read_high, read_index, read_indexes, read_group, read_list_display, read_dict_display, read_atom, read_call, read_indexing, read_part, read_postfix, read_prefixed, read_behind_type, read_cast, read_unary, read_term, read_sum, read_shift, read_bit_and, read_bit_xor, read_bit_or, read_compare, read_negated, read_negation, read_conjunction, read_disjunction, read_otherwise, read_condition, read_expr, read_at_level, reads}
use Rattle.expr_grammar.proofs.FlatLaws.{const_flag, question_flag, type_name_exact, dims_exact, cop_exact, strings_exact, attribute_exact}

abbrev pub begins_of : Level → Classes
begins_of level.Expr = begins_expr
begins_of level.Not = begins_expr
begins_of level.Unary = begins_unary
begins_of level.Postfix = begins_postfix

abbrev pub more_of : Level → Classes
more_of level.Expr = more_expr
more_of level.Not = more_cmp
more_of level.Unary = more_postfix
more_of level.Postfix = more_postfix

-- what a list of expressions may go on with
abbrev goes : Classes
goes = either is_comma (either begins_expr more_expr)

abbrev goes_index : Classes
goes_index = either is_colon (either begins_expr more_expr)

abbrev goes_indexes : Classes
goes_indexes = either is_comma (either begins_index goes_index)

module _ (here inside : Bool) (I : Level → Form Token Expr) (P : Level → Reader Token Expr) (given : (l : Level) → Sentence Token Expr (I l))
    (X : here ≡ true → (l : Level) → ExactFor Expr (I l) (P l) false (begins_of l) (more_of l)) where
  -- ---- types

  pub type_exact : ExactFor TypeNode (type here inside I) (read_type here inside P) false begins_type more_type
  unfolding type read_type
  type_exact =
      let close = token is_close_bracket itself c.CloseBracket refl in
      let inner = seq first dims_exact close refl in
      let some_dims = some_both first dims_exact.exact.sentences.some (some_token is_close_bracket itself c.CloseBracket refl) in
      let bracketed = within_room inside two (opened second is_open_bracket itself c.OpenBracket refl some_dims) (λ h. after second (token is_open_bracket itself c.OpenBracket refl) (sets is_colon none refl refl inner) refl) in
      let named = after_maybe pair type_name_exact (maybe [] bracketed) refl in
      place type_node (sets begins_type more_type refl refl (seq triple const_flag named refl))

  -- ---- what stands in brackets

  exprs_exact : here ≡ true → ExactFor (Row Expr) (exprs here inside I) (read_exprs here inside P) true begins_expr goes
  unfolding exprs read_exprs
  exprs_exact h = let x = X h level.Expr in
      sets begins_expr goes refl refl (maybe ([], false) (after_maybe push x (list is_comma c.Comma refl x refl) refl))

  arguments_exact : here ≡ true → ExactFor (Row Expr) (arguments here inside I) (read_arguments here inside P) true begins_expr goes
  unfolding arguments read_arguments
  arguments_exact h = let x = X h level.Expr in
      sets begins_expr goes refl refl (maybe ([], false) (after_maybe push x (list_upto 31 is_comma (argument_rule inside) c.Comma refl x refl) refl))

  item_exact : here ≡ true → ExactFor (Expr × Expr) (item here inside I) (read_item here inside P) false begins_expr more_expr
  unfolding item read_item
  item_exact h = let x = X h level.Expr in after pair x (after second (token is_colon itself c.Colon refl) x refl) refl

  items_exact : here ≡ true → ExactFor (Row (Expr × Expr)) (items here inside I) (read_items here inside P) true begins_expr goes
  unfolding items read_items
  items_exact h = let x = item_exact h in
      sets begins_expr goes refl refl (maybe ([], false) (after_maybe push x (list is_comma c.Comma refl x refl) refl))

  high_exact : here ≡ true → ExactFor (Option Expr) (high here inside I) (read_high here inside P) false is_colon (either begins_expr more_expr)
  unfolding high read_high
  high_exact h = sets is_colon (either begins_expr more_expr) refl refl (after_maybe second (token is_colon itself c.Colon refl) (optional (X h level.Expr)) refl)

  index_exact : here ≡ true → ExactFor Index (index here inside I) (read_index here inside P) false begins_index goes_index
  unfolding index read_index
  index_exact h =
      let from_start = sets is_colon (either begins_expr more_expr) refl refl (after_maybe low_slice (token is_colon itself c.Colon refl) (optional (X h level.Expr)) refl) in
      let whole = place (from index_node) (after_maybe pair (X h level.Expr) (optional (high_exact h)) refl) in
      sets begins_index goes_index refl refl (either_of from_start whole refl)

  indexes_exact : here ≡ true → ExactFor (Row Index) (indexes here inside I) (read_indexes here inside P) false begins_index goes_indexes
  unfolding indexes read_indexes
  indexes_exact h = let x = index_exact h in
      sets begins_index goes_indexes refl refl (after_maybe push x (list is_comma c.Comma refl x refl) refl)

  some_exprs : Sentence Token (Row Expr) (exprs here inside I)
  unfolding exprs
  some_exprs = some_that _ (some_nothing ([], false))

  some_arguments : Sentence Token (Row Expr) (arguments here inside I)
  unfolding arguments
  some_arguments = some_that _ (some_nothing ([], false))

  some_items : Sentence Token (Row (Expr × Expr)) (items here inside I)
  unfolding items
  some_items = some_that _ (some_nothing ([], false))

  some_indexes : Sentence Token (Row Index) (indexes here inside I)
  unfolding indexes index
  some_indexes =
      let bare = some_both low_slice (some_token is_colon itself c.Colon refl) (some_that _ (some_nothing None)) in
      some_both push (some_this _ bare) (some_trail _ _)

  -- ---- atoms

  group_exact : ExactFor Expr (group here inside I) (read_group here inside P) false is_open_parenthesis none
  unfolding group read_group
  group_exact = within_room here two
      (opened (from group_node) is_open_parenthesis itself c.OpenParenthesis refl (some_both first some_exprs (some_token is_close_parenthesis itself c.CloseParenthesis refl)))
      (λ h. sets is_open_parenthesis none refl refl (after (from group_node) (token is_open_parenthesis itself c.OpenParenthesis refl) (seq first (exprs_exact h) (token is_close_parenthesis itself c.CloseParenthesis refl) refl) refl))

  list_exact : ExactFor Expr (list_display here inside I) (read_list_display here inside P) false is_open_bracket none
  unfolding list_display read_list_display
  list_exact = within_room here two
      (opened list_node is_open_bracket itself c.OpenBracket refl (some_both first some_exprs (some_token is_close_bracket itself c.CloseBracket refl)))
      (λ h. sets is_open_bracket none refl refl (after list_node (token is_open_bracket itself c.OpenBracket refl) (seq first (exprs_exact h) (token is_close_bracket itself c.CloseBracket refl) refl) refl))

  dict_exact : ExactFor Expr (dict_display here inside I) (read_dict_display here inside P) false is_open_brace none
  unfolding dict_display read_dict_display
  dict_exact = within_room here two
      (opened dict_node is_open_brace itself c.OpenBrace refl (some_both first some_items (some_token is_close_brace itself c.CloseBrace refl)))
      (λ h. sets is_open_brace none refl refl (after dict_node (token is_open_brace itself c.OpenBrace refl) (seq first (items_exact h) (token is_close_brace itself c.CloseBrace refl) refl) refl))

  atom_exact : ExactFor Expr (atom here inside I) (read_atom here inside P) false begins_postfix is_str
  unfolding atom read_atom
  atom_exact =
      let displays = either_of group_exact (either_of list_exact dict_exact refl) refl in
      let words = either_of (token is_none none_node c.None refl) (either_of (token is_true true_node c.True refl) (either_of (token is_false false_node c.False refl) displays refl) refl) refl in
      sets begins_postfix is_str refl refl (either_of (token is_name name_node c.Name refl) (either_of (token is_int int_node c.Int refl) (either_of strings_exact words refl) refl) refl)

  -- ---- parts

  call_exact : ExactFor Part (call here inside I) (read_call here inside P) false is_open_parenthesis none
  unfolding call read_call
  call_exact = within_room here two
      (opened call_node is_open_parenthesis itself c.OpenParenthesis refl (some_both first some_arguments (some_token is_close_parenthesis itself c.CloseParenthesis refl)))
      (λ h. sets is_open_parenthesis none refl refl (after call_node (token is_open_parenthesis itself c.OpenParenthesis refl) (seq first (arguments_exact h) (token is_close_parenthesis itself c.CloseParenthesis refl) refl) refl))

  indexing_exact : ExactFor Part (indexing here inside I) (read_indexing here inside P) false is_open_bracket none
  unfolding indexing read_indexing
  indexing_exact = within_room here two
      (opened item_node is_open_bracket itself c.OpenBracket refl (some_both first some_indexes (some_token is_close_bracket itself c.CloseBracket refl)))
      (λ h. sets is_open_bracket none refl refl (after item_node (token is_open_bracket itself c.OpenBracket refl) (seq first (indexes_exact h) (token is_close_bracket itself c.CloseBracket refl) refl) refl))

  part_exact : ExactFor Part (part here inside I) (read_part here inside P) false trails none
  unfolding part read_part
  part_exact = sets trails none refl refl (either_of attribute_exact (either_of call_exact indexing_exact refl) refl)

  postfix_exact : ExactFor Expr (postfix here inside I) (read_postfix here inside P) false begins_postfix more_postfix
  unfolding postfix read_postfix
  postfix_exact = place (from postfix_node) (sets begins_postfix more_postfix refl refl (after_maybe pair atom_exact (loop part_exact refl) refl))

  -- ---- levels

  prefixed_exact : ExactFor Expr (prefixed here inside I) (read_prefixed here inside P) false is_prefix more_postfix
  unfolding prefixed read_prefixed
  prefixed_exact = within_room here two (opened prefix_node is_prefix itself c.Minus refl (given level.Unary)) (λ h. after prefix_node (token is_prefix itself c.Minus refl) (X h level.Unary) refl)

  behind_exact : here ≡ true → ExactFor (Bool × Expr) (behind_type here inside I) (read_behind_type here inside P) false (either is_question_mark is_greater) more_postfix
  unfolding behind_type read_behind_type
  behind_exact h = sets (either is_question_mark is_greater) more_postfix refl refl (seq pair question_flag (after second (token is_greater itself c.Greater refl) (X h level.Unary) refl) refl)

  some_behind : Sentence Token (Bool × Expr) (behind_type here inside I)
  unfolding behind_type
  some_behind = some_both pair (some_that _ (some_nothing false)) (some_both second (some_token is_greater itself c.Greater refl) (given level.Unary))

  cast_exact : ExactFor Expr (cast here inside I) (read_cast here inside P) false is_less more_postfix
  unfolding cast read_cast
  cast_exact = within_room here two (opened cast_node is_less itself c.Less refl (some_both pair_of_three type_exact.exact.sentences.some some_behind))
      (λ h. after cast_node (token is_less itself c.Less refl) (after pair_of_three type_exact (behind_exact h) refl) refl)

  unary_exact : ExactFor Expr (unary here inside I) (read_unary here inside P) false begins_unary more_postfix
  unfolding unary read_unary
  unary_exact = sets begins_unary more_postfix refl refl (either_of prefixed_exact (either_of cast_exact postfix_exact refl) refl)

  term_exact : ExactFor Expr (term here inside I) (read_term here inside P) false begins_unary more_term
  unfolding term read_term
  term_exact = place (from term_node) (sets begins_unary more_term refl refl (after_maybe pair unary_exact (loop (after term_operand (token is_term itself c.Star refl) unary_exact refl) refl) refl))

  sum_exact : ExactFor Expr (sum here inside I) (read_sum here inside P) false begins_unary more_sum
  unfolding sum read_sum
  sum_exact = place (from sum_node) (sets begins_unary more_sum refl refl (after_maybe pair term_exact (loop (after sum_operand (token is_sum itself c.Plus refl) term_exact refl) refl) refl))

  shift_exact : ExactFor Expr (shift here inside I) (read_shift here inside P) false begins_unary more_shift
  unfolding shift read_shift
  shift_exact = place (from shift_node) (sets begins_unary more_shift refl refl (after_maybe pair sum_exact (loop (after shift_operand (token is_shift itself c.ShiftLeft refl) sum_exact refl) refl) refl))

  bit_and_exact : ExactFor Expr (bit_and here inside I) (read_bit_and here inside P) false begins_unary more_band
  unfolding bit_and read_bit_and
  bit_and_exact = place (from bit_and_node) (sets begins_unary more_band refl refl (after_maybe pair shift_exact (loop (after operand (token is_ampersand itself c.Ampersand refl) shift_exact refl) refl) refl))

  bit_xor_exact : ExactFor Expr (bit_xor here inside I) (read_bit_xor here inside P) false begins_unary more_xor
  unfolding bit_xor read_bit_xor
  bit_xor_exact = place (from bit_xor_node) (sets begins_unary more_xor refl refl (after_maybe pair bit_and_exact (loop (after operand (token is_caret itself c.Caret refl) bit_and_exact refl) refl) refl))

  bit_or_exact : ExactFor Expr (bit_or here inside I) (read_bit_or here inside P) false begins_unary more_bor
  unfolding bit_or read_bit_or
  bit_or_exact = place (from bit_or_node) (sets begins_unary more_bor refl refl (after_maybe pair bit_xor_exact (loop (after operand (token is_bar itself c.Bar refl) bit_xor_exact refl) refl) refl))

  compare_exact : ExactFor Expr (compare here inside I) (read_compare here inside P) false begins_unary more_cmp
  unfolding compare read_compare
  compare_exact = place (from compare_node) (sets begins_unary more_cmp refl refl (after_maybe pair bit_or_exact (optional (after pair cop_exact bit_or_exact refl)) refl))

  negated_exact : ExactFor Expr (negated here inside I) (read_negated here inside P) false is_not more_cmp
  unfolding negated read_negated
  negated_exact = within_room here two (opened not_node is_not itself c.Not refl (given level.Not)) (λ h. after not_node (token is_not itself c.Not refl) (X h level.Not) refl)

  negation_exact : ExactFor Expr (negation here inside I) (read_negation here inside P) false begins_expr more_cmp
  unfolding negation read_negation
  negation_exact = sets begins_expr more_cmp refl refl (either_of negated_exact compare_exact refl)

  conjunction_exact : ExactFor Expr (conjunction here inside I) (read_conjunction here inside P) false begins_expr more_and
  unfolding conjunction read_conjunction
  conjunction_exact = place (from and_node) (sets begins_expr more_and refl refl (after_maybe pair negation_exact (loop (after second (token is_and itself c.And refl) negation_exact refl) refl) refl))

  disjunction_exact : ExactFor Expr (disjunction here inside I) (read_disjunction here inside P) false begins_expr more_or
  unfolding disjunction read_disjunction
  disjunction_exact = place (from or_node) (sets begins_expr more_or refl refl (after_maybe pair conjunction_exact (loop (after second (token is_or itself c.Or refl) conjunction_exact refl) refl) refl))

  otherwise_exact : ExactFor Expr (otherwise here inside I) (read_otherwise here inside P) false is_else more_expr
  unfolding otherwise read_otherwise
  otherwise_exact = within_room here two (opened second is_else itself c.Else refl (given level.Expr)) (λ h. after second (token is_else itself c.Else refl) (X h level.Expr) refl)

  condition_exact : ExactFor (Expr × Expr) (condition here inside I) (read_condition here inside P) false is_if more_expr
  unfolding condition read_condition
  condition_exact = after second (token is_if itself c.If refl) (after pair disjunction_exact otherwise_exact refl) refl

  expr_exact : ExactFor Expr (expr here inside I) (read_expr here inside P) false begins_expr more_expr
  unfolding expr read_expr
  expr_exact = place (from conditional_node) (sets begins_expr more_expr refl refl (after_maybe pair disjunction_exact (optional condition_exact) refl))

  pub level_exact : (l : Level) → ExactFor Expr (at_level here inside I l) (read_at_level here inside P l) false (begins_of l) (more_of l)
  level_exact level.Expr = expr_exact
  level_exact level.Not = negation_exact
  level_exact level.Unary = unary_exact
  level_exact level.Postfix = postfix_exact

-- ---- at any room

pub some_deep : (l : Level) → Sentence Token Expr (deep l)
some_deep l = let s = some_token is_name name_node c.Name refl in record { tokens = s.tokens; value = s.value; spelled = (0, s.spelled) }

pub exact : (n : ℕ) (l : Level) → ExactFor Expr (Spells n l) (reads n l) false (begins_of l) (more_of l)
exact zero l = level_exact false false deep (λ l ts. bad unexpected ts) some_deep (λ h l. cc) l
exact (suc n) l = level_exact true (is_positive n) (Spells n) (reads n) (λ l. (exact n l).exact.sentences.some) (λ h l. exact n l) l
