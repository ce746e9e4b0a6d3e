-- What reads statements is exact.
use Rattle.std.proofs.Common.{ℕ, zero, suc, true, false, not, ◌||◌, List, [], ◌∷◌, refl}
use Rattle.std.specs.Prelude.{Option}
use Rattle.pyx_lex.specs.declared.token.Token.{Token}
use Rattle.token_class.specs.declared.class.TokenClass.TheVariants as c
use Rattle.token_class.specs.Sets.{Classes, of}
use Rattle.token_class.proofs.Laws.{ExactFor, optional, empty, token, seq, place, loop, list, sets, after, after_maybe, either_of, maybe}
use Rattle.cy_tree.specs.declared.decl.ImportItem.{ImportItem}
use Rattle.cy_tree.specs.declared.expr.Expr.{Expr}
use Rattle.cy_tree.specs.declared.stmt.Arm.{Arm}
use Rattle.cy_tree.specs.declared.stmt.Declared.{Declared}
use Rattle.cy_tree.specs.declared.stmt.Handler.{Handler}
use Rattle.cy_tree.specs.declared.stmt.Line.{Line}
use Rattle.cy_tree.specs.declared.stmt.Simple.{Simple}
use Rattle.cy_tree.specs.declared.stmt.Stmt.{Stmt}
use Rattle.cy_tree.specs.declared.stmt.Suite.{Suite}
use Rattle.cy_tree.specs.declared.types.Ident.{Ident}
use Rattle.forms.specs.Forms.{Mark, plain, Form, none, either, Begins, Sentences, one, both}
use Rattle.forms.specs.Readers.{Reader, read_one, read_both}
use Rattle.forms.specs.Lists.{Row, push, second, pair, itself}
use Rattle.forms.proofs.GuardLaws.{over_exact}
use Rattle.expr_grammar.specs.declared.Level.TheVariants as level
use Rattle.expr_grammar.specs.Words.{is_name, is_if, is_else, is_in, is_comma, is_colon, begins_expr, begins_postfix, more_expr, more_postfix}
use Rattle.expr_grammar.specs.Nodes.{from, ident, cons, group_node}
use Rattle.expr_grammar.specs.Grammar.{two, opt, pair_of_three}
use Rattle.expr_grammar.specs.Reading.{read_opt}
use Rattle.expr_grammar.proofs.LevelLaws.{exact}
use Rattle.decl_grammar.specs.Words.{is_pass, is_break, is_continue, is_return, is_raise, is_del, is_global, is_import, is_from, is_cdef, is_as, is_elif, is_while, is_for, is_try, is_except, is_finally, is_with, is_lock, is_assign, is_augop, is_semicolon, is_newline, is_indent, is_dedent, begins_word, begins_simple, begins_compound, begins_stmt}
use Rattle.decl_grammar.specs.Nodes.{pass_node, break_node, continue_node, return_node, raise_node, del_node, global_node, item_node, import_node, from_import_node, declared_node, Values, cdef_node, expression_node, augmented_node, assign_node, line_node, inline_node, block_node, simples_node, arm_node, if_node, while_node, for_node, handler_node, Handled, unhandled, try_node, lock_word, with_node}
use Rattle.decl_grammar.specs.Grammar.{apply, given, mapped, expr, target, next_name, alias, item, items, names, exprs, value, declared, values, return_stmt, raise_stmt, del_stmt, global_stmt, import_stmt, from_stmt, cdef_stmt, word_stmt, assigned, change, expression_stmt, simple, more_simples, line, suite, body, tested, else_part, finally_part, elif_part, if_stmt, while_stmt, for_stmt, caught, handler, handlers, try_stmt, with_stmt, compound, stmt, some_of, beyond, deeper, inside, stmt_at, body_at}
use Rattle.decl_grammar.specs.Reading.{read_mapped, read_expr, read_target, read_next_name, read_alias, read_item, read_items, read_names, read_exprs, read_value, read_declared, read_values, read_return, read_raise, read_del, read_global, read_import, read_from, read_cdef, read_word_stmt, read_assigned, read_change, begins_change, read_expression_stmt, read_simple, read_more_simples, read_line, read_suite, read_body, read_tested, read_else, read_finally, read_elif, read_if, read_while, read_for, read_caught, read_handler, read_handlers, read_try, read_with, read_compound, read_stmt, read_some_of, read_inside, read_stmt_at, read_body_at, goes_on}
use Rattle.decl_grammar.proofs.NameLaws.{typed_name_exact}

pub mapped_exact : {A C : Type 0} {L : Form Token A} {p : Reader Token A} {b m : Classes} (f : A → C) → ExactFor A L p false b m → ExactFor C (mapped f L) (read_mapped f p) false b (either none m)
mapped_exact f X = after_maybe (given f) X (empty tt) refl

-- ---- names

pub next_name_exact : ExactFor Ident next_name read_next_name false is_comma none
unfolding next_name read_next_name
next_name_exact = after second (token is_comma itself c.Comma refl) (token is_name ident c.Name refl) refl

alias_exact : ExactFor (Option Ident) alias read_alias true is_as is_as
unfolding alias read_alias
alias_exact = sets is_as is_as refl refl (optional (after second (token is_as itself c.As refl) (token is_name ident c.Name refl) refl))

pub item_exact : ExactFor ImportItem item read_item false is_name is_as
unfolding item read_item
item_exact = sets is_name is_as refl refl (after_maybe item_node (token is_name ident c.Name refl) alias_exact refl)

abbrev pub more_items : Classes
more_items = either is_as is_comma

pub items_exact : ExactFor (List ImportItem) items read_items false is_name more_items
unfolding items read_items
items_exact = sets is_name more_items refl refl (after_maybe cons item_exact (loop (after second (token is_comma itself c.Comma refl) item_exact refl) refl) refl)

names_exact : ExactFor (List Ident) names read_names false is_name is_comma
unfolding names read_names
names_exact = sets is_name is_comma refl refl (after_maybe cons (token is_name ident c.Name refl) (loop next_name_exact refl) refl)

-- what a list of expressions may go on with
abbrev more_exprs : Classes
more_exprs = either is_comma (either begins_expr more_expr)

abbrev more_words : Classes
more_words = either is_as more_exprs

abbrev pub more_values : Classes
more_values = either is_assign (either is_comma more_expr)

-- whatever doesn't end a simple statement
abbrev pub more_simple : Classes
more_simple x = not (is_semicolon x || is_newline x)

abbrev pub more_row : Classes
more_row x = not (is_newline x)

-- what a statement may go on with
abbrev pub more_stmt : Classes
more_stmt = either is_elif (either is_else (either is_except is_finally))

abbrev pub more_stmts : Classes
more_stmts = either begins_stmt more_stmt

abbrev pub block : Form Token (List Stmt) → Form Token Suite
block L = both second (one (of is_indent) itself) (both block_node L (one (of is_dedent) itself))

abbrev pub read_block : Reader Token (List Stmt) → Reader Token Suite
read_block p = read_both second (read_one (of is_indent) itself) (read_both block_node p (read_one (of is_dedent) itself))

module _ (n : ℕ) where
  expr_exact : ExactFor Expr (expr n) (read_expr n) false begins_expr more_expr
  expr_exact = exact n level.Expr

  target_exact : ExactFor Expr (target n) (read_target n) false begins_postfix more_postfix
  target_exact = exact n level.Postfix

  exprs_exact : ExactFor Expr (exprs n) (read_exprs n) false begins_expr more_exprs
  unfolding exprs read_exprs
  exprs_exact = place (from group_node) (sets begins_expr more_exprs refl refl (after_maybe push expr_exact (list is_comma c.Comma refl expr_exact refl) refl))

  pub value_exact : ExactFor Expr (value n) (read_value n) false is_assign more_expr
  unfolding value read_value
  value_exact = after second (token is_assign itself c.Assign refl) expr_exact refl

  declared_exact : ExactFor Declared (declared n) (read_declared n) false is_comma (either is_assign more_expr)
  unfolding declared read_declared
  declared_exact = sets is_comma (either is_assign more_expr) refl refl (after second (token is_comma itself c.Comma refl) (after_maybe declared_node (token is_name ident c.Name refl) (optional value_exact) refl) refl)

  pub values_exact : ExactFor Values (values n) (read_values n) true (either is_assign is_comma) more_values
  unfolding values read_values
  values_exact = sets (either is_assign is_comma) more_values refl refl (seq pair (optional value_exact) (loop declared_exact refl) refl)

  -- ---- simple statements

  return_exact : ExactFor Simple (return_stmt n) (read_return n) false is_return more_exprs
  unfolding return_stmt read_return
  return_exact = sets is_return more_exprs refl refl (after_maybe return_node (token is_return itself c.Return refl) (optional exprs_exact) refl)

  raise_exact : ExactFor Simple (raise_stmt n) (read_raise n) false is_raise more_exprs
  unfolding raise_stmt read_raise
  raise_exact = sets is_raise more_exprs refl refl (after_maybe raise_node (token is_raise itself c.Raise refl) (optional expr_exact) refl)

  del_exact : ExactFor Simple (del_stmt n) (read_del n) false is_del more_exprs
  unfolding del_stmt read_del
  del_exact =
      let others = loop (after second (token is_comma itself c.Comma refl) expr_exact refl) refl in
      sets is_del more_exprs refl refl (after del_node (token is_del itself c.Del refl) (after_maybe cons expr_exact others refl) refl)

  global_exact : ExactFor Simple (global_stmt n) (read_global n) false is_global is_comma
  unfolding global_stmt read_global
  global_exact = after global_node (token is_global itself c.Global refl) names_exact refl

  import_exact : ExactFor Simple (import_stmt n) (read_import n) false is_import more_items
  unfolding import_stmt read_import
  import_exact = after import_node (token is_import itself c.Import refl) items_exact refl

  from_exact : ExactFor Simple (from_stmt n) (read_from n) false is_from more_items
  unfolding from_stmt read_from
  from_exact = after from_import_node (token is_from itself c.From refl) (after pair (token is_name ident c.Name refl) (after second (token is_import itself c.Import refl) items_exact refl) refl) refl

  pub cdef_exact : ExactFor Simple (cdef_stmt n) (read_cdef n) false is_cdef (either goes_on more_values)
  unfolding cdef_stmt read_cdef
  cdef_exact = sets is_cdef (either goes_on more_values) refl refl (after cdef_node (token is_cdef itself c.Cdef refl) (after_maybe pair (typed_name_exact n) values_exact refl) refl)

  pub word_exact : ExactFor Simple (word_stmt n) (read_word_stmt n) false begins_word more_words
  unfolding word_stmt read_word_stmt
  word_exact =
      let lists = either_of del_exact (either_of global_exact import_exact refl) refl in
      let jumps = either_of return_exact (either_of raise_exact lists refl) refl in
      sets begins_word more_words refl refl
      (either_of (token is_pass pass_node c.Pass refl) (either_of (token is_break break_node c.Break refl) (either_of (token is_continue continue_node c.Continue refl) jumps refl) refl) refl)

  assigned_exact : ExactFor Expr (assigned n) (read_assigned n) false is_assign more_exprs
  unfolding assigned read_assigned
  assigned_exact = after second (token is_assign itself c.Assign refl) exprs_exact refl

  change_exact : ExactFor (Expr → Simple) (change n) (read_change n) false begins_change (either is_assign more_exprs)
  unfolding change read_change
  change_exact = sets begins_change (either is_assign more_exprs) refl refl
      (either_of (after augmented_node (token is_augop itself c.PlusAssign refl) expr_exact refl) (after_maybe assign_node assigned_exact (loop assigned_exact refl) refl) refl)

  pub expression_exact : ExactFor Simple (expression_stmt n) (read_expression_stmt n) false begins_expr (either begins_change more_exprs)
  unfolding expression_stmt read_expression_stmt
  expression_exact = sets begins_expr (either begins_change more_exprs) refl refl (after_maybe apply exprs_exact (maybe expression_node change_exact) refl)

  pub simple_exact : ExactFor Simple (simple n) (read_simple n) false begins_simple more_simple
  unfolding simple read_simple
  simple_exact = sets begins_simple more_simple refl refl (either_of word_exact (either_of from_exact (either_of cdef_exact expression_exact refl) refl) refl)

  pub simples_exact : ExactFor (Row Simple) (more_simples n) (read_more_simples n) true is_semicolon more_row
  unfolding more_simples read_more_simples
  simples_exact = sets is_semicolon more_row refl refl (list is_semicolon c.Semicolon refl simple_exact refl)

  pub line_exact : ExactFor Line (line n) (read_line n) false begins_simple none
  unfolding line read_line
  line_exact = after line_node (sets begins_simple more_row refl refl (after_maybe push simple_exact simples_exact refl)) (token is_newline itself c.Newline refl) refl

  -- ---- suites and statements, given the law of an indented suite

  module _ (L : Form Token (List Stmt)) (p : Reader Token (List Stmt)) (B : ExactFor Suite (block L) (read_block p) false is_indent none) where
    suite_exact : ExactFor Suite (suite n L) (read_suite n p) false (either begins_simple is_newline) none
    unfolding suite read_suite
    suite_exact = sets (either begins_simple is_newline) none refl refl (either_of (mapped_exact inline_node line_exact) (after second (token is_newline itself c.Newline refl) B refl) refl)

    pub body_exact : ExactFor Suite (body n L) (read_body n p) false is_colon none
    unfolding body read_body
    body_exact = after second (token is_colon itself c.Colon refl) suite_exact refl

    tested_exact : ExactFor (Expr × Suite) (tested n L) (read_tested n p) false begins_expr none
    unfolding tested read_tested
    tested_exact = after pair expr_exact body_exact refl

    else_exact : ExactFor Suite (else_part n L) (read_else n p) false is_else none
    unfolding else_part read_else
    else_exact = after second (token is_else itself c.Else refl) body_exact refl

    finally_exact : ExactFor Suite (finally_part n L) (read_finally n p) false is_finally none
    unfolding finally_part read_finally
    finally_exact = after second (token is_finally itself c.Finally refl) body_exact refl

    elif_exact : ExactFor Arm (elif_part n L) (read_elif n p) false is_elif none
    unfolding elif_part read_elif
    elif_exact = after arm_node (token is_elif itself c.Elif refl) tested_exact refl

    if_exact : ExactFor Stmt (if_stmt n L) (read_if n p) false is_if (either is_elif is_else)
    unfolding if_stmt read_if
    if_exact =
        let others = seq pair (loop elif_exact refl) (optional else_exact) refl in
        sets is_if (either is_elif is_else) refl refl (after if_node (token is_if itself c.If refl) (after_maybe pair_of_three tested_exact others refl) refl)

    looped_exact : ExactFor ((Expr × Suite) × Option Suite) (both pair (tested n L) (opt (else_part n L))) (read_both pair (read_tested n p) (read_opt is_else (read_else n p))) false begins_expr is_else
    looped_exact = sets begins_expr is_else refl refl (after_maybe pair tested_exact (optional else_exact) refl)

    while_exact : ExactFor Stmt (while_stmt n L) (read_while n p) false is_while is_else
    unfolding while_stmt read_while
    while_exact = after while_node (token is_while itself c.While refl) looped_exact refl

    for_exact : ExactFor Stmt (for_stmt n L) (read_for n p) false is_for is_else
    unfolding for_stmt read_for
    for_exact = after for_node (token is_for itself c.For refl) (after pair_of_three target_exact (after second (token is_in itself c.In refl) looped_exact refl) refl) refl

    caught_exact : ExactFor (Expr × Option Ident) (caught n L) (read_caught n p) false begins_expr (either is_as more_expr)
    unfolding caught read_caught
    caught_exact = after_maybe pair expr_exact alias_exact refl

    handler_exact : ExactFor Handler (handler n L) (read_handler n p) false is_except none
    unfolding handler read_handler
    handler_exact = sets is_except none refl refl (after handler_node (token is_except itself c.Except refl) (sets (either begins_expr is_colon) none refl refl (seq pair (optional caught_exact) body_exact refl)) refl)

    handlers_exact : ExactFor Handled (handlers n L) (read_handlers n p) false is_except (either is_else (either is_except is_finally))
    unfolding handlers read_handlers
    handlers_exact =
        let others = seq pair (optional else_exact) (optional finally_exact) refl in
        sets is_except (either is_else (either is_except is_finally)) refl refl (after_maybe pair_of_three (after_maybe cons handler_exact (loop handler_exact refl) refl) others refl)

    try_exact : ExactFor Stmt (try_stmt n L) (read_try n p) false is_try (either is_else (either is_except is_finally))
    unfolding try_stmt read_try
    try_exact = sets is_try (either is_else (either is_except is_finally)) refl refl
        (after try_node (token is_try itself c.Try refl) (after pair body_exact (either_of handlers_exact (mapped_exact unhandled finally_exact) refl) refl) refl)

    with_exact : ExactFor Stmt (with_stmt n L) (read_with n p) false is_with none
    unfolding with_stmt read_with
    with_exact = after with_node (token is_with itself c.With refl) (after pair (token is_lock lock_word c.Nogil refl) body_exact refl) refl

    pub compound_exact : ExactFor Stmt (compound n L) (read_compound n p) false begins_compound more_stmt
    unfolding compound read_compound
    compound_exact = sets begins_compound more_stmt refl refl (either_of if_exact (either_of while_exact (either_of for_exact (either_of try_exact with_exact refl) refl) refl) refl)

    pub stmt_exact : ExactFor Stmt (stmt n L) (read_stmt n p) false begins_stmt more_stmt
    unfolding stmt read_stmt
    stmt_exact = sets begins_stmt more_stmt refl refl (either_of (mapped_exact simples_node line_exact) compound_exact refl)

    pub stmts_exact : ExactFor (List Stmt) (some_of (stmt n L)) (read_some_of begins_stmt (read_stmt n p)) false begins_stmt more_stmts
    stmts_exact = sets begins_stmt more_stmts refl refl (after_maybe cons stmt_exact (loop stmt_exact refl) refl)

-- ---- nesting

abbrev read_beyond : ℕ → Reader Token (List Stmt)
read_beyond zero = read_some_of begins_simple (read_mapped simples_node (read_line zero))
read_beyond (suc k) = read_some_of begins_stmt (read_stmt zero (read_beyond k))

lines_exact : ExactFor (List Stmt) (beyond zero) (read_beyond zero) false begins_simple begins_simple
unfolding beyond
lines_exact = let X = mapped_exact simples_node (line_exact zero) in sets begins_simple begins_simple refl refl (after_maybe cons X (loop X refl) refl)

pub block_exact : (L : Form Token (List Stmt)) (p : Reader Token (List Stmt)) → ExactFor (List Stmt) L p false begins_stmt more_stmts → ExactFor Suite (block L) (read_block p) false is_indent none
block_exact L p S = after second (token is_indent itself c.Indent refl) (after block_node S (token is_dedent itself c.Dedent refl) refl) refl

beyond_by : (k : ℕ) → ExactFor Suite (block (beyond k)) (read_block (read_beyond k)) false is_indent none → ExactFor (List Stmt) (beyond (suc k)) (read_beyond (suc k)) false begins_stmt more_stmts
unfolding beyond
beyond_by k B = stmts_exact zero (beyond k) (read_beyond k) B

block_beyond : (k : ℕ) → ExactFor Suite (block (beyond k)) (read_block (read_beyond k)) false is_indent none
block_beyond zero = after second (token is_indent itself c.Indent refl) (after block_node lines_exact (token is_dedent itself c.Dedent refl) refl) refl
block_beyond (suc k) = block_exact (beyond (suc k)) (read_beyond (suc k)) (beyond_by k (block_beyond k))

beyond_exact : (k : ℕ) → ExactFor (List Stmt) (beyond (suc k)) (read_beyond (suc k)) false begins_stmt more_stmts
beyond_exact k = beyond_by k (block_beyond k)

simple_begins : (us : List Token) → Begins false (of begins_simple) us → Begins false (of begins_stmt) us
simple_begins [] n = n
simple_begins (z ∷ us) n = rw n refl

deeper_first : (k : ℕ) (front : List (Mark Token)) (all : List Stmt) → beyond k front all → Begins false (of begins_stmt) (plain front)
deeper_first zero front all l = simple_begins (plain front) (lines_exact.exact.sentences.first front all l)
deeper_first (suc k) front all l = (beyond_exact k).exact.sentences.first front all l

deeper_sentences : Sentences Token (List Stmt) deeper false (of begins_stmt)
deeper_sentences =
    let s = lines_exact.exact.sentences.some in
    record {
      first = λ front all l. deeper_first l.0 front all l.1;
      some = record { tokens = s.tokens; value = s.value; spelled = (0, s.spelled) };
      blank = λ h. cc;
      starts = λ x h. let u = (beyond_exact 0).exact.sentences.starts x h in (u.0, u.1, u.2, (1, u.3));
    }

-- ---- at any room

pub inside_exact : (n : ℕ) → ExactFor (List Stmt) (inside n) (read_inside n) false begins_stmt more_stmts
unfolding inside read_inside
inside_exact zero = record { exact = over_exact Token (List Stmt) two deeper (of begins_stmt) (of more_stmts) deeper_sentences }
inside_exact (suc n) = stmts_exact n (inside n) (read_inside n) (block_exact (inside n) (read_inside n) (inside_exact n))

abbrev pub block_at : (n : ℕ) → ExactFor Suite (block (inside n)) (read_block (read_inside n)) false is_indent none
block_at n = block_exact (inside n) (read_inside n) (inside_exact n)

pub stmt_at_exact : (n : ℕ) → ExactFor Stmt (stmt_at n) (read_stmt_at n) false begins_stmt more_stmt
stmt_at_exact n = stmt_exact n (inside n) (read_inside n) (block_at n)

pub body_at_exact : (n : ℕ) → ExactFor Suite (body_at n) (read_body_at n) false is_colon none
body_at_exact n = body_exact n (inside n) (read_inside n) (block_at n)
