-- What reads statements, declarations and files, in the shape of the factored grammar.
use Rattle.std.specs.Prelude.{ℕ, zero, suc, false, not, ◌&&◌, cond, List, [], Option, None}
use Rattle.pyx_lex.specs.declared.token.Token.{Token}
use Rattle.token_class.specs.Sets.{Classes, of}
use Rattle.cy_tree.specs.declared.content.Content.{Content}
use Rattle.cy_tree.specs.declared.decl.Cimport.{Cimport}
use Rattle.cy_tree.specs.declared.decl.ClassBase.{ClassBase}
use Rattle.cy_tree.specs.declared.decl.ClauseNode.{ClauseNode}
use Rattle.cy_tree.specs.declared.decl.Def.{Def}
use Rattle.cy_tree.specs.declared.decl.Header.{Header}
use Rattle.cy_tree.specs.declared.decl.ImportItem.{ImportItem}
use Rattle.cy_tree.specs.declared.decl.Member.{Member}
use Rattle.cy_tree.specs.declared.decl.Param.{Param}
use Rattle.cy_tree.specs.declared.decl.PxdItem.{PxdItem}
use Rattle.cy_tree.specs.declared.decl.PxdMember.{PxdMember}
use Rattle.cy_tree.specs.declared.decl.Top.{Top}
use Rattle.cy_tree.specs.declared.expr.Expr.{Expr}
use Rattle.cy_tree.specs.declared.stmt.Arm.{Arm}
use Rattle.cy_tree.specs.declared.stmt.Declared.{Declared}
use Rattle.cy_tree.specs.declared.stmt.Handler.{Handler}
use Rattle.cy_tree.specs.declared.stmt.Line.{Line}
use Rattle.cy_tree.specs.declared.stmt.Simple.{Simple}
use Rattle.cy_tree.specs.declared.stmt.Stmt.{Stmt}
use Rattle.cy_tree.specs.declared.stmt.Suite.{Suite}
use Rattle.cy_tree.specs.declared.types.Dim.{Dim}
use Rattle.cy_tree.specs.declared.types.Ident.{Ident}
use Rattle.cy_tree.specs.declared.types.TypeNode.{TypeNode}
use Rattle.forms.specs.Forms.{Set, either}
use Rattle.forms.specs.Readers.{bad, unexpected, Reader, sees, read_one, read_both, read_nothing, read_or, read_many, read_placed, read_guard, refuse}
use Rattle.forms.specs.Lists.{Row, push, first, second, pair, itself, read_trail, read_trail_upto}
use Rattle.expr_grammar.specs.declared.Level.TheVariants as level
use Rattle.expr_grammar.specs.Words.{is_name, is_plain_name, is_int, is_str, is_none, is_if, is_else, is_not, is_in, is_dot, is_comma, is_colon, is_question_mark, is_open_parenthesis, is_close_parenthesis, is_open_bracket, is_close_bracket, begins_expr, begins_type}
use Rattle.expr_grammar.specs.Nodes.{at, from, text, ident, int_of, cons, some, group_node}
use Rattle.expr_grammar.specs.Grammar.{two, pair_of_three, is_positive}
use Rattle.expr_grammar.specs.Reading.{read_opt, read_flag, read_member, read_dims, read_type, reads}
use Rattle.decl_grammar.specs.Words.{is_pass, is_break, is_continue, is_return, is_raise, is_del, is_global, is_import, is_from, is_cimport, is_cdef, is_cpdef, is_class, is_def, is_as, is_elif, is_while, is_for, is_try, is_except, is_finally, is_with, is_nogil, is_noexcept, is_lock, is_access, is_c_word, is_assign, is_augop, is_star, is_minus, is_semicolon, is_newline, is_indent, is_dedent, is_end, begins_word, begins_simple, begins_stmt}
use Rattle.decl_grammar.specs.Nodes.{pass_node, break_node, continue_node, return_node, raise_node, del_node, global_node, item_node, import_node, from_import_node, declared_node, Typed, Values, cdef_node, expression_node, augmented_node, assign_node, line_node, inline_node, block_node, simples_node, arm_node, if_node, while_node, for_node, handler_node, Handled, unhandled, try_node, lock_word, with_node, not_none, param_node, param_list, star_node, Amount, signed, value_node, noexcept_node, Marks, header_node, def_node, base_node, Body, alone, Behind, declared_by, Open, access_word, pass_member, docstring_node, def_member, open_fields, fields, method, cpdef_method, module_cimport, from_cimport, class_node, function, variables, cpdef_function, cimport_top, def_top, stmt_top, implementation_node, pxd_pass_member, pxd_open_fields, pxd_fields, pxd_method, pxd_cpdef_method, pxd_cimport, pxd_pass, pxd_class, pxd_function, definition_node}
use Rattle.decl_grammar.specs.Grammar.{apply, given, three}
use Rattle.decl_grammar.specs.Factored.{flipped, typed, untyped, clause_then, nogil_then, cimport_behind, import_behind, is_apart}

-- ---- forms

abbrev pub read_mapped : {A C : Type 0} → (A → C) → Reader Token A → Reader Token C
read_mapped f p = read_both (given f) p (read_nothing tt)

-- a token of the set is unexpected
unfoldable pub read_unless : {A : Type 0} → Set Token → Reader Token A → Reader Token A
read_unless b p ts = cond (sees b ts) (bad unexpected ts) (p ts)

-- the second where the next token is of the set, else the third
abbrev pub read_fork : {A B C D : Type 0} → (A → B → C) → (A → D → C) → Reader Token A → Classes → Reader Token B → Reader Token D → Reader Token C
read_fork f g p b q r = read_both apply p (read_or (of b) (read_mapped (flipped f) q) (read_mapped (flipped g) r))

-- ---- parts

abbrev pub read_expr : ℕ → Reader Token Expr
read_expr n = reads n level.Expr

abbrev pub read_target : ℕ → Reader Token Expr
read_target n = reads n level.Postfix

abbrev pub read_type_at : ℕ → Reader Token TypeNode
read_type_at n = read_type false (is_positive n) (λ l ts. bad unexpected ts)

abbrev pub read_name : Reader Token Ident
read_name = read_one (of is_name) ident

abbrev pub read_declared_name : Reader Token Ident
read_declared_name = read_one (of is_plain_name) ident

unfoldable pub read_next_name : Reader Token Ident
read_next_name = read_both second (read_one (of is_comma) itself) read_name

unfoldable pub read_alias : Reader Token (Option Ident)
read_alias = read_opt is_as (read_both second (read_one (of is_as) itself) read_name)

unfoldable pub read_item : Reader Token ImportItem
read_item = read_both item_node read_name read_alias

unfoldable pub read_items : Reader Token (List ImportItem)
read_items = read_both cons read_item (read_many (of is_comma) (read_both second (read_one (of is_comma) itself) read_item))

unfoldable pub read_names : Reader Token (List Ident)
read_names = read_both cons read_name (read_many (of is_comma) read_next_name)

unfoldable pub read_brackets : ℕ → Reader Token (List Dim)
read_brackets n = read_or (of is_open_bracket) (read_guard (is_positive n) (of is_open_bracket) two (read_both second (read_one (of is_open_bracket) itself) (read_both first read_dims (read_one (of is_close_bracket) itself)))) (read_nothing [])

-- what goes on behind a NAME that begins a type
abbrev pub goes_on : Classes
goes_on = either is_dot (either is_open_bracket is_plain_name)

unfoldable pub read_behind_name : ℕ → Reader Token (Ident → Typed)
read_behind_name n = read_or (of goes_on) (read_both typed (read_both pair (read_opt is_dot read_member) (read_brackets n)) read_declared_name) (read_nothing untyped)

-- what a type begins with, but a plain NAME
abbrev pub is_definite : Classes
is_definite x = begins_type x && not (is_plain_name x)

unfoldable pub read_definite : ℕ → Reader Token Typed
read_definite n = read_both pair (read_both some (read_unless (of is_plain_name) (read_type_at n)) (read_nothing tt)) read_declared_name

-- what makes another statement of an expression
abbrev pub begins_change : Classes
begins_change = either is_augop is_assign

module _ (n : ℕ) where
  unfoldable pub read_exprs : Reader Token Expr
  read_exprs = read_placed (from group_node) (read_both push (read_expr n) (read_trail (of is_comma) (of begins_expr) (read_expr n)))

  unfoldable pub read_typed_name : Reader Token Typed
  read_typed_name = read_or (of is_definite) (read_definite n) (read_both apply read_declared_name (read_behind_name n))

  unfoldable pub read_value : Reader Token Expr
  read_value = read_both second (read_one (of is_assign) itself) (read_expr n)

  unfoldable pub read_declared : Reader Token Declared
  read_declared = read_both second (read_one (of is_comma) itself) (read_both declared_node read_name (read_opt is_assign read_value))

  unfoldable pub read_values : Reader Token Values
  read_values = read_both pair (read_opt is_assign read_value) (read_many (of is_comma) read_declared)

  -- ---- simple statements

  unfoldable pub read_return : Reader Token Simple
  read_return = read_both return_node (read_one (of is_return) itself) (read_opt begins_expr read_exprs)

  unfoldable pub read_raise : Reader Token Simple
  read_raise = read_both raise_node (read_one (of is_raise) itself) (read_opt begins_expr (read_expr n))

  unfoldable pub read_del : Reader Token Simple
  read_del = read_both del_node (read_one (of is_del) itself) (read_both cons (read_expr n) (read_many (of is_comma) (read_both second (read_one (of is_comma) itself) (read_expr n))))

  unfoldable pub read_global : Reader Token Simple
  read_global = read_both global_node (read_one (of is_global) itself) read_names

  unfoldable pub read_import : Reader Token Simple
  read_import = read_both import_node (read_one (of is_import) itself) read_items

  unfoldable pub read_from : Reader Token Simple
  read_from = read_both from_import_node (read_one (of is_from) itself) (read_both pair read_name (read_both second (read_one (of is_import) itself) read_items))

  unfoldable pub read_cdef : Reader Token Simple
  read_cdef = read_both cdef_node (read_one (of is_cdef) itself) (read_both pair read_typed_name read_values)

  unfoldable pub read_word_stmt : Reader Token Simple
  read_word_stmt = read_or (of is_pass) (read_one (of is_pass) pass_node) (read_or (of is_break) (read_one (of is_break) break_node) (read_or (of is_continue) (read_one (of is_continue) continue_node) (read_or (of is_return) read_return
      (read_or (of is_raise) read_raise (read_or (of is_del) read_del (read_or (of is_global) read_global read_import))))))

  unfoldable pub read_assigned : Reader Token Expr
  read_assigned = read_both second (read_one (of is_assign) itself) read_exprs

  unfoldable pub read_change : Reader Token (Expr → Simple)
  read_change = read_or (of is_augop) (read_both augmented_node (read_one (of is_augop) itself) (read_expr n)) (read_both assign_node read_assigned (read_many (of is_assign) read_assigned))

  unfoldable pub read_expression_stmt : Reader Token Simple
  read_expression_stmt = read_both apply read_exprs (read_or (of begins_change) read_change (read_nothing expression_node))

  unfoldable pub read_simple : Reader Token Simple
  read_simple = read_or (of begins_word) read_word_stmt (read_or (of is_from) read_from (read_or (of is_cdef) read_cdef read_expression_stmt))

  unfoldable pub read_more_simples : Reader Token (Row Simple)
  read_more_simples = read_trail (of is_semicolon) (of begins_simple) read_simple

  unfoldable pub read_line : Reader Token Line
  read_line = read_both line_node (read_both push read_simple read_more_simples) (read_one (of is_newline) itself)

  -- ---- suites and statements

  module _ (statements : Reader Token (List Stmt)) where
    unfoldable pub read_suite : Reader Token Suite
    read_suite = read_or (of begins_simple) (read_mapped inline_node read_line) (read_both second (read_one (of is_newline) itself) (read_both second (read_one (of is_indent) itself) (read_both block_node statements (read_one (of is_dedent) itself))))

    unfoldable pub read_body : Reader Token Suite
    read_body = read_both second (read_one (of is_colon) itself) read_suite

    unfoldable pub read_tested : Reader Token (Expr × Suite)
    read_tested = read_both pair (read_expr n) read_body

    unfoldable pub read_else : Reader Token Suite
    read_else = read_both second (read_one (of is_else) itself) read_body

    unfoldable pub read_finally : Reader Token Suite
    read_finally = read_both second (read_one (of is_finally) itself) read_body

    unfoldable pub read_elif : Reader Token Arm
    read_elif = read_both arm_node (read_one (of is_elif) itself) read_tested

    unfoldable pub read_if : Reader Token Stmt
    read_if = read_both if_node (read_one (of is_if) itself) (read_both pair_of_three read_tested (read_both pair (read_many (of is_elif) read_elif) (read_opt is_else read_else)))

    unfoldable pub read_while : Reader Token Stmt
    read_while = read_both while_node (read_one (of is_while) itself) (read_both pair read_tested (read_opt is_else read_else))

    unfoldable pub read_for : Reader Token Stmt
    read_for = read_both for_node (read_one (of is_for) itself) (read_both pair_of_three (read_target n) (read_both second (read_one (of is_in) itself) (read_both pair read_tested (read_opt is_else read_else))))

    unfoldable pub read_caught : Reader Token (Expr × Option Ident)
    read_caught = read_both pair (read_expr n) read_alias

    unfoldable pub read_handler : Reader Token Handler
    read_handler = read_both handler_node (read_one (of is_except) itself) (read_both pair (read_opt begins_expr read_caught) read_body)

    unfoldable pub read_handlers : Reader Token Handled
    read_handlers = read_both pair_of_three (read_both cons read_handler (read_many (of is_except) read_handler)) (read_both pair (read_opt is_else read_else) (read_opt is_finally read_finally))

    unfoldable pub read_try : Reader Token Stmt
    read_try = read_both try_node (read_one (of is_try) itself) (read_both pair read_body (read_or (of is_except) read_handlers (read_mapped unhandled read_finally)))

    unfoldable pub read_with : Reader Token Stmt
    read_with = read_both with_node (read_one (of is_with) itself) (read_both pair (read_one (of is_lock) lock_word) read_body)

    unfoldable pub read_compound : Reader Token Stmt
    read_compound = read_or (of is_if) read_if (read_or (of is_while) read_while (read_or (of is_for) read_for (read_or (of is_try) read_try read_with)))

    unfoldable pub read_stmt : Reader Token Stmt
    read_stmt = read_or (of begins_simple) (read_mapped simples_node read_line) read_compound

-- ---- nesting

abbrev pub read_some_of : {A : Type 0} → Classes → Reader Token A → Reader Token (List A)
read_some_of b p = read_both cons p (read_many (of b) p)

unfoldable pub read_inside : ℕ → Reader Token (List Stmt)
read_inside zero = refuse (of begins_stmt) two
read_inside (suc n) = read_some_of begins_stmt (read_stmt n (read_inside n))

abbrev pub read_stmt_at : ℕ → Reader Token Stmt
read_stmt_at n = read_stmt n (read_inside n)

abbrev pub read_body_at : ℕ → Reader Token Suite
read_body_at n = read_body n (read_inside n)

-- ---- declarations

unfoldable pub read_plain_cimport : Reader Token Cimport
read_plain_cimport = read_both module_cimport (read_one (of is_cimport) itself) (read_both first read_item (read_one (of is_newline) itself))

unfoldable pub read_names_cimport : Reader Token Cimport
read_names_cimport = read_both from_cimport (read_one (of is_from) itself) (read_both pair read_name (read_both second (read_one (of is_cimport) itself) (read_both first read_items (read_one (of is_newline) itself))))

unfoldable pub read_cimport : Reader Token Cimport
read_cimport = read_or (of is_cimport) read_plain_cimport read_names_cimport

unfoldable pub read_amount : Reader Token Amount
read_amount = read_placed signed (read_both pair (read_flag is_minus) (read_one (of is_int) int_of))

unfoldable pub read_clause : Reader Token ClauseNode
read_clause = read_or (of is_except) (read_fork star_node value_node (read_one (of is_except) itself) is_star (read_one (of is_star) itself) (read_both pair (read_flag is_question_mark) read_amount)) (read_one (of is_noexcept) noexcept_node)

abbrev pub begins_clause : Classes
begins_clause = either is_except is_noexcept

unfoldable pub read_marks : Reader Token Marks
read_marks = read_or (of begins_clause) (read_both clause_then read_clause (read_opt is_nogil (read_one (of is_nogil) at))) (read_or (of is_nogil) (read_both nogil_then (read_one (of is_nogil) at) (read_opt begins_clause read_clause)) (read_nothing (None, None)))

unfoldable pub read_base : Reader Token ClassBase
read_base = read_both second (read_one (of is_open_parenthesis) itself) (read_both first (read_both base_node read_name (read_opt is_dot read_member)) (read_one (of is_close_parenthesis) itself))

unfoldable pub read_members : {A : Type 0} → Classes → Reader Token A → (Token → A) → Reader Token (List A)
read_members b p pass = read_or (of is_newline) (read_both second (read_one (of is_newline) itself) (read_both second (read_one (of is_indent) itself) (read_both first (read_some_of b p) (read_one (of is_dedent) itself)))) (read_both alone (read_one (of is_pass) pass) (read_one (of is_newline) itself))

unfoldable pub read_class : {A : Type 0} → Classes → Reader Token A → (Token → A) → Reader Token (Body A)
read_class b p pass = read_both second (read_one (of is_class) itself) (read_both pair_of_three read_name (read_both pair (read_opt is_open_parenthesis read_base) (read_both second (read_one (of is_colon) itself) (read_members b p pass))))

-- what members of classes begin with
abbrev pub begins_pxd_member : Classes
begins_pxd_member = either is_pass is_c_word

abbrev pub begins_member : Classes
begins_member = either begins_pxd_member (either is_str is_def)

-- what items of files begin with
abbrev pub begins_top : Classes
begins_top = either begins_stmt (either is_cimport (either is_cpdef is_def))

abbrev pub begins_item : Classes
begins_item = either is_cimport (either is_from (either is_pass is_c_word))

module _ (m : ℕ) where
  unfoldable pub read_never_none : Reader Token ℕ
  read_never_none = read_both not_none (read_one (of is_not) itself) (read_one (of is_none) itself)

  unfoldable pub read_param : Reader Token Param
  read_param = read_both param_node (read_typed_name m) (read_both pair (read_opt is_not read_never_none) (read_opt is_assign (read_value m)))

  unfoldable pub read_params : Reader Token (Row Param)
  read_params = read_or (of begins_type) (read_both push read_param (read_trail_upto 31 (of is_comma) (of begins_type) three read_param)) (read_nothing ([], false))

  unfoldable pub read_parameters : Reader Token (List Param)
  read_parameters = read_both param_list (read_one (of is_open_parenthesis) itself) (read_both first read_params (read_one (of is_close_parenthesis) itself))

  unfoldable pub read_header : Reader Token Header
  read_header = read_both header_node read_parameters read_marks

  unfoldable pub read_def : Reader Token Def
  read_def = read_both def_node (read_one (of is_def) itself) (read_both pair_of_three read_name (read_both pair read_parameters (read_body_at (suc m))))

  abbrev pub read_cpdef : {A : Type 0} → (Token → Typed × Header × Suite → A) → Reader Token A
  read_cpdef f = read_both f (read_one (of is_cpdef) itself) (read_both pair_of_three (read_typed_name (suc m)) (read_both pair read_header (read_body_at (suc m))))

  unfoldable pub read_open : Reader Token Open
  read_open = read_both pair_of_three (read_one (of is_access) access_word) (read_both pair (read_type_at (suc m)) (read_both cons read_declared_name (read_both first (read_many (of is_comma) read_next_name) (read_one (of is_newline) itself))))

  -- ---- implementation files

  unfoldable pub read_behind_member : Reader Token (Behind Member)
  read_behind_member = read_or (of is_open_parenthesis) (read_both method read_header (read_body_at (suc m))) (read_both fields (read_many (of is_comma) read_next_name) (read_one (of is_newline) itself))

  unfoldable pub read_member_tail : Reader Token (Typed × Behind Member)
  read_member_tail = read_both pair (read_typed_name (suc m)) read_behind_member

  unfoldable pub read_class_member : Reader Token Member
  read_class_member = read_or (of is_pass) (read_both first (read_one (of is_pass) pass_member) (read_one (of is_newline) itself)) (read_or (of is_str) (read_placed docstring_node (read_both first (read_one (of is_str) text) (read_one (of is_newline) itself))) (read_or (of is_def) (read_mapped def_member read_def)
      (read_or (of is_cdef) (read_fork open_fields declared_by (read_one (of is_cdef) itself) is_access read_open read_member_tail) (read_cpdef cpdef_method))))

  unfoldable pub read_behind_top : Reader Token (Behind Top)
  read_behind_top = read_or (of is_open_parenthesis) (read_both function read_header (read_body_at (suc m))) (read_both variables (read_values (suc m)) (read_one (of is_newline) itself))

  unfoldable pub read_top_tail : Reader Token (Typed × Behind Top)
  read_top_tail = read_both pair (read_typed_name (suc m)) read_behind_top

  unfoldable pub read_from_name : Reader Token (Token × Ident)
  read_from_name = read_both pair (read_one (of is_from) itself) read_name

  unfoldable pub read_cimport_tail : Reader Token (List ImportItem)
  read_cimport_tail = read_both second (read_one (of is_cimport) itself) (read_both first read_items (read_one (of is_newline) itself))

  unfoldable pub read_import_tail : Reader Token ((List ImportItem × Row Simple) × Token)
  read_import_tail = read_both second (read_one (of is_import) itself) (read_both pair (read_both pair read_items (read_more_simples (suc m))) (read_one (of is_newline) itself))

  unfoldable pub read_top : Reader Token Top
  read_top = read_or (of is_cimport) (read_mapped cimport_top read_plain_cimport) (read_or (of is_from) (read_fork cimport_behind import_behind read_from_name is_cimport read_cimport_tail read_import_tail)
      (read_or (of is_cdef) (read_fork class_node declared_by (read_one (of is_cdef) itself) is_class (read_class begins_member read_class_member pass_member) read_top_tail) (read_or (of is_cpdef) (read_cpdef cpdef_function)
      (read_or (of is_def) (read_mapped def_top read_def) (read_mapped stmt_top (read_unless (of is_apart) (read_stmt_at (suc m))))))))

  unfoldable pub read_implementation : Reader Token Content
  read_implementation = read_both implementation_node (read_many (of begins_top) read_top) (read_one (of is_end) itself)

  -- ---- definition files

  unfoldable pub read_behind_pxd_member : Reader Token (Behind PxdMember)
  read_behind_pxd_member = read_or (of is_open_parenthesis) (read_both pxd_method read_header (read_one (of is_newline) itself)) (read_both pxd_fields (read_many (of is_comma) read_next_name) (read_one (of is_newline) itself))

  unfoldable pub read_pxd_member_tail : Reader Token (Typed × Behind PxdMember)
  read_pxd_member_tail = read_both pair (read_typed_name (suc m)) read_behind_pxd_member

  unfoldable pub read_heading : Reader Token (Typed × Header)
  read_heading = read_both pair (read_typed_name (suc m)) (read_both first read_header (read_one (of is_newline) itself))

  unfoldable pub read_pxd_class_member : Reader Token PxdMember
  read_pxd_class_member = read_or (of is_pass) (read_both first (read_one (of is_pass) pxd_pass_member) (read_one (of is_newline) itself)) (read_or (of is_cdef) (read_fork pxd_open_fields declared_by (read_one (of is_cdef) itself) is_access read_open read_pxd_member_tail)
      (read_both pxd_cpdef_method (read_one (of is_cpdef) itself) read_heading))

  unfoldable pub read_pxd_item : Reader Token PxdItem
  read_pxd_item = read_or (of (either is_cimport is_from)) (read_mapped pxd_cimport read_cimport) (read_or (of is_pass) (read_both pxd_pass (read_one (of is_pass) itself) (read_one (of is_newline) itself))
      (read_or (of is_cdef) (read_fork pxd_class pxd_function (read_one (of is_cdef) itself) is_class (read_class begins_pxd_member read_pxd_class_member pxd_pass_member) read_heading) (read_both pxd_function (read_one (of is_cpdef) itself) read_heading)))

  unfoldable pub read_definition : Reader Token Content
  read_definition = read_both definition_node (read_many (of begins_item) read_pxd_item) (read_one (of is_end) itself)
