-- The grammar of statements, suites, declarations, classes and files (Python language reference, 7 and 8; Cython
-- documentation, "Language Basics", "Extension Types", "Sharing Declarations Between Cython Modules").
-- Quoted words are tokens; [x] is optional, {x} is any number, | is a choice. A NAME before which a type may stand is no
-- number word. So where [type] NAME begins with a NAME, that one begins a type exactly where a NAME, '.' or '[' follows.
use Rattle.std.specs.Prelude.{◌≡◌, ℕ, zero, suc, false, List, [], Option}
use Rattle.pyx_lex.specs.declared.token.Token.{Token}
use Rattle.token_class.specs.Sets.{of}
use Rattle.cy_tree.specs.declared.content.Content.{Content}
use Rattle.cy_tree.specs.declared.decl.Cimport.{Cimport}
use Rattle.cy_tree.specs.declared.decl.ClassBase.{ClassBase}
use Rattle.cy_tree.specs.declared.decl.ClauseNode.{ClauseNode}
use Rattle.cy_tree.specs.declared.decl.Def.{Def}
use Rattle.cy_tree.specs.declared.decl.Header.{Header}
use Rattle.cy_tree.specs.declared.decl.ImportItem.{ImportItem}
use Rattle.cy_tree.specs.declared.decl.Member.{Member}
use Rattle.cy_tree.specs.declared.decl.Param.{Param}
use Rattle.cy_tree.specs.declared.decl.PxdItem.{PxdItem}
use Rattle.cy_tree.specs.declared.decl.PxdMember.{PxdMember}
use Rattle.cy_tree.specs.declared.decl.Top.{Top}
use Rattle.cy_tree.specs.declared.expr.Expr.{Expr}
use Rattle.cy_tree.specs.declared.stmt.Arm.{Arm}
use Rattle.cy_tree.specs.declared.stmt.Declared.{Declared}
use Rattle.cy_tree.specs.declared.stmt.Handler.{Handler}
use Rattle.cy_tree.specs.declared.stmt.Line.{Line}
use Rattle.cy_tree.specs.declared.stmt.Simple.{Simple}
use Rattle.cy_tree.specs.declared.stmt.Stmt.{Stmt}
use Rattle.cy_tree.specs.declared.stmt.Suite.{Suite}
use Rattle.cy_tree.specs.declared.types.Ident.{Ident}
use Rattle.cy_tree.specs.declared.types.TypeNode.{TypeNode}
use Rattle.forms.specs.Forms.{Mark, plain, Form, Set, one, both, nothing, or, many, placed, over}
use Rattle.forms.specs.Readers.{sees}
use Rattle.forms.specs.Lists.{Row, push, first, second, pair, itself, trail, trail_upto}
use Rattle.expr_grammar.specs.declared.Level.TheVariants as level
use Rattle.expr_grammar.specs.Words.{is_name, is_plain_name, is_int, is_str, is_none, is_if, is_else, is_not, is_in, is_comma, is_colon, is_question_mark, is_open_parenthesis, is_close_parenthesis}
use Rattle.expr_grammar.specs.Nodes.{at, from, text, ident, int_of, cons, group_node}
use Rattle.expr_grammar.specs.Grammar.{two, opt, flag, member, pair_of_three, type, deep, is_positive, Spells}
use Rattle.decl_grammar.specs.Words.{is_pass, is_break, is_continue, is_return, is_raise, is_del, is_global, is_import, is_from, is_cimport, is_cdef, is_cpdef, is_class, is_def, is_as, is_elif, is_while, is_for, is_try, is_except, is_finally, is_with, is_nogil, is_noexcept, is_lock, is_access, is_c_word, is_assign, is_augop, is_star, is_minus, is_semicolon, is_newline, is_indent, is_dedent, is_end}
use Rattle.decl_grammar.specs.Nodes.{pass_node, break_node, continue_node, return_node, raise_node, del_node, global_node, item_node, import_node, from_import_node, declared_node, Typed, Values, cdef_node, expression_node, augmented_node, assign_node, line_node, inline_node, block_node, simples_node, arm_node, if_node, while_node, for_node, handler_node, Handled, unhandled, try_node, lock_word, with_node, not_none, param_node, param_list, star_node, Amount, signed, value_node, noexcept_node, Marks, nogil_first, header_node, def_node, base_node, Body, alone, Behind, declared_by, Open, access_word, pass_member, docstring_node, def_member, open_fields, fields, method, cpdef_method, module_cimport, from_cimport, class_node, function, variables, cpdef_function, cimport_top, def_top, stmt_top, implementation_node, pxd_pass_member, pxd_open_fields, pxd_fields, pxd_method, pxd_cpdef_method, pxd_cimport, pxd_pass, pxd_class, pxd_function, definition_node}

-- ---- forms

abbrev pub apply : {A C : Type 0} → A → (A → C) → C
apply a f = f a

-- the form, with another value
abbrev pub given : {A C : Type 0} → (A → C) → A → Unit {0} → C
given f a u = f a

abbrev pub mapped : {A C : Type 0} → (A → C) → Form Token A → Form Token C
mapped f L = both (given f) L (nothing tt)

-- the form, where it begins with no token of the set
pub record Unless (A : Type 0) (b : Set Token) (L : Form Token A) (ts : List (Mark Token)) (a : A) : Type 0 where
  pub inside : L ts a
  pub other : sees b (plain ts) ≡ false

abbrev pub unless : {A : Type 0} → Set Token → Form Token A → Form Token A
unless {A} b L = Unless A b L

abbrev pub three : Token → ℕ
three x = 3

-- ---- parts, where n more things may be opened

abbrev pub expr : ℕ → Form Token Expr
expr n = Spells n level.Expr

abbrev pub target : ℕ → Form Token Expr
target n = Spells n level.Postfix

-- a type, which nests nothing but its brackets
abbrev pub type_at : ℕ → Form Token TypeNode
type_at n = type false (is_positive n) deep

abbrev pub name : Form Token Ident
name = one (of is_name) ident

-- a NAME that is no number word
abbrev pub declared_name : Form Token Ident
declared_name = one (of is_plain_name) ident

-- ',' NAME
unfoldable pub next_name : Form Token Ident
next_name = both second (one (of is_comma) itself) name

-- ['as' NAME]
unfoldable pub alias : Form Token (Option Ident)
alias = opt (both second (one (of is_as) itself) name)

-- NAME ['as' NAME]
unfoldable pub item : Form Token ImportItem
item = both item_node name alias

-- item {',' item}
unfoldable pub items : Form Token (List ImportItem)
items = both cons item (many (both second (one (of is_comma) itself) item))

-- NAME {',' NAME}
unfoldable pub names : Form Token (List Ident)
names = both cons name (many next_name)

module _ (n : ℕ) where
  -- expr {',' expr} [',']
  unfoldable pub exprs : Form Token Expr
  exprs = placed (from group_node) (both push (expr n) (trail (of is_comma) (expr n)))

  -- [type] NAME
  unfoldable pub typed_name : Form Token Typed
  typed_name = both pair (opt (type_at n)) declared_name

  -- '=' expr
  unfoldable pub value : Form Token Expr
  value = both second (one (of is_assign) itself) (expr n)

  -- ',' NAME ['=' expr]
  unfoldable pub declared : Form Token Declared
  declared = both second (one (of is_comma) itself) (both declared_node name (opt value))

  -- ['=' expr] {',' NAME ['=' expr]}
  unfoldable pub values : Form Token Values
  values = both pair (opt value) (many declared)

  -- ---- simple statements

  -- 'return' [exprs]
  unfoldable pub return_stmt : Form Token Simple
  return_stmt = both return_node (one (of is_return) itself) (opt exprs)

  -- 'raise' [expr]
  unfoldable pub raise_stmt : Form Token Simple
  raise_stmt = both raise_node (one (of is_raise) itself) (opt (expr n))

  -- 'del' expr {',' expr}
  unfoldable pub del_stmt : Form Token Simple
  del_stmt = both del_node (one (of is_del) itself) (both cons (expr n) (many (both second (one (of is_comma) itself) (expr n))))

  -- 'global' NAME {',' NAME}
  unfoldable pub global_stmt : Form Token Simple
  global_stmt = both global_node (one (of is_global) itself) names

  -- 'import' item {',' item}
  unfoldable pub import_stmt : Form Token Simple
  import_stmt = both import_node (one (of is_import) itself) items

  -- 'from' NAME 'import' item {',' item}
  unfoldable pub from_stmt : Form Token Simple
  from_stmt = both from_import_node (one (of is_from) itself) (both pair name (both second (one (of is_import) itself) items))

  -- 'cdef' [type] NAME ['=' expr] {',' NAME ['=' expr]}
  unfoldable pub cdef_stmt : Form Token Simple
  cdef_stmt = both cdef_node (one (of is_cdef) itself) (both pair typed_name values)

  -- 'pass' | 'break' | 'continue' | 'return' [exprs] | 'raise' [expr] | 'del' expr {',' expr} | 'global' NAME {',' NAME}
  -- | 'import' item {',' item}
  unfoldable pub word_stmt : Form Token Simple
  word_stmt = or (one (of is_pass) pass_node) (or (one (of is_break) break_node) (or (one (of is_continue) continue_node) (or return_stmt (or raise_stmt (or del_stmt (or global_stmt import_stmt))))))

  -- '=' exprs
  unfoldable pub assigned : Form Token Expr
  assigned = both second (one (of is_assign) itself) exprs

  -- augop expr | '=' exprs {'=' exprs}
  unfoldable pub change : Form Token (Expr → Simple)
  change = or (both augmented_node (one (of is_augop) itself) (expr n)) (both assign_node assigned (many assigned))

  -- exprs [augop expr | '=' exprs {'=' exprs}]
  unfoldable pub expression_stmt : Form Token Simple
  expression_stmt = both apply exprs (or change (nothing expression_node))

  -- word_stmt | from_stmt | cdef_stmt | expression_stmt
  unfoldable pub simple : Form Token Simple
  simple = or word_stmt (or from_stmt (or cdef_stmt expression_stmt))

  -- {';' simple} [';']
  unfoldable pub more_simples : Form Token (Row Simple)
  more_simples = trail (of is_semicolon) simple

  -- simple {';' simple} [';'] NEWLINE
  unfoldable pub line : Form Token Line
  line = both line_node (both push simple more_simples) (one (of is_newline) itself)

  -- ---- suites and statements, given the statements of an indented suite

  module _ (statements : Form Token (List Stmt)) where
    -- line | NEWLINE INDENT stmt {stmt} DEDENT
    unfoldable pub suite : Form Token Suite
    suite = or (mapped inline_node line) (both second (one (of is_newline) itself) (both second (one (of is_indent) itself) (both block_node statements (one (of is_dedent) itself))))

    -- ':' suite
    unfoldable pub body : Form Token Suite
    body = both second (one (of is_colon) itself) suite

    -- expr ':' suite
    unfoldable pub tested : Form Token (Expr × Suite)
    tested = both pair (expr n) body

    -- 'else' ':' suite
    unfoldable pub else_part : Form Token Suite
    else_part = both second (one (of is_else) itself) body

    -- 'finally' ':' suite
    unfoldable pub finally_part : Form Token Suite
    finally_part = both second (one (of is_finally) itself) body

    -- 'elif' expr ':' suite
    unfoldable pub elif_part : Form Token Arm
    elif_part = both arm_node (one (of is_elif) itself) tested

    -- 'if' expr ':' suite {'elif' expr ':' suite} ['else' ':' suite]
    unfoldable pub if_stmt : Form Token Stmt
    if_stmt = both if_node (one (of is_if) itself) (both pair_of_three tested (both pair (many elif_part) (opt else_part)))

    -- 'while' expr ':' suite ['else' ':' suite]
    unfoldable pub while_stmt : Form Token Stmt
    while_stmt = both while_node (one (of is_while) itself) (both pair tested (opt else_part))

    -- 'for' postfix 'in' expr ':' suite ['else' ':' suite]
    unfoldable pub for_stmt : Form Token Stmt
    for_stmt = both for_node (one (of is_for) itself) (both pair_of_three (target n) (both second (one (of is_in) itself) (both pair tested (opt else_part))))

    -- expr ['as' NAME]
    unfoldable pub caught : Form Token (Expr × Option Ident)
    caught = both pair (expr n) alias

    -- 'except' [expr ['as' NAME]] ':' suite
    unfoldable pub handler : Form Token Handler
    handler = both handler_node (one (of is_except) itself) (both pair (opt caught) body)

    -- handler {handler} ['else' ':' suite] ['finally' ':' suite]
    unfoldable pub handlers : Form Token Handled
    handlers = both pair_of_three (both cons handler (many handler)) (both pair (opt else_part) (opt finally_part))

    -- 'try' ':' suite (handler {handler} ['else' ':' suite] ['finally' ':' suite] | 'finally' ':' suite)
    unfoldable pub try_stmt : Form Token Stmt
    try_stmt = both try_node (one (of is_try) itself) (both pair body (or handlers (mapped unhandled finally_part)))

    -- 'with' ('nogil' | 'gil') ':' suite
    unfoldable pub with_stmt : Form Token Stmt
    with_stmt = both with_node (one (of is_with) itself) (both pair (one (of is_lock) lock_word) body)

    -- if | while | for | try | 'with' ('nogil' | 'gil') ':' suite
    unfoldable pub compound : Form Token Stmt
    compound = or if_stmt (or while_stmt (or for_stmt (or try_stmt with_stmt)))

    -- line | if | while | for | try | 'with' ('nogil' | 'gil') ':' suite
    unfoldable pub stmt : Form Token Stmt
    stmt = or (mapped simples_node line) compound

-- ---- nesting

-- x {x}
abbrev pub some_of : {A : Type 0} → Form Token A → Form Token (List A)
some_of L = both cons L (many L)

-- the statements of a suite for which there is no room, with suites at most so deep
unfoldable pub beyond : ℕ → Form Token (List Stmt)
beyond zero = some_of (mapped simples_node (line zero))
beyond (suc k) = some_of (stmt zero (beyond k))

-- however deep
abbrev pub deeper : Form Token (List Stmt)
deeper ts all = (k : ℕ) × beyond k ts all

-- The statements of an indented suite that stands where n more things may be opened. An INDENT has the first byte of
-- the token behind it, so that a suite too deep breaks rule 2 at this token, unless nothing goes on with it.
unfoldable pub inside : ℕ → Form Token (List Stmt)
inside zero = over two deeper
inside (suc n) = some_of (stmt n (inside n))

-- A statement, and what stands behind the colon of a function, where n more things may be opened.
abbrev pub stmt_at : ℕ → Form Token Stmt
stmt_at n = stmt n (inside n)

abbrev pub body_at : ℕ → Form Token Suite
body_at n = body n (inside n)

-- ---- declarations; m more things may be opened inside the brackets of a header, and so one more outside of them

-- 'cimport' item NEWLINE
unfoldable pub plain_cimport : Form Token Cimport
plain_cimport = both module_cimport (one (of is_cimport) itself) (both first item (one (of is_newline) itself))

-- 'from' NAME 'cimport' item {',' item} NEWLINE
unfoldable pub names_cimport : Form Token Cimport
names_cimport = both from_cimport (one (of is_from) itself) (both pair name (both second (one (of is_cimport) itself) (both first items (one (of is_newline) itself))))

-- 'cimport' NAME ['as' NAME] NEWLINE | 'from' NAME 'cimport' item {',' item} NEWLINE
unfoldable pub cimport : Form Token Cimport
cimport = or plain_cimport names_cimport

-- ['-'] INT
unfoldable pub amount : Form Token Amount
amount = placed signed (both pair (flag is_minus) (one (of is_int) int_of))

-- 'except' '*' | 'except' ['?'] ['-'] INT | 'noexcept'
unfoldable pub clause : Form Token ClauseNode
clause = or (or (both star_node (one (of is_except) itself) (one (of is_star) itself)) (both value_node (one (of is_except) itself) (both pair (flag is_question_mark) amount))) (one (of is_noexcept) noexcept_node)

-- [clause] ['nogil'] | 'nogil' clause
unfoldable pub marks : Form Token Marks
marks = or (both pair (opt clause) (opt (one (of is_nogil) at))) (both nogil_first (one (of is_nogil) at) clause)

-- '(' NAME ['.' NAME] ')'
unfoldable pub base : Form Token ClassBase
base = both second (one (of is_open_parenthesis) itself) (both first (both base_node name (opt member)) (one (of is_close_parenthesis) itself))

-- NEWLINE INDENT x {x} DEDENT | 'pass' NEWLINE
unfoldable pub members : {A : Type 0} → Form Token A → (Token → A) → Form Token (List A)
members L pass = or (both second (one (of is_newline) itself) (both second (one (of is_indent) itself) (both first (some_of L) (one (of is_dedent) itself)))) (both alone (one (of is_pass) pass) (one (of is_newline) itself))

-- 'class' NAME ['(' NAME ['.' NAME] ')'] ':' members
unfoldable pub class : {A : Type 0} → Form Token A → (Token → A) → Form Token (Body A)
class L pass = both second (one (of is_class) itself) (both pair_of_three name (both pair (opt base) (both second (one (of is_colon) itself) (members L pass))))

module _ (m : ℕ) where
  -- 'not' 'None'
  unfoldable pub never_none : Form Token ℕ
  never_none = both not_none (one (of is_not) itself) (one (of is_none) itself)

  -- [type] NAME ['not' 'None'] ['=' expr]
  unfoldable pub param : Form Token Param
  param = both param_node (typed_name m) (both pair (opt never_none) (opt (value m)))

  -- [param {',' param} [',']], of which the 33rd breaks rule 3
  unfoldable pub params : Form Token (Row Param)
  params = or (both push param (trail_upto 31 (of is_comma) three param)) (nothing ([], false))

  -- '(' params ')'
  unfoldable pub parameters : Form Token (List Param)
  parameters = both param_list (one (of is_open_parenthesis) itself) (both first params (one (of is_close_parenthesis) itself))

  -- '(' params ')' ([clause] ['nogil'] | 'nogil' clause)
  unfoldable pub header : Form Token Header
  header = both header_node parameters marks

  -- 'def' NAME '(' params ')' ':' suite
  unfoldable pub def : Form Token Def
  def = both def_node (one (of is_def) itself) (both pair_of_three name (both pair parameters (body_at (suc m))))

  -- 'cpdef' [type] NAME header ':' suite
  abbrev pub cpdef : {A : Type 0} → (Token → Typed × Header × Suite → A) → Form Token A
  cpdef f = both f (one (of is_cpdef) itself) (both pair_of_three (typed_name (suc m)) (both pair header (body_at (suc m))))

  -- ('public' | 'readonly') type NAME {',' NAME} NEWLINE
  unfoldable pub open_names : Form Token Open
  open_names = both pair_of_three (one (of is_access) access_word) (both pair (type_at (suc m)) (both cons declared_name (both first (many next_name) (one (of is_newline) itself))))

  -- ---- implementation files

  -- 'cdef' ('public' | 'readonly') type NAME {',' NAME} NEWLINE
  unfoldable pub open_member : Form Token Member
  open_member = both open_fields (one (of is_cdef) itself) open_names

  -- header ':' suite | {',' NAME} NEWLINE
  unfoldable pub behind_member : Form Token (Behind Member)
  behind_member = or (both method header (body_at (suc m))) (both fields (many next_name) (one (of is_newline) itself))

  -- 'cdef' [type] NAME (header ':' suite | {',' NAME} NEWLINE)
  unfoldable pub cdef_member : Form Token Member
  cdef_member = both declared_by (one (of is_cdef) itself) (both pair (typed_name (suc m)) behind_member)

  -- 'pass' NEWLINE | STRING NEWLINE | def | 'cdef' ('public' | 'readonly') type NAME {',' NAME} NEWLINE
  -- | 'cdef' [type] NAME (header ':' suite | {',' NAME} NEWLINE) | 'cpdef' [type] NAME header ':' suite
  unfoldable pub class_member : Form Token Member
  class_member = or (both first (one (of is_pass) pass_member) (one (of is_newline) itself)) (or (placed docstring_node (both first (one (of is_str) text) (one (of is_newline) itself))) (or (mapped def_member def) (or (or open_member cdef_member) (cpdef cpdef_method))))

  -- 'cdef' 'class' class
  unfoldable pub class_top : Form Token Top
  class_top = both class_node (one (of is_cdef) itself) (class class_member pass_member)

  -- header ':' suite | ['=' expr] {',' NAME ['=' expr]} NEWLINE
  unfoldable pub behind_top : Form Token (Behind Top)
  behind_top = or (both function header (body_at (suc m))) (both variables (values (suc m)) (one (of is_newline) itself))

  -- 'cdef' [type] NAME (header ':' suite | vars)
  unfoldable pub cdef_top : Form Token Top
  cdef_top = both declared_by (one (of is_cdef) itself) (both pair (typed_name (suc m)) behind_top)

  -- cimport | 'cdef' 'class' class | 'cdef' [type] NAME (header ':' suite | vars) | 'cpdef' [type] NAME header ':' suite
  -- | def | stmt, where that begins with no 'cdef' or 'cpdef'
  unfoldable pub top : Form Token Top
  top = or (mapped cimport_top cimport) (or (or class_top cdef_top) (or (cpdef cpdef_function) (or (mapped def_top def) (mapped stmt_top (unless (of is_c_word) (stmt_at (suc m)))))))

  -- {top} END
  unfoldable pub implementation : Form Token Content
  implementation = both implementation_node (many top) (one (of is_end) itself)

  -- ---- definition files

  -- 'cdef' ('public' | 'readonly') type NAME {',' NAME} NEWLINE
  unfoldable pub pxd_open_member : Form Token PxdMember
  pxd_open_member = both pxd_open_fields (one (of is_cdef) itself) open_names

  -- header NEWLINE | {',' NAME} NEWLINE
  unfoldable pub behind_pxd_member : Form Token (Behind PxdMember)
  behind_pxd_member = or (both pxd_method header (one (of is_newline) itself)) (both pxd_fields (many next_name) (one (of is_newline) itself))

  -- 'cdef' [type] NAME (header NEWLINE | {',' NAME} NEWLINE)
  unfoldable pub pxd_cdef_member : Form Token PxdMember
  pxd_cdef_member = both declared_by (one (of is_cdef) itself) (both pair (typed_name (suc m)) behind_pxd_member)

  -- [type] NAME header NEWLINE
  unfoldable pub heading : Form Token (Typed × Header)
  heading = both pair (typed_name (suc m)) (both first header (one (of is_newline) itself))

  -- 'pass' NEWLINE | 'cdef' ('public' | 'readonly') type NAME {',' NAME} NEWLINE
  -- | 'cdef' [type] NAME (header NEWLINE | {',' NAME} NEWLINE) | 'cpdef' [type] NAME header NEWLINE
  unfoldable pub pxd_class_member : Form Token PxdMember
  pxd_class_member = or (both first (one (of is_pass) pxd_pass_member) (one (of is_newline) itself)) (or (or pxd_open_member pxd_cdef_member) (both pxd_cpdef_method (one (of is_cpdef) itself) heading))

  -- cimport | 'pass' NEWLINE | 'cdef' 'class' dclass | ('cdef' | 'cpdef') [type] NAME header NEWLINE
  unfoldable pub pxd_item : Form Token PxdItem
  pxd_item = or (mapped pxd_cimport cimport) (or (both pxd_pass (one (of is_pass) itself) (one (of is_newline) itself)) (or (both pxd_class (one (of is_cdef) itself) (class pxd_class_member pxd_pass_member)) (both pxd_function (one (of is_c_word) itself) heading)))

  -- {cimport | 'pass' NEWLINE | 'cdef' 'class' dclass | ('cdef' | 'cpdef') [type] NAME header NEWLINE} END
  unfoldable pub definition : Form Token Content
  definition = both definition_node (many pxd_item) (one (of is_end) itself)
