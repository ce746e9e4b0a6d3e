-- The productions of which two alternatives begin alike, with the common beginning once. `FactoredAlike` of Laws says that
-- nothing else changes.
use Rattle.std.specs.Prelude.{ℕ, suc, false, List, [], Option, Some, None}
use Rattle.pyx_lex.specs.declared.token.Token.{Token}
use Rattle.token_class.specs.Sets.{Classes, of}
use Rattle.cy_tree.specs.declared.decl.ClauseNode.{ClauseNode}
use Rattle.cy_tree.specs.declared.decl.ImportItem.{ImportItem}
use Rattle.cy_tree.specs.declared.decl.Member.{Member}
use Rattle.cy_tree.specs.declared.decl.PxdItem.{PxdItem}
use Rattle.cy_tree.specs.declared.decl.PxdMember.{PxdMember}
use Rattle.cy_tree.specs.declared.decl.Top.{Top}
use Rattle.cy_tree.specs.declared.stmt.Simple.{Simple}
use Rattle.cy_tree.specs.declared.types.Dim.{Dim}
use Rattle.cy_tree.specs.declared.types.Ident.{Ident}
use Rattle.cy_tree.specs.declared.types.TypeNode.{TypeNode}
use Rattle.forms.specs.Forms.{Mark, Form, either, one, both, nothing, or, placed, guard}
use Rattle.forms.specs.Lists.{Row, push, first, second, pair, itself}
use Rattle.expr_grammar.specs.Words.{is_plain_name, is_str, is_question_mark, is_open_bracket, is_close_bracket}
use Rattle.expr_grammar.specs.Nodes.{at, text, some, named_node}
use Rattle.expr_grammar.specs.Grammar.{two, opt, flag, member, dims, is_positive}
use Rattle.decl_grammar.specs.Words.{is_pass, is_import, is_from, is_cimport, is_cdef, is_cpdef, is_c_word, is_except, is_nogil, is_noexcept, is_star, is_newline}
use Rattle.decl_grammar.specs.Nodes.{Typed, Marks, Behind, from_import_node, line_node, simples_node, star_node, value_node, noexcept_node, declared_by, pass_member, docstring_node, def_member, open_fields, cpdef_method, from_cimport, class_node, cpdef_function, cimport_top, def_top, stmt_top, pxd_pass_member, pxd_open_fields, pxd_cpdef_method, pxd_cimport, pxd_pass, pxd_class, pxd_function}
use Rattle.decl_grammar.specs.Grammar.{apply, mapped, unless, type_at, name, declared_name, typed_name, items, more_simples, stmt_at, amount, clause, class, open_names, def, cpdef, behind_member, class_member, behind_top, behind_pxd_member, pxd_class_member, heading, plain_cimport, cimport}

abbrev pub flipped : {A B C : Type 0} → (A → B → C) → B → A → C
flipped f b a = f a b

-- L M | L N, with L once
abbrev pub fork : {A B C D : Type 0} → (A → B → C) → (A → D → C) → Form Token A → Form Token B → Form Token D → Form Token C
fork f g L M N = both apply L (or (mapped (flipped f) M) (mapped (flipped g) N))

-- the two forms spell the same
pub record Same (A : Type 0) (L M : Form Token A) : Type 0 where
  pub there : (ts : List (Mark Token)) (a : A) → L ts a → M ts a
  pub back : (ts : List (Mark Token)) (a : A) → M ts a → L ts a

-- ---- [type] NAME

-- what stands behind a first NAME, where that begins a type
abbrev pub named_type : Ident → Option Ident × List Dim → TypeNode
named_type x p = record { at = x.at; constant = false; name = named_node x p.0; dims = p.1 }

abbrev pub typed : Option Ident × List Dim → Ident → Ident → Typed
typed p y x = (Some (named_type x p), y)

abbrev pub untyped : Ident → Typed
untyped x = (None, x)

-- ['[' dims ']']
unfoldable pub brackets : ℕ → Form Token (List Dim)
brackets n = or (guard (is_positive n) two (both second (one (of is_open_bracket) itself) (both first dims (one (of is_close_bracket) itself)))) (nothing [])

-- [['.' NAME] ['[' dims ']'] NAME]
unfoldable pub behind_name : ℕ → Form Token (Ident → Typed)
behind_name n = or (both typed (both pair (opt member) (brackets n)) declared_name) (nothing untyped)

-- a type that begins with no plain NAME, and the NAME behind it
unfoldable pub definite : ℕ → Form Token Typed
definite n = both pair (both some (unless (of is_plain_name) (type_at n)) (nothing tt)) declared_name

-- type NAME, where that begins with no plain NAME | NAME [['.' NAME] ['[' dims ']'] NAME]
unfoldable pub name_factored : ℕ → Form Token Typed
name_factored n = or (definite n) (both apply declared_name (behind_name n))

-- ---- headers

-- 'except' ('*' | ['?'] ['-'] INT) | 'noexcept'
unfoldable pub clause_factored : Form Token ClauseNode
clause_factored = or (fork star_node value_node (one (of is_except) itself) (one (of is_star) itself) (both pair (flag is_question_mark) amount)) (one (of is_noexcept) noexcept_node)

abbrev pub clause_then : ClauseNode → Option ℕ → Marks
clause_then given word = (Some given, word)

abbrev pub nogil_then : ℕ → Option ClauseNode → Marks
nogil_then word given = (given, Some word)

-- clause ['nogil'] | 'nogil' [clause] | nothing
unfoldable pub marks_factored : Form Token Marks
marks_factored = or (both clause_then clause (opt (one (of is_nogil) at))) (or (both nogil_then (one (of is_nogil) at) (opt clause)) (nothing (None, None)))

-- ---- items of files and classes

-- 'from' NAME
unfoldable pub from_name : Form Token (Token × Ident)
from_name = both pair (one (of is_from) itself) name

abbrev pub cimport_behind : Token × Ident → List ImportItem → Top
cimport_behind w all = cimport_top (from_cimport w.0 (w.1, all))

abbrev pub import_behind : Token × Ident → (List ImportItem × Row Simple) × Token → Top
import_behind w p = stmt_top (simples_node (line_node (push (from_import_node w.0 (w.1, p.0.0)) p.0.1) p.1))

-- 'cimport' item {',' item} NEWLINE
unfoldable pub cimport_tail : Form Token (List ImportItem)
cimport_tail = both second (one (of is_cimport) itself) (both first items (one (of is_newline) itself))

-- with no `from`, `cdef` or `cpdef`
abbrev pub is_apart : Classes
is_apart = either is_from is_c_word

module _ (m : ℕ) where
  -- 'import' item {',' item} {';' simple} [';'] NEWLINE
  unfoldable pub import_tail : Form Token ((List ImportItem × Row Simple) × Token)
  import_tail = both second (one (of is_import) itself) (both pair (both pair items (more_simples (suc m))) (one (of is_newline) itself))

  -- [type] NAME (header ':' suite | {',' NAME} NEWLINE)
  unfoldable pub member_tail : Form Token (Typed × Behind Member)
  member_tail = both pair (typed_name (suc m)) (behind_member m)

  unfoldable pub member_factored : Form Token Member
  member_factored = or (both first (one (of is_pass) pass_member) (one (of is_newline) itself)) (or (placed docstring_node (both first (one (of is_str) text) (one (of is_newline) itself))) (or (mapped def_member (def m)) (or (fork open_fields declared_by (one (of is_cdef) itself) (open_names m) (member_tail)) (cpdef m cpdef_method))))

  -- [type] NAME (header ':' suite | vars)
  unfoldable pub top_tail : Form Token (Typed × Behind Top)
  top_tail = both pair (typed_name (suc m)) (behind_top m)

  unfoldable pub top_factored : Form Token Top
  top_factored = or (mapped cimport_top plain_cimport) (or (fork cimport_behind import_behind from_name cimport_tail import_tail)
      (or (fork class_node declared_by (one (of is_cdef) itself) (class (class_member m) pass_member) top_tail) (or (cpdef m cpdef_function) (or (mapped def_top (def m)) (mapped stmt_top (unless (of is_apart) (stmt_at (suc m))))))))

  -- [type] NAME (header NEWLINE | {',' NAME} NEWLINE)
  unfoldable pub pxd_member_tail : Form Token (Typed × Behind PxdMember)
  pxd_member_tail = both pair (typed_name (suc m)) (behind_pxd_member m)

  unfoldable pub pxd_member_factored : Form Token PxdMember
  pxd_member_factored = or (both first (one (of is_pass) pxd_pass_member) (one (of is_newline) itself)) (or (fork pxd_open_fields declared_by (one (of is_cdef) itself) (open_names m) pxd_member_tail) (both pxd_cpdef_method (one (of is_cpdef) itself) (heading m)))

  unfoldable pub item_factored : Form Token PxdItem
  item_factored = or (mapped pxd_cimport cimport) (or (both pxd_pass (one (of is_pass) itself) (one (of is_newline) itself)) (or (fork pxd_class pxd_function (one (of is_cdef) itself) (class (pxd_class_member m) pxd_pass_member) (heading m)) (both pxd_function (one (of is_cpdef) itself) (heading m))))
