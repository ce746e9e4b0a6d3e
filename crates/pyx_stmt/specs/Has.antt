-- The classes of each set.
use Rattle.std.specs.Prelude.{◌≡◌, false, refl}
use Rattle.token_class.specs.Sets.{Classes}
use Rattle.token_class.specs.declared.class.TokenClass.TheVariants.{End}
use Rattle.forms.specs.Forms.{either}
use Rattle.expr_grammar.specs.Words.{begins_type}
use Rattle.decl_grammar.specs.Words.{is_pass, is_break, is_continue, is_return, is_raise, is_del, is_global, is_import, is_from, is_cimport, is_cdef, is_cpdef, is_class, is_def, is_as, is_elif, is_while, is_for, is_try, is_except, is_finally, is_with, is_nogil, is_noexcept, is_assign, is_star, is_minus, is_semicolon, is_newline, is_indent, is_dedent, is_lock, is_access, is_c_word, is_augop, begins_word, begins_compound, begins_simple, begins_stmt}
use Rattle.decl_grammar.specs.Reading.{begins_change, begins_clause, is_definite, goes_on, begins_pxd_member, begins_member, begins_top, begins_item}
use Rattle.pyx_stmt.specs.declared.sets.StmtSet.{StmtSet}
use Rattle.pyx_stmt.specs.declared.sets.StmtSet.TheVariants as set

abbrev pub has : StmtSet → Classes
has set.Pass = is_pass
has set.Break = is_break
has set.Continue = is_continue
has set.Return = is_return
has set.Raise = is_raise
has set.Del = is_del
has set.Global = is_global
has set.Import = is_import
has set.From = is_from
has set.Cimport = is_cimport
has set.Cdef = is_cdef
has set.Cpdef = is_cpdef
has set.Class = is_class
has set.Def = is_def
has set.As = is_as
has set.Elif = is_elif
has set.While = is_while
has set.For = is_for
has set.Try = is_try
has set.Except = is_except
has set.Finally = is_finally
has set.With = is_with
has set.Nogil = is_nogil
has set.Noexcept = is_noexcept
has set.Assign = is_assign
has set.Star = is_star
has set.Minus = is_minus
has set.Semicolon = is_semicolon
has set.Newline = is_newline
has set.Indent = is_indent
has set.Dedent = is_dedent
has set.Lock = is_lock
has set.Access = is_access
has set.CWord = is_c_word
has set.Augop = is_augop
has set.BeginsWord = begins_word
has set.BeginsCompound = begins_compound
has set.BeginsSimple = begins_simple
has set.BeginsStmt = begins_stmt
has set.BeginsChange = begins_change
has set.BeginsClause = begins_clause
has set.BeginsType = begins_type
has set.Definite = is_definite
has set.GoesOn = goes_on
has set.BeginsPxdMember = begins_pxd_member
has set.BeginsMember = begins_member
has set.BeginsTop = begins_top
has set.BeginsItem = begins_item
has set.CimportOrFrom = either is_cimport is_from

-- the end is in no set
pub has-end : (s : StmtSet) → has s End ≡ false
has-end set.Pass = refl
has-end set.Break = refl
has-end set.Continue = refl
has-end set.Return = refl
has-end set.Raise = refl
has-end set.Del = refl
has-end set.Global = refl
has-end set.Import = refl
has-end set.From = refl
has-end set.Cimport = refl
has-end set.Cdef = refl
has-end set.Cpdef = refl
has-end set.Class = refl
has-end set.Def = refl
has-end set.As = refl
has-end set.Elif = refl
has-end set.While = refl
has-end set.For = refl
has-end set.Try = refl
has-end set.Except = refl
has-end set.Finally = refl
has-end set.With = refl
has-end set.Nogil = refl
has-end set.Noexcept = refl
has-end set.Assign = refl
has-end set.Star = refl
has-end set.Minus = refl
has-end set.Semicolon = refl
has-end set.Newline = refl
has-end set.Indent = refl
has-end set.Dedent = refl
has-end set.Lock = refl
has-end set.Access = refl
has-end set.CWord = refl
has-end set.Augop = refl
has-end set.BeginsWord = refl
has-end set.BeginsCompound = refl
has-end set.BeginsSimple = refl
has-end set.BeginsStmt = refl
has-end set.BeginsChange = refl
has-end set.BeginsClause = refl
has-end set.BeginsType = refl
has-end set.Definite = refl
has-end set.GoesOn = refl
has-end set.BeginsPxdMember = refl
has-end set.BeginsMember = refl
has-end set.BeginsTop = refl
has-end set.BeginsItem = refl
has-end set.CimportOrFrom = refl
