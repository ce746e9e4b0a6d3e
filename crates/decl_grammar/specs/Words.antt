-- Sets of classes: the tokens of the grammar of statements and declarations, and what each form begins with.
use Rattle.std.specs.Prelude.{true, false}
use Rattle.token_class.specs.declared.class.TokenClass.TheVariants as c
use Rattle.token_class.specs.Sets.{Classes}
use Rattle.forms.specs.Forms.{either}
use Rattle.expr_grammar.specs.Words.{begins_expr}

abbrev pub is_pass : Classes
is_pass c.Pass = true
is_pass _ = false

abbrev pub is_break : Classes
is_break c.Break = true
is_break _ = false

abbrev pub is_continue : Classes
is_continue c.Continue = true
is_continue _ = false

abbrev pub is_return : Classes
is_return c.Return = true
is_return _ = false

abbrev pub is_raise : Classes
is_raise c.Raise = true
is_raise _ = false

abbrev pub is_del : Classes
is_del c.Del = true
is_del _ = false

abbrev pub is_global : Classes
is_global c.Global = true
is_global _ = false

abbrev pub is_import : Classes
is_import c.Import = true
is_import _ = false

abbrev pub is_from : Classes
is_from c.From = true
is_from _ = false

abbrev pub is_cimport : Classes
is_cimport c.Cimport = true
is_cimport _ = false

abbrev pub is_cdef : Classes
is_cdef c.Cdef = true
is_cdef _ = false

abbrev pub is_cpdef : Classes
is_cpdef c.Cpdef = true
is_cpdef _ = false

abbrev pub is_class : Classes
is_class c.Class = true
is_class _ = false

abbrev pub is_def : Classes
is_def c.Def = true
is_def _ = false

abbrev pub is_as : Classes
is_as c.As = true
is_as _ = false

abbrev pub is_elif : Classes
is_elif c.Elif = true
is_elif _ = false

abbrev pub is_while : Classes
is_while c.While = true
is_while _ = false

abbrev pub is_for : Classes
is_for c.For = true
is_for _ = false

abbrev pub is_try : Classes
is_try c.Try = true
is_try _ = false

abbrev pub is_except : Classes
is_except c.Except = true
is_except _ = false

abbrev pub is_finally : Classes
is_finally c.Finally = true
is_finally _ = false

abbrev pub is_with : Classes
is_with c.With = true
is_with _ = false

abbrev pub is_nogil : Classes
is_nogil c.Nogil = true
is_nogil _ = false

abbrev pub is_noexcept : Classes
is_noexcept c.Noexcept = true
is_noexcept _ = false

-- `nogil` or `gil`
abbrev pub is_lock : Classes
is_lock c.Nogil = true
is_lock c.Gil = true
is_lock _ = false

-- `public` or `readonly`
abbrev pub is_access : Classes
is_access c.Public = true
is_access c.Readonly = true
is_access _ = false

-- `cdef` or `cpdef`
abbrev pub is_c_word : Classes
is_c_word c.Cdef = true
is_c_word c.Cpdef = true
is_c_word _ = false

abbrev pub is_assign : Classes
is_assign c.Assign = true
is_assign _ = false

-- an operator that ends with `=` and is no comparison and no `=`
abbrev pub is_augop : Classes
is_augop c.PlusAssign = true
is_augop c.MinusAssign = true
is_augop c.StarAssign = true
is_augop c.SlashAssign = true
is_augop c.FloorDivideAssign = true
is_augop c.PercentAssign = true
is_augop c.ShiftLeftAssign = true
is_augop c.ShiftRightAssign = true
is_augop c.AmpersandAssign = true
is_augop c.BarAssign = true
is_augop c.CaretAssign = true
is_augop _ = false

abbrev pub is_star : Classes
is_star c.Star = true
is_star _ = false

abbrev pub is_minus : Classes
is_minus c.Minus = true
is_minus _ = false

abbrev pub is_semicolon : Classes
is_semicolon c.Semicolon = true
is_semicolon _ = false

abbrev pub is_newline : Classes
is_newline c.Newline = true
is_newline _ = false

abbrev pub is_indent : Classes
is_indent c.Indent = true
is_indent _ = false

abbrev pub is_dedent : Classes
is_dedent c.Dedent = true
is_dedent _ = false

abbrev pub is_end : Classes
is_end c.End = true
is_end _ = false

-- the words with which a simple statement begins, but `from` and `cdef`
abbrev pub begins_word : Classes
begins_word c.Pass = true
begins_word c.Break = true
begins_word c.Continue = true
begins_word c.Return = true
begins_word c.Raise = true
begins_word c.Del = true
begins_word c.Global = true
begins_word c.Import = true
begins_word _ = false

abbrev pub begins_compound : Classes
begins_compound c.If = true
begins_compound c.While = true
begins_compound c.For = true
begins_compound c.Try = true
begins_compound c.With = true
begins_compound _ = false

abbrev pub begins_simple : Classes
begins_simple = either begins_word (either is_from (either is_cdef begins_expr))

abbrev pub begins_stmt : Classes
begins_stmt = either begins_simple begins_compound
