use Rattle.std.proofs.Common.{◌≡◌, ◌-◌}
use Rattle.forms.specs.Readers.{read_many}
use Rattle.forms.proofs.Loops.{with_front, left}
use Rattle.token_class.specs.Sets.{of}
use Rattle.expr_grammar.specs.Words as set
use Rattle.decl_grammar.specs.Reading as spec
use Rattle.pyx_stmt.proofs.exprs.more_declared.Given as goal

abbrev pub invariant-loop-turn : goal.invariant-loop-turn
invariant-loop-turn l =
    let item = (spec.read_declared l.room) in
    read_many (of set.is_comma) item l.fn.input ≡ with_front l.found (left (l._turn-end - l._turn) (of set.is_comma) item l.input)
