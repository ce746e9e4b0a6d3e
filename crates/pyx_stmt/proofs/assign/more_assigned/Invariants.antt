use Rattle.std.proofs.Common.{◌≡◌, ◌-◌}
use Rattle.forms.specs.Readers.{read_many}
use Rattle.forms.proofs.Loops.{left}
use Rattle.token_class.specs.Sets.{of}
use Rattle.decl_grammar.specs.Words as words
use Rattle.decl_grammar.specs.Reading as spec
use Rattle.pyx_stmt.proofs.Chain.{ended}
use Rattle.pyx_stmt.proofs.assign.more_assigned.Given as goal

abbrev pub invariant-loop-turn : goal.invariant-loop-turn
invariant-loop-turn l =
    let item = spec.read_assigned l.room in
    ended l.fn.targets l.fn.value (read_many (of words.is_assign) item l.fn.input) ≡ ended l.targets l.value (left (l._turn-end - l._turn) (of words.is_assign) item l.input)
