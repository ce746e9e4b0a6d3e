use Rattle.std.proofs.Common.{◌≡◌, ◌-◌}
use Rattle.forms.specs.Readers.{read_many}
use Rattle.forms.proofs.Loops.{with_front, left}
use Rattle.token_class.specs.Sets.{of}
use Rattle.decl_grammar.specs.Words as words
use Rattle.decl_grammar.specs.Reading as spec
use Rattle.pyx_suite.proofs.suites.Suites.more_handlers.Given as goal

abbrev pub invariant-loop-turn : goal.invariant-loop-turn
invariant-loop-turn g l =
    let item = (spec.read_handler l.self.room (spec.read_inside l.self.room)) in
    read_many (of words.is_except) item l.fn.input ≡ with_front l.found (left (l._turn-end - l._turn) (of words.is_except) item l.input)
