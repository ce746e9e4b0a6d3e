use Rattle.std.proofs.Common.{◌≡◌, ◌-◌}
use Rattle.forms.specs.Readers.{read_many}
use Rattle.forms.proofs.Loops.{with_front, left}
use Rattle.token_class.specs.Sets.{of}
use Rattle.expr_grammar.specs.Words as set
use Rattle.expr_grammar.specs.Grammar.{is_positive}
use Rattle.expr_grammar.specs.Reading as spec
use Rattle.pyx_parse.specs.Below.{below}
use Rattle.pyx_parse.proofs.grammar.Grammar.parts.Given as goal

abbrev pub invariant-loop-turn : goal.invariant-loop-turn
invariant-loop-turn g l =
    let item = spec.read_part l.self.here (is_positive l.self.room) (below l.self.here l.self.room) in
    read_many (of set.trails) item l.fn.input ≡ with_front l.found (left (l._turn-end - l._turn) (of set.trails) item l.input)
