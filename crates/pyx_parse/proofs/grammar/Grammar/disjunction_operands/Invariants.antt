use Rattle.std.proofs.Common.{◌≡◌, ◌-◌}
use Rattle.forms.specs.Readers.{read_both, read_one, read_many}
use Rattle.forms.specs.Lists.{second, itself}
use Rattle.forms.proofs.Loops.{with_front, left}
use Rattle.token_class.specs.Sets.{of}
use Rattle.expr_grammar.specs.Words as set
use Rattle.expr_grammar.specs.Grammar.{is_positive}
use Rattle.expr_grammar.specs.Reading as spec
use Rattle.pyx_parse.specs.Below.{below}
use Rattle.pyx_parse.proofs.grammar.Grammar.disjunction_operands.Given as goal

abbrev pub invariant-loop-turn : goal.invariant-loop-turn
invariant-loop-turn g l =
    let item = (read_both second (read_one (of set.is_or) itself) (spec.read_conjunction l.self.here (is_positive l.self.room) (below l.self.here l.self.room))) in
    read_many (of set.is_or) item l.fn.input ≡ with_front l.found (left (l._turn-end - l._turn) (of set.is_or) item l.input)
