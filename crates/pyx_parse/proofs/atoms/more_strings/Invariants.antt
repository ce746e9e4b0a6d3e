use Rattle.std.proofs.Common.{◌≡◌, ◌-◌}
use Rattle.forms.specs.Readers.{read_one, read_many}
use Rattle.forms.proofs.Loops.{with_front, left}
use Rattle.token_class.specs.Sets.{of}
use Rattle.expr_grammar.specs.Words as set
use Rattle.expr_grammar.specs.Nodes as node
use Rattle.pyx_parse.proofs.atoms.more_strings.Given as goal

abbrev pub invariant-loop-turn : goal.invariant-loop-turn
invariant-loop-turn l =
    let item = read_one (of set.is_str) node.text in
    read_many (of set.is_str) item l.fn.input ≡ with_front l.found (left (l._turn-end - l._turn) (of set.is_str) item l.input)
