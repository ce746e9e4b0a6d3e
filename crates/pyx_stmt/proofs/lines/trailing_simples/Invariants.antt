use Rattle.std.proofs.Common.{◌≡◌, ◌-◌}
use Rattle.forms.specs.Lists.{read_trail}
use Rattle.forms.proofs.RowLoops.{with_row, left_row}
use Rattle.token_class.specs.Sets.{of}
use Rattle.decl_grammar.specs.Words as words
use Rattle.decl_grammar.specs.Reading as spec
use Rattle.pyx_stmt.proofs.lines.trailing_simples.Given as goal

abbrev pub invariant-loop-turn : goal.invariant-loop-turn
invariant-loop-turn l =
    let item = spec.read_simple l.room in
    read_trail (of words.is_semicolon) (of words.begins_simple) item l.fn.input ≡ with_row l.found (left_row (l._turn-end - l._turn) (of words.is_semicolon) (of words.begins_simple) item l.input)
