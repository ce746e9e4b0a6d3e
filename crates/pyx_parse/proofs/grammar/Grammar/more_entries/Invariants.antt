use Rattle.std.proofs.Common.{◌≡◌, ◌-◌}
use Rattle.forms.specs.Lists.{read_trail}
use Rattle.forms.proofs.RowLoops.{with_row, left_row}
use Rattle.token_class.specs.Sets.{of}
use Rattle.expr_grammar.specs.Words as set
use Rattle.expr_grammar.specs.Grammar.{is_positive}
use Rattle.expr_grammar.specs.Reading as spec
use Rattle.pyx_parse.specs.Below.{below}
use Rattle.pyx_parse.proofs.grammar.Grammar.more_entries.Given as goal

abbrev pub invariant-loop-turn : goal.invariant-loop-turn
invariant-loop-turn g l =
    let item = spec.read_item l.self.here (is_positive l.self.room) (below l.self.here l.self.room) in
    read_trail (of set.is_comma) (of set.begins_expr) item l.fn.input ≡ with_row l.found (left_row (l._turn-end - l._turn) (of set.is_comma) (of set.begins_expr) item l.input)
