use Rattle.std.proofs.Common.{◌≡◌, ◌-◌}
use Rattle.forms.specs.Lists.{read_trail}
use Rattle.forms.proofs.RowLoops.{with_row, left_row}
use Rattle.token_class.specs.Sets.{of}
use Rattle.expr_grammar.specs.Words as set
use Rattle.decl_grammar.specs.Reading as spec
use Rattle.pyx_stmt.proofs.exprs.more_exprs.Given as goal

abbrev pub invariant-loop-turn : goal.invariant-loop-turn
invariant-loop-turn l =
    let item = spec.read_expr l.room in
    read_trail (of set.is_comma) (of set.begins_expr) item l.fn.input ≡ with_row l.found (left_row (l._turn-end - l._turn) (of set.is_comma) (of set.begins_expr) item l.input)
