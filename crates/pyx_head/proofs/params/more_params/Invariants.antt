use Rattle.std.proofs.Common.{◌≡◌, ◌-◌}
use Rattle.forms.specs.Lists.{read_trail_upto}
use Rattle.forms.proofs.RowLoops.{with_row}
use Rattle.token_class.specs.Sets.{of}
use Rattle.expr_grammar.specs.Words as set
use Rattle.decl_grammar.specs.Grammar.{three}
use Rattle.decl_grammar.specs.Reading as spec
use Rattle.decl_grammar.specs.Files.{in_brackets}
use Rattle.pyx_head.proofs.params.more_params.Given as goal

abbrev pub invariant-loop-turn : goal.invariant-loop-turn
invariant-loop-turn l =
    let item = spec.read_param in_brackets in
    read_trail_upto 31 (of set.is_comma) (of set.begins_type) three item l.fn.input ≡ with_row l.found (read_trail_upto (31 - l._turn) (of set.is_comma) (of set.begins_type) three item l.input)
