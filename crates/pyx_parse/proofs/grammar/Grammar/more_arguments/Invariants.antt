use Rattle.std.proofs.Common.{◌≡◌, ◌-◌}
use Rattle.forms.specs.Lists.{read_trail_upto}
use Rattle.forms.proofs.RowLoops.{with_row}
use Rattle.token_class.specs.Sets.{of}
use Rattle.expr_grammar.specs.Words as set
use Rattle.expr_grammar.specs.Grammar.{argument_rule, is_positive}
use Rattle.expr_grammar.specs.declared.Level.TheVariants as level
use Rattle.pyx_parse.specs.Below.{below}
use Rattle.pyx_parse.proofs.grammar.Grammar.more_arguments.Given as goal

abbrev pub invariant-loop-turn : goal.invariant-loop-turn
invariant-loop-turn g l =
    let item = below l.self.here l.self.room level.Expr in
    let rule = argument_rule (is_positive l.self.room) in
    read_trail_upto 31 (of set.is_comma) (of set.begins_expr) rule item l.fn.input ≡ with_row l.found (read_trail_upto (31 - l._turn) (of set.is_comma) (of set.begins_expr) rule item l.input)
