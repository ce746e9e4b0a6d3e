use Rattle.std.proofs.Common.{sym, subst}
use Rattle.std.proofs.lemmas.Int.{rem_is}
use Rattle.std.specs.Int.{w128}
use Rattle.cy_num.specs.Types.{IsValue}
use Rattle.c_arith.proofs.Ranges.{remainder-IsValue}
use Rattle.c_arith.proofs.results.left_over.Goals as goal

pub returns-clause-value : goal.returns-clause-value
returns-clause-value c =
    subst (IsValue c.args.kind) (sym (rem_is w128 c.args.a c.args.b c.ranges.a c.ranges.b)) (remainder-IsValue c.args.kind c.args.a c.args.b c.requires.a_value)
