use Rattle.std.proofs.Common.{ap, false, sym, ◌∙◌}
use Rattle.c_arith.specs.Operators.{value_of}
use Rattle.c_arith.proofs.Ranges.{handed}
use Rattle.c_arith.proofs.Shifts.{shift_of, right-Ok, right-Err}
use Rattle.c_arith.proofs.results.shifted_right.Goals as goal

pub returns-in-Ok-clause-same : goal.returns-in-Ok-clause-same
returns-in-Ok-clause-same c =
    c.value_of.ensures.same
    ∙ (ap (value_of c.args.kind) (handed c.args.kind c.in-Ok.value c.in-Ok.ensures.value)
    ∙ right-Ok c.args.kind c.args.a c.args.count c.in-Ok.value (sym c.in-Ok.is ∙ (c.shift.ensures.same ∙ shift_of false c.args.kind c.args.a c.args.count c.ranges.a c.ranges.count)))

pub returns-in-Err-clause-same : goal.returns-in-Err-clause-same
returns-in-Err-clause-same c = right-Err c.args.kind c.args.a c.args.count c.in-Err.field-0 (sym c.in-Err.is ∙ (c.shift.ensures.same ∙ shift_of false c.args.kind c.args.a c.args.count c.ranges.a c.ranges.count))
