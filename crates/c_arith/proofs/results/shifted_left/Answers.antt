use Rattle.std.proofs.Common.{ap, ap₂, true, arith, sym, ◌∙◌}
use Rattle.std.proofs.lemmas.Int.{ints, to_z-of_z}
use Rattle.std.specs.Int.{w128}
use Rattle.cy_num.specs.Arithmetic.{is_bad_count}
use Rattle.c_arith.specs.Operators.{overflows, value_of}
use Rattle.c_arith.proofs.Ranges.{handed}
use Rattle.c_arith.proofs.Shifts.{shift_of, left-Ok, left-Err}
use Rattle.c_arith.proofs.results.shifted_left.Goals as goal

pub returns-in-Ok-clause-same : goal.returns-in-Ok-clause-same
returns-in-Ok-clause-same c =
    c.value_of.ensures.same
    ∙ (ap (value_of c.args.kind) (handed c.args.kind c.in-Ok.value c.in-Ok.ensures.value)
    ∙ left-Ok c.args.kind c.args.a c.args.count c.in-Ok.value (sym c.in-Ok.is ∙ (c.shift.ensures.same ∙ shift_of true c.args.kind c.args.a c.args.count c.ranges.a c.ranges.count))
    (let h = c.if-a-lt0.false in grind (arith, ints, to_z-of_z)) (λ h. sym c.if-overflows.false ∙ c.overflows.ensures (ap (is_bad_count c.args.kind) (to_z-of_z w128 c.args.count c.ranges.count) ∙ h) ∙ ap₂ (overflows c.args.kind) (to_z-of_z w128 c.args.a c.ranges.a) (to_z-of_z w128 c.args.count c.ranges.count)))

pub returns-in-Err-clause-same : goal.returns-in-Err-clause-same
returns-in-Err-clause-same c = left-Err c.args.kind c.args.a c.args.count c.in-Err.field-0 (sym c.in-Err.is ∙ (c.shift.ensures.same ∙ shift_of true c.args.kind c.args.a c.args.count c.ranges.a c.ranges.count))
