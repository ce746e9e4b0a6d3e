use Rattle.std.proofs.Common.{ap₂, sym, ◌∙◌}
use Rattle.std.proofs.lemmas.Int.{to_z-of_z}
use Rattle.std.specs.Int.{w128}
use Rattle.std.specs.Int.RustNames.{int_lt}
use Rattle.c_arith.proofs.Ranges.{handed}
use Rattle.c_arith.proofs.Shifts.{greatest_is, overflows-Ok, overflows-Err}
use Rattle.c_arith.proofs.results.overflows.Goals as goal

pub returns-then-is_signed : goal.returns-then-is_signed
returns-then-is_signed c =
    λ h. ap₂ int_lt (handed c.args.kind c.in-Ok.most c.in-Ok.ensures.value) (to_z-of_z w128 c.args.a c.ranges.a)
    ∙ overflows-Ok c.args.kind c.args.a c.args.count c.in-Ok.most (sym c.is_signed.ensures ∙ c.if-is_signed.true) c.requires.not_below
    (sym c.in-Ok.is ∙ (c.shift.ensures.same ∙ greatest_is c.args.kind c.args.count c.greatest.result (record { sfits = c.greatest.type_inv }) c.greatest.ensures c.ranges.count))

pub returns-in-Err : goal.returns-in-Err
returns-in-Err c = overflows-Err c.args.kind c.args.a c.args.count c.in-Err.field-0 (sym c.in-Err.is ∙ (c.shift.ensures.same ∙ greatest_is c.args.kind c.args.count c.greatest.result (record { sfits = c.greatest.type_inv }) c.greatest.ensures c.ranges.count))
