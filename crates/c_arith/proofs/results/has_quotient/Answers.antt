use Rattle.std.proofs.Common.{sym, ap, ap₂, ◌∙◌, int_div}
use Rattle.c_arith.specs.Operators.{is_value}
use Rattle.c_arith.proofs.Ranges.{tested-IsValue}
use Rattle.std.proofs.lemmas.Int.{to_z-of_z}
use Rattle.std.specs.Int.{w128}
use Rattle.c_arith.proofs.results.has_quotient.Goals as goal

pub returns-then-not-equal-clause-value : goal.returns-then-not-equal-clause-value
returns-then-not-equal-clause-value c =
    λ h. tested-IsValue c.args.kind (int_div c.args.a c.args.b)
    (sym (c.is_value.ensures ∙ ap (is_value c.args.kind)
    (to_z-of_z w128 c.divided.result (record { sfits = c.divided.type_inv })
    ∙ (c.divided.ensures ∙ ap₂ int_div (to_z-of_z w128 c.args.a c.ranges.a) (to_z-of_z w128 c.args.b c.ranges.b)))) ∙ h)
