use Rattle.std.proofs.Common.{arith, ap, ap₂, sym, ◌∙◌, ◌+ℤ◌, ◌-ℤ◌, to_z, of_z}
use Rattle.std.proofs.lemmas.Int.{to_z-of_z}
use Rattle.std.specs.Int.{w128}
use Rattle.cy_num.specs.Arithmetic.{arith_result}
use Rattle.cy_num.specs.Wrapping.{wrap}
use Rattle.cy_num.proofs.Wide.{sum-FitsSigned, difference-FitsSigned, wrap-wrapping_mul, wrap-and, wrap-or, wrap-xor}
use Rattle.cy_num.proofs.arithmetic.arith.Goals as goal

pub returns-in-Add-clause-same : goal.returns-in-Add-clause-same
returns-in-Add-clause-same c =
    to_z-of_z w128 c.wrap.result (record { sfits = c.wrap.type_inv })
    ∙ c.wrap.ensures.same
    ∙ ap (wrap c.args.t)
    (ap₂ (λ x y. to_z w128 (of_z w128 (x +ℤ y))) (to_z-of_z w128 c.args.a c.ranges.a) (to_z-of_z w128 c.args.b c.ranges.b)
    ∙ to_z-of_z w128 (c.args.a +ℤ c.args.b) (sum-FitsSigned c.args.t c.args.a c.args.b c.requires.a_value c.requires.b_value))
    ∙ sym (ap (λ op. arith_result op c.args.t c.args.a c.args.b) c.in-Add.is)

pub returns-in-Sub-clause-same : goal.returns-in-Sub-clause-same
returns-in-Sub-clause-same c =
    to_z-of_z w128 c.wrap-in-Sub.result (record { sfits = c.wrap-in-Sub.type_inv })
    ∙ c.wrap-in-Sub.ensures.same
    ∙ ap (wrap c.args.t)
    (ap₂ (λ x y. to_z w128 (of_z w128 (x -ℤ y))) (to_z-of_z w128 c.args.a c.ranges.a) (to_z-of_z w128 c.args.b c.ranges.b)
    ∙ to_z-of_z w128 (c.args.a -ℤ c.args.b) (difference-FitsSigned c.args.t c.args.a c.args.b c.requires.a_value c.requires.b_value))
    ∙ sym (ap (λ op. arith_result op c.args.t c.args.a c.args.b) c.in-Sub.is)

pub returns-in-Mul-clause-same : goal.returns-in-Mul-clause-same
returns-in-Mul-clause-same c = grind (arith, to_z-of_z, wrap-wrapping_mul)

pub returns-in-And-clause-same : goal.returns-in-And-clause-same
returns-in-And-clause-same c = grind (arith, to_z-of_z, wrap-and)

pub returns-in-Or-clause-same : goal.returns-in-Or-clause-same
returns-in-Or-clause-same c = grind (arith, to_z-of_z, wrap-or)

pub returns-in-Xor-clause-same : goal.returns-in-Xor-clause-same
returns-in-Xor-clause-same c = grind (arith, to_z-of_z, wrap-xor)
