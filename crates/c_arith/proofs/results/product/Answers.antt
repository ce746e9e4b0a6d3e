use Rattle.std.proofs.Common.{sym, ap, ap₂, ◌∙◌, ◌*ℤ◌, to_z, of_z}
use Rattle.std.proofs.lemmas.Int.{to_z-of_z}
use Rattle.std.specs.Int.{w128}
use Rattle.c_arith.specs.Operators.{fitted}
use Rattle.c_arith.proofs.Ranges.{product-FitsSigned}
use Rattle.c_arith.proofs.results.product.Goals as goal

pub returns-then-is_signed-clause-same : goal.returns-then-is_signed-clause-same
returns-then-is_signed-clause-same c =
    c.fit.ensures.same
    ∙ ap (fitted c.args.kind)
    (ap₂ (λ x y. to_z w128 (of_z w128 (x *ℤ y))) (to_z-of_z w128 c.args.a c.ranges.a) (to_z-of_z w128 c.args.b c.ranges.b)
    ∙ to_z-of_z w128 (c.args.a *ℤ c.args.b)
    (product-FitsSigned c.args.kind c.args.a c.args.b (sym c.is_signed.ensures ∙ c.if-is_signed.true) c.requires.a_value c.requires.b_value))
