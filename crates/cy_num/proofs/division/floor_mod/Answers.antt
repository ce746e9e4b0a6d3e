use Rattle.std.proofs.Common.{◌≡◌, ap, ap₂, sym, subst, ◌∙◌, to_z, of_z}
use Rattle.std.proofs.lemmas.Int.{to_z-of_z}
use Rattle.std.specs.Int.{w128}
use Rattle.cy_num.specs.Types.{IsValue}
use Rattle.cy_num.specs.Division.{floor_remainder}
use Rattle.cy_num.proofs.InType.{remainder-IsValue}
use Rattle.cy_num.proofs.division.floor_mod.Goals as goal

remainder_is : (c : goal.After-remainder) → to_z w128 (of_z w128 c.remainder.result) ≡ floor_remainder c.args.a c.args.b
remainder_is c =
    to_z-of_z w128 c.remainder.result (record { sfits = c.remainder.type_inv })
    ∙ c.remainder.ensures
    ∙ ap₂ floor_remainder (to_z-of_z w128 c.args.a c.ranges.a) (to_z-of_z w128 c.args.b c.ranges.b)

pub returns-clause-value : goal.returns-clause-value
returns-clause-value c =
    subst (IsValue c.args.t) (sym (remainder_is c))
    (remainder-IsValue c.args.t c.args.a c.args.b c.requires.b_value (λ e. c.if-b-eq0.false (ap (of_z w128) e)))
