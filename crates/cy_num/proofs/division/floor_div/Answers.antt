use Rattle.std.proofs.Common.{true, false, ◌≡◌, ap₂, ap, sym, subst, ◌∙◌, Ok, to_z, of_z}
use Rattle.std.proofs.lemmas.Int.{to_z-of_z}
use Rattle.std.specs.Int.{w128}
use Rattle.cy_num.specs.Types.{IsValue}
use Rattle.cy_num.specs.Division.{floor_quotient, IsTooLarge, is_too_large}
use Rattle.cy_num.proofs.Floor.{floor_div-Ok}
use Rattle.cy_num.proofs.InType.{quotient-IsValue}
use Rattle.cy_num.proofs.division.floor_div.Goals as goal

quotient_is : (c : goal.After-quotient) → to_z w128 (of_z w128 c.quotient.result) ≡ floor_quotient c.args.a c.args.b
quotient_is c =
    to_z-of_z w128 c.quotient.result (record { sfits = c.quotient.type_inv })
    ∙ c.quotient.ensures
    ∙ ap₂ floor_quotient (to_z-of_z w128 c.args.a c.ranges.a) (to_z-of_z w128 c.args.b c.ranges.b)

not_large : (c : goal.After-quotient) → ¬ (IsTooLarge c.args.t c.args.a c.args.b)
not_large c =
    λ p. let both : false ≡ true = c.if-is_too_large.ensures.meaning.1
    (p.0, to_z-of_z w128 c.args.a c.ranges.a ∙ p.1, to_z-of_z w128 c.args.b c.ranges.b ∙ p.2) in
    cc

pub returns-clause-same : goal.returns-clause-same
returns-clause-same c =
    ap Ok (quotient_is c)
    ∙ sym (floor_div-Ok c.args.t c.args.a c.args.b (λ e. c.if-b-eq0.false (ap (of_z w128) e))
    (ap₂ (is_too_large c.args.t) (sym (to_z-of_z w128 c.args.a c.ranges.a)) (sym (to_z-of_z w128 c.args.b c.ranges.b))
    ∙ sym c.if-is_too_large.ensures.same))

pub returns-clause-value : goal.returns-clause-value
returns-clause-value c =
    subst (IsValue c.args.t) (sym (quotient_is c))
    (quotient-IsValue c.args.t c.args.a c.args.b c.requires.a_value c.requires.b_value (not_large c))
