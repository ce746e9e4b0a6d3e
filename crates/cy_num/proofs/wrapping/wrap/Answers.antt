use Rattle.std.proofs.Common.{arith, ◌≡◌, ap₂, subst, sym, ◌∙◌, ◌-ℤ◌, ◌<ℤ◌, to_z, of_z}
use Rattle.std.proofs.lemmas.Int.{ints, to_z-of_z}
use Rattle.std.specs.Int.{w128, int_rem_euclid}
use Rattle.cy_num.specs.Types.{greatest, IsValue}
use Rattle.cy_num.specs.Wrapping.{modulus}
use Rattle.cy_num.proofs.Wraps.{rest-wrap, turned-wrap, turned-IsValue, rest-least, rest-below}
use Rattle.cy_num.proofs.wrapping.wrap.Goals as goal

-- the remainder is that of the argument by the modulus
rest_is : (c : goal.Then-rest-greatest) → c.rem_euclid-rest.result ≡ int_rem_euclid c.args.v (modulus c.args.t)
rest_is c =
    c.rem_euclid-rest.ensures.value
    ∙ ap₂ int_rem_euclid (to_z-of_z w128 c.args.v c.ranges.v)
    (to_z-of_z w128 c.modulus-turn.result (record { sfits = c.modulus-turn.type_inv }) ∙ c.modulus-turn.ensures)

above : (c : goal.Then-rest-greatest) → greatest c.args.t <ℤ c.rem_euclid-rest.result
above c = let h = c.if-rest-greatest.true in let e = c.greatest.ensures in let g = c.greatest.type_inv in let r = c.rem_euclid-rest.type_inv in grind (arith, ints, to_z-of_z)

less_is : (c : goal.Then-rest-greatest)
    → to_z w128 (of_z w128 (to_z w128 (of_z w128 c.rem_euclid-rest.result) -ℤ to_z w128 (of_z w128 c.modulus-turn.result)))
    ≡ c.rem_euclid-rest.result -ℤ modulus c.args.t
less_is c =
    let low = rest-least c.args.t c.args.v _ (rest_is c) in
    let high = rest-below c.args.t c.args.v _ (rest_is c) in
    let e = c.modulus-turn.ensures in
    let m = c.modulus-turn.type_inv in
    let r = c.rem_euclid-rest.type_inv in
    omega (arith, ints)

pub returns-then-rest-greatest-clause-same : goal.returns-then-rest-greatest-clause-same
returns-then-rest-greatest-clause-same c = less_is c ∙ turned-wrap c.args.t c.args.v _ (rest_is c) (above c)

pub returns-then-rest-greatest-clause-value : goal.returns-then-rest-greatest-clause-value
returns-then-rest-greatest-clause-value c =
    subst (IsValue c.args.t) (sym (less_is c)) (turned-IsValue c.args.t c.args.v _ (rest_is c) (above c))

pub returns-else-rest-greatest-clause-same : goal.returns-else-rest-greatest-clause-same
returns-else-rest-greatest-clause-same c = grind (arith, to_z-of_z, rest-wrap)
