use Rattle.std.proofs.Common.{arith, sym, subst, nat_abs, ◌<◌, ◌/◌, ◌+◌, ◌≤ℤ◌, pos}
use Rattle.std.proofs.lemmas.Int.{ints, to_z-of_z}
use Rattle.std.specs.Int.{w128}
use Rattle.element_place.proofs.Indexes.{end-below}
use Rattle.element_place.proofs.window.end_index.Goals as goal

pub returns : goal.returns
returns c =
    λ i h. let low : pos 0 ≤ℤ c.args.to = (let f = c.if-to-lt0.false in grind (arith, ints, to_z-of_z)) in
    subst (λ t. i < nat_abs t / c.args.step + 1) (sym (to_z-of_z w128 c.args.to c.ranges.to)) (end-below i c.args.step c.args.to c.requires.not_zero low h)
