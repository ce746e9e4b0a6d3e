use Rattle.std.proofs.Common.{arith, refl, pos, neg_ℤ, ◌≡◌, ◌*◌, ◌*ℤ◌, ◌<ℤ◌, nat_abs, ap, ◌∙◌, sym}
use Rattle.std.proofs.lemmas.Int.{ints, to_z-of_z}
use Rattle.std.specs.Int.{w64}
use Rattle.element_place.proofs.Indexes.{product-back}
use Rattle.element_place.proofs.window.indexes_along.Goals as goal

pub returns-then-stride-lt0 : goal.returns-then-stride-lt0
returns-then-stride-lt0 c =
    λ i h.
    let back : c.args.stride <ℤ pos 0 = (let f = c.if-stride-lt0.true in grind (arith, ints, to_z-of_z)) in
    let product : pos i *ℤ c.args.stride ≡ neg_ℤ (pos (i * c.unsigned_abs-step.result)) =
    product-back c.args.stride i back ∙ ap (λ n. neg_ℤ (pos (i * n))) (ap nat_abs (sym (to_z-of_z w64 c.args.stride c.ranges.stride)) ∙ sym c.unsigned_abs-step.ensures.value) in
    let low = h.0 in let high = h.1 in let p = c.requires.place in
    (i, omega arith, c.indexes_by-then-stride-lt0.ensures i (omega (arith, ints), omega (arith, ints)), refl)
