use Rattle.std.proofs.Common.{min, nat_abs, ap, ◌∙◌, ap₂, sym, subst, pos, ◌-ℤ◌, ◌*ℤ◌}
use Rattle.std.proofs.lemmas.Int.{to_z-of_z}
use Rattle.std.specs.Int.{w64, w128}
use Rattle.element_place.specs.Windows.{IsBetween, IsFound}
use Rattle.element_place.proofs.Leading.{clamped}
use Rattle.element_place.proofs.place.indexes_of.Goals as goal

pub returns-clause-found : goal.returns-clause-found
returns-clause-found c =
    λ i h k.
    let found = subst (λ s. IsFound c.indexes_along-start.result s i) (to_z-of_z w64 c.args.stride c.ranges.stride)
    (c.indexes_along-start.ensures i
    (subst (IsBetween c.args.rest) (sym (ap₂ (λ p s. p -ℤ pos i *ℤ s) (to_z-of_z w128 c.args.place c.ranges.place) (to_z-of_z w64 c.args.stride c.ranges.stride))) k)) in
    clamped c.indexes_along-start.result c.args.stride c.args.length i c.min.result h
    (c.min.ensures ∙ ap (λ n. min c.indexes_along-start.result.end (nat_abs n)) (to_z-of_z w64 c.args.length c.ranges.length)) found
