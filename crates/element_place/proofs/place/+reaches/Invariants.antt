use Rattle.std.proofs.Common.{length, ℕ, ◌≤◌, ◌<◌, pos, ◌-ℤ◌, ◌*ℤ◌}
use Rattle.element_place.specs.Places.{Reaches}
use Rattle.element_place.proofs.place.+reaches.Given as goal

abbrev pub decreases-reaches : goal.decreases-reaches
decreases-reaches l = length l.lengths.now

abbrev pub invariant-loop-index : goal.invariant-loop-index
invariant-loop-index l =
    (i : ℕ) → l.start ≤ i → i < l.index → Reaches l.inner_lengths l.inner_strides (l.place -ℤ pos i *ℤ l.stride) → ⊥
