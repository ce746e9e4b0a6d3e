use Rattle.std.proofs.Common.{rules, FitsSigned, sym, refl, ap, ap₂, ◌∙◌, subst, ◌≤◌, ◌<◌, ℕ, to_z, of_z, pos, ◌-ℤ◌, ◌*ℤ◌, ◌<ℤ◌}
use Rattle.std.proofs.lemmas.Bool.{false≢true}
use Rattle.std.proofs.lemmas.Int.{to_z-of_z}
use Rattle.std.specs.Int.{w64, w128}
use Rattle.element_place.specs.Places.{Reaches}
use Rattle.element_place.proofs.Leading.{reached, missed, step, ended, handed}
use Rattle.element_place.proofs.place.+reaches.Goals as goal

pub returns-then-reaches : goal.returns-then-reaches
returns-then-reaches t c =
    let n = c.in-Some-Some.length.now in
    let s = c.in-Some-Some.stride.now in
    let index = c.loop-index.index in
    let length_fits : FitsSigned w64 c.in-Some-Some.length.now = search rules in
    let stride_fits : FitsSigned w64 c.in-Some-Some.stride.now = search rules in
    let below = subst (λ x. pos index <ℤ x) (to_z-of_z w64 n length_fits) (c.indexes_of-start.ensures.below index c.loop-index-test.true) in
    let left =
    c.moved-left.ensures.same
    ∙ ap₂ (λ p q. p -ℤ pos index *ℤ q) (to_z-of_z w128 c.args.place c.ranges.place) (to_z-of_z w64 s stride_fits) in
    let led =
    subst (Reaches c.in-Some-Some.inner_lengths.now c.in-Some-Some.inner_strides.now)
    (to_z-of_z w128 c.moved-left.result (record { sfits = c.moved-left.type_inv })) (c.reaches.ensures.0 c.if-reaches.true) in (
      λ h. reached c.args.lengths.now c.args.strides.now c.in-Some-Some.inner_lengths.now c.in-Some-Some.inner_strides.now n s c.args.place c.moved-left.result index
          c.in-Some-Some.ensures.cases.0 c.in-Some-Some.ensures'.cases.0 below left led,
      λ h. refl,
    )

pub loop-index-preserved : goal.loop-index-preserved
loop-index-preserved t c =
    let s = c.in-Some-Some.stride.now in
    let index = c.loop-index.index in
    let place = to_z w128 (of_z w128 c.args.place) in
    let stride_fits : FitsSigned w64 c.in-Some-Some.stride.now = search rules in
    let left =
    to_z-of_z w128 c.moved-left.result (record { sfits = c.moved-left.type_inv })
    ∙ (c.moved-left.ensures.same ∙ ap (λ q. place -ℤ pos index *ℤ q) (to_z-of_z w64 s stride_fits)) in
    step (λ i. Reaches c.in-Some-Some.inner_lengths.now c.in-Some-Some.inner_strides.now (place -ℤ pos i *ℤ s)) c.indexes_of-start.result.start index c.loop-index.invariant
    (λ r. false≢true (sym c.if-reaches.false
    ∙ c.reaches.ensures.1 (subst (Reaches c.in-Some-Some.inner_lengths.now c.in-Some-Some.inner_strides.now) (sym left) r)))

pub returns-after-loop-index : goal.returns-after-loop-index
returns-after-loop-index t c =
    let ns = c.in-Some-Some.inner_lengths.now in
    let ts = c.in-Some-Some.inner_strides.now in
    let n = c.in-Some-Some.length.now in
    let s = c.in-Some-Some.stride.now in
    let index = c.loop-index.index in
    let start = c.indexes_of-start.result.start in
    let length_fits : FitsSigned w64 c.in-Some-Some.length.now = search rules in
    let stride_fits : FitsSigned w64 c.in-Some-Some.stride.now = search rules in
    let place = to_z-of_z w128 c.args.place c.ranges.place in
    let found =
    handed c.window_of-window.result c.indexes_of-start.result n s c.args.place (to_z w64 (of_z w64 n)) (to_z w64 (of_z w64 s)) (to_z w128 (of_z w128 c.args.place))
    (to_z-of_z w64 n length_fits) (to_z-of_z w64 s stride_fits) place c.indexes_of-start.ensures.found in
    let tried =
    subst (λ p. (i : ℕ) → c.indexes_of-start.result.start ≤ i → i < c.loop-index.index
    → Reaches c.in-Some-Some.inner_lengths.now c.in-Some-Some.inner_strides.now (p -ℤ pos i *ℤ c.in-Some-Some.stride.now) → ⊥) place c.loop-index.invariant in (
      λ h. absurd (false≢true h),
      λ r. absurd (missed c.args.lengths.now c.args.strides.now ns ts n s c.args.place c.in-Some-Some.ensures.cases.0 c.in-Some-Some.ensures'.cases.0
          (ended ns ts n s c.args.place c.window_of-window.result c.indexes_of-start.result index c.window_of-window.ensures.places found c.loop-index-test.false tried) r),
    )
