use Rattle.std.proofs.Common.{◌≡◌, ℕ, nat_le, length, true, List, [], ◌∷◌, ℤ, refl, sym, ◌∙◌, arith, inl, inr}
use Rattle.api_model.specs.Answers.{reach}
use Rattle.api_model.proofs.views.is_within.Goals as goal

-- where one of the lists has ended, nothing is added
reach_of_no_lengths : (lengths strides : List ℤ) → length lengths ≡ 0 → reach lengths strides ≡ 0
reach_of_no_lengths [] strides h = refl
reach_of_no_lengths (n ∷ lengths) strides h = absurd (omega arith)

reach_of_no_strides : (lengths strides : List ℤ) → length strides ≡ 0 → reach lengths strides ≡ 0
reach_of_no_strides [] strides h = refl
reach_of_no_strides (n ∷ lengths) [] h = refl
reach_of_no_strides (n ∷ lengths) (s ∷ strides) h = absurd (omega arith)

nothing_fits : (n left : ℕ) → n ≡ 0 → nat_le n left ≡ true
nothing_fits n left h = grind arith

pub returns : goal.returns
returns c =
    let lengths : List ℤ = c.loop-length.length-iterator.a.rest.now in
    let strides : List ℤ = c.loop-length.length-iterator.b.rest.now in
    elim c.in-None.ensures.steps [
      | inl h ↦ sym (c.loop-length.invariant ∙ nothing_fits (reach lengths strides) c.loop-length.left (reach_of_no_lengths lengths strides h.1.0))
      | inr h ↦ sym (c.loop-length.invariant ∙ nothing_fits (reach lengths strides) c.loop-length.left (reach_of_no_strides lengths strides h.1.0))
    ]
