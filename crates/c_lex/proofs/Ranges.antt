-- The part of a text from the start of a token grows by one byte.
use Rattle.std.proofs.Common.{◌≡◌, ℕ, ◌+◌, ◌-◌, ◌<◌, ◌≤◌, List, [], ◌∷◌, ◌++◌, length, slice_index, get_or, take, drop, ap, ◌∙◌, arith, length-drop}
use Rattle.std.specs.Prelude.{slice_range}
use Rattle.std.proofs.lemmas.Grind.{common_steps}
use Rattle.std.proofs.lemmas.List.{take_more, get_or-drop}

pub range_more : (xs : List ℕ) (start at : ℕ) → start ≤ at → at < length xs → slice_range xs start (at + 1) ≡ slice_range xs start at ++ slice_index xs at ∷ []
range_more xs start at h k =
    let more : (at + 1) - start ≡ (at - start) + 1 = omega arith in
    let place : start + (at - start) ≡ at = omega arith in
    ap (λ n. take n (drop start xs)) more
    ∙ (take_more (drop start xs) (at - start) 0 (omega (arith, length-drop start xs))
    ∙ ap (λ b. take (at - start) (drop start xs) ++ b ∷ []) (get_or-drop start xs (at - start) 0 ∙ ap (λ n. get_or xs n 0) place))

pub range_one : (xs : List ℕ) (at : ℕ) → at < length xs → slice_range xs at (at + 1) ≡ slice_index xs at ∷ []
range_one xs at h = grind (arith, common_steps)

pub range_none : (xs : List ℕ) (at : ℕ) → slice_range xs at at ≡ []
range_none xs at = grind (arith, common_steps)
