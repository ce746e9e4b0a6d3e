use Rattle.std.proofs.Common.{arith}
use Rattle.std.proofs.lemmas.Int.{ints}
use Rattle.element_place.proofs.window.indexes_by.Goals as goal

pub returns : goal.returns
returns c =
    λ i h. let low = h.0 in let high = h.1 in let w = c.requires.rest.0 in let v = c.requires.rest.1 in let p = c.requires.place in
    (c.first_index.ensures i (omega (arith, ints)), c.end_index.ensures i (omega (arith, ints)))
