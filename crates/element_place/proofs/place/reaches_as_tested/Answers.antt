use Rattle.std.proofs.Common.{subst, Decides}
use Rattle.std.proofs.lemmas.Int.{to_z-of_z}
use Rattle.std.specs.Bool.{one_answer}
use Rattle.std.specs.Int.{w128}
use Rattle.element_place.specs.Places.{Reaches, reaches}
use Rattle.element_place.proofs.Deciding.{reaches-Decides}
use Rattle.element_place.proofs.place.reaches_as_tested.Goals as goal

pub returns : goal.returns
returns c =
    one_answer c.reaches_from_anywhere.result (reaches c.args.lengths.now c.args.strides.now c.args.place)
    (subst (λ p. Decides c.reaches_from_anywhere.result (Reaches c.args.lengths.now c.args.strides.now p)) (to_z-of_z w128 c.args.place c.ranges.place)
    c.reaches_from_anywhere.ensures)
    (reaches-Decides c.args.lengths.now c.args.strides.now c.args.place)
