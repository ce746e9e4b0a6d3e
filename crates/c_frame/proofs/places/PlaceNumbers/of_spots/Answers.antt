use Rattle.std.proofs.Common.{◌≡◌, ℕ, suc, ◌-◌, length, drop, subst, sym, refl, ◌∙◌, arith}
use Rattle.std.proofs.lemmas.Option.{slice_get_read}
use Rattle.c_value.specs.declared.space.Spot.{Spot}
use Rattle.c_frame.specs.Tables.{AreSpotsFrom, IsPlaceNoted, is_spot}
use Rattle.c_frame.proofs.Firsts.{first_from-end, first_from-noted}
use Rattle.c_frame.proofs.places.PlaceNumbers.of_spots.Goals as goal

pub loop-at-init : goal.loop-at-init
loop-at-init c = λ x. c.none-numbers.ensures x ∙ first_from-end (is_spot x) c.args.spots.now

pub loop-at-preserved : goal.loop-at-preserved
loop-at-preserved c = λ x.
    let cs = c.args.spots.now in
    let next : c.loop-at.at ≡ suc (c.loop-at.at - 1) = omega (arith, c.loop-at-test.true) in
    subst (λ (d : Spot). IsPlaceNoted c.loop-at.numbers d.place (c.loop-at.at - 1) c.note.new.self) (sym c.index-spots-at.is) c.in_ok-note.ensures x
    ∙ first_from-noted (is_spot x) cs (c.loop-at.at - 1) c.loop-at.at c.index-spots-at.result _ next
    (slice_get_read cs (length cs) (c.loop-at.at - 1) c.index-spots-at.result refl (omega (arith, c.loop-at-test.true, c.loop-at.auto.at)) c.index-spots-at.is)
    (c.loop-at.invariant x)

pub returns : goal.returns
returns c =
    let done : c.loop-at.at ≡ 0 = omega (arith, c.loop-at-test.false) in
    subst (λ (n : ℕ). AreSpotsFrom n (drop n c.args.spots.now) c.loop-at.numbers) done c.loop-at.invariant
