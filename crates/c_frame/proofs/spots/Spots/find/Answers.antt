use Rattle.std.proofs.Common.{List, sym, ap, subst, ◌∙◌, slice_get}
use Rattle.c_value.specs.declared.space.Spot.{Spot}
use Rattle.c_frame.specs.Tables.{AreSpots}
use Rattle.c_frame.proofs.Firsts.{found-spot, no-spot}
use Rattle.c_frame.proofs.spots.Spots.find.Goals as goal

pub returns-in-None : goal.returns-in-None
returns-in-None c =
    let are = subst (λ (cs : List Spot). AreSpots cs c.self.inside.numbers) c.self.view_is c.self.invariant in
    no-spot c.args.self.now c.args.place (sym (are c.args.place) ∙ sym c.find.ensures ∙ c.in-None.is)

pub returns-in-Some : goal.returns-in-Some
returns-in-Some c =
    let are = subst (λ (cs : List Spot). AreSpots cs c.self.inside.numbers) c.self.view_is c.self.invariant in
    c.get.ensures.value ∙ ap (λ (cs : List Spot). slice_get cs c.in-Some.number) c.self.view_is
    ∙ found-spot c.args.self.now c.args.place c.in-Some.number (sym (are c.args.place) ∙ sym c.find.ensures ∙ c.in-Some.is)
