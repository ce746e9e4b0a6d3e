use Rattle.std.proofs.Common.{List, sym, ap, ◌∙◌}
use Rattle.c_value.specs.declared.space.Spot.{Spot}
use Rattle.c_frame.specs.Spots.{put_spot}
use Rattle.c_frame.specs.Tables.{is_spot}
use Rattle.c_frame.proofs.Firsts.{within, set-spot, no-spot-put, spots-kept}
use Rattle.c_frame.proofs.spots.Spots.put.Goals as goal

pub set_value-requires : goal.set_value-requires
set_value-requires c = record {
  within = within (is_spot c.args.place) c.self.inside.spots c.in-Some.number (sym (c.self.invariant c.args.place) ∙ sym c.find.ensures ∙ c.in-Some.is);
}

pub invariant_of-self : goal.invariant_of-self
invariant_of-self c = λ y.
    c.self.invariant y
    ∙ spots-kept c.self.inside.spots c.set_value.new.spots c.args.place c.args.value c.in-Some.number y
    (sym (c.self.invariant c.args.place) ∙ sym c.find.ensures ∙ c.in-Some.is) c.set_value.ensures

pub returns-in-Some : goal.returns-in-Some
returns-in-Some c =
    set-spot c.self.inside.spots c.set_value.new.spots c.args.place c.args.value c.in-Some.number
    (sym (c.self.invariant c.args.place) ∙ sym c.find.ensures ∙ c.in-Some.is) c.set_value.ensures
    ∙ ap (λ (cs : List Spot). put_spot cs c.args.place c.args.value) c.self.view_is

pub returns-in_default : goal.returns-in_default
returns-in_default c =
    let none = no-spot-put c.self.inside.spots c.args.place c.args.value (sym (c.self.invariant c.args.place) ∙ sym c.find.ensures ∙ c.in_default.is) in
    sym c.self.view_is ∙ none ∙ ap (λ (cs : List Spot). put_spot cs c.args.place c.args.value) c.self.view_is
