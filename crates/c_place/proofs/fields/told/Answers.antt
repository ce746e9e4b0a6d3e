use Rattle.std.proofs.Common.{Some, sym, ap, drop, ◌∙◌}
use Rattle.c_input.proofs.Rows.{value_of}
use Rattle.c_place.proofs.fields.told.Goals as goal

pub returns-clause-every : goal.returns-clause-every
returns-clause-every c = λ x rest form e.
    let e1 = ap (drop 3) (sym c.if-not-fixed.ensures ∙ e) in
    let class = value_of (c.in_ok-class.ensures.every x.class _ form.1 e1) in
    let e2 = ap (drop 2) (sym c.if-not-fixed-2.ensures ∙ ap (drop 1) (sym c.in_ok-class.ensures.some.1 ∙ e1)) in
    let object = value_of (c.in_ok-object.ensures.every x.object _ form.0 e2) in
    let e3 = ap (drop 2) (sym c.if-not-fixed-3.ensures ∙ ap (drop 1) (sym c.in_ok-object.ensures.some.1 ∙ e2)) in
    let field = value_of (c.in_ok-field.ensures.every x.field _ form.2 e3) in
    λ i. Some (record { object = object i; class = class i; field = field i })
