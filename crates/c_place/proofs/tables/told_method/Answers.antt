use Rattle.std.proofs.Common.{sym, ap, drop, ◌∙◌}
use Rattle.c_place.proofs.tables.told_method.Goals as goal

pub returns-in_err-object-clause-every : goal.returns-in_err-object-clause-every
returns-in_err-object-clause-every c = λ x rest form e.
    let e1 = ap (drop 4) (sym c.if-not-fixed.ensures ∙ e) in
    let e2 = ap (drop 2) (sym c.if-not-fixed-2.ensures ∙ ap (drop 1) (sym c.in_ok-table.ensures.some.1 ∙ e1)) in
    absurd (cc (c.in_err-object.ensures.every x.object _ form.1 e2))

pub returns-in_err-slot-clause-every : goal.returns-in_err-slot-clause-every
returns-in_err-slot-clause-every c = λ x rest form e.
    let e1 = ap (drop 4) (sym c.if-not-fixed.ensures ∙ e) in
    let e2 = ap (drop 2) (sym c.if-not-fixed-2.ensures ∙ ap (drop 1) (sym c.in_ok-table.ensures.some.1 ∙ e1)) in
    let e3 = ap (drop 2) (sym c.if-not-fixed-3.ensures ∙ ap (drop 10) (sym c.in_ok-object.ensures.some.1 ∙ e2)) in
    absurd (cc (c.in_err-slot.ensures.every x.slot _ form.2 e3))
