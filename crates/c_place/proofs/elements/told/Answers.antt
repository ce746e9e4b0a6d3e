use Rattle.std.proofs.Common.{Some, sym, ap, drop, ◌∙◌}
use Rattle.std.proofs.lemmas.List.{append_assoc}
use Rattle.c_tree.specs.Values.{type_spelling}
use Rattle.c_input.proofs.Rows.{left_of, value_of}
use Rattle.c_place.proofs.elements.told.Goals as goal

pub returns-then-not-fixed-2-clause-every : goal.returns-then-not-fixed-2-clause-every
returns-then-not-fixed-2-clause-every c = λ x rest form e.
    let e1 = ap (drop 2) (sym c.if-not-fixed.ensures ∙ e) ∙ append_assoc (type_spelling x.kind) _ rest in
    let kind = c.in_ok-kind.ensures.every x.kind _ tt e1 in
    let e2 = left_of type_spelling kind c.in_ok-kind.ensures.some.1 e1 in
    absurd (c.if-not-fixed-2.ensures.1 _ e2)

pub returns-in_err-view-clause-every : goal.returns-in_err-view-clause-every
returns-in_err-view-clause-every c = λ x rest form e.
    let e1 = ap (drop 2) (sym c.if-not-fixed.ensures ∙ e) ∙ append_assoc (type_spelling x.kind) _ rest in
    let kind = c.in_ok-kind.ensures.every x.kind _ tt e1 in
    let e2 = left_of type_spelling kind c.in_ok-kind.ensures.some.1 e1 in
    let e3 = ap (drop 3) (sym c.if-not-fixed-2.ensures ∙ e2) in
    absurd (cc (c.in_err-view.ensures.every x.view _ form.0 e3))

pub returns-then-not-fixed-3-clause-every : goal.returns-then-not-fixed-3-clause-every
returns-then-not-fixed-3-clause-every c = λ x rest form e.
    let e1 = ap (drop 2) (sym c.if-not-fixed.ensures ∙ e) ∙ append_assoc (type_spelling x.kind) _ rest in
    let kind = c.in_ok-kind.ensures.every x.kind _ tt e1 in
    let e2 = left_of type_spelling kind c.in_ok-kind.ensures.some.1 e1 in
    let e3 = ap (drop 3) (sym c.if-not-fixed-2.ensures ∙ e2) in
    let e4 = ap (drop 1) (sym c.in_ok-view.ensures.some.1 ∙ e3) in
    absurd (c.if-not-fixed-3.ensures.1 _ e4)

pub returns-in_err-offset-clause-every : goal.returns-in_err-offset-clause-every
returns-in_err-offset-clause-every c = λ x rest form e.
    let e1 = ap (drop 2) (sym c.if-not-fixed.ensures ∙ e) ∙ append_assoc (type_spelling x.kind) _ rest in
    let kind = c.in_ok-kind.ensures.every x.kind _ tt e1 in
    let e2 = left_of type_spelling kind c.in_ok-kind.ensures.some.1 e1 in
    let e3 = ap (drop 3) (sym c.if-not-fixed-2.ensures ∙ e2) in
    let e4 = ap (drop 1) (sym c.in_ok-view.ensures.some.1 ∙ e3) in
    let e5 = ap (drop 3) (sym c.if-not-fixed-3.ensures ∙ e4) in
    absurd (cc (c.in_err-offset.ensures.every x.offset _ form.1 e5))

pub returns-else-fixed-clause-every : goal.returns-else-fixed-clause-every
returns-else-fixed-clause-every c = λ x rest form e.
    let e1 = ap (drop 2) (sym c.if-not-fixed.ensures ∙ e) ∙ append_assoc (type_spelling x.kind) _ rest in
    let kind = c.in_ok-kind.ensures.every x.kind _ tt e1 in
    let e2 = left_of type_spelling kind c.in_ok-kind.ensures.some.1 e1 in
    let e3 = ap (drop 3) (sym c.if-not-fixed-2.ensures ∙ e2) in
    let e4 = ap (drop 1) (sym c.in_ok-view.ensures.some.1 ∙ e3) in
    let e5 = ap (drop 3) (sym c.if-not-fixed-3.ensures ∙ e4) in
    let e6 = ap (drop 1) (sym c.in_ok-offset.ensures.some.1 ∙ e5) in
    absurd (c.if-fixed.ensures.1 _ e6)

pub returns-then-fixed-clause-every : goal.returns-then-fixed-clause-every
returns-then-fixed-clause-every c = λ x rest form e.
    let e1 = ap (drop 2) (sym c.if-not-fixed.ensures ∙ e) ∙ append_assoc (type_spelling x.kind) _ rest in
    let kind = c.in_ok-kind.ensures.every x.kind _ tt e1 in
    let e2 = left_of type_spelling kind c.in_ok-kind.ensures.some.1 e1 in
    let e3 = ap (drop 3) (sym c.if-not-fixed-2.ensures ∙ e2) in
    let e4 = ap (drop 1) (sym c.in_ok-view.ensures.some.1 ∙ e3) in
    let e5 = ap (drop 3) (sym c.if-not-fixed-3.ensures ∙ e4) in
    let view = value_of (c.in_ok-view.ensures.every x.view _ form.0 e3) in
    let offset = value_of (c.in_ok-offset.ensures.every x.offset _ form.1 e5) in
    let same = value_of kind in
    λ i. Some (record { kind = same i; view = view i; offset = offset i })
