use Rattle.std.proofs.Common.{Some, sym, ap, drop, ◌∙◌}
use Rattle.std.proofs.lemmas.List.{append_assoc}
use Rattle.c_tree.specs.Values.{result_spelling}
use Rattle.c_input.proofs.Rows.{left_of, value_of}
use Rattle.c_slots.proofs.slot.head.Goals as goal

pub returns-then-not-fixed-clause-every : goal.returns-then-not-fixed-clause-every
returns-then-not-fixed-clause-every c = λ x rest form e.
    let e1 = e ∙ append_assoc (result_spelling x.result) _ rest in
    let kind = c.in_ok-result.ensures.every x.result _ tt e1 in
    let e2 = left_of result_spelling kind c.in_ok-result.ensures.some.1 e1 in
    absurd (c.if-not-fixed.ensures.1 _ e2)

pub returns-in_err-number-clause-every : goal.returns-in_err-number-clause-every
returns-in_err-number-clause-every c = λ x rest form e.
    let e1 = e ∙ append_assoc (result_spelling x.result) _ rest in
    let kind = c.in_ok-result.ensures.every x.result _ tt e1 in
    let e2 = left_of result_spelling kind c.in_ok-result.ensures.some.1 e1 in
    let e3 = ap (drop 2) (sym c.if-not-fixed.ensures ∙ e2) in
    absurd (cc (c.in_err-number.ensures.every x.number _ form e3))

pub returns-else-fixed-clause-every : goal.returns-else-fixed-clause-every
returns-else-fixed-clause-every c = λ x rest form e.
    let e1 = e ∙ append_assoc (result_spelling x.result) _ rest in
    let kind = c.in_ok-result.ensures.every x.result _ tt e1 in
    let e2 = left_of result_spelling kind c.in_ok-result.ensures.some.1 e1 in
    let e3 = ap (drop 2) (sym c.if-not-fixed.ensures ∙ e2) in
    let e4 = ap (drop 1) (sym c.in_ok-number.ensures.some.1 ∙ e3) in
    absurd (c.if-fixed.ensures.1 _ e4)

pub returns-then-fixed-clause-every : goal.returns-then-fixed-clause-every
returns-then-fixed-clause-every c = λ x rest form e.
    let e1 = e ∙ append_assoc (result_spelling x.result) _ rest in
    let kind = c.in_ok-result.ensures.every x.result _ tt e1 in
    let e2 = left_of result_spelling kind c.in_ok-result.ensures.some.1 e1 in
    let e3 = ap (drop 2) (sym c.if-not-fixed.ensures ∙ e2) in
    let number = value_of (c.in_ok-number.ensures.every x.number _ form e3) in
    let same = value_of kind in
    λ i. Some (record { result = same i; number = number i })
