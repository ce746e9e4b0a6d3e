use Rattle.std.proofs.Common.{◌++◌, Some, sym, ◌∙◌}
use Rattle.c_input.proofs.Rows.{left_of, value_of}
use Rattle.c_statement.proofs.Chain.{front_of, missing}
use Rattle.std.specs.List.{AllByRecursion}
use Rattle.c_tree.specs.Forms.{IsArgument}
use Rattle.c_tree.specs.Statements.{arguments}
use Rattle.c_place.specs.Places.{method_spelling}
use Rattle.c_statement.proofs.Chain.{left_found}
use Rattle.c_statement.specs.Sources.{end}
use Rattle.c_statement.proofs.calls.method_call.Goals as goal

pub returns-in_default-2-clause-every : goal.returns-in_default-2-clause-every
returns-in_default-2-clause-every c = λ x rest form e.
    let e1 = front_of (method_spelling x.method) (arguments x.arguments ++ end) rest e in
    let method = c.in-Some.ensures.every x.method _ form.0 e1 in
    let e2 = front_of (arguments x.arguments) end rest (left_of method_spelling method c.in-Some.ensures.some.1 e1) in
    let all = c.in_ok-arguments.ensures.every x.arguments _ form.1 e2 in
    absurd (missing (sym c.in_default-2.is ∙ all))

pub returns-then-fixed-clause-every : goal.returns-then-fixed-clause-every
returns-then-fixed-clause-every c = λ x rest form e.
    let e1 = front_of (method_spelling x.method) (arguments x.arguments ++ end) rest e in
    let method = c.in-Some.ensures.every x.method _ form.0 e1 in
    let e2 = front_of (arguments x.arguments) end rest (left_of method_spelling method c.in-Some.ensures.some.1 e1) in
    let all = c.in_ok-arguments.ensures.every x.arguments _ form.1 e2 in
    let same = value_of (sym c.in-Some-2.is ∙ all) in
    λ i. Some (record { method = value_of method i; arguments = same i })

pub returns-else-fixed-clause-every : goal.returns-else-fixed-clause-every
returns-else-fixed-clause-every c = λ x rest form e.
    let e1 = front_of (method_spelling x.method) (arguments x.arguments ++ end) rest e in
    let method = c.in-Some.ensures.every x.method _ form.0 e1 in
    let e2 = front_of (arguments x.arguments) end rest (left_of method_spelling method c.in-Some.ensures.some.1 e1) in
    let all = c.in_ok-arguments.ensures.every x.arguments _ form.1 e2 in
    absurd (c.if-fixed.ensures.1 _ (left_found (AllByRecursion IsArgument) arguments c.in-Some-2.is all c.in_ok-arguments.ensures.some e2))
