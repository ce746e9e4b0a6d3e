use Rattle.std.proofs.Common.{sym, ap, drop, ◌∙◌}
use Rattle.c_statement.proofs.Chain.{front_of, missing}
use Rattle.std.specs.List.{AllByRecursion}
use Rattle.c_tree.specs.Forms.{IsArgument}
use Rattle.c_tree.specs.Statements.{arguments, callee_name}
use Rattle.c_statement.proofs.Chain.{left_found}
use Rattle.c_statement.specs.Sources.{end}
use Rattle.c_statement.proofs.calls.call.Goals as goal

pub returns-in_default-2-clause-every : goal.returns-in_default-2-clause-every
returns-in_default-2-clause-every c = λ x rest form e.
    let word_known = c.in-Some.ensures.every (callee_name x.callee) _ e in
    let callee = c.in_ok-callee.ensures.every x.callee form.0 (sym word_known) in
    absurd (missing (sym c.in_default-2.is ∙ callee))

pub returns-else-fixed-clause-every : goal.returns-else-fixed-clause-every
returns-else-fixed-clause-every c = λ x rest form e.
    let e1 = front_of (arguments x.arguments) end rest (ap (drop 1) (sym c.in-Some.ensures.some ∙ e)) in
    let all = c.in_ok-arguments.ensures.every x.arguments _ form.1 e1 in
    absurd (c.if-fixed.ensures.1 _ (left_found (AllByRecursion IsArgument) arguments c.in-Some-3.is all c.in_ok-arguments.ensures.some e1))
