use Rattle.c_input.proofs.Rows.{left_of}
use Rattle.c_statement.proofs.Chain.{front_of, joined, missing}
use Rattle.c_statement.specs.Sources.{end}
use Rattle.c_tree.specs.Values.{value_spelling}
use Rattle.c_statement.proofs.Behind.{end_behind}
use Rattle.c_statement.proofs.operands.ended.Goals as goal

pub returns-in_err-found-clause-every : goal.returns-in_err-found-clause-every
returns-in_err-found-clause-every c = λ k rest form e.
    let e1 = front_of (value_spelling k) end rest e in
    absurd (missing (c.in_err-found.ensures.every k _ form (end_behind rest) e1))

pub returns-then-fixed-clause-every : goal.returns-then-fixed-clause-every
returns-then-fixed-clause-every c = λ k rest form e.
    let e1 = front_of (value_spelling k) end rest e in
    c.in_ok-found.ensures.every k _ form (end_behind rest) e1

pub returns-else-fixed-clause-every : goal.returns-else-fixed-clause-every
returns-else-fixed-clause-every c = λ k rest form e.
    let e1 = front_of (value_spelling k) end rest e in
    let known = c.in_ok-found.ensures.every k _ form (end_behind rest) e1 in
    absurd (c.if-fixed.ensures.1 _ (left_of value_spelling known c.in_ok-found.ensures.some.1 e1))

pub returns-then-fixed-clause-some : goal.returns-then-fixed-clause-some
returns-then-fixed-clause-some c = (c.in_ok-found.ensures.some.0, joined (value_spelling c.in_ok-found.found) end c.fixed.new.self c.in_ok-found.ensures.some.1 c.if-fixed.ensures)
