use Rattle.std.proofs.Common.{◌≡◌, ◌++◌, List, Some, sym, ◌∙◌}
use Rattle.c_token.specs.CTokens.{CToken}
use Rattle.c_tree.specs.declared.item.CFunction.{CFunction}
use Rattle.c_tree.specs.Forms.{IsHead}
use Rattle.c_tree.specs.Items.{function_spelling, head_spelling}
use Rattle.c_input.proofs.Rows.{next}
use Rattle.c_operand.proofs.Commas.{append_assoc}
use Rattle.c_function.specs.Bodies.{body_tokens}
use Rattle.c_function.specs.declared.functions.Body.{Body}
use Rattle.c_function.proofs.Rows.{one_value}
use Rattle.c_function.proofs.functions.function.Goals as goal

-- the body of a function
abbrev body_of : CFunction → Body
body_of x = record { declarations = x.declarations; lines = x.lines }

parts : (x : CFunction) (rest old : List CToken) → old ≡ function_spelling x ++ rest → old ≡ head_spelling x.head ++ (body_tokens (body_of x) ++ rest)
parts x rest old e = e ∙ append_assoc (head_spelling x.head) (body_tokens (body_of x)) rest

pub returns-in_default-2-clause-every : goal.returns-in_default-2-clause-every
returns-in_default-2-clause-every c = λ x rest form e.
    let n = next IsHead head_spelling c.args.input.now c.in_ok-head.field-0 c.head.new.input c.in-Some.head x.head (body_tokens (body_of x) ++ rest)
    c.in-Some.is c.in_ok-head.ensures.some c.in_ok-head.ensures.every form.0 (parts x rest c.args.input.now e) in
    absurd (cc (c.in_default-2.is, c.in_ok-body.ensures.every (body_of x) rest (form.1, form.2, form.3) n.left))

pub returns-clause-every : goal.returns-clause-every
returns-clause-every c = λ x rest form e.
    let n = next IsHead head_spelling c.args.input.now c.in_ok-head.field-0 c.head.new.input c.in-Some.head x.head (body_tokens (body_of x) ++ rest)
    c.in-Some.is c.in_ok-head.ensures.some c.in_ok-head.ensures.every form.0 (parts x rest c.args.input.now e) in
    let body : c.in-Some-2.body ≡ body_of x = one_value _ _ (sym c.in-Some-2.is ∙ c.in_ok-body.ensures.every (body_of x) rest (form.1, form.2, form.3) n.left) in
    λ i. Some (record { head = n.same i; declarations = (body i).declarations; lines = (body i).lines })
