use Rattle.std.proofs.Common.{◌≡◌, ◌++◌, ◌∷◌, List, Some, sym, ap, drop, ◌∙◌}
use Rattle.c_token.specs.CTokens.{CToken, sign}
use Rattle.c_input.proofs.Rows.{value_of}
use Rattle.c_statement.proofs.Chain.{missing}
use Rattle.c_tree.specs.declared.statement.CStmt.{CStmt}
use Rattle.c_statement.specs.Statements.{statement_tokens}
use Rattle.std.proofs.Common.{subst}
use Rattle.c_tree.specs.Forms.{IsStatement}
use Rattle.c_input.specs.Reads.{Finds}
use Rattle.c_statement.specs.Sources.{put}
use Rattle.c_statement.proofs.Putting.{parts_of, put_form, put_tokens}
use Rattle.std.specs.Prelude.{Option}
use Rattle.c_tree.specs.Names.{variable_token}
use Rattle.c_statement.specs.declared.source.Source.{Source}
use Rattle.c_statement.specs.Sources.{source_tokens, IsSource}
use Rattle.c_statement.proofs.assigned.assigned.Goals as goal

pub returns-in-Some-2-clause-every : goal.returns-in-Some-2-clause-every
returns-in-Some-2-clause-every c = λ s rest form e.
    let p = parts_of s form in
    let e0 = e ∙ ap (λ (t : List CToken). t ++ rest) p.tokens in
    let e1 = ap (drop 1) (sym c.in-Some.ensures.some.1 ∙ e0) in
    let e2 = ap (drop 1) (sym c.if-not-fixed.ensures ∙ e1) in
    let found = c.in_ok-found.ensures.every p.source rest p.form e2 in
    let known = c.in-Some.ensures.every p.variable _ p.named e0 in
    let same = value_of (sym c.in-Some-2.is ∙ found) in
    let built : put c.in-Some.x c.in-Some-2.found ≡ put p.variable p.source = λ i. put (value_of known i) (same i) in
    ap (λ t. Some t) (c.put.ensures ∙ (built ∙ p.is))

pub returns-in-None-clause-every : goal.returns-in-None-clause-every
returns-in-None-clause-every c = λ s rest form e.
    let p = parts_of s form in
    let e0 = e ∙ ap (λ (t : List CToken). t ++ rest) p.tokens in
    let e1 = ap (drop 1) (sym c.in-Some.ensures.some.1 ∙ e0) in
    let e2 = ap (drop 1) (sym c.if-not-fixed.ensures ∙ e1) in
    let found = c.in_ok-found.ensures.every p.source rest p.form e2 in
    absurd (missing (sym c.in-None.is ∙ found))

pub returns-in-Some-2-clause-some : goal.returns-in-Some-2-clause-some
returns-in-Some-2-clause-some c =
    let x = c.in-Some.x in
    let found = c.in-Some-2.found in
    let new = c.source.new.input in
    let here : Finds IsSource source_tokens c.fixed.new.self (Some found) new = subst (λ (t : Option Source). Finds IsSource source_tokens c.fixed.new.self t new) c.in-Some-2.is c.in_ok-found.ensures.some in
    let e1 = c.in-Some.ensures.some.1 ∙ ap (λ t. variable_token x ∷ t) (c.if-not-fixed.ensures ∙ ap (λ t. sign "=" ∷ t) here.1) in
    let e2 : c.args.input.now ≡ statement_tokens (put x found) ++ new = e1 ∙ ap (λ (t : List CToken). t ++ new) (sym (put_tokens x found)) in
    subst (λ (t : CStmt). IsStatement t × (c.args.input.now ≡ statement_tokens t ++ new)) (sym c.put.ensures) (put_form x found c.in-Some.ensures.some.0 here.0, e2)
