use Rattle.std.proofs.Common.{◌≡◌, ◌++◌, ◌∷◌, List, Some, None, sym, ap, drop, ◌∙◌}
use Rattle.c_token.specs.CTokens.{CToken, word, sign}
use Rattle.c_input.proofs.Rows.{left_of, value_of}
use Rattle.c_statement.proofs.Chain.{front_of, joined, missing}
use Rattle.c_tree.specs.declared.statement.CStmt.{CStmt}
use Rattle.c_tree.specs.declared.statement.CStmt.TheVariants as stmt
use Rattle.c_statement.specs.declared.statement_kind.StatementKind.TheVariants as kinds
use Rattle.c_statement.specs.Statements.{statement_tokens, IsStatementOf}
use Rattle.c_statement.proofs.Chain.{kind_apart}
use Rattle.std.proofs.Common.{refl}
use Rattle.c_tree.specs.declared.statement.CTest.TheVariants as test
use Rattle.c_statement.specs.Statements.{comparison_tokens, target_tokens}
use Rattle.c_statement.proofs.Behind.{comparison_form, comparison_known, goto_apart, test_apart}
use Rattle.c_statement.proofs.jumps.jump.Goals as goal

pub returns-in_err-label-2-clause-every : goal.returns-in_err-label-2-clause-every
returns-in_err-label-2-clause-every c = λ s rest form e. absurd (go s rest form e)
  where
    go : (s : CStmt) (rest : List CToken) → IsStatementOf kinds.Goto s → c.args.input.now ≡ statement_tokens s ++ rest → ⊥
    go (stmt.Goto (test.Compare a o b) j) rest form e =
        let e1 = ap (drop 2) (sym c.if-not-fixed.ensures ∙ e) in
        test_apart a o b j rest c.if-fixed.ensures e1
    go (stmt.Goto test.ErrorSet j) rest form e =
        let e1 = ap (drop 2) (sym c.if-not-fixed.ensures ∙ e) in
        let e2 = ap (drop 4) (sym c.if-fixed.ensures ∙ e1) in
        missing (c.in_err-label-2.ensures.every j rest form.0.1 e2)
    go (stmt.Goto test.Always j) rest form e =
        goto_apart (sym c.if-not-fixed.ensures ∙ e)
    go (stmt.Call (Some x) f all) rest form e = absurd (kind_apart form.1 refl)
    go (stmt.CallMethod (Some x) n y j all) rest form e = absurd (kind_apart form.1 refl)
    go (stmt.Call None f all) rest form e = absurd (kind_apart form.1 refl)
    go (stmt.CallMethod None n y j all) rest form e = absurd (kind_apart form.1 refl)
    go s rest form e = absurd (kind_apart form.1 refl)

pub returns-then-fixed-clause-every : goal.returns-then-fixed-clause-every
returns-then-fixed-clause-every c = λ s rest form e. go s rest form e
  where
    go : (s : CStmt) (rest : List CToken) → IsStatementOf kinds.Goto s → c.args.input.now ≡ statement_tokens s ++ rest → Some (stmt.Goto test.ErrorSet c.in_ok-label-2.label) ≡ Some s
    go (stmt.Goto (test.Compare a o b) j) rest form e =
        let e1 = ap (drop 2) (sym c.if-not-fixed.ensures ∙ e) in
        absurd (test_apart a o b j rest c.if-fixed.ensures e1)
    go (stmt.Goto test.ErrorSet j) rest form e =
        let e1 = ap (drop 2) (sym c.if-not-fixed.ensures ∙ e) in
        let e2 = ap (drop 4) (sym c.if-fixed.ensures ∙ e1) in
        ap (λ l. Some (stmt.Goto test.ErrorSet l)) (value_of (c.in_ok-label-2.ensures.every j rest form.0.1 e2))
    go (stmt.Goto test.Always j) rest form e =
        absurd (goto_apart (sym c.if-not-fixed.ensures ∙ e))
    go (stmt.Call (Some x) f all) rest form e = absurd (kind_apart form.1 refl)
    go (stmt.CallMethod (Some x) n y j all) rest form e = absurd (kind_apart form.1 refl)
    go (stmt.Call None f all) rest form e = absurd (kind_apart form.1 refl)
    go (stmt.CallMethod None n y j all) rest form e = absurd (kind_apart form.1 refl)
    go s rest form e = absurd (kind_apart form.1 refl)

pub returns-in_err-test-clause-every : goal.returns-in_err-test-clause-every
returns-in_err-test-clause-every c = λ s rest form e. absurd (go s rest form e)
  where
    go : (s : CStmt) (rest : List CToken) → IsStatementOf kinds.Goto s → c.args.input.now ≡ statement_tokens s ++ rest → ⊥
    go (stmt.Goto (test.Compare a o b) j) rest form e =
        let e1 = ap (drop 2) (sym c.if-not-fixed.ensures ∙ e) in
        let e2 = front_of (comparison_tokens (test.Compare a o b)) (target_tokens j) rest (c.if-fixed.ensures.0 ∙ e1) in
        missing (c.in_err-test.ensures.every (test.Compare a o b) _ form.0.0 e2)
    go (stmt.Goto test.ErrorSet j) rest form e =
        let e1 = ap (drop 2) (sym c.if-not-fixed.ensures ∙ e) in
        c.if-fixed.ensures.1 _ e1
    go (stmt.Goto test.Always j) rest form e =
        goto_apart (sym c.if-not-fixed.ensures ∙ e)
    go (stmt.Call (Some x) f all) rest form e = absurd (kind_apart form.1 refl)
    go (stmt.CallMethod (Some x) n y j all) rest form e = absurd (kind_apart form.1 refl)
    go (stmt.Call None f all) rest form e = absurd (kind_apart form.1 refl)
    go (stmt.CallMethod None n y j all) rest form e = absurd (kind_apart form.1 refl)
    go s rest form e = absurd (kind_apart form.1 refl)

pub returns-in_err-label-3-clause-every : goal.returns-in_err-label-3-clause-every
returns-in_err-label-3-clause-every c = λ s rest form e. absurd (go s rest form e)
  where
    go : (s : CStmt) (rest : List CToken) → IsStatementOf kinds.Goto s → c.args.input.now ≡ statement_tokens s ++ rest → ⊥
    go (stmt.Goto (test.Compare a o b) j) rest form e =
        let e1 = ap (drop 2) (sym c.if-not-fixed.ensures ∙ e) in
        let e2 = front_of (comparison_tokens (test.Compare a o b)) (target_tokens j) rest (c.if-fixed.ensures.0 ∙ e1) in
        let known = c.in_ok-test.ensures.every (test.Compare a o b) _ form.0.0 e2 in
        let e3 = left_of comparison_tokens known c.in_ok-test.ensures.some.1 e2 in
        missing (c.in_err-label-3.ensures.every j rest form.0.1 e3)
    go (stmt.Goto test.ErrorSet j) rest form e =
        let e1 = ap (drop 2) (sym c.if-not-fixed.ensures ∙ e) in
        c.if-fixed.ensures.1 _ e1
    go (stmt.Goto test.Always j) rest form e =
        goto_apart (sym c.if-not-fixed.ensures ∙ e)
    go (stmt.Call (Some x) f all) rest form e = absurd (kind_apart form.1 refl)
    go (stmt.CallMethod (Some x) n y j all) rest form e = absurd (kind_apart form.1 refl)
    go (stmt.Call None f all) rest form e = absurd (kind_apart form.1 refl)
    go (stmt.CallMethod None n y j all) rest form e = absurd (kind_apart form.1 refl)
    go s rest form e = absurd (kind_apart form.1 refl)

pub returns-clause-every : goal.returns-clause-every
returns-clause-every c = λ s rest form e. go s rest form e
  where
    go : (s : CStmt) (rest : List CToken) → IsStatementOf kinds.Goto s → c.args.input.now ≡ statement_tokens s ++ rest → Some (stmt.Goto c.in_ok-test.test c.in_ok-label-3.label) ≡ Some s
    go (stmt.Goto (test.Compare a o b) j) rest form e =
        let e1 = ap (drop 2) (sym c.if-not-fixed.ensures ∙ e) in
        let e2 = front_of (comparison_tokens (test.Compare a o b)) (target_tokens j) rest (c.if-fixed.ensures.0 ∙ e1) in
        let known = c.in_ok-test.ensures.every (test.Compare a o b) _ form.0.0 e2 in
        let e3 = left_of comparison_tokens known c.in_ok-test.ensures.some.1 e2 in
        let label = c.in_ok-label-3.ensures.every j rest form.0.1 e3 in
        λ i. Some (stmt.Goto (value_of known i) (value_of label i))
    go (stmt.Goto test.ErrorSet j) rest form e =
        let e1 = ap (drop 2) (sym c.if-not-fixed.ensures ∙ e) in
        absurd (c.if-fixed.ensures.1 _ e1)
    go (stmt.Goto test.Always j) rest form e =
        absurd (goto_apart (sym c.if-not-fixed.ensures ∙ e))
    go (stmt.Call (Some x) f all) rest form e = absurd (kind_apart form.1 refl)
    go (stmt.CallMethod (Some x) n y j all) rest form e = absurd (kind_apart form.1 refl)
    go (stmt.Call None f all) rest form e = absurd (kind_apart form.1 refl)
    go (stmt.CallMethod None n y j all) rest form e = absurd (kind_apart form.1 refl)
    go s rest form e = absurd (kind_apart form.1 refl)

pub returns-clause-some : goal.returns-clause-some
returns-clause-some c =
    let e1 = joined (comparison_tokens c.in_ok-test.test) (target_tokens c.in_ok-label-3.label) c.target-2.new.input c.in_ok-test.ensures.some.1 c.in_ok-label-3.ensures.some.1 in
    let e2 = c.if-not-fixed.ensures ∙ ap (λ t. word "if" ∷ sign "(" ∷ t) (sym c.if-fixed.ensures.0 ∙ e1) in
    let e3 = ap (λ (t : List CToken). (t ++ target_tokens c.in_ok-label-3.label) ++ c.target-2.new.input) (sym (comparison_known c.in_ok-test.test c.in_ok-test.ensures.some.0)) in
    ((comparison_form c.in_ok-test.test c.in_ok-test.ensures.some.0, c.in_ok-label-3.ensures.some.0), e2 ∙ e3)
