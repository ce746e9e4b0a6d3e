use Rattle.std.proofs.Common.{◌≡◌, ◌++◌, List, Some, None, sym, ◌∙◌}
use Rattle.c_token.specs.CTokens.{CToken}
use Rattle.c_input.proofs.Rows.{value_of}
use Rattle.c_statement.proofs.Chain.{missing}
use Rattle.c_tree.specs.declared.statement.CStmt.{CStmt}
use Rattle.c_tree.specs.declared.statement.CStmt.TheVariants as stmt
use Rattle.c_statement.specs.declared.statement_kind.StatementKind.TheVariants as kinds
use Rattle.c_statement.specs.Statements.{statement_tokens, IsStatementOf}
use Rattle.c_statement.proofs.Chain.{kind_apart}
use Rattle.std.proofs.Common.{refl}
use Rattle.c_statement.proofs.assigned.bare_call.Goals as goal

pub returns-in-Some-clause-every : goal.returns-in-Some-clause-every
returns-in-Some-clause-every c = λ s rest form e. go s rest form e
  where
    go : (s : CStmt) (rest : List CToken) → IsStatementOf kinds.Call s → c.args.input.now ≡ statement_tokens s ++ rest → Some (stmt.Call None c.in-Some.found.callee c.in-Some.found.arguments) ≡ Some s
    go (stmt.Call None f all) rest form e =
        let known = c.in_ok-found.ensures.every (record { callee = f; arguments = all }) rest (form.0.1, form.0.2) e in
        let same = value_of (sym c.in-Some.is ∙ known) in
        λ i. Some (stmt.Call None (same i).callee (same i).arguments)
    go (stmt.Call (Some x) f all) rest form e = absurd (kind_apart form.1 refl)
    go (stmt.CallMethod (Some x) n y j all) rest form e = absurd (kind_apart form.1 refl)
    go (stmt.CallMethod None n y j all) rest form e = absurd (kind_apart form.1 refl)
    go s rest form e = absurd (kind_apart form.1 refl)

pub returns-in-None-clause-every : goal.returns-in-None-clause-every
returns-in-None-clause-every c = λ s rest form e. absurd (go s rest form e)
  where
    go : (s : CStmt) (rest : List CToken) → IsStatementOf kinds.Call s → c.args.input.now ≡ statement_tokens s ++ rest → ⊥
    go (stmt.Call None f all) rest form e =
        let known = c.in_ok-found.ensures.every (record { callee = f; arguments = all }) rest (form.0.1, form.0.2) e in
        missing (sym c.in-None.is ∙ known)
    go (stmt.Call (Some x) f all) rest form e = absurd (kind_apart form.1 refl)
    go (stmt.CallMethod (Some x) n y j all) rest form e = absurd (kind_apart form.1 refl)
    go (stmt.CallMethod None n y j all) rest form e = absurd (kind_apart form.1 refl)
    go s rest form e = absurd (kind_apart form.1 refl)
