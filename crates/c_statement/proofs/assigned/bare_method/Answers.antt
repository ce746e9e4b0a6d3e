use Rattle.std.proofs.Common.{◌≡◌, ◌++◌, List, Some, None, sym, ◌∙◌}
use Rattle.c_token.specs.CTokens.{CToken}
use Rattle.c_input.proofs.Rows.{value_of}
use Rattle.c_statement.proofs.Chain.{missing}
use Rattle.c_tree.specs.declared.statement.CStmt.{CStmt}
use Rattle.c_tree.specs.declared.statement.CStmt.TheVariants as stmt
use Rattle.c_statement.specs.declared.statement_kind.StatementKind.TheVariants as kinds
use Rattle.c_statement.specs.Statements.{statement_tokens, IsStatementOf}
use Rattle.c_statement.proofs.Chain.{kind_apart}
use Rattle.std.proofs.Common.{refl}
use Rattle.c_statement.proofs.assigned.bare_method.Goals as goal

pub returns-in-Some-clause-every : goal.returns-in-Some-clause-every
returns-in-Some-clause-every c = λ s rest form e. go s rest form e
  where
    go : (s : CStmt) (rest : List CToken) → IsStatementOf kinds.Method s → c.args.input.now ≡ statement_tokens s ++ rest → Some (stmt.CallMethod None c.in-Some.found.method.table c.in-Some.found.method.object c.in-Some.found.method.slot c.in-Some.found.arguments) ≡ Some s
    go (stmt.CallMethod None n y j all) rest form e =
        let known = c.in_ok-found.ensures.every (record { method = record { table = n; object = y; slot = j }; arguments = all }) rest ((form.0.1, form.0.2, form.0.3), form.0.4) e in
        let same = value_of (sym c.in-Some.is ∙ known) in
        λ i. Some (stmt.CallMethod None (same i).method.table (same i).method.object (same i).method.slot (same i).arguments)
    go (stmt.Call (Some x) f all) rest form e = absurd (kind_apart form.1 refl)
    go (stmt.CallMethod (Some x) n y j all) rest form e = absurd (kind_apart form.1 refl)
    go (stmt.Call None f all) rest form e = absurd (kind_apart form.1 refl)
    go s rest form e = absurd (kind_apart form.1 refl)

pub returns-in-None-clause-every : goal.returns-in-None-clause-every
returns-in-None-clause-every c = λ s rest form e. absurd (go s rest form e)
  where
    go : (s : CStmt) (rest : List CToken) → IsStatementOf kinds.Method s → c.args.input.now ≡ statement_tokens s ++ rest → ⊥
    go (stmt.CallMethod None n y j all) rest form e =
        let known = c.in_ok-found.ensures.every (record { method = record { table = n; object = y; slot = j }; arguments = all }) rest ((form.0.1, form.0.2, form.0.3), form.0.4) e in
        missing (sym c.in-None.is ∙ known)
    go (stmt.Call (Some x) f all) rest form e = absurd (kind_apart form.1 refl)
    go (stmt.CallMethod (Some x) n y j all) rest form e = absurd (kind_apart form.1 refl)
    go (stmt.Call None f all) rest form e = absurd (kind_apart form.1 refl)
    go s rest form e = absurd (kind_apart form.1 refl)
