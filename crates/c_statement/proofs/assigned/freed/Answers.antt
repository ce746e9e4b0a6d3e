use Rattle.std.proofs.Common.{◌≡◌, ◌++◌, List, Some, None, sym, ap, drop, ◌∙◌}
use Rattle.c_token.specs.CTokens.{CToken}
use Rattle.c_statement.proofs.Chain.{missing}
use Rattle.c_tree.specs.declared.statement.CStmt.{CStmt}
use Rattle.c_tree.specs.declared.statement.CStmt.TheVariants as stmt
use Rattle.c_statement.specs.declared.statement_kind.StatementKind.TheVariants as kinds
use Rattle.c_statement.specs.Statements.{statement_tokens, IsStatementOf}
use Rattle.c_statement.proofs.Chain.{kind_apart}
use Rattle.std.proofs.Common.{refl}
use Rattle.c_statement.proofs.assigned.freed.Goals as goal

pub returns-in_err-object-clause-every : goal.returns-in_err-object-clause-every
returns-in_err-object-clause-every c = λ s rest form e. absurd (go s rest form e)
  where
    go : (s : CStmt) (rest : List CToken) → IsStatementOf kinds.Free s → c.args.input.now ≡ statement_tokens s ++ rest → ⊥
    go (stmt.Free x) rest form e =
        missing (c.in_err-object.ensures.every x _ form.0 e)
    go (stmt.Call (Some x) f all) rest form e = absurd (kind_apart form.1 refl)
    go (stmt.CallMethod (Some x) n y j all) rest form e = absurd (kind_apart form.1 refl)
    go (stmt.Call None f all) rest form e = absurd (kind_apart form.1 refl)
    go (stmt.CallMethod None n y j all) rest form e = absurd (kind_apart form.1 refl)
    go s rest form e = absurd (kind_apart form.1 refl)

pub returns-in_err-given-clause-every : goal.returns-in_err-given-clause-every
returns-in_err-given-clause-every c = λ s rest form e. absurd (go s rest form e)
  where
    go : (s : CStmt) (rest : List CToken) → IsStatementOf kinds.Free s → c.args.input.now ≡ statement_tokens s ++ rest → ⊥
    go (stmt.Free x) rest form e =
        let e1 = ap (drop 4) (sym c.in_ok-object.ensures.some.1 ∙ e) in
        let e2 = ap (drop 1) (sym c.if-not-fixed.ensures ∙ e1) in
        missing (c.in_err-given.ensures.every x _ form.0 e2)
    go (stmt.Call (Some x) f all) rest form e = absurd (kind_apart form.1 refl)
    go (stmt.CallMethod (Some x) n y j all) rest form e = absurd (kind_apart form.1 refl)
    go (stmt.Call None f all) rest form e = absurd (kind_apart form.1 refl)
    go (stmt.CallMethod None n y j all) rest form e = absurd (kind_apart form.1 refl)
    go s rest form e = absurd (kind_apart form.1 refl)
