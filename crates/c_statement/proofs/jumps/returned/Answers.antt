use Rattle.std.proofs.Common.{◌≡◌, ◌++◌, List, Some, None, sym, ap, drop, ◌∙◌}
use Rattle.c_token.specs.CTokens.{CToken}
use Rattle.c_tree.specs.declared.statement.CStmt.{CStmt}
use Rattle.c_tree.specs.declared.statement.CStmt.TheVariants as stmt
use Rattle.c_statement.specs.declared.statement_kind.StatementKind.TheVariants as kinds
use Rattle.c_statement.specs.Statements.{statement_tokens, IsStatementOf}
use Rattle.c_statement.proofs.Chain.{kind_apart}
use Rattle.std.proofs.Common.{refl}
use Rattle.c_statement.proofs.Behind.{returns_apart}
use Rattle.c_statement.proofs.jumps.returned.Goals as goal

pub returns-then-fixed-clause-every : goal.returns-then-fixed-clause-every
returns-then-fixed-clause-every c = λ s rest form e. go s rest form e
  where
    go : (s : CStmt) (rest : List CToken) → IsStatementOf kinds.Return s → c.args.input.now ≡ statement_tokens s ++ rest → Some (stmt.Return None) ≡ Some s
    go (stmt.Return None) rest form e = refl
    go (stmt.Return (Some k)) rest form e =
        absurd (returns_apart k rest c.if-fixed.ensures (ap (drop 1) (sym c.if-not-fixed.ensures ∙ e)))
    go (stmt.Call (Some x) f all) rest form e = absurd (kind_apart form.1 refl)
    go (stmt.CallMethod (Some x) n y j all) rest form e = absurd (kind_apart form.1 refl)
    go (stmt.Call None f all) rest form e = absurd (kind_apart form.1 refl)
    go (stmt.CallMethod None n y j all) rest form e = absurd (kind_apart form.1 refl)
    go s rest form e = absurd (kind_apart form.1 refl)
