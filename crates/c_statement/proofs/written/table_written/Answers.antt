use Rattle.std.proofs.Common.{◌≡◌, ◌++◌, ◌∷◌, List, Some, None, sym, ap, drop, ◌∙◌}
use Rattle.c_token.specs.CTokens.{CToken, sign}
use Rattle.c_input.proofs.Rows.{left_of, value_of}
use Rattle.c_statement.proofs.Chain.{front_of, joined, missing}
use Rattle.c_tree.specs.declared.statement.CStmt.{CStmt}
use Rattle.c_tree.specs.declared.statement.CStmt.TheVariants as stmt
use Rattle.c_statement.specs.declared.statement_kind.StatementKind.TheVariants as kinds
use Rattle.c_statement.specs.Statements.{statement_tokens, IsStatementOf}
use Rattle.c_statement.proofs.Chain.{kind_apart}
use Rattle.std.proofs.Common.{refl}
use Rattle.c_tree.specs.Names.{name_token}
use Rattle.c_tree.specs.Statements.{table_of}
use Rattle.c_statement.specs.Sources.{end}
use Rattle.c_statement.proofs.written.table_written.Goals as goal

pub returns-then-not-fixed-clause-every : goal.returns-then-not-fixed-clause-every
returns-then-not-fixed-clause-every c = λ s rest form e. absurd (go s rest form e)
  where
    go : (s : CStmt) (rest : List CToken) → IsStatementOf kinds.Table s → c.args.input.now ≡ statement_tokens s ++ rest → ⊥
    go (stmt.StoreTable y n) rest form e =
        let e1 = front_of (table_of y) (sign "=" ∷ sign "&" ∷ name_token "cyc_t_" n ∷ end) rest e in
        let known = c.in_ok-object.ensures.every y _ form.0.0 e1 in
        let e2 = left_of table_of known c.in_ok-object.ensures.some.1 e1 in
        c.if-not-fixed.ensures.1 _ e2
    go (stmt.Call (Some x) f all) rest form e = absurd (kind_apart form.1 refl)
    go (stmt.CallMethod (Some x) n y j all) rest form e = absurd (kind_apart form.1 refl)
    go (stmt.Call None f all) rest form e = absurd (kind_apart form.1 refl)
    go (stmt.CallMethod None n y j all) rest form e = absurd (kind_apart form.1 refl)
    go s rest form e = absurd (kind_apart form.1 refl)

pub returns-in_err-table-clause-every : goal.returns-in_err-table-clause-every
returns-in_err-table-clause-every c = λ s rest form e. absurd (go s rest form e)
  where
    go : (s : CStmt) (rest : List CToken) → IsStatementOf kinds.Table s → c.args.input.now ≡ statement_tokens s ++ rest → ⊥
    go (stmt.StoreTable y n) rest form e =
        let e1 = front_of (table_of y) (sign "=" ∷ sign "&" ∷ name_token "cyc_t_" n ∷ end) rest e in
        let known = c.in_ok-object.ensures.every y _ form.0.0 e1 in
        let e2 = left_of table_of known c.in_ok-object.ensures.some.1 e1 in
        let e3 = ap (drop 2) (sym c.if-not-fixed.ensures ∙ e2) in
        missing (c.in_err-table.ensures.every n _ form.0.1 e3)
    go (stmt.Call (Some x) f all) rest form e = absurd (kind_apart form.1 refl)
    go (stmt.CallMethod (Some x) n y j all) rest form e = absurd (kind_apart form.1 refl)
    go (stmt.Call None f all) rest form e = absurd (kind_apart form.1 refl)
    go (stmt.CallMethod None n y j all) rest form e = absurd (kind_apart form.1 refl)
    go s rest form e = absurd (kind_apart form.1 refl)

pub returns-then-fixed-clause-every : goal.returns-then-fixed-clause-every
returns-then-fixed-clause-every c = λ s rest form e. go s rest form e
  where
    go : (s : CStmt) (rest : List CToken) → IsStatementOf kinds.Table s → c.args.input.now ≡ statement_tokens s ++ rest → Some (stmt.StoreTable c.in_ok-object.object c.in_ok-table.table) ≡ Some s
    go (stmt.StoreTable y n) rest form e =
        let e1 = front_of (table_of y) (sign "=" ∷ sign "&" ∷ name_token "cyc_t_" n ∷ end) rest e in
        let known = c.in_ok-object.ensures.every y _ form.0.0 e1 in
        let e2 = left_of table_of known c.in_ok-object.ensures.some.1 e1 in
        let e3 = ap (drop 2) (sym c.if-not-fixed.ensures ∙ e2) in
        let table = c.in_ok-table.ensures.every n _ form.0.1 e3 in
        λ i. Some (stmt.StoreTable (value_of known i) (value_of table i))
    go (stmt.Call (Some x) f all) rest form e = absurd (kind_apart form.1 refl)
    go (stmt.CallMethod (Some x) n y j all) rest form e = absurd (kind_apart form.1 refl)
    go (stmt.Call None f all) rest form e = absurd (kind_apart form.1 refl)
    go (stmt.CallMethod None n y j all) rest form e = absurd (kind_apart form.1 refl)
    go s rest form e = absurd (kind_apart form.1 refl)

pub returns-else-fixed-clause-every : goal.returns-else-fixed-clause-every
returns-else-fixed-clause-every c = λ s rest form e. absurd (go s rest form e)
  where
    go : (s : CStmt) (rest : List CToken) → IsStatementOf kinds.Table s → c.args.input.now ≡ statement_tokens s ++ rest → ⊥
    go (stmt.StoreTable y n) rest form e =
        let e1 = front_of (table_of y) (sign "=" ∷ sign "&" ∷ name_token "cyc_t_" n ∷ end) rest e in
        let known = c.in_ok-object.ensures.every y _ form.0.0 e1 in
        let e2 = left_of table_of known c.in_ok-object.ensures.some.1 e1 in
        let e3 = ap (drop 2) (sym c.if-not-fixed.ensures ∙ e2) in
        c.if-fixed.ensures.1 _ (ap (drop 1) (sym c.in_ok-table.ensures.some.1 ∙ e3))
    go (stmt.Call (Some x) f all) rest form e = absurd (kind_apart form.1 refl)
    go (stmt.CallMethod (Some x) n y j all) rest form e = absurd (kind_apart form.1 refl)
    go (stmt.Call None f all) rest form e = absurd (kind_apart form.1 refl)
    go (stmt.CallMethod None n y j all) rest form e = absurd (kind_apart form.1 refl)
    go s rest form e = absurd (kind_apart form.1 refl)

pub returns-then-fixed-clause-some : goal.returns-then-fixed-clause-some
returns-then-fixed-clause-some c =
    let name = name_token "cyc_t_" c.in_ok-table.table in
    let e2 = c.if-not-fixed.ensures ∙ ap (λ t. sign "=" ∷ sign "&" ∷ t) (c.in_ok-table.ensures.some.1 ∙ ap (λ t. name ∷ t) c.if-fixed.ensures) in (
      (c.in_ok-object.ensures.some.0, c.in_ok-table.ensures.some.0),
      joined (table_of c.in_ok-object.object) (sign "=" ∷ sign "&" ∷ name ∷ end) c.fixed-2.new.self c.in_ok-object.ensures.some.1 e2,
    )
