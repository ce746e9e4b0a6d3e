use Rattle.std.proofs.Common.{◌≡◌, ◌++◌, ◌∷◌, List, Some, None, sym, ap, drop, ◌∙◌}
use Rattle.c_token.specs.CTokens.{CToken, sign}
use Rattle.c_input.proofs.Rows.{left_of, value_of}
use Rattle.c_statement.proofs.Chain.{front_of, missing}
use Rattle.c_tree.specs.declared.statement.CStmt.{CStmt}
use Rattle.c_tree.specs.declared.statement.CStmt.TheVariants as stmt
use Rattle.c_statement.specs.declared.statement_kind.StatementKind.TheVariants as kinds
use Rattle.c_statement.specs.Statements.{statement_tokens, IsStatementOf}
use Rattle.c_statement.proofs.Chain.{kind_apart}
use Rattle.std.proofs.Common.{refl}
use Rattle.c_place.specs.declared.elements.ElementPlace.{ElementPlace}
use Rattle.c_place.specs.Places.{element_spelling}
use Rattle.c_statement.specs.Sources.{ended_tokens}
use Rattle.c_statement.proofs.written.element_written.Goals as goal

pub returns-in_err-place-clause-every : goal.returns-in_err-place-clause-every
returns-in_err-place-clause-every c = λ s rest form e. absurd (go s rest form e)
  where
    go : (s : CStmt) (rest : List CToken) → IsStatementOf kinds.Element s → c.args.input.now ≡ statement_tokens s ++ rest → ⊥
    go (stmt.StoreElement t v y k) rest form e =
        let p : ElementPlace = record { kind = t; view = v; offset = y } in
        let e1 = front_of (element_spelling p) (sign "=" ∷ ended_tokens k) rest e in
        missing (c.in_err-place.ensures.every p _ (form.0.0, form.0.1) e1)
    go (stmt.Call (Some x) f all) rest form e = absurd (kind_apart form.1 refl)
    go (stmt.CallMethod (Some x) n y j all) rest form e = absurd (kind_apart form.1 refl)
    go (stmt.Call None f all) rest form e = absurd (kind_apart form.1 refl)
    go (stmt.CallMethod None n y j all) rest form e = absurd (kind_apart form.1 refl)
    go s rest form e = absurd (kind_apart form.1 refl)

pub returns-then-not-fixed-clause-every : goal.returns-then-not-fixed-clause-every
returns-then-not-fixed-clause-every c = λ s rest form e. absurd (go s rest form e)
  where
    go : (s : CStmt) (rest : List CToken) → IsStatementOf kinds.Element s → c.args.input.now ≡ statement_tokens s ++ rest → ⊥
    go (stmt.StoreElement t v y k) rest form e =
        let p : ElementPlace = record { kind = t; view = v; offset = y } in
        let e1 = front_of (element_spelling p) (sign "=" ∷ ended_tokens k) rest e in
        let known = c.in_ok-place.ensures.every p _ (form.0.0, form.0.1) e1 in
        let e2 = left_of element_spelling known c.in_ok-place.ensures.some.1 e1 in
        c.if-not-fixed.ensures.1 _ e2
    go (stmt.Call (Some x) f all) rest form e = absurd (kind_apart form.1 refl)
    go (stmt.CallMethod (Some x) n y j all) rest form e = absurd (kind_apart form.1 refl)
    go (stmt.Call None f all) rest form e = absurd (kind_apart form.1 refl)
    go (stmt.CallMethod None n y j all) rest form e = absurd (kind_apart form.1 refl)
    go s rest form e = absurd (kind_apart form.1 refl)

pub returns-in_err-written-clause-every : goal.returns-in_err-written-clause-every
returns-in_err-written-clause-every c = λ s rest form e. absurd (go s rest form e)
  where
    go : (s : CStmt) (rest : List CToken) → IsStatementOf kinds.Element s → c.args.input.now ≡ statement_tokens s ++ rest → ⊥
    go (stmt.StoreElement t v y k) rest form e =
        let p : ElementPlace = record { kind = t; view = v; offset = y } in
        let e1 = front_of (element_spelling p) (sign "=" ∷ ended_tokens k) rest e in
        let known = c.in_ok-place.ensures.every p _ (form.0.0, form.0.1) e1 in
        let e2 = left_of element_spelling known c.in_ok-place.ensures.some.1 e1 in
        let e3 = ap (drop 1) (sym c.if-not-fixed.ensures ∙ e2) in
        missing (c.in_err-written.ensures.every k rest form.0.2 e3)
    go (stmt.Call (Some x) f all) rest form e = absurd (kind_apart form.1 refl)
    go (stmt.CallMethod (Some x) n y j all) rest form e = absurd (kind_apart form.1 refl)
    go (stmt.Call None f all) rest form e = absurd (kind_apart form.1 refl)
    go (stmt.CallMethod None n y j all) rest form e = absurd (kind_apart form.1 refl)
    go s rest form e = absurd (kind_apart form.1 refl)

pub returns-clause-every : goal.returns-clause-every
returns-clause-every c = λ s rest form e. go s rest form e
  where
    go : (s : CStmt) (rest : List CToken) → IsStatementOf kinds.Element s → c.args.input.now ≡ statement_tokens s ++ rest → Some (stmt.StoreElement c.in_ok-place.place.kind c.in_ok-place.place.view c.in_ok-place.place.offset c.in_ok-written.written) ≡ Some s
    go (stmt.StoreElement t v y k) rest form e =
        let p : ElementPlace = record { kind = t; view = v; offset = y } in
        let e1 = front_of (element_spelling p) (sign "=" ∷ ended_tokens k) rest e in
        let known = c.in_ok-place.ensures.every p _ (form.0.0, form.0.1) e1 in
        let e2 = left_of element_spelling known c.in_ok-place.ensures.some.1 e1 in
        let e3 = ap (drop 1) (sym c.if-not-fixed.ensures ∙ e2) in
        let written = value_of (c.in_ok-written.ensures.every k rest form.0.2 e3) in
        let same = value_of known in
        λ i. Some (stmt.StoreElement (same i).kind (same i).view (same i).offset (written i))
    go (stmt.Call (Some x) f all) rest form e = absurd (kind_apart form.1 refl)
    go (stmt.CallMethod (Some x) n y j all) rest form e = absurd (kind_apart form.1 refl)
    go (stmt.Call None f all) rest form e = absurd (kind_apart form.1 refl)
    go (stmt.CallMethod None n y j all) rest form e = absurd (kind_apart form.1 refl)
    go s rest form e = absurd (kind_apart form.1 refl)
