use Rattle.std.proofs.Common.{◌≡◌, ◌++◌, ◌∷◌, List, Some, None, sym, ap, drop, ◌∙◌}
use Rattle.c_token.specs.CTokens.{CToken, sign}
use Rattle.c_input.proofs.Rows.{left_of, value_of}
use Rattle.c_statement.proofs.Chain.{field_known, front_of, joined, missing}
use Rattle.c_tree.specs.declared.statement.CStmt.{CStmt}
use Rattle.c_tree.specs.declared.statement.CStmt.TheVariants as stmt
use Rattle.c_statement.specs.declared.statement_kind.StatementKind.TheVariants as kinds
use Rattle.c_statement.specs.Statements.{statement_tokens, IsStatementOf}
use Rattle.c_statement.proofs.Chain.{kind_apart}
use Rattle.std.proofs.Common.{refl}
use Rattle.std.proofs.Common.{subst}
use Rattle.c_tree.specs.declared.statement.ViewPlace.{ViewPlace}
use Rattle.c_tree.specs.declared.statement.ViewPlace.TheVariants as place
use Rattle.c_tree.specs.Forms.{IsStatement}
use Rattle.c_tree.specs.Statements.{view}
use Rattle.c_input.specs.Reads.{ReadsEvery}
use Rattle.c_statement.specs.declared.store.Store.TheVariants as store
use Rattle.c_statement.specs.Sources.{ended_tokens}
use Rattle.c_statement.specs.Stores.{kept, store_tokens, IsStore}
use Rattle.c_statement.proofs.Putting.{kept_form, kept_tokens}
use Rattle.c_statement.proofs.Chain.{equals_apart}
use Rattle.c_statement.proofs.written.place_written.Goals as goal

pub returns-in_err-place-clause-every : goal.returns-in_err-place-clause-every
returns-in_err-place-clause-every c = λ s rest form e. absurd (go s rest form e)
  where
    go : (s : CStmt) (rest : List CToken) → IsStatementOf kinds.Place s → c.args.input.now ≡ statement_tokens s ++ rest → ⊥
    go (stmt.StoreField p k) rest form e =
        let e1 = front_of (view (place.Field p)) (sign "=" ∷ ended_tokens k) rest e in
        missing (c.in_err-place.ensures.every (place.Field p) _ form.0.0 e1)
    go (stmt.TakeBuffer v y) rest form e =
        let e1 = front_of (view v) (store_tokens v (store.Take y)) rest e in
        missing (c.in_err-place.ensures.every v _ form.0.0 e1)
    go (stmt.CopyBuffer v w) rest form e =
        let e1 = front_of (view v) (store_tokens v (store.Copy w)) rest e in
        missing (c.in_err-place.ensures.every v _ form.0.0 e1)
    go (stmt.MoveBuffer v k) rest form e =
        let e1 = front_of (view v) (store_tokens v (store.Move k)) rest e in
        missing (c.in_err-place.ensures.every v _ form.0.0 e1)
    go (stmt.StoreMemory v k) rest form e =
        let e1 = front_of (view v) (store_tokens v (store.Memory k)) rest e in
        missing (c.in_err-place.ensures.every v _ form.0.0 e1)
    go (stmt.StoreExtent v x j k) rest form e =
        let e1 = front_of (view v) (store_tokens v (store.Extent x j k)) rest e in
        missing (c.in_err-place.ensures.every v _ form.0.0 e1)
    go (stmt.Call (Some x) f all) rest form e = absurd (kind_apart form.1 refl)
    go (stmt.CallMethod (Some x) n y j all) rest form e = absurd (kind_apart form.1 refl)
    go (stmt.Call None f all) rest form e = absurd (kind_apart form.1 refl)
    go (stmt.CallMethod None n y j all) rest form e = absurd (kind_apart form.1 refl)
    go s rest form e = absurd (kind_apart form.1 refl)

pub returns-in_err-store-clause-every : goal.returns-in_err-store-clause-every
returns-in_err-store-clause-every c = λ s rest form e. absurd (go s rest form e)
  where
    go : (s : CStmt) (rest : List CToken) → IsStatementOf kinds.Place s → c.args.input.now ≡ statement_tokens s ++ rest → ⊥
    go (stmt.StoreField p k) rest form e =
        let e1 = front_of (view (place.Field p)) (sign "=" ∷ ended_tokens k) rest e in
        let known = c.in_ok-place.ensures.every (place.Field p) _ form.0.0 e1 in
        let e2 = left_of view known c.in_ok-place.ensures.some.1 e1 in
        c.if-not-fixed.ensures.1 _ e2
    go (stmt.TakeBuffer v y) rest form e =
        let e1 = front_of (view v) (store_tokens v (store.Take y)) rest e in
        let known = c.in_ok-place.ensures.every v _ form.0.0 e1 in
        let e2 = left_of view known c.in_ok-place.ensures.some.1 e1 in
        let every : ReadsEvery (IsStore v) (store_tokens v) c.fixed.new.self None = subst (λ (p : ViewPlace). ReadsEvery (IsStore p) (store_tokens p) c.fixed.new.self None) (value_of known) c.in_err-store.ensures.every in
        missing (every (store.Take y) rest form.0.1 (c.if-not-fixed.ensures.0 ∙ e2))
    go (stmt.CopyBuffer v w) rest form e =
        let e1 = front_of (view v) (store_tokens v (store.Copy w)) rest e in
        let known = c.in_ok-place.ensures.every v _ form.0.0 e1 in
        let e2 = left_of view known c.in_ok-place.ensures.some.1 e1 in
        let every : ReadsEvery (IsStore v) (store_tokens v) c.fixed.new.self None = subst (λ (p : ViewPlace). ReadsEvery (IsStore p) (store_tokens p) c.fixed.new.self None) (value_of known) c.in_err-store.ensures.every in
        missing (every (store.Copy w) rest form.0.1 (c.if-not-fixed.ensures.0 ∙ e2))
    go (stmt.MoveBuffer v k) rest form e =
        let e1 = front_of (view v) (store_tokens v (store.Move k)) rest e in
        let known = c.in_ok-place.ensures.every v _ form.0.0 e1 in
        let e2 = left_of view known c.in_ok-place.ensures.some.1 e1 in
        let every : ReadsEvery (IsStore v) (store_tokens v) c.fixed.new.self None = subst (λ (p : ViewPlace). ReadsEvery (IsStore p) (store_tokens p) c.fixed.new.self None) (value_of known) c.in_err-store.ensures.every in
        missing (every (store.Move k) rest (form.0.0, form.0.1) (c.if-not-fixed.ensures.0 ∙ e2))
    go (stmt.StoreMemory v k) rest form e =
        let e1 = front_of (view v) (store_tokens v (store.Memory k)) rest e in
        let known = c.in_ok-place.ensures.every v _ form.0.0 e1 in
        let e2 = left_of view known c.in_ok-place.ensures.some.1 e1 in
        let every : ReadsEvery (IsStore v) (store_tokens v) c.fixed.new.self None = subst (λ (p : ViewPlace). ReadsEvery (IsStore p) (store_tokens p) c.fixed.new.self None) (value_of known) c.in_err-store.ensures.every in
        missing (every (store.Memory k) rest form.0.1 (c.if-not-fixed.ensures.0 ∙ e2))
    go (stmt.StoreExtent v x j k) rest form e =
        let e1 = front_of (view v) (store_tokens v (store.Extent x j k)) rest e in
        let known = c.in_ok-place.ensures.every v _ form.0.0 e1 in
        let e2 = left_of view known c.in_ok-place.ensures.some.1 e1 in
        let every : ReadsEvery (IsStore v) (store_tokens v) c.fixed.new.self None = subst (λ (p : ViewPlace). ReadsEvery (IsStore p) (store_tokens p) c.fixed.new.self None) (value_of known) c.in_err-store.ensures.every in
        missing (every (store.Extent x j k) rest (form.0.1, form.0.2) (c.if-not-fixed.ensures.0 ∙ e2))
    go (stmt.Call (Some x) f all) rest form e = absurd (kind_apart form.1 refl)
    go (stmt.CallMethod (Some x) n y j all) rest form e = absurd (kind_apart form.1 refl)
    go (stmt.Call None f all) rest form e = absurd (kind_apart form.1 refl)
    go (stmt.CallMethod None n y j all) rest form e = absurd (kind_apart form.1 refl)
    go s rest form e = absurd (kind_apart form.1 refl)

pub returns-then-not-fixed-clause-every : goal.returns-then-not-fixed-clause-every
returns-then-not-fixed-clause-every c = λ s rest form e. go s rest form e
  where
    go : (s : CStmt) (rest : List CToken) → IsStatementOf kinds.Place s → c.args.input.now ≡ statement_tokens s ++ rest → Some c.kept.result ≡ Some s
    go (stmt.StoreField p k) rest form e =
        let e1 = front_of (view (place.Field p)) (sign "=" ∷ ended_tokens k) rest e in
        let known = c.in_ok-place.ensures.every (place.Field p) _ form.0.0 e1 in
        let e2 = left_of view known c.in_ok-place.ensures.some.1 e1 in
        absurd (c.if-not-fixed.ensures.1 _ e2)
    go (stmt.TakeBuffer v y) rest form e =
        let e1 = front_of (view v) (store_tokens v (store.Take y)) rest e in
        let known = c.in_ok-place.ensures.every v _ form.0.0 e1 in
        let e2 = left_of view known c.in_ok-place.ensures.some.1 e1 in
        let every : ReadsEvery (IsStore v) (store_tokens v) c.fixed.new.self (Some c.in_ok-store.store) = subst (λ (p : ViewPlace). ReadsEvery (IsStore p) (store_tokens p) c.fixed.new.self (Some c.in_ok-store.store)) (value_of known) c.in_ok-store.ensures.every in
        let stored = every (store.Take y) rest form.0.1 (c.if-not-fixed.ensures.0 ∙ e2) in
        let same : kept c.in_ok-place.place c.in_ok-store.store ≡ kept v (store.Take y) = λ i. kept (value_of known i) (value_of stored i) in
        ap (λ t. Some t) (c.kept.ensures ∙ same)
    go (stmt.CopyBuffer v w) rest form e =
        let e1 = front_of (view v) (store_tokens v (store.Copy w)) rest e in
        let known = c.in_ok-place.ensures.every v _ form.0.0 e1 in
        let e2 = left_of view known c.in_ok-place.ensures.some.1 e1 in
        let every : ReadsEvery (IsStore v) (store_tokens v) c.fixed.new.self (Some c.in_ok-store.store) = subst (λ (p : ViewPlace). ReadsEvery (IsStore p) (store_tokens p) c.fixed.new.self (Some c.in_ok-store.store)) (value_of known) c.in_ok-store.ensures.every in
        let stored = every (store.Copy w) rest form.0.1 (c.if-not-fixed.ensures.0 ∙ e2) in
        let same : kept c.in_ok-place.place c.in_ok-store.store ≡ kept v (store.Copy w) = λ i. kept (value_of known i) (value_of stored i) in
        ap (λ t. Some t) (c.kept.ensures ∙ same)
    go (stmt.MoveBuffer v k) rest form e =
        let e1 = front_of (view v) (store_tokens v (store.Move k)) rest e in
        let known = c.in_ok-place.ensures.every v _ form.0.0 e1 in
        let e2 = left_of view known c.in_ok-place.ensures.some.1 e1 in
        let every : ReadsEvery (IsStore v) (store_tokens v) c.fixed.new.self (Some c.in_ok-store.store) = subst (λ (p : ViewPlace). ReadsEvery (IsStore p) (store_tokens p) c.fixed.new.self (Some c.in_ok-store.store)) (value_of known) c.in_ok-store.ensures.every in
        let stored = every (store.Move k) rest (form.0.0, form.0.1) (c.if-not-fixed.ensures.0 ∙ e2) in
        let same : kept c.in_ok-place.place c.in_ok-store.store ≡ kept v (store.Move k) = λ i. kept (value_of known i) (value_of stored i) in
        ap (λ t. Some t) (c.kept.ensures ∙ same)
    go (stmt.StoreMemory v k) rest form e =
        let e1 = front_of (view v) (store_tokens v (store.Memory k)) rest e in
        let known = c.in_ok-place.ensures.every v _ form.0.0 e1 in
        let e2 = left_of view known c.in_ok-place.ensures.some.1 e1 in
        let every : ReadsEvery (IsStore v) (store_tokens v) c.fixed.new.self (Some c.in_ok-store.store) = subst (λ (p : ViewPlace). ReadsEvery (IsStore p) (store_tokens p) c.fixed.new.self (Some c.in_ok-store.store)) (value_of known) c.in_ok-store.ensures.every in
        let stored = every (store.Memory k) rest form.0.1 (c.if-not-fixed.ensures.0 ∙ e2) in
        let same : kept c.in_ok-place.place c.in_ok-store.store ≡ kept v (store.Memory k) = λ i. kept (value_of known i) (value_of stored i) in
        ap (λ t. Some t) (c.kept.ensures ∙ same)
    go (stmt.StoreExtent v x j k) rest form e =
        let e1 = front_of (view v) (store_tokens v (store.Extent x j k)) rest e in
        let known = c.in_ok-place.ensures.every v _ form.0.0 e1 in
        let e2 = left_of view known c.in_ok-place.ensures.some.1 e1 in
        let every : ReadsEvery (IsStore v) (store_tokens v) c.fixed.new.self (Some c.in_ok-store.store) = subst (λ (p : ViewPlace). ReadsEvery (IsStore p) (store_tokens p) c.fixed.new.self (Some c.in_ok-store.store)) (value_of known) c.in_ok-store.ensures.every in
        let stored = every (store.Extent x j k) rest (form.0.1, form.0.2) (c.if-not-fixed.ensures.0 ∙ e2) in
        let same : kept c.in_ok-place.place c.in_ok-store.store ≡ kept v (store.Extent x j k) = λ i. kept (value_of known i) (value_of stored i) in
        ap (λ t. Some t) (c.kept.ensures ∙ same)
    go (stmt.Call (Some x) f all) rest form e = absurd (kind_apart form.1 refl)
    go (stmt.CallMethod (Some x) n y j all) rest form e = absurd (kind_apart form.1 refl)
    go (stmt.Call None f all) rest form e = absurd (kind_apart form.1 refl)
    go (stmt.CallMethod None n y j all) rest form e = absurd (kind_apart form.1 refl)
    go s rest form e = absurd (kind_apart form.1 refl)

pub returns-in_default-clause-every : goal.returns-in_default-clause-every
returns-in_default-clause-every c = λ s rest form e. absurd (go s rest form e)
  where
    go : (s : CStmt) (rest : List CToken) → IsStatementOf kinds.Place s → c.args.input.now ≡ statement_tokens s ++ rest → ⊥
    go (stmt.StoreField p k) rest form e =
        let e1 = front_of (view (place.Field p)) (sign "=" ∷ ended_tokens k) rest e in
        let known = c.in_ok-place.ensures.every (place.Field p) _ form.0.0 e1 in
        let e2 = left_of view known c.in_ok-place.ensures.some.1 e1 in
        c.in_default.not-Field p (value_of known)
    go (stmt.TakeBuffer v y) rest form e =
        let e1 = front_of (view v) (store_tokens v (store.Take y)) rest e in
        let known = c.in_ok-place.ensures.every v _ form.0.0 e1 in
        let e2 = left_of view known c.in_ok-place.ensures.some.1 e1 in
        equals_apart (sym c.if-not-fixed.ensures ∙ e2)
    go (stmt.CopyBuffer v w) rest form e =
        let e1 = front_of (view v) (store_tokens v (store.Copy w)) rest e in
        let known = c.in_ok-place.ensures.every v _ form.0.0 e1 in
        let e2 = left_of view known c.in_ok-place.ensures.some.1 e1 in
        equals_apart (sym c.if-not-fixed.ensures ∙ e2)
    go (stmt.MoveBuffer v k) rest form e =
        let e1 = front_of (view v) (store_tokens v (store.Move k)) rest e in
        let known = c.in_ok-place.ensures.every v _ form.0.0 e1 in
        let e2 = left_of view known c.in_ok-place.ensures.some.1 e1 in
        equals_apart (sym c.if-not-fixed.ensures ∙ e2)
    go (stmt.StoreMemory v k) rest form e =
        let e1 = front_of (view v) (store_tokens v (store.Memory k)) rest e in
        let known = c.in_ok-place.ensures.every v _ form.0.0 e1 in
        let e2 = left_of view known c.in_ok-place.ensures.some.1 e1 in
        equals_apart (sym c.if-not-fixed.ensures ∙ e2)
    go (stmt.StoreExtent v x j k) rest form e =
        let e1 = front_of (view v) (store_tokens v (store.Extent x j k)) rest e in
        let known = c.in_ok-place.ensures.every v _ form.0.0 e1 in
        let e2 = left_of view known c.in_ok-place.ensures.some.1 e1 in
        equals_apart (sym c.if-not-fixed.ensures ∙ e2)
    go (stmt.Call (Some x) f all) rest form e = absurd (kind_apart form.1 refl)
    go (stmt.CallMethod (Some x) n y j all) rest form e = absurd (kind_apart form.1 refl)
    go (stmt.Call None f all) rest form e = absurd (kind_apart form.1 refl)
    go (stmt.CallMethod None n y j all) rest form e = absurd (kind_apart form.1 refl)
    go s rest form e = absurd (kind_apart form.1 refl)

pub returns-in_err-written-clause-every : goal.returns-in_err-written-clause-every
returns-in_err-written-clause-every c = λ s rest form e. absurd (go s rest form e)
  where
    go : (s : CStmt) (rest : List CToken) → IsStatementOf kinds.Place s → c.args.input.now ≡ statement_tokens s ++ rest → ⊥
    go (stmt.StoreField p k) rest form e =
        let e1 = front_of (view (place.Field p)) (sign "=" ∷ ended_tokens k) rest e in
        let known = c.in_ok-place.ensures.every (place.Field p) _ form.0.0 e1 in
        let e2 = left_of view known c.in_ok-place.ensures.some.1 e1 in
        let e3 = ap (drop 1) (sym c.if-not-fixed.ensures ∙ e2) in
        missing (c.in_err-written.ensures.every k rest form.0.1 e3)
    go (stmt.TakeBuffer v y) rest form e =
        let e1 = front_of (view v) (store_tokens v (store.Take y)) rest e in
        let known = c.in_ok-place.ensures.every v _ form.0.0 e1 in
        let e2 = left_of view known c.in_ok-place.ensures.some.1 e1 in
        equals_apart (sym c.if-not-fixed.ensures ∙ e2)
    go (stmt.CopyBuffer v w) rest form e =
        let e1 = front_of (view v) (store_tokens v (store.Copy w)) rest e in
        let known = c.in_ok-place.ensures.every v _ form.0.0 e1 in
        let e2 = left_of view known c.in_ok-place.ensures.some.1 e1 in
        equals_apart (sym c.if-not-fixed.ensures ∙ e2)
    go (stmt.MoveBuffer v k) rest form e =
        let e1 = front_of (view v) (store_tokens v (store.Move k)) rest e in
        let known = c.in_ok-place.ensures.every v _ form.0.0 e1 in
        let e2 = left_of view known c.in_ok-place.ensures.some.1 e1 in
        equals_apart (sym c.if-not-fixed.ensures ∙ e2)
    go (stmt.StoreMemory v k) rest form e =
        let e1 = front_of (view v) (store_tokens v (store.Memory k)) rest e in
        let known = c.in_ok-place.ensures.every v _ form.0.0 e1 in
        let e2 = left_of view known c.in_ok-place.ensures.some.1 e1 in
        equals_apart (sym c.if-not-fixed.ensures ∙ e2)
    go (stmt.StoreExtent v x j k) rest form e =
        let e1 = front_of (view v) (store_tokens v (store.Extent x j k)) rest e in
        let known = c.in_ok-place.ensures.every v _ form.0.0 e1 in
        let e2 = left_of view known c.in_ok-place.ensures.some.1 e1 in
        equals_apart (sym c.if-not-fixed.ensures ∙ e2)
    go (stmt.Call (Some x) f all) rest form e = absurd (kind_apart form.1 refl)
    go (stmt.CallMethod (Some x) n y j all) rest form e = absurd (kind_apart form.1 refl)
    go (stmt.Call None f all) rest form e = absurd (kind_apart form.1 refl)
    go (stmt.CallMethod None n y j all) rest form e = absurd (kind_apart form.1 refl)
    go s rest form e = absurd (kind_apart form.1 refl)

pub returns-clause-every : goal.returns-clause-every
returns-clause-every c = λ s rest form e. go s rest form e
  where
    go : (s : CStmt) (rest : List CToken) → IsStatementOf kinds.Place s → c.args.input.now ≡ statement_tokens s ++ rest → Some (stmt.StoreField c.in-Field.field c.in_ok-written.written) ≡ Some s
    go (stmt.StoreField p k) rest form e =
        let e1 = front_of (view (place.Field p)) (sign "=" ∷ ended_tokens k) rest e in
        let known = c.in_ok-place.ensures.every (place.Field p) _ form.0.0 e1 in
        let e2 = left_of view known c.in_ok-place.ensures.some.1 e1 in
        let e3 = ap (drop 1) (sym c.if-not-fixed.ensures ∙ e2) in
        let field = field_known known c.in-Field.is in
        let written = value_of (c.in_ok-written.ensures.every k rest form.0.1 e3) in
        λ i. Some (stmt.StoreField (field i) (written i))
    go (stmt.TakeBuffer v y) rest form e =
        let e1 = front_of (view v) (store_tokens v (store.Take y)) rest e in
        let known = c.in_ok-place.ensures.every v _ form.0.0 e1 in
        let e2 = left_of view known c.in_ok-place.ensures.some.1 e1 in
        absurd (equals_apart (sym c.if-not-fixed.ensures ∙ e2))
    go (stmt.CopyBuffer v w) rest form e =
        let e1 = front_of (view v) (store_tokens v (store.Copy w)) rest e in
        let known = c.in_ok-place.ensures.every v _ form.0.0 e1 in
        let e2 = left_of view known c.in_ok-place.ensures.some.1 e1 in
        absurd (equals_apart (sym c.if-not-fixed.ensures ∙ e2))
    go (stmt.MoveBuffer v k) rest form e =
        let e1 = front_of (view v) (store_tokens v (store.Move k)) rest e in
        let known = c.in_ok-place.ensures.every v _ form.0.0 e1 in
        let e2 = left_of view known c.in_ok-place.ensures.some.1 e1 in
        absurd (equals_apart (sym c.if-not-fixed.ensures ∙ e2))
    go (stmt.StoreMemory v k) rest form e =
        let e1 = front_of (view v) (store_tokens v (store.Memory k)) rest e in
        let known = c.in_ok-place.ensures.every v _ form.0.0 e1 in
        let e2 = left_of view known c.in_ok-place.ensures.some.1 e1 in
        absurd (equals_apart (sym c.if-not-fixed.ensures ∙ e2))
    go (stmt.StoreExtent v x j k) rest form e =
        let e1 = front_of (view v) (store_tokens v (store.Extent x j k)) rest e in
        let known = c.in_ok-place.ensures.every v _ form.0.0 e1 in
        let e2 = left_of view known c.in_ok-place.ensures.some.1 e1 in
        absurd (equals_apart (sym c.if-not-fixed.ensures ∙ e2))
    go (stmt.Call (Some x) f all) rest form e = absurd (kind_apart form.1 refl)
    go (stmt.CallMethod (Some x) n y j all) rest form e = absurd (kind_apart form.1 refl)
    go (stmt.Call None f all) rest form e = absurd (kind_apart form.1 refl)
    go (stmt.CallMethod None n y j all) rest form e = absurd (kind_apart form.1 refl)
    go s rest form e = absurd (kind_apart form.1 refl)

pub returns-then-not-fixed-clause-some : goal.returns-then-not-fixed-clause-some
returns-then-not-fixed-clause-some c =
    let v = c.in_ok-place.place in
    let s = c.in_ok-store.store in
    let new = c.behind_view.new.input in
    let e1 = joined (view v) (store_tokens v s) new c.in_ok-place.ensures.some.1 (sym c.if-not-fixed.ensures.0 ∙ c.in_ok-store.ensures.some.1) in
    let e2 : c.args.input.now ≡ statement_tokens (kept v s) ++ new = e1 ∙ ap (λ (t : List CToken). t ++ new) (sym (kept_tokens v s)) in
    subst (λ (t : CStmt). IsStatement t × (c.args.input.now ≡ statement_tokens t ++ new)) (sym c.kept.ensures) (kept_form v s c.in_ok-place.ensures.some.0 c.in_ok-store.ensures.some.0, e2)
