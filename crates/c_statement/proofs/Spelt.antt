-- The tokens of statements are those of their spellings.
use Rattle.std.proofs.Common.{◌≡◌, List, ◌++◌, Some, None, Result, Ok, Err, refl, sym, ap, ◌∙◌}
use Rattle.std.specs.Prelude.{IfOk, Option}
use Rattle.c_input.specs.Reads.{Finds, ReadsEvery}
use Rattle.c_tree.specs.Forms.{IsStatement}
use Rattle.std.proofs.lemmas.List.{append_assoc}
use Rattle.c_token.specs.CTokens.{CToken, c_tokens, tokens_from}
use Rattle.c_tree.specs.declared.statement.CStmt.{CStmt}
use Rattle.c_tree.specs.declared.statement.CStmt.TheVariants as stmt
use Rattle.c_tree.specs.declared.statement.CTest.TheVariants as test
use Rattle.c_tree.specs.Statements.{statement_spelling}
use Rattle.c_statement.specs.Statements.{statement_tokens}

pub statement_spelled : (s : CStmt) → statement_spelling s ≡ statement_tokens s
unfolding statement_spelling c_tokens tokens_from
statement_spelled (stmt.Assign x k) = refl
statement_spelled (stmt.Binary x a o b) = simp append_assoc
statement_spelled (stmt.Invert x k) = refl
statement_spelled (stmt.Cast x t k) = simp append_assoc
statement_spelled (stmt.Call (Some x) f all) = refl
statement_spelled (stmt.Call None f all) = refl
statement_spelled (stmt.LoadField x p) = refl
statement_spelled (stmt.StoreField p k) = refl
statement_spelled (stmt.StoreTable y n) = refl
statement_spelled (stmt.CallMethod (Some x) n y j all) = refl
statement_spelled (stmt.CallMethod None n y j all) = refl
statement_spelled (stmt.IsNative x y n) = refl
statement_spelled (stmt.HasHeapType x y) = refl
statement_spelled (stmt.Goto (test.Compare a o b) j) = simp append_assoc
statement_spelled (stmt.Goto test.ErrorSet j) = refl
statement_spelled (stmt.Goto test.Always j) = refl
statement_spelled (stmt.Return None) = refl
statement_spelled (stmt.Return (Some k)) = refl
statement_spelled (stmt.Free x) = refl
statement_spelled (stmt.ViewNumber x y n) = refl
statement_spelled (stmt.IsIndirect x y) = refl
statement_spelled (stmt.HasFormat x y letters) = refl
statement_spelled (stmt.TakeBuffer v y) = simp append_assoc
statement_spelled (stmt.CopyBuffer v w) = simp append_assoc
statement_spelled (stmt.MoveBuffer v k) = simp append_assoc
statement_spelled (stmt.StoreMemory v k) = simp append_assoc
statement_spelled (stmt.LoadMemory x v) = simp append_assoc
statement_spelled (stmt.StoreExtent v e j k) = simp append_assoc
statement_spelled (stmt.LoadExtent x v e j) = simp append_assoc
statement_spelled (stmt.LoadElement x t v y) = refl
statement_spelled (stmt.StoreElement t v y k) = refl

pub spelled_some : {E : Type 0} (r : Result (Option CStmt) E) (old new : List CToken)
    → IfOk r (λ found. Finds IsStatement statement_tokens old found new) → IfOk r (λ found. Finds IsStatement statement_spelling old found new)
spelled_some (Ok (Some s)) old new h = (h.0, h.1 ∙ ap (λ (t : List CToken). t ++ new) (sym (statement_spelled s)))
spelled_some (Ok None) old new h = tt
spelled_some (Err error) old new h = tt

pub spelled_every : {E : Type 0} (r : Result (Option CStmt) E) (old : List CToken)
    → IfOk r (λ found. ReadsEvery IsStatement statement_tokens old found) → IfOk r (λ found. ReadsEvery IsStatement statement_spelling old found)
spelled_every (Ok found) old h = λ s rest form e. h s rest form (e ∙ ap (λ (t : List CToken). t ++ rest) (statement_spelled s))
spelled_every (Err error) old h = tt
