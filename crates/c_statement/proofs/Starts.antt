-- What the first tokens say of each statement in form.
use Rattle.std.proofs.Common.{◌≡◌, ◌⊎◌, inl, inr, ℕ, List, [], ◌∷◌, ◌++◌, Bool, true, false, Some, None, Result, Ok, Err, drop, refl, sym, ap, ◌∙◌}
use Rattle.std.specs.Prelude.{codes, ◌&&◌, ◌||◌, if◌then◌else◌, IfOk, Option}
use Rattle.std.specs.List.{list_any, AllByRecursion}
use Rattle.std.specs.Str.{bytes_eq}
use Rattle.c_token.specs.CTokens.{CToken, Word, sign, c_tokens, tokens_from}
use Rattle.c_tree.specs.declared.name.FixedParameter.TheVariants as fixed
use Rattle.c_tree.specs.declared.name.FunctionName.TheVariants as function
use Rattle.c_tree.specs.declared.name.Place.TheVariants as global
use Rattle.c_tree.specs.declared.name.Variable.{Variable}
use Rattle.c_tree.specs.declared.name.Variable.TheVariants as variable
use Rattle.c_tree.specs.declared.statement.Argument.{Argument}
use Rattle.c_tree.specs.declared.statement.CStmt.{CStmt}
use Rattle.c_tree.specs.declared.statement.CStmt.TheVariants as stmt
use Rattle.c_tree.specs.declared.statement.CTest.TheVariants as test
use Rattle.c_tree.specs.declared.statement.Callee.{Callee}
use Rattle.c_tree.specs.declared.statement.Callee.TheVariants as callee
use Rattle.c_tree.specs.declared.statement.ViewPlace.TheVariants as place
use Rattle.c_tree.specs.Forms.{keywords, IsCallee, IsStatement}
use Rattle.c_tree.specs.Names.{variable_name}
use Rattle.c_tree.specs.Statements.{arguments, callee_name}
use Rattle.c_input.specs.Reads.{ReadsEvery}
use Rattle.c_statement.specs.declared.statement_kind.StatementKind.TheVariants as kind
use Rattle.c_statement.specs.Sources.{end}
use Rattle.c_statement.specs.Statements.{statement_kind, statement_seen, statement_tokens, IsStatementOf}
use Rattle.c_statement.proofs.FirstTokens.{arguments_seen}

-- a word that begins no `goto`, no test and no `return`
record IsPlainWord (w : List ℕ) : Type 0 where
  goes : bytes_eq w (codes "goto") ≡ false
  tests : bytes_eq w (codes "if") ≡ false
  returns : bytes_eq w (codes "return") ≡ false

variable_word : (x : Variable) → IsPlainWord (variable_name x)
variable_word (variable.Parameter j) = record { goes = refl; tests = refl; returns = refl }
variable_word (variable.Local j) = record { goes = refl; tests = refl; returns = refl }
variable_word (variable.Temporary j) = record { goes = refl; tests = refl; returns = refl }
variable_word variable.Returned = record { goes = refl; tests = refl; returns = refl }
variable_word (variable.Fixed fixed.SelfObject) = record { goes = refl; tests = refl; returns = refl }
variable_word (variable.Fixed fixed.Arguments) = record { goes = refl; tests = refl; returns = refl }
variable_word (variable.Fixed fixed.ArgumentCount) = record { goes = refl; tests = refl; returns = refl }
variable_word (variable.Fixed fixed.Type) = record { goes = refl; tests = refl; returns = refl }
variable_word (variable.Fixed fixed.Keywords) = record { goes = refl; tests = refl; returns = refl }
variable_word (variable.Fixed fixed.Key) = record { goes = refl; tests = refl; returns = refl }
variable_word (variable.Fixed fixed.Value) = record { goes = refl; tests = refl; returns = refl }
variable_word (variable.Fixed fixed.Closure) = record { goes = refl; tests = refl; returns = refl }
variable_word (variable.Place global.Module) = record { goes = refl; tests = refl; returns = refl }
variable_word (variable.Place global.Dictionary) = record { goes = refl; tests = refl; returns = refl }
variable_word (variable.Place global.Builtins) = record { goes = refl; tests = refl; returns = refl }
variable_word (variable.Place global.Ready) = record { goes = refl; tests = refl; returns = refl }
variable_word (variable.Place (global.Constant j)) = record { goes = refl; tests = refl; returns = refl }
variable_word (variable.Place (global.Global j)) = record { goes = refl; tests = refl; returns = refl }

or_false : (a b : Bool) → (a || b) ≡ false → (a ≡ false) × (b ≡ false)
or_false true b h = absurd (cc)
or_false false b h = (refl, h)

none_of : (test : List ℕ → Bool) (words : List (List ℕ)) → list_any test words ≡ false → AllByRecursion (λ w. test w ≡ false) words
none_of test [] h = tt
none_of test (w ∷ words) h = let both = or_false (test w) (list_any test words) h in (both.0, none_of test words both.1)

callee_word : (f : Callee) → IsCallee f → IsPlainWord (callee_name f)
callee_word (callee.Function (function.Plain n)) h = record { goes = refl; tests = refl; returns = refl }
callee_word (callee.Function (function.Wrapper n)) h = record { goes = refl; tests = refl; returns = refl }
callee_word (callee.Function (function.Overridable n)) h = record { goes = refl; tests = refl; returns = refl }
callee_word (callee.Function (function.New n)) h = record { goes = refl; tests = refl; returns = refl }
callee_word (callee.Function (function.Init n)) h = record { goes = refl; tests = refl; returns = refl }
callee_word (callee.Function (function.Dealloc n)) h = record { goes = refl; tests = refl; returns = refl }
callee_word (callee.Function (function.Len n)) h = record { goes = refl; tests = refl; returns = refl }
callee_word (callee.Function (function.Item n)) h = record { goes = refl; tests = refl; returns = refl }
callee_word (callee.Function (function.Has n)) h = record { goes = refl; tests = refl; returns = refl }
callee_word (callee.Function (function.Getter f)) h = record { goes = refl; tests = refl; returns = refl }
callee_word (callee.Function (function.Setter f)) h = record { goes = refl; tests = refl; returns = refl }
callee_word (callee.Function function.Body) h = record { goes = refl; tests = refl; returns = refl }
callee_word (callee.Function (function.Initializer name)) h = record { goes = refl; tests = refl; returns = refl }
callee_word (callee.Named name) h =
    let all = none_of (bytes_eq name) keywords h.word in
    record { goes = all.1.1.1.1.1.1.1.1.1.1.1.1.1.1.0; tests = all.1.1.1.1.1.1.1.1.1.1.1.1.1.1.1.0; returns = all.1.1.1.1.1.1.1.1.1.1.1.1.1.1.1.1.1.1.1.1.1.0 }

assigned_seen : (x : Variable) (more : List CToken) → statement_seen (Word (variable_name x) ∷ sign "=" ∷ more) ≡ kind.Assigned
assigned_seen x more = let w = variable_word x in rw (w.goes, w.tests, w.returns)

placed_seen : (x : Variable) (more : List CToken) → statement_seen (Word (variable_name x) ∷ sign "." ∷ more) ≡ kind.Place
placed_seen x more = let w = variable_word x in rw (w.goes, w.tests, w.returns)

call_ends : (closed arrow : Bool) → (closed ≡ false) ⊎ (arrow ≡ false) → (if closed && arrow then kind.Free else kind.Call) ≡ kind.Call
call_ends false arrow h = refl
call_ends true false h = refl
call_ends true true (inl h) = absurd (cc)
call_ends true true (inr h) = absurd (cc)

call_seen : (f : Callee) (all : List Argument) (rest : List CToken) → IsCallee f → statement_seen (Word (callee_name f) ∷ ((arguments all ++ end) ++ rest)) ≡ kind.Call
call_seen f all rest h =
    let w = callee_word f h in
    let a = arguments_seen all rest in
    rw (w.goes, w.tests, w.returns) (call_ends _ _ (go a.closed))
  where
    go : {a b d : Bool} → (a ≡ false) ⊎ ((b ≡ false) × (d ≡ false)) → (a ≡ false) ⊎ (d ≡ false)
    go (inl h) = inl h
    go (inr h) = inr h.1

pub kind_of_statement : (s : CStmt) (rest : List CToken) → IsStatement s → statement_seen (statement_tokens s ++ rest) ≡ statement_kind s
unfolding c_tokens tokens_from
kind_of_statement (stmt.Assign x k) rest h = assigned_seen x (drop 2 (statement_tokens (stmt.Assign x k) ++ rest))
kind_of_statement (stmt.Binary x a o b) rest h = assigned_seen x (drop 2 (statement_tokens (stmt.Binary x a o b) ++ rest))
kind_of_statement (stmt.Invert x k) rest h = assigned_seen x (drop 2 (statement_tokens (stmt.Invert x k) ++ rest))
kind_of_statement (stmt.Cast x t k) rest h = assigned_seen x (drop 2 (statement_tokens (stmt.Cast x t k) ++ rest))
kind_of_statement (stmt.Call (Some x) f all) rest h = assigned_seen x (drop 2 (statement_tokens (stmt.Call (Some x) f all) ++ rest))
kind_of_statement (stmt.Call None f all) rest h = call_seen f all rest h.1
kind_of_statement (stmt.LoadField x p) rest h = assigned_seen x (drop 2 (statement_tokens (stmt.LoadField x p) ++ rest))
kind_of_statement (stmt.StoreField p k) rest h = refl
kind_of_statement (stmt.StoreTable y n) rest h = refl
kind_of_statement (stmt.CallMethod (Some x) n y j all) rest h = assigned_seen x (drop 2 (statement_tokens (stmt.CallMethod (Some x) n y j all) ++ rest))
kind_of_statement (stmt.CallMethod None n y j all) rest h = refl
kind_of_statement (stmt.IsNative x y n) rest h = assigned_seen x (drop 2 (statement_tokens (stmt.IsNative x y n) ++ rest))
kind_of_statement (stmt.HasHeapType x y) rest h = assigned_seen x (drop 2 (statement_tokens (stmt.HasHeapType x y) ++ rest))
kind_of_statement (stmt.Goto (test.Compare a o b) j) rest h = refl
kind_of_statement (stmt.Goto test.ErrorSet j) rest h = refl
kind_of_statement (stmt.Goto test.Always j) rest h = refl
kind_of_statement (stmt.Return None) rest h = refl
kind_of_statement (stmt.Return (Some k)) rest h = refl
kind_of_statement (stmt.Free x) rest h = refl
kind_of_statement (stmt.ViewNumber x y n) rest h = assigned_seen x (drop 2 (statement_tokens (stmt.ViewNumber x y n) ++ rest))
kind_of_statement (stmt.IsIndirect x y) rest h = assigned_seen x (drop 2 (statement_tokens (stmt.IsIndirect x y) ++ rest))
kind_of_statement (stmt.HasFormat x y letters) rest h = assigned_seen x (drop 2 (statement_tokens (stmt.HasFormat x y letters) ++ rest))
kind_of_statement (stmt.TakeBuffer (place.Variable x) y) rest h = placed_seen x (drop 2 (statement_tokens (stmt.TakeBuffer (place.Variable x) y) ++ rest))
kind_of_statement (stmt.TakeBuffer (place.Field p) y) rest h = refl
kind_of_statement (stmt.CopyBuffer (place.Variable x) w) rest h = placed_seen x (drop 2 (statement_tokens (stmt.CopyBuffer (place.Variable x) w) ++ rest))
kind_of_statement (stmt.CopyBuffer (place.Field p) w) rest h = refl
kind_of_statement (stmt.MoveBuffer (place.Variable x) k) rest h = placed_seen x (drop 2 (statement_tokens (stmt.MoveBuffer (place.Variable x) k) ++ rest))
kind_of_statement (stmt.MoveBuffer (place.Field p) k) rest h = refl
kind_of_statement (stmt.StoreMemory (place.Variable x) k) rest h = placed_seen x (drop 2 (statement_tokens (stmt.StoreMemory (place.Variable x) k) ++ rest))
kind_of_statement (stmt.StoreMemory (place.Field p) k) rest h = refl
kind_of_statement (stmt.LoadMemory x v) rest h = assigned_seen x (drop 2 (statement_tokens (stmt.LoadMemory x v) ++ rest))
kind_of_statement (stmt.StoreExtent (place.Variable x) e j k) rest h = placed_seen x (drop 2 (statement_tokens (stmt.StoreExtent (place.Variable x) e j k) ++ rest))
kind_of_statement (stmt.StoreExtent (place.Field p) e j k) rest h = refl
kind_of_statement (stmt.LoadExtent x v e j) rest h = assigned_seen x (drop 2 (statement_tokens (stmt.LoadExtent x v e j) ++ rest))
kind_of_statement (stmt.LoadElement x t v y) rest h = assigned_seen x (drop 2 (statement_tokens (stmt.LoadElement x t v y) ++ rest))
kind_of_statement (stmt.StoreElement t v y k) rest h = refl

pub told_kind : (s : CStmt) (rest : List CToken) {old : List CToken} {k : kind.the_data} → IsStatement s → old ≡ statement_tokens s ++ rest → k ≡ statement_seen old → statement_kind s ≡ k
told_kind s rest form e seen = sym (seen ∙ (ap statement_seen e ∙ kind_of_statement s rest form))

pub every_ok : {E : Type 0} (r : Result (Option CStmt) E) (old : List CToken) (k : kind.the_data) → k ≡ statement_seen old
    → IfOk r (λ found. ReadsEvery (IsStatementOf k) statement_tokens old found) → IfOk r (λ found. ReadsEvery IsStatement statement_tokens old found)
every_ok (Ok found) old k seen h = λ s rest form e. h s rest (form, told_kind s rest form e seen) e
every_ok (Err error) old k seen h = tt
