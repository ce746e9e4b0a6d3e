-- Statements that assign: a variable, and what stands behind `x =`.
use Rattle.std.proofs.Common.{◌≡◌, ◌∷◌, ◌++◌, Some, refl}
use Rattle.c_token.specs.CTokens.{sign}
use Rattle.c_tree.specs.declared.name.Variable.{Variable}
use Rattle.c_tree.specs.declared.statement.CStmt.{CStmt}
use Rattle.c_tree.specs.declared.statement.CStmt.TheVariants as stmt
use Rattle.c_tree.specs.declared.statement.ViewPlace.{ViewPlace}
use Rattle.c_tree.specs.Forms.{IsStatement, IsVariable, IsView}
use Rattle.c_tree.specs.Statements.{view}
use Rattle.c_statement.specs.declared.store.Store.{Store}
use Rattle.c_statement.specs.declared.store.Store.TheVariants as store
use Rattle.c_statement.specs.Stores.{kept, store_tokens, IsStore}
use Rattle.c_tree.specs.Names.{variable_token}
use Rattle.c_statement.specs.declared.source.Source.{Source}
use Rattle.c_statement.specs.declared.source.Source.TheVariants as source
use Rattle.c_statement.specs.declared.statement_kind.StatementKind.TheVariants as kind
use Rattle.c_statement.specs.Sources.{put, source_tokens, IsSource}
use Rattle.c_statement.specs.Statements.{statement_tokens, IsStatementOf}

pub record IsPut (s : CStmt) : Type 0 where
  pub variable : Variable
  pub source : Source
  pub is : put variable source ≡ s
  pub named : IsVariable variable
  pub form : IsSource source
  pub tokens : statement_tokens s ≡ variable_token variable ∷ sign "=" ∷ source_tokens source

pub parts_of : (s : CStmt) → IsStatementOf kind.Assigned s → IsPut s
parts_of (stmt.Assign x k) h = record { variable = x; source = source.Value k; is = refl; named = h.0.0; form = h.0.1; tokens = refl }
parts_of (stmt.Binary x a o b) h = record { variable = x; source = source.Binary a o b; is = refl; named = h.0.0; form = (h.0.1, h.0.2); tokens = refl }
parts_of (stmt.Invert x k) h = record { variable = x; source = source.Invert k; is = refl; named = h.0.0; form = h.0.1; tokens = refl }
parts_of (stmt.Cast x t k) h = record { variable = x; source = source.Cast t k; is = refl; named = h.0.0; form = h.0.1; tokens = refl }
parts_of (stmt.Call (Some x) f all) h = record { variable = x; source = source.Call (record { callee = f; arguments = all }); is = refl; named = h.0.0; form = (h.0.1, h.0.2); tokens = refl }
parts_of (stmt.LoadField x p) h = record { variable = x; source = source.Field p; is = refl; named = h.0.0; form = h.0.1; tokens = refl }
parts_of (stmt.CallMethod (Some x) n y j all) h =
    record { variable = x; source = source.Method (record { method = record { table = n; object = y; slot = j }; arguments = all }); is = refl; named = h.0.0; form = ((h.0.1, h.0.2, h.0.3), h.0.4); tokens = refl }
parts_of (stmt.IsNative x y n) h = record { variable = x; source = source.Native y n; is = refl; named = h.0.0; form = (h.0.1, h.0.2); tokens = refl }
parts_of (stmt.HasHeapType x y) h = record { variable = x; source = source.HeapType y; is = refl; named = h.0.0; form = h.0.1; tokens = refl }
parts_of (stmt.ViewNumber x y n) h = record { variable = x; source = source.Number y n; is = refl; named = h.0.0; form = (h.0.1, h.0.2); tokens = refl }
parts_of (stmt.IsIndirect x y) h = record { variable = x; source = source.Indirect y; is = refl; named = h.0.0; form = h.0.1; tokens = refl }
parts_of (stmt.HasFormat x y letters) h = record { variable = x; source = source.Format y letters; is = refl; named = h.0.0; form = (h.0.1, h.0.2); tokens = refl }
parts_of (stmt.LoadMemory x v) h = record { variable = x; source = source.Memory v; is = refl; named = h.0.0; form = h.0.1; tokens = refl }
parts_of (stmt.LoadExtent x v e j) h = record { variable = x; source = source.Extent v e j; is = refl; named = h.0.0; form = (h.0.1, h.0.2); tokens = refl }
parts_of (stmt.LoadElement x t v y) h = record { variable = x; source = source.Element (record { kind = t; view = v; offset = y }); is = refl; named = h.0.0; form = (h.0.1, h.0.2); tokens = refl }
parts_of s h = absurd (cc (h.1))

pub put_form : (x : Variable) (k : Source) → IsVariable x → IsSource k → IsStatement (put x k)
put_form x (source.Value k) v h = (v, h)
put_form x (source.Binary a o b) v h = (v, h.0, h.1)
put_form x (source.Invert k) v h = (v, h)
put_form x (source.Cast t k) v h = (v, h)
put_form x (source.Call c) v h = (v, h.0, h.1)
put_form x (source.Field p) v h = (v, h)
put_form x (source.Method c) v h = (v, h.0.0, h.0.1, h.0.2, h.1)
put_form x (source.Native y n) v h = (v, h.0, h.1)
put_form x (source.HeapType y) v h = (v, h)
put_form x (source.Number y n) v h = (v, h.0, h.1)
put_form x (source.Indirect y) v h = (v, h)
put_form x (source.Format y letters) v h = (v, h.0, h.1)
put_form x (source.Memory w) v h = (v, h)
put_form x (source.Extent w e j) v h = (v, h.0, h.1)
put_form x (source.Element e) v h = (v, h.0, h.1)

pub put_tokens : (x : Variable) (k : Source) → statement_tokens (put x k) ≡ variable_token x ∷ sign "=" ∷ source_tokens k
put_tokens x (source.Value k) = refl
put_tokens x (source.Binary a o b) = refl
put_tokens x (source.Invert k) = refl
put_tokens x (source.Cast t k) = refl
put_tokens x (source.Call c) = refl
put_tokens x (source.Field p) = refl
put_tokens x (source.Method c) = refl
put_tokens x (source.Native y n) = refl
put_tokens x (source.HeapType y) = refl
put_tokens x (source.Number y n) = refl
put_tokens x (source.Indirect y) = refl
put_tokens x (source.Format y letters) = refl
put_tokens x (source.Memory w) = refl
put_tokens x (source.Extent w e j) = refl
put_tokens x (source.Element e) = refl

pub kept_form : (v : ViewPlace) (s : Store) → IsView v → IsStore v s → IsStatement (kept v s)
kept_form v (store.Take y) f h = (f, h)
kept_form v (store.Copy w) f h = (f, h)
kept_form v (store.Move k) f h = (f, h.1)
kept_form v (store.Memory k) f h = (f, h)
kept_form v (store.Extent x j k) f h = (f, h.0, h.1)

pub kept_tokens : (v : ViewPlace) (s : Store) → statement_tokens (kept v s) ≡ view v ++ store_tokens v s
kept_tokens v (store.Take y) = refl
kept_tokens v (store.Copy w) = refl
kept_tokens v (store.Move k) = refl
kept_tokens v (store.Memory k) = refl
kept_tokens v (store.Extent x j k) = refl
