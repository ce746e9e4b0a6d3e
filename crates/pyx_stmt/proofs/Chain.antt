-- A loop that goes on with what was read last, beside `read_many`.
use Rattle.std.proofs.Common.{◌≡◌, ℕ, ◌+◌, ◌-◌, ◌<◌, ◌≤◌, true, false, List, [], ◌∷◌, ◌++◌, length, refl, sym, ◌∙◌, ap, append_assoc, append-nil}
use Rattle.pyx_lex.specs.declared.token.Token.{Token}
use Rattle.cy_tree.specs.declared.expr.Expr.{Expr}
use Rattle.cy_tree.specs.declared.stmt.Simple.{Simple}
use Rattle.cy_tree.specs.declared.stmt.Simple.TheVariants as simple
use Rattle.forms.specs.Forms.{Set}
use Rattle.forms.specs.Readers.{Fault, Outcome, did, bad, Reader, and_then, sees, read_many}
use Rattle.forms.proofs.Loops.{with_front, left, loop_begins, loop_stops, loop_fails, loop_goes_on, loop_ends}
use Rattle.decl_grammar.specs.Nodes.{front_of, last_of}
use Rattle.pyx_stmt.specs.Assigned.{assigned}

last_one : (targets : List Expr) (value : Expr) (ts : List Token) → ◌≡◌ {A = Outcome Token Simple} (did (assigned targets value []) ts) (did (simple.Assign targets value) ts)
last_one targets value ts = ap (λ z. did (simple.Assign z value) ts) (append-nil targets)

-- the assignment with the expressions that follow
abbrev pub ended : List Expr → Expr → Outcome Token (List Expr) → Outcome Token Simple
ended targets value o = and_then o (λ more r. did (assigned targets value more) r)

bare : (o : Outcome Token (List Expr)) → with_front [] o ≡ o
bare (did xs r) = refl
bare (bad e r) = refl

shift : (targets : List Expr) (value a : Expr) (o : Outcome Token (List Expr)) → ended targets value (with_front ([] ++ a ∷ []) o) ≡ ended (targets ++ value ∷ []) a o
shift targets value a (did xs r) = ap (λ z. did (simple.Assign z (last_of a xs)) r) (sym (append_assoc targets (value ∷ []) (front_of a xs)))
shift targets value a (bad e r) = refl

pub chain_begins : (b : Set Token) (p : Reader Token Expr) (targets : List Expr) (value : Expr) (ts : List Token) (n : ℕ) → n ≡ length ts
    → ended targets value (read_many b p ts) ≡ ended targets value (left (n - 0) b p ts)
chain_begins b p targets value ts n h = ap (ended targets value) (loop_begins b p ts n h ∙ bare (left (n - 0) b p ts))

module _ (b : Set Token) (p : Reader Token Expr) (all : Outcome Token Simple) (targets : List Expr) (value : Expr) (n at : ℕ) (ts : List Token)
    (h : at < n) (e : all ≡ ended targets value (left (n - at) b p ts)) where
  pub chain_stops : sees b ts ≡ false → all ≡ did (simple.Assign targets value) ts
  chain_stops g = e ∙ ap (ended targets value) (loop_stops Token Expr b p (left (n - at) b p ts) [] n at ts h (sym (bare (left (n - at) b p ts))) g) ∙ last_one targets value ts

  pub chain_fails : (f : Fault) (r : List Token) → sees b ts ≡ true → p ts ≡ bad f r → all ≡ bad f r
  chain_fails f r g k = e ∙ ap (ended targets value) (loop_fails Token Expr b p (left (n - at) b p ts) [] n at ts f r h (sym (bare (left (n - at) b p ts))) g k)

  pub chain_goes_on : (a : Expr) (r : List Token) → sees b ts ≡ true → p ts ≡ did a r → all ≡ ended (targets ++ value ∷ []) a (left (n - (at + 1)) b p r)
  chain_goes_on a r g k = e ∙ ap (ended targets value) (loop_goes_on Token Expr b p (left (n - at) b p ts) [] n at ts a r h (sym (bare (left (n - at) b p ts))) g k) ∙ shift targets value a (left (n - (at + 1)) b p r)

pub chain_ends : (b : Set Token) (p : Reader Token Expr) (all : Outcome Token Simple) (targets : List Expr) (value : Expr) (n at : ℕ) (ts : List Token)
    → n ≤ at → all ≡ ended targets value (left (n - at) b p ts) → all ≡ did (simple.Assign targets value) ts
chain_ends b p all targets value n at ts h e = e ∙ ap (ended targets value) (loop_ends Token Expr b p (left (n - at) b p ts) [] n at ts h (sym (bare (left (n - at) b p ts)))) ∙ last_one targets value ts
