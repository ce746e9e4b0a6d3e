-- Readers one behind another: what stands behind a tree that is known.
use Rattle.std.proofs.Common.{◌≡◌, List, [], ◌∷◌, ◌++◌, Some, None, refl, sym, ap, subst, ◌∙◌}
use Rattle.std.specs.Prelude.{Option, Bool, true, false}
use Rattle.c_token.specs.CTokens.{CToken}
use Rattle.c_input.specs.Reads.{Finds, Passes, Reads, ReadsEvery, Takes}

pub same_left : {A : Type 0} (xs ys zs : List A) → xs ++ ys ≡ xs ++ zs → ys ≡ zs
same_left [] ys zs e = e
same_left (x ∷ xs) ys zs e = same_left xs ys zs cc

append_assoc : {A : Type 0} (xs ys zs : List A) → (xs ++ ys) ++ zs ≡ xs ++ (ys ++ zs)
append_assoc [] ys zs = refl
append_assoc (x ∷ xs) ys zs = ap (λ t. x ∷ t) (append_assoc xs ys zs)

-- ---- fixed tokens

pub passes_of : (spelling old : List CToken) (result : Bool) (new : List CToken) → Takes spelling old result new → Passes spelling old result new
passes_of spelling old true new t = t
passes_of spelling old false new t = t.1

pub passes_behind : (spelling old : List CToken) (result : Bool) (new rest : List CToken) → result ≡ true → Passes spelling old result new → old ≡ spelling ++ rest → new ≡ rest
passes_behind spelling old result new rest is p e =
    same_left spelling new rest (sym (subst (λ (t : Bool). Passes spelling old t new) is p) ∙ e)

pub passes_not : (spelling old : List CToken) (result : Bool) (new rest : List CToken) → result ≡ false → Passes spelling old result new → old ≡ spelling ++ rest → ⊥
passes_not spelling old result new rest is p e = subst (λ (t : Bool). Passes spelling old t new) is p rest e

-- the fixed tokens are the beginning of what stands there
pub behind_fixed : (a b old new rest : List CToken) → old ≡ a ++ new → old ≡ (a ++ b) ++ rest → new ≡ b ++ rest
behind_fixed a b old new rest e f = same_left a new (b ++ rest) (sym e ∙ (f ∙ append_assoc a b rest))

-- ---- trees

pub record IsNext {A : Type 0} (x found : A) (new rest : List CToken) : Type 0 where
  pub same : found ≡ x
  pub left : new ≡ rest

one_value : {A : Type 0} (a b : A) → Some a ≡ Some b → a ≡ b
one_value a b e = cc

pub finds_of : {A : Type 0} (form : A → Type 0) (spell : A → List CToken) (old : List CToken) (r : Option A) (new : List CToken) → Reads form spell old r new → Finds form spell old r new
finds_of form spell old (Some x) new h = h
finds_of form spell old None new h = tt

pub next_one : {A : Type 0} (form : A → Type 0) (spell : A → List CToken) (old : List CToken) (r : Option A) (new : List CToken) (found x : A) (rest : List CToken)
    → r ≡ Some found → Finds form spell old r new → r ≡ Some x → old ≡ spell x ++ rest → IsNext x found new rest
next_one {A} form spell old r new found x rest is finds known e =
    let here : Finds form spell old (Some found) new = subst (λ (t : Option A). Finds form spell old t new) is finds in
    let same : found ≡ x = one_value found x (sym is ∙ known) in
    record { same = same; left = same_left (spell x) new rest (ap (λ t. spell t ++ new) (sym same) ∙ (sym here.1 ∙ e)) }

pub next : {A : Type 0} (form : A → Type 0) (spell : A → List CToken) (old : List CToken) (r : Option A) (new : List CToken) (found x : A) (rest : List CToken)
    → r ≡ Some found → Finds form spell old r new → ReadsEvery form spell old r → form x → old ≡ spell x ++ rest → IsNext x found new rest
next form spell old r new found x rest is finds every f e = next_one form spell old r new found x rest is finds (every x rest f e) e

pub missed : {A : Type 0} (form : A → Type 0) (spell : A → List CToken) (old : List CToken) (r : Option A) (x : A) (rest : List CToken)
    → r ≡ None → ReadsEvery form spell old r → form x → old ≡ spell x ++ rest → ⊥
missed form spell old r x rest is every f e = cc (every x rest f e)

pub value_of : {A : Type 0} {a b : A} → Some a ≡ Some b → a ≡ b
value_of e = cc

-- what is left behind a tree that was read where it stood
pub left_of : {A : Type 0} (spell : A → List CToken) {found x : A} {old new rest : List CToken} → Some found ≡ Some x → old ≡ spell found ++ new → old ≡ spell x ++ rest → new ≡ rest
left_of spell {found = found} {x = x} {new = new} {rest = rest} same here e =
    same_left (spell x) new rest (ap (λ t. spell t ++ new) (sym (value_of same)) ∙ (sym here ∙ e))
