-- The last token of an item.
use Rattle.std.proofs.Common.{◌≡◌, ℕ, suc, ◌-◌, ◌≤◌, List, [], ◌∷◌, ◌++◌, Some, length, get_or, refl, sym, ap, ◌∙◌, arith}
use Rattle.c_token.specs.CTokens.{CToken}
use Rattle.c_cut.specs.declared.token.Token.{Token}
use Rattle.c_cut.specs.Shown.{item_shown, token_shown}
use Rattle.c_table.proofs.Steps.{assoc}
use Rattle.c_item.specs.Kinds.{last_of}

pub last_shown : (ts : List Token) (x : Token) → 1 ≤ length ts → x ≡ get_or ts (length ts - 1) x → last_of (item_shown ts) ≡ Some (token_shown x)
last_shown [] x h e = absurd (omega arith)
last_shown (t ∷ []) x h e = ap (λ z. Some (token_shown z)) (sym e)
last_shown (t ∷ u ∷ more) x h e =
    let at : length (t ∷ u ∷ more) - 1 ≡ suc (length (u ∷ more) - 1) = omega arith in
    last_shown (u ∷ more) x (omega arith) (e ∙ ap (λ (k : ℕ). get_or (t ∷ u ∷ more) k x) at)

-- the last of two lists is the last of the second
pub last_append : (xs : List CToken) (y : CToken) (ys : List CToken) → last_of (xs ++ y ∷ ys) ≡ last_of (y ∷ ys)
last_append [] y ys = refl
last_append (x ∷ []) y ys = refl
last_append (x ∷ z ∷ more) y ys = last_append (z ∷ more) y ys

pub append_nil : (xs : List CToken) → xs ++ [] ≡ xs
append_nil [] = refl
append_nil (x ∷ xs) = ap (λ (t : List CToken). x ∷ t) (append_nil xs)

-- the list ends in this token
abbrev pub EndsIn : CToken → List CToken → Type 0
EndsIn y xs = (front : List CToken) × (xs ≡ front ++ y ∷ [])

pub ends_behind : (y : CToken) (zs xs : List CToken) → EndsIn y xs → EndsIn y (zs ++ xs)
ends_behind y zs xs h = (zs ++ h.0, ap (λ (t : List CToken). zs ++ t) h.1 ∙ sym (assoc zs h.0 (y ∷ [])))

pub last_ends : (y : CToken) (xs : List CToken) → EndsIn y xs → last_of xs ≡ Some y
last_ends y xs h = ap last_of h.1 ∙ last_append h.0 y []
