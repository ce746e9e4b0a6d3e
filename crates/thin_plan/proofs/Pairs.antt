-- Two lists that are read side by side, where the second ends.
use Rattle.std.proofs.Common.{◌≡◌, List, [], ◌∷◌, Bool, false, refl, ℕ, ◌≤◌, ◌++◌, length, drop, sym, ap, ◌∙◌}
use Rattle.std.proofs.lemmas.List.{append-nil}
use Rattle.thin_state.specs.declared.state.Value.{Value}
use Rattle.std.proofs.Math.ListN.{drop_of_length-le}
use Rattle.thin_state.specs.declared.tree.CValue.{CValue}
use Rattle.thin_state.specs.declared.tree.Parameter.{Parameter}
use Rattle.thin_state.specs.declared.state.Cell.{Cell}
use Rattle.thin_state.specs.Reads.{any_module_variable, plain_cells}
use Rattle.thin_plan.specs.Plans.{loans_in}

pub any-none : (ks : List CValue) → any_module_variable ks [] ≡ false
any-none [] = refl
any-none (k ∷ ks) = refl

pub loans-none : (ks : List CValue) → loans_in ks [] ≡ []
loans-none [] = refl
loans-none (k ∷ ks) = refl

pub plain-none : (ps : List Parameter) → plain_cells ps [] ≡ []
plain-none [] = refl
plain-none (p ∷ ps) = refl

pub plain-end : (ps : List Parameter) (vs : List Value) (cells : List Cell) (i : ℕ) → plain_cells ps vs ≡ cells ++ plain_cells (drop i ps) (drop i vs)
    → length vs ≤ i → cells ≡ plain_cells ps vs
plain-end ps vs cells i same short =
    sym (same ∙ (ap (λ xs. cells ++ plain_cells (drop i ps) xs) (drop_of_length-le vs short) ∙ (ap (λ xs. cells ++ xs) (plain-none (drop i ps)) ∙ append-nil cells)))

pub ruleset pairs_end = (any-none, loans-none, plain-none, drop_of_length-le)
