-- The keys and values of a dictionary display, one after the other.
use Rattle.std.proofs.Common.{◌≡◌, ℕ, zero, suc, ◌/◌, ◌%◌, List, [], ◌∷◌, Option, Some, None, refl, ap, sym, subst, ◌∙◌, slice_get, arith}
use Rattle.cy_tree.specs.declared.expr.Expr.{Expr}
use Rattle.cy_tree.specs.Nodes.{Tree, ExprNode, each_pair}

-- what stands at a place of a pair
abbrev pub chosen : ℕ → Expr × Expr → Tree
chosen zero p = ExprNode p.0
chosen (suc n) p = ExprNode p.1

abbrev pub of_pair : ℕ → Option (Expr × Expr) → Option Tree
of_pair n None = None
of_pair n (Some p) = Some (chosen n p)

halved : (k : ℕ) → suc (suc k) / 2 ≡ suc (k / 2)
halved k = omega arith

left : (k : ℕ) → suc (suc k) % 2 ≡ k % 2
left k = omega arith

pub slice_get-each_pair : (xs : List (Expr × Expr)) (k : ℕ) → slice_get (each_pair xs) k ≡ of_pair (k % 2) (slice_get xs (k / 2))
slice_get-each_pair [] k = refl
slice_get-each_pair (x ∷ xs) zero = refl
slice_get-each_pair (x ∷ xs) (suc zero) = refl
slice_get-each_pair (x ∷ xs) (suc (suc k)) =
    rw (halved k, left k) (slice_get-each_pair xs k)
