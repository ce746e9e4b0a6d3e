-- Two lists of types that are the same are as long.
use Rattle.std.proofs.Common.{◌≡◌, zero, suc, Bool, true, false, ◌&&◌, List, [], ◌∷◌, length, refl, sym, ap, ◌∙◌, eqb, arith}
use Rattle.c_value.specs.declared.kind.Kind.{Kind}
use Rattle.c_value.specs.Values.{same_kind}
use Rattle.c_state.specs.Calls.{same_kinds}

and_false : (b : Bool) → false ≡ (b && false)
and_false true = refl
and_false false = refl

pub not-same : (js ks : List Kind) → (length js ≡ length ks → ⊥) → false ≡ same_kinds js ks
not-same [] [] h = absurd (h refl)
not-same [] (k ∷ ks) h = refl
not-same (j ∷ js) [] h = refl
not-same (j ∷ js) (k ∷ ks) h = and_false (same_kind j k) ∙ ap (λ (b : Bool). same_kind j k && b) (not-same js ks (λ e. h (ap suc e)))
