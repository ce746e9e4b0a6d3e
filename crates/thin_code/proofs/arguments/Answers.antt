use Rattle.std.proofs.Common.{ℕ, ◌∷◌, [], ◌++◌, List, sym, ap, ◌∙◌, zero-add}
use Rattle.std.proofs.lemmas.List.FromFn.{map-range_with_len_more}
use Rattle.thin_state.specs.declared.CValue.{CValue}
use Rattle.thin_state.specs.declared.CValue.TheVariants as value
use Rattle.thin_code.proofs.arguments.Goals as goal

pub loop-number-preserved : goal.loop-number-preserved
loop-number-preserved c =
    let n = c.loop-number.number in
    c.in_ok-push.ensures.items
    ∙ ap (λ (xs : List CValue). xs ++ value.Argument n ∷ []) c.loop-number.invariant
    ∙ sym (map-range_with_len_more (λ (j : ℕ). value.Argument j) 0 n n (zero-add n))
