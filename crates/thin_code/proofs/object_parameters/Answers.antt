use Rattle.std.proofs.Common.{◌∷◌, [], ◌++◌, List, sym, ap, ◌∙◌, zero-add}
use Rattle.std.proofs.lemmas.List.FromFn.{map-range_with_len_more}
use Rattle.thin_state.specs.declared.Parameter.{Parameter}
use Rattle.thin_code.specs.ThinC.{object_parameter}
use Rattle.thin_code.proofs.object_parameters.Goals as goal

pub loop-number-preserved : goal.loop-number-preserved
loop-number-preserved c =
    let n = c.loop-number.number in
    c.in_ok-push.ensures.items
    ∙ ap (λ (xs : List Parameter). xs ++ object_parameter n ∷ []) c.loop-number.invariant
    ∙ sym (map-range_with_len_more object_parameter 0 n n (zero-add n))
