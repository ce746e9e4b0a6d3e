use Rattle.std.proofs.Common.{ltb, ap, ◌∙◌, ◌++◌, ◌∷◌, [], rules}
use Rattle.std.proofs.lemmas.Fn.{filter_same}
use Rattle.pyx_lex.proofs.lines.settle.Goals as goal

pub returns : goal.returns
returns c =
    let kept = filter_same _ (λ level. ltb level c.args.width) _ (λ x b f' k. search rules) _ _ c.retain.ensures.filtered in
    c.in_ok-push.ensures.items ∙ ap (λ xs. xs ++ c.args.width ∷ []) kept
