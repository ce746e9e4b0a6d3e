use Rattle.std.proofs.Common.{◌≡◌, ◌++◌, ◌⊎◌, inl, inr, List, Some, ap, ◌∙◌}
use Rattle.std.specs.Prelude.{negsuc}
use Rattle.c_token.specs.CTokens.{CToken}
use Rattle.c_tree.specs.declared.value.Literal.{Literal}
use Rattle.c_tree.specs.declared.value.Literal.TheVariants as literal
use Rattle.c_input.specs.Literals.{behind_minus, IsNegative}
use Rattle.c_input.proofs.Sides.{kinds, IsOrdinary}
use Rattle.c_input.proofs.literals.negative.Goals as goal

pub returns-clause-every : goal.returns-clause-every
returns-clause-every c = λ x rest form e. go x rest form e (kinds x form)
  where
    go : (x : Literal) (rest : List CToken) → IsNegative x → c.args.input.now ≡ behind_minus x ++ rest → (x ≡ literal.Int (negsuc 2147483647)) ⊎ ((x ≡ literal.Long (negsuc 9223372036854775807)) ⊎ IsOrdinary x) → c.ordinary.result ≡ Some x
    go x rest form e (inl l) = absurd (c.if-fixed.ensures.1 rest (e ∙ ap (λ z. behind_minus z ++ rest) l))
    go x rest form e (inr (inl l)) = absurd (c.if-fixed-2.ensures.1 rest (c.if-fixed.ensures.0 ∙ (e ∙ ap (λ z. behind_minus z ++ rest) l)))
    go x rest form e (inr (inr o)) = c.ordinary.ensures.every x o.number o.letters rest form o.small o.stops o.parts (c.if-fixed-2.ensures.0 ∙ (c.if-fixed.ensures.0 ∙ (e ∙ ap (λ (t : List CToken). t ++ rest) o.is)))
