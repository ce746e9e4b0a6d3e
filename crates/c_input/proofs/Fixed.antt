-- The tokens of the fixed parts of operands.
use Rattle.std.proofs.Common.{◌≡◌, [], ◌∷◌, refl}
use Rattle.c_token.specs.CTokens.{sign, word, c_tokens, tokens_from}
use Rattle.c_tree.specs.Names.{text}

pub definition_spelled : text "&cyc_def" ≡ sign "&" ∷ word "cyc_def" ∷ []
unfolding c_tokens tokens_from
definition_spelled = refl

pub cast_spelled : text "(PyObject *)&" ≡ sign "(" ∷ word "PyObject" ∷ sign "*" ∷ sign ")" ∷ sign "&" ∷ []
unfolding c_tokens tokens_from
cast_spelled = refl
