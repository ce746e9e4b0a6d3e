-- The tokens of fixed texts.
use Rattle.std.proofs.Common.{◌≡◌, refl}
use Rattle.c_token.specs.CTokens.{c_tokens, tokens_from}
use Rattle.c_tree.specs.declared.item.InitialValue.{InitialValue}
use Rattle.c_tree.specs.declared.item.InitialValue.TheVariants as initial
use Rattle.c_tree.specs.Items.{initial_spelling}
use Rattle.c_function.specs.Parts.{initial_tokens}

pub initials : (i : InitialValue) → initial_spelling i ≡ initial_tokens i
unfolding c_tokens tokens_from
initials initial.Nothing = refl
initials initial.Zero = refl
initials initial.Null = refl
initials initial.Zeros = refl
