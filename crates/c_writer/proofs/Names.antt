-- Names that end in numbers are one word.
use Rattle.std.proofs.Common.{◌≡◌, ℕ, List, [], ◌∷◌, ◌++◌, false, refl, get_or, decimal}
use Rattle.std.specs.Prelude.{codes}
use Rattle.c_token.specs.CTokens.{Word, c_tokens}
use Rattle.c_token.specs.Spelled.{AreWordBytes, IsNumberInForm}
use Rattle.c_token.proofs.Tokens.{name_append, decimal_name}
use Rattle.c_writer.specs.Rest.{glue, IsAtRest, IsLetters, two_numbers}
use Rattle.c_writer.proofs.Splits.{word_rests, word_written}

pub two_words : (m k : ℕ) → IsNumberInForm m → IsNumberInForm k → AreWordBytes (two_numbers m k)
two_words m k h g = name_append (decimal m) (codes "_" ++ decimal k) (decimal_name m h) (refl, decimal_name k g)

pub three_words : (m k j : ℕ) → IsNumberInForm m → IsNumberInForm k → IsNumberInForm j → AreWordBytes (two_numbers m k ++ (codes "_" ++ decimal j))
three_words m k j h g f = name_append (two_numbers m k) (codes "_" ++ decimal j) (two_words m k h g) (refl, decimal_name j f)

module _ (text : List ℕ) (last : ℕ) (at : IsAtRest text last) where
  pub name_rests : (letters more : List ℕ) → IsLetters letters → AreWordBytes more → glue last (get_or letters 0 0) ≡ false → IsAtRest (text ++ (letters ++ more)) 48
  name_rests [] more h k g = absurd h
  name_rests (b ∷ letters) more h k g = word_rests text last at b (letters ++ more) g (name_append (b ∷ letters) more h k)

  pub name_written : (letters more : List ℕ) → IsLetters letters → AreWordBytes more → glue last (get_or letters 0 0) ≡ false → c_tokens (text ++ (letters ++ more)) ≡ c_tokens text ++ Word (letters ++ more) ∷ []
  name_written [] more h k g = absurd h
  name_written (b ∷ letters) more h k g = word_written text last at b (letters ++ more) g (name_append (b ∷ letters) more h k)
