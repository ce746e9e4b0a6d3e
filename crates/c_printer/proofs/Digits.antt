-- The digits of a number are the letters of a word.
use Rattle.std.proofs.Common.{◌≡◌, ℕ, ◌+◌, ◌%◌, ◌^◌, ◌<◌, true, List, [], ◌∷◌, length, arith, decimal}
use Rattle.std.proofs.lemmas.Bool.Decides.{nat_tests}
use Rattle.std.proofs.lemmas.Fmt.{decimal_by_steps, decimal_nonempty}
use Rattle.c_token.specs.CTokens.{is_word_byte}
use Rattle.c_token.specs.Spelled.{AreWordBytes}
use Rattle.c_token.proofs.Tokens.{name_append}
use Rattle.c_writer.specs.Rest.{IsLetters}

digit : (n : ℕ) → n < 10 → is_word_byte (48 + n) ≡ true
digit n h = grind (arith, nat_tests)

words : (n : ℕ) → n < 2 ^ 64 → AreWordBytes (decimal n)
words n h =
    decimal_by_steps (λ n ds. AreWordBytes ds)
    (λ n small. (digit n small, tt))
    (λ n ds big front. name_append ds ((48 + n % 10) ∷ []) front (digit (n % 10) (omega arith), tt))
    n (omega arith)

some : (letters : List ℕ) → 0 < length letters → AreWordBytes letters → IsLetters letters
some [] n h = absurd (omega arith)
some (b ∷ more) n h = h

pub digits : (n : ℕ) → n < 2 ^ 64 → IsLetters (decimal n)
digits n h = some (decimal n) (decimal_nonempty n (omega arith)) (words n h)
