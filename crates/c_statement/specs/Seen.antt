-- Which token stands at a place. The project's own.
use Prim.Native.String.{String}
use Rattle.std.specs.Prelude.{ℕ, List, Bool, false, Option, Some, slice_get, codes}
use Rattle.std.specs.Str.{bytes_eq}
use Rattle.c_token.specs.CTokens.{CToken, Word, Sign}

abbrev pub is_sign : List ℕ → Option CToken → Bool
is_sign letters (Some (Sign bytes)) = bytes_eq bytes letters
is_sign letters _ = false

abbrev pub is_word : List ℕ → Option CToken → Bool
is_word letters (Some (Word bytes)) = bytes_eq bytes letters
is_word letters _ = false

-- whether so many tokens ahead stands the sign, or the word
abbrev pub sign_at : String → ℕ → List CToken → Bool
sign_at letters at tokens = is_sign (codes letters) (slice_get tokens at)

abbrev pub word_at : String → ℕ → List CToken → Bool
word_at letters at tokens = is_word (codes letters) (slice_get tokens at)
