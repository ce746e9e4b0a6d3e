-- Where the reading of a text stands at its end (ISO/IEC 9899:2011 6.4).
use Rattle.std.specs.Prelude.{◌≡◌, ℕ, ◌++◌, decimal, List, [], ◌∷◌, Bool, true, false, not, ◌&&◌, ◌||◌, nat_eq, codes}
use Rattle.std.specs.List.{list_any, list_all}
use Rattle.c_token.specs.Spelled.{AreWordBytes}
use Rattle.c_token.specs.CTokens.{CLine, Fresh, Text, Mode, Between, InWord, InSign, step, is_word_byte}

-- where the reading stands after these bytes
abbrev pub mode_after : Mode → List ℕ → Mode
mode_after mode [] = mode
mode_after mode (b ∷ bytes) = mode_after (step mode b).next bytes

-- the line has begun with no `#`
abbrev pub is_text_line : CLine → Bool
is_text_line Fresh = true
is_text_line Text = true
is_text_line _ = false

-- the reading stands between tokens, or in a word or a sign, and not in a preprocessor line
abbrev pub is_at_rest : Mode → Bool
is_at_rest (Between line) = is_text_line line
is_at_rest (InWord line letters) = is_text_line line
is_at_rest (InSign line letters) = is_text_line line
is_at_rest _ = false

-- no `#` stands in the bytes
abbrev pub has_no_hash : List ℕ → Bool
has_no_hash bytes = list_all (λ b. not (nat_eq b 35)) bytes

-- a text that begins and ends between tokens, or at the edge of one, with no `#` in it
abbrev pub is_whole_text : List ℕ → Bool
is_whole_text bytes = has_no_hash bytes && is_at_rest (mode_after (Between Fresh) bytes)

-- the bytes of signs that longer signs begin or go on with
abbrev pub is_joining : ℕ → Bool
is_joining b = list_any (nat_eq b) (codes "=!<>-&|+*/%^#:.")

-- the two bytes would be read as one token
abbrev pub glue : ℕ → ℕ → Bool
glue a b = (is_word_byte a && is_word_byte b) || (is_joining a && is_joining b)

-- the byte is of what stands open
abbrev pub fits : Mode → ℕ → Bool
fits (InWord line letters) b = is_word_byte b
fits (InSign line letters) b = is_joining b
fits _ b = true

-- The reading of the text stands at rest, and the last byte is of what stands open; behind a line feed, or at the start,
-- nothing does.
pub record IsAtRest (text : List ℕ) (last : ℕ) : Type 0 where
  pub rests : is_at_rest (mode_after (Between Fresh) text) ≡ true
  pub ends : fits (mode_after (Between Fresh) text) last ≡ true
  pub fresh : last ≡ 10 → mode_after (Between Fresh) text ≡ Between Fresh

-- letters, digits and `_`, at least one
abbrev pub IsLetters : List ℕ → Type 0
IsLetters [] = ⊥
IsLetters (b ∷ more) = AreWordBytes (b ∷ more)

-- the digits of two numbers with `_` between them
abbrev pub two_numbers : ℕ → ℕ → List ℕ
two_numbers m k = decimal m ++ (codes "_" ++ decimal k)
