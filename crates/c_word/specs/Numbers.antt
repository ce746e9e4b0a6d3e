-- The spellings of several numbers in one word. The project's own.
use Rattle.std.specs.Prelude.{◌≡◌, ⊤, ℕ, ◌≤◌, List, [], ◌∷◌, ◌++◌, Bool, false, not, ◌&&◌, codes, decimal}
use Rattle.std.specs.Char.{is_ascii_digit}
use Rattle.std.specs.List.{AllByRecursion, list_all}
use Rattle.c_token.specs.CTokens.{is_word_byte}

-- a module and a number in it, with `_` between them
abbrev pub two_numbers : ℕ → ℕ → List ℕ
two_numbers m k = decimal m ++ (codes "_" ++ decimal k)

-- decimal digits (ISO/IEC 9899:2011 6.4.4.1)
abbrev pub AreDigits : List ℕ → Type 0
AreDigits bytes = AllByRecursion (λ b. (48 ≤ b) × (b ≤ 57)) bytes

-- letters, digits and `_`, and no digit first (ISO/IEC 9899:2011 6.4.2.1)
abbrev pub is_identifier : List ℕ → Bool
is_identifier [] = false
is_identifier (first ∷ more) = not (is_ascii_digit first) && list_all is_word_byte (first ∷ more)

-- no digit stands first
abbrev pub Stops : List ℕ → Type 0
Stops [] = ⊤
Stops (first ∷ more) = is_ascii_digit first ≡ false
