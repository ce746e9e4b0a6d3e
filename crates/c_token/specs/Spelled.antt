-- Names, numbers and strings as C tokens spell them (ISO/IEC 9899:2011 6.4.2, 6.4.4, 6.4.5).
use Rattle.std.specs.Prelude.{◌≡◌, ℕ, ◌+◌, ◌^◌, ◌/◌, ◌%◌, ◌<◌, ◌||◌, List, [], ◌∷◌, true, false, nat_lt, nat_eq, if◌then◌else◌}
use Rattle.std.specs.Char.{is_ascii_digit}
use Rattle.std.specs.List.{AllByRecursion}
use Rattle.c_token.specs.CTokens.{is_word_byte}

-- a byte in a string: a printable one, or a backslash and three octal digits (ISO/IEC 9899:2011 6.4.4.4)
abbrev pub quoted_byte : ℕ → List ℕ
quoted_byte b =
    if (nat_lt b 32 || nat_lt 126 b) || (nat_eq b 34 || nat_eq b 92)
    then 92 ∷ (48 + b / 64) ∷ (48 + b / 8 % 8) ∷ (48 + b % 8) ∷ []
    else b ∷ []

-- a number that names a module, a place in it, a variable, a place or a label
abbrev pub IsNumberInForm : ℕ → Type 0
IsNumberInForm n = n < 2 ^ 32

-- letters, digits and `_`
abbrev pub AreWordBytes : List ℕ → Type 0
AreWordBytes bytes = AllByRecursion (λ b. is_word_byte b ≡ true) bytes

-- the name that an initialiser ends with: an identifier, so that no digit comes first (ISO/IEC 9899:2011 6.4.2.1)
abbrev pub IsNameInForm : List ℕ → Type 0
IsNameInForm [] = ⊥
IsNameInForm (first ∷ more) = (is_ascii_digit first ≡ false) × AreWordBytes (first ∷ more)
