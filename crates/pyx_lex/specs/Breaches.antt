-- Broken rules of a file, and which of them is the first.
use Prim.Native.Nat.{ℕ}
use Rattle.std.specs.Prelude.{◌≡◌, ◌<◌, ◌≤◌, ◌⊎◌, List, Contains, All}
use Rattle.pyx_lex.specs.declared.lines.Breach.{Breach}
use Rattle.cy_base.specs.declared.place.Refusal.{Refusal}
use Rattle.cy_base.specs.declared.place.Phase.TheVariants.{Lex}

-- ---- the rules on tokens, by their numbers, which are the project's own

-- the first byte that ends the valid UTF-8
abbrev pub not_utf8 : ℕ
not_utf8 = 1

-- a tab in the indentation of a line with a token
abbrev pub tab_in_indentation : ℕ
tab_in_indentation = 2

-- a first token whose width is on no open level below it
abbrev pub no_such_level : ℕ
no_such_level = 3

-- a character that starts no token, a lone CR, a backslash not at a line's end
abbrev pub stray_character : ℕ
stray_character = 4

-- a name that isn't in normalization form KC or takes over 255 bytes
abbrev pub wrong_name : ℕ
wrong_name = 5

-- a string that isn't closed, has another escape or a surrogate, or follows a name directly that isn't a prefix
abbrev pub wrong_string : ℕ
wrong_string = 6

-- a number that is malformed, above 2 ^ 128 - 1, or directly followed by `.` or a character of names
abbrev pub wrong_number : ℕ
wrong_number = 7

-- a directive before the first token other than the language level
abbrev pub refused_directive : ℕ
refused_directive = 8

-- byte 4,194,304 of a longer file
abbrev pub too_long : ℕ
too_long = 9

-- ---- breaches

abbrev pub breach : ℕ → ℕ → Breach
breach rule offset = record { rule = rule; offset = offset }

-- a is before b, by the offset and then by the rule, or is b
abbrev pub IsNotAfter : Breach → Breach → Type 0
IsNotAfter a b = (a.offset < b.offset) ⊎ ((a.offset ≡ b.offset) × (a.rule ≤ b.rule))

-- the first breach of a list, in whatever order they stand there
pub record IsFirst (first : Breach) (breaches : List Breach) : Type 0 where
  pub there : Contains breaches first
  pub first_of_all : All (IsNotAfter first) breaches

abbrev pub refusal : ℕ → Breach → Refusal
refusal file broken = record { rule = record { phase = Lex; number = broken.rule }; file = file; offset = broken.offset }
