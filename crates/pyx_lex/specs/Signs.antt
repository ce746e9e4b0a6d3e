-- Operators and delimiters, the longest first (Python language reference, sections 2.5 and 2.6).
use Prim.Native.Nat.{ℕ}
use Rattle.std.specs.Prelude.{List, [], ◌∷◌, Bool, ◌||◌, ◌==◌, if◌then◌else◌, codes, nat_eq, bytes_eq, slice_index}
use Rattle.std.specs.List.{list_any, starts_with}

abbrev pub signs_of_three : List (List ℕ)
signs_of_three = codes "<<=" ∷ codes ">>=" ∷ codes "//=" ∷ []

abbrev pub signs_of_two : List (List ℕ)
signs_of_two =
    codes "==" ∷ codes "!=" ∷ codes "<=" ∷ codes ">=" ∷ codes "<<" ∷ codes ">>" ∷ codes "//" ∷ codes "+="
    ∷ codes "-=" ∷ codes "*=" ∷ codes "/=" ∷ codes "%=" ∷ codes "&=" ∷ codes "|=" ∷ codes "^=" ∷ []

abbrev pub signs_of_one : List ℕ
signs_of_one = codes "+-*/%&|^~<>=()[]{},:;.?"

abbrev pub begins_with : List ℕ → List (List ℕ) → Bool
begins_with text signs = list_any (λ sign. starts_with nat_eq text sign) signs

abbrev pub is_one : ℕ → Bool
is_one b = list_any (λ sign. sign == b) signs_of_one

-- how many bytes the longest sign takes that a text begins with, and 0 where it begins with none
unfoldable pub sign_len : List ℕ → ℕ
sign_len text =
    if begins_with text signs_of_three then 3 else
    if begins_with text signs_of_two then 2 else
    if is_one (slice_index text 0) then 1 else 0

-- the brackets
abbrev pub is_opening : List ℕ → Bool
is_opening sign = bytes_eq sign (codes "(") || (bytes_eq sign (codes "[") || bytes_eq sign (codes "{"))

abbrev pub is_closing : List ℕ → Bool
is_closing sign = bytes_eq sign (codes ")") || (bytes_eq sign (codes "]") || bytes_eq sign (codes "}"))
