-- The keywords of C, in rows (ISO/IEC 9899:2011 6.4.1).
use Rattle.std.specs.Prelude.{◌≡◌, ℕ, List, [], ◌∷◌, false, codes}
use Rattle.c_tree.specs.Forms.{is_keyword, IsIdentifier}

abbrev pub first_row : List (List ℕ)
first_row = codes "auto" ∷ codes "break" ∷ codes "case" ∷ codes "char" ∷ codes "const" ∷ codes "continue" ∷ codes "default" ∷ codes "do" ∷ []

abbrev pub second_row : List (List ℕ)
second_row = codes "double" ∷ codes "else" ∷ codes "enum" ∷ codes "extern" ∷ codes "float" ∷ codes "for" ∷ codes "goto" ∷ codes "if" ∷ []

abbrev pub third_row : List (List ℕ)
third_row = codes "inline" ∷ codes "int" ∷ codes "long" ∷ codes "register" ∷ codes "restrict" ∷ codes "return" ∷ codes "short" ∷ codes "signed" ∷ []

abbrev pub fourth_row : List (List ℕ)
fourth_row = codes "sizeof" ∷ codes "static" ∷ codes "struct" ∷ codes "switch" ∷ codes "typedef" ∷ codes "union" ∷ codes "unsigned" ∷ codes "void" ∷ []

abbrev pub fifth_row : List (List ℕ)
fifth_row = codes "volatile" ∷ codes "while" ∷ codes "_Alignas" ∷ codes "_Alignof" ∷ codes "_Atomic" ∷ codes "_Bool" ∷ codes "_Complex" ∷ codes "_Generic" ∷ []

abbrev pub sixth_row : List (List ℕ)
sixth_row = codes "_Imaginary" ∷ codes "_Noreturn" ∷ codes "_Static_assert" ∷ codes "_Thread_local" ∷ []

-- an identifier that is no keyword (ISO/IEC 9899:2011 6.4.1, 6.4.2.1)
pub record IsPlain (name : List ℕ) : Type 0 where
  pub identifier : IsIdentifier name
  pub word : is_keyword name ≡ false
