-- The digits and the letters of literals (ISO/IEC 9899:2011 6.4.4.1).
use Rattle.std.specs.Prelude.{ℕ, suc, pos, negsuc, decimal, ⊤, List, [], ◌∷◌, ◌++◌, Option, Some, None, nat_eq, if◌then◌else◌, codes}
use Rattle.c_token.specs.CTokens.{CToken, Word, sign, word}
use Rattle.c_tree.specs.declared.value.Literal.{Literal}
use Rattle.c_tree.specs.declared.value.Literal.TheVariants as literal
use Rattle.c_tree.specs.Forms.{IsLiteral}

-- the number and the suffix of a literal that is one word
abbrev pub plain_parts : Literal → Option (ℕ × List ℕ)
plain_parts (literal.Int (pos n)) = Some (n, [])
plain_parts (literal.Int (negsuc n)) = None
plain_parts (literal.Unsigned n) = Some (n, codes "u")
plain_parts (literal.Long (pos n)) = Some (n, codes "L")
plain_parts (literal.Long (negsuc n)) = None
plain_parts (literal.UnsignedLong n) = Some (n, codes "uL")

-- the number and the suffix of a negative literal that isn't the least of its type
abbrev pub negative_parts : Literal → Option (ℕ × List ℕ)
negative_parts (literal.Int (negsuc n)) = if nat_eq n 2147483647 then None else Some (suc n, [])
negative_parts (literal.Long (negsuc n)) = if nat_eq n 9223372036854775807 then None else Some (suc n, codes "L")
negative_parts _ = None

-- a literal below zero
abbrev pub IsBelow : Literal → Type 0
IsBelow (literal.Int (negsuc n)) = ⊤
IsBelow (literal.Long (negsuc n)) = ⊤
IsBelow _ = ⊥

abbrev pub IsNegative : Literal → Type 0
IsNegative l = IsLiteral l × IsBelow l

-- what stands behind `(-` in a negative literal
abbrev pub behind_minus : Literal → List CToken
behind_minus (literal.Int (negsuc n)) =
    if nat_eq n 2147483647 then word "2147483647" ∷ sign "-" ∷ word "1" ∷ sign ")" ∷ [] else Word (decimal (suc n)) ∷ sign ")" ∷ []
behind_minus (literal.Long (negsuc n)) =
    if nat_eq n 9223372036854775807 then word "9223372036854775807L" ∷ sign "-" ∷ word "1L" ∷ sign ")" ∷ [] else Word (decimal (suc n) ++ codes "L") ∷ sign ")" ∷ []
behind_minus _ = []
