-- What stands in the brackets of a head or a prototype.
use Rattle.std.proofs.Common.{◌≡◌, List, [], ◌∷◌, ◌++◌, refl, ap, ◌∙◌}
use Rattle.std.specs.Prelude.{◌≢◌}
use Rattle.c_token.specs.CTokens.{CToken, word, sign}
use Rattle.c_tree.specs.declared.value.CType.{CType}
use Rattle.c_tree.specs.Items.{void_or}
use Rattle.c_tree.specs.Names.{listed}
use Rattle.c_tree.specs.Values.{type_spelling}
use Rattle.c_operand.proofs.Commas.{append_assoc, behind}
use Rattle.c_operand.proofs.Fixed.{type_not_void, type_filled, void_spelled}

-- the tokens between brackets, and `)`
abbrev pub closed : {A : Type 0} → (A → List CToken) → List A → List CToken → List CToken
closed spell all rest = (void_or (listed spell all) ++ (sign ")" ∷ [])) ++ rest

void_or_filled : (xs ys : List CToken) → xs ≢ [] → void_or (xs ++ ys) ≡ xs ++ ys
void_or_filled [] ys h = absurd (h refl)
void_or_filled (x ∷ xs) ys h = refl

pub closed_empty : {A : Type 0} (spell : A → List CToken) (rest : List CToken) → closed spell [] rest ≡ word "void" ∷ sign ")" ∷ rest
closed_empty spell rest = ap (λ (t : List CToken). (t ++ (sign ")" ∷ [])) ++ rest) void_spelled

pub closed_filled : {A : Type 0} (spell : A → List CToken) (first : A) (more : List A) (rest : List CToken) → spell first ≢ []
    → closed spell (first ∷ more) rest ≡ listed spell (first ∷ more) ++ (sign ")" ∷ rest)
closed_filled spell first more rest h =
    ap (λ (t : List CToken). (t ++ (sign ")" ∷ [])) ++ rest) (void_or_filled (spell first) (behind spell more) h)
    ∙ append_assoc (listed spell (first ∷ more)) (sign ")" ∷ []) rest

pub types_filled : (first : CType) (more : List CType) (rest : List CToken) → closed type_spelling (first ∷ more) rest ≡ listed type_spelling (first ∷ more) ++ (sign ")" ∷ rest)
types_filled first more rest = closed_filled type_spelling first more rest (type_filled first)

-- where a type begins, `void` doesn't stand
pub types_not_void : (first : CType) (more : List CType) (rest behind_void : List CToken) → word "void" ∷ behind_void ≢ closed type_spelling (first ∷ more) rest
types_not_void first more rest behind_void e =
    type_not_void first behind_void (behind type_spelling more ++ (sign ")" ∷ rest))
    (e ∙ (types_filled first more rest ∙ append_assoc (type_spelling first) (behind type_spelling more) (sign ")" ∷ rest)))
