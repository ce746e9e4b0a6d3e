-- Parameters between brackets, and declarations.
use Rattle.std.proofs.Common.{◌≡◌, true, false, List, [], ◌∷◌, ◌++◌, Option, Some, refl, ap, ◌∙◌}
use Rattle.std.specs.Prelude.{◌≢◌}
use Rattle.c_token.specs.CTokens.{CToken, word, sign}
use Rattle.c_tree.specs.declared.item.Declaration.{Declaration}
use Rattle.c_tree.specs.declared.item.Parameter.{Parameter}
use Rattle.c_tree.specs.declared.name.Variable.{Variable}
use Rattle.c_tree.specs.declared.name.Variable.TheVariants as variable
use Rattle.c_tree.specs.declared.value.CType.{CType}
use Rattle.c_tree.specs.declared.value.CType.TheVariants as type
use Rattle.c_tree.specs.Forms.{IsDeclared, IsVariable}
use Rattle.c_tree.specs.Items.{declaration_spelling, initial_spelling, parameter_spelling}
use Rattle.c_tree.specs.Names.{listed, variable_token}
use Rattle.c_tree.specs.Values.{type_spelling}
use Rattle.c_input.specs.Reads.{Reads, ReadsEvery}
use Rattle.c_input.specs.Types.{type_tokens}
use Rattle.c_input.proofs.Rows.{finds_of, next, IsNext}
use Rattle.c_input.proofs.Spelled.{spelled}
use Rattle.c_operand.proofs.Closed.{closed, closed_filled}
use Rattle.c_operand.proofs.Commas.{append_assoc, behind}
use Rattle.c_operand.proofs.Fixed.{type_not_void}
use Rattle.c_function.specs.Parts.{is_declared, is_place}

behind_filled : (xs : List CToken) (t : CToken) → xs ++ t ∷ [] ≢ []
behind_filled [] t e = cc
behind_filled (x ∷ xs) t e = cc

parameter_filled : (p : Parameter) → parameter_spelling p ≢ []
parameter_filled p = behind_filled (type_spelling p.kind) (variable_token (variable.Parameter p.number))

pub parameters_filled : (first : Parameter) (more : List Parameter) (rest : List CToken)
    → closed parameter_spelling (first ∷ more) rest ≡ listed parameter_spelling (first ∷ more) ++ (sign ")" ∷ rest)
parameters_filled first more rest = closed_filled parameter_spelling first more rest (parameter_filled first)

-- where a parameter begins, `void` doesn't stand
pub parameters_not_void : (first : Parameter) (more : List Parameter) (rest behind_void : List CToken) → word "void" ∷ behind_void ≢ closed parameter_spelling (first ∷ more) rest
parameters_not_void first more rest behind_void e =
    let after : List CToken = behind parameter_spelling more ++ (sign ")" ∷ rest) in
    type_not_void first.kind behind_void (variable_token (variable.Parameter first.number) ∷ after)
    (e ∙ (parameters_filled first more rest ∙ (append_assoc (parameter_spelling first) (behind parameter_spelling more) (sign ")" ∷ rest)
    ∙ append_assoc (type_spelling first.kind) (variable_token (variable.Parameter first.number) ∷ []) after)))

-- ---- declarations

pub one_value : {A : Type 0} (a b : A) → Some a ≡ Some b → a ≡ b
one_value a b e = cc

pub declared_variable : (x : Variable) → IsDeclared x → IsVariable x
declared_variable (variable.Parameter j) h = h
declared_variable (variable.Local j) h = h
declared_variable (variable.Temporary j) h = h
declared_variable variable.Returned h = h
declared_variable (variable.Fixed x) h = h
declared_variable (variable.Place x) h = absurd h

pub declared_no_place : (x : Variable) → IsDeclared x → is_place x ≡ false
declared_no_place (variable.Parameter j) h = refl
declared_no_place (variable.Local j) h = refl
declared_no_place (variable.Temporary j) h = refl
declared_no_place variable.Returned h = refl
declared_no_place (variable.Fixed x) h = refl
declared_no_place (variable.Place x) h = absurd h

pub no_place : (x : Variable) → IsVariable x → is_place x ≡ false → IsDeclared x
no_place (variable.Parameter j) h e = h
no_place (variable.Local j) h e = h
no_place (variable.Temporary j) h e = h
no_place variable.Returned h e = h
no_place (variable.Fixed x) h e = h
no_place (variable.Place x) h e = cc

-- the variable behind the type
pub second : (x : Variable) (rest old new : List CToken) (r : Option Variable) (found : Variable) → r ≡ Some found → Reads IsVariable (λ v. variable_token v ∷ []) old r new
    → ReadsEvery IsVariable (λ v. variable_token v ∷ []) old r → IsVariable x → old ≡ variable_token x ∷ rest → IsNext x found new rest
second x rest old new r found is reads every form e = next IsVariable (λ v. variable_token v ∷ []) old r new found x rest is (finds_of IsVariable (λ v. variable_token v ∷ []) old r new reads) every form e

type_declared : (t : CType) (x : Variable) (more rest : List CToken) → is_declared ((type_tokens t ++ (variable_token x ∷ more)) ++ rest) ≡ true
type_declared type.SignedChar x more rest = refl
type_declared type.UnsignedChar x more rest = refl
type_declared type.Short x more rest = refl
type_declared type.UnsignedShort x more rest = refl
type_declared type.Int x more rest = refl
type_declared type.UnsignedInt x more rest = refl
type_declared type.Long x more rest = refl
type_declared type.UnsignedLong x more rest = refl
type_declared type.PySsizeT x more rest = refl
type_declared type.Object x more rest = refl
type_declared type.View x more rest = refl
type_declared type.ThreadState x more rest = refl
type_declared type.LockState x more rest = refl
type_declared type.TypeObject x more rest = refl

pub declaration_declared : (d : Declaration) (rest : List CToken) → is_declared (declaration_spelling d ++ rest) ≡ true
declaration_declared d rest =
    ap (λ (t : List CToken). is_declared ((t ++ (variable_token d.variable ∷ initial_spelling d.initial)) ++ rest)) (spelled d.kind)
    ∙ type_declared d.kind d.variable (initial_spelling d.initial) rest
