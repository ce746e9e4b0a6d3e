-- Items that begin with a type: the type, and what stands behind it.
use Rattle.std.proofs.Common.{◌≡◌, List, [], ◌∷◌, ◌++◌, Some, refl, ap, sym, ◌∙◌}
use Rattle.std.specs.Prelude.{Bool, true, false, slice_get}
use Rattle.c_token.specs.CTokens.{CToken, Word, sign}
use Rattle.c_tree.specs.declared.item.CItem.{CItem}
use Rattle.c_tree.specs.declared.item.CItem.TheVariants as item
use Rattle.c_tree.specs.declared.name.FunctionName.{FunctionName}
use Rattle.c_tree.specs.declared.name.Place.{Place}
use Rattle.c_tree.specs.declared.value.CResult.{CResult}
use Rattle.c_tree.specs.declared.value.CResult.TheVariants as result
use Rattle.c_tree.specs.declared.value.CType.{CType}
use Rattle.c_tree.specs.Forms.{IsFunctionName, IsPlace}
use Rattle.c_tree.specs.Items.{function_token, types_spelling}
use Rattle.c_tree.specs.Names.{place_name}
use Rattle.c_tree.specs.Values.{result_spelling, type_spelling}
use Rattle.c_input.specs.Reads.{Finds}
use Rattle.c_table.proofs.Steps.{assoc}
use Rattle.c_item.specs.Typed.{prototype, typed_tokens, variable, IsTyped}

abbrev pub kind_of : CItem → CResult
kind_of (item.Prototype kind f kinds) = kind
kind_of (item.StaticPrototype kind f kinds) = result.Value kind
kind_of (item.Static kind x) = result.Value kind
kind_of _ = result.Void

abbrev pub signature_tokens : FunctionName → List CType → List CToken
signature_tokens f kinds = function_token f ∷ (types_spelling kinds ++ (sign ";" ∷ []))

abbrev pub place_tokens : Place → List CToken
place_tokens x = Word (place_name x) ∷ sign ";" ∷ []

-- what stands behind the type
abbrev pub behind_kind : CItem → List CToken
behind_kind (item.Prototype kind f kinds) = signature_tokens f kinds
behind_kind (item.StaticPrototype kind f kinds) = signature_tokens f kinds
behind_kind (item.Static kind x) = place_tokens x
behind_kind _ = []

pub typed_split : (flag : Bool) (x : CItem) (rest : List CToken) → IsTyped flag x → typed_tokens x ++ rest ≡ result_spelling (kind_of x) ++ (behind_kind x ++ rest)
typed_split flag (item.Prototype kind f kinds) rest form = assoc (result_spelling kind) (signature_tokens f kinds) rest
typed_split flag (item.StaticPrototype kind f kinds) rest form = assoc (type_spelling kind) (signature_tokens f kinds) rest
typed_split flag (item.Static kind x) rest form = assoc (type_spelling kind) (place_tokens x) rest
typed_split flag _ rest form = absurd form

pub no_variable : (f : FunctionName) (kinds : List CType) (now rest : List CToken) → now ≡ signature_tokens f kinds ++ rest → slice_get now 1 ≡ Some (sign ";") → ⊥
no_variable f kinds now rest e s = let other : Some (sign "(") ≡ Some (sign ";") = sym (ap (λ (l : List CToken). slice_get l 1) e) ∙ s in cc other

pub a_variable : (x : Place) (now rest : List CToken) → now ≡ place_tokens x ++ rest → slice_get now 1 ≡ Some (sign ";")
a_variable x now rest e = ap (λ (l : List CToken). slice_get l 1) e

pub variable_read : (flag : Bool) (kind : CResult) (x : Place) (old mid new : List CToken) → IsPlace x → old ≡ result_spelling kind ++ mid → mid ≡ place_tokens x ++ new
    → Finds (IsTyped flag) typed_tokens old (variable flag kind x) new
variable_read true (result.Value kind) x old mid new form e f =
    ((refl, form), e ∙ (ap (λ (t : List CToken). type_spelling kind ++ t) f ∙ sym (assoc (type_spelling kind) (place_tokens x) new)))
variable_read true result.Void x old mid new form e f = tt
variable_read false (result.Value kind) x old mid new form e f = tt
variable_read false result.Void x old mid new form e f = tt

pub prototype_read : (flag : Bool) (kind : CResult) (f : FunctionName) (kinds : List CType) (old mid new : List CToken) → IsFunctionName f → old ≡ result_spelling kind ++ mid → mid ≡ signature_tokens f kinds ++ new
    → Finds (IsTyped flag) typed_tokens old (prototype flag kind f kinds) new
prototype_read false kind f kinds old mid new form e g =
    ((refl, form), e ∙ (ap (λ (t : List CToken). result_spelling kind ++ t) g ∙ sym (assoc (result_spelling kind) (signature_tokens f kinds) new)))
prototype_read true (result.Value kind) f kinds old mid new form e g =
    ((refl, form), e ∙ (ap (λ (t : List CToken). type_spelling kind ++ t) g ∙ sym (assoc (type_spelling kind) (signature_tokens f kinds) new)))
prototype_read true result.Void f kinds old mid new form e g = tt
