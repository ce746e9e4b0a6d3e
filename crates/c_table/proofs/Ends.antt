-- Where tables end: no row begins as an end does.
use Rattle.std.proofs.Common.{◌≡◌, List, ◌++◌, sym, subst}
use Rattle.c_token.specs.CTokens.{CToken}
use Rattle.c_tree.specs.declared.item.MethodRow.{MethodRow}
use Rattle.c_tree.specs.declared.item.PropertyRow.{PropertyRow}
use Rattle.c_input.proofs.Lists.{IsRead}
use Rattle.c_table.specs.Parts.{method_tokens, property_tokens}
use Rattle.c_table.specs.Tables.{methods_end, properties_end}

abbrev pub EndsMethods : List CToken → Type 0
EndsMethods rest = (r : List CToken) × (rest ≡ methods_end ++ r)

abbrev pub EndsProperties : List CToken → Type 0
EndsProperties rest = (r : List CToken) × (rest ≡ properties_end ++ r)

pub no_method : (m : MethodRow) (rest new more : List CToken) → rest ≡ methods_end ++ new → rest ≡ method_tokens m ++ more → ⊥
no_method m rest new more e f = cc

pub no_property : (p : PropertyRow) (rest new more : List CToken) → rest ≡ properties_end ++ new → rest ≡ property_tokens p ++ more → ⊥
no_property p rest new more e f = cc

-- the same, told of what is left
pub moved : {A : Type 0} (form : A → Type 0) (spell : A → List CToken) (stops : List CToken → Type 0) (start : List CToken) (read : List A) (rest new : List CToken)
    → IsRead form spell stops start read rest → new ≡ rest → IsRead form spell stops start read new
moved form spell stops start read rest new h e = let P : List CToken → Type 0 = λ z. IsRead form spell stops start read z in subst P (sym e) h
