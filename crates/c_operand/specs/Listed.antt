-- Lists with commas between their items, up to `)`. The project's own.
use Rattle.std.specs.Prelude.{◌≡◌, List, [], ◌∷◌, ◌++◌, Option, Some}
use Rattle.std.specs.List.{AllByRecursion}
use Rattle.c_token.specs.CTokens.{CToken, sign}
use Rattle.c_tree.specs.Names.{listed}

-- items in form, and there is one
abbrev pub AreFilled : {A : Type 0} → (A → Type 0) → List A → Type 0
AreFilled form [] = ⊥
AreFilled form (first ∷ more) = form first × AllByRecursion form more

-- each filled list of items in form is read, where it stands at the front and `)` behind it
abbrev pub ReadsListed : {A : Type 0} → (A → Type 0) → (A → List CToken) → List CToken → Option (List A) → Type 0
ReadsListed {A} form spell old result = (all : List A) (rest : List CToken) → AreFilled form all → old ≡ listed spell all ++ (sign ")" ∷ rest) → result ≡ Some all
