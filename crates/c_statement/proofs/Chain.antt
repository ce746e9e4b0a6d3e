-- Trees one behind another in a list of tokens.
use Rattle.std.proofs.Common.{◌≡◌, List, ◌∷◌, ◌++◌, Bool, true, false, ℕ, Some, refl, sym, ap, ◌∙◌}
use Rattle.std.specs.Prelude.{None, Option, nat_eq}
use Rattle.std.proofs.lemmas.Bool.{false≢true}
use Rattle.std.proofs.lemmas.List.{append_assoc}
use Rattle.c_token.specs.CTokens.{CToken, sign, word, c_tokens, tokens_from}
use Rattle.c_tree.specs.declared.statement.ViewNumber.{ViewNumber}
use Rattle.c_tree.specs.declared.statement.ViewNumber.TheVariants as number
use Rattle.c_tree.specs.declared.name.Variable.{Variable}
use Rattle.c_tree.specs.declared.statement.FieldPlace.{FieldPlace}
use Rattle.c_tree.specs.declared.statement.ViewPlace.{ViewPlace}
use Rattle.c_tree.specs.declared.statement.ViewPlace.TheVariants as place
use Rattle.c_tree.specs.declared.statement.Extent.{Extent}
use Rattle.c_tree.specs.declared.statement.Extent.TheVariants as extent
use Rattle.c_tree.specs.Statements.{extent_name, number_spelling, view}
use Rattle.c_input.specs.Reads.{Finds}
use Rattle.c_input.proofs.Rows.{next_one}
use Rattle.c_statement.specs.declared.statement_kind.StatementKind.TheVariants as kind
use Rattle.c_statement.specs.Seen.{sign_at, word_at}
use Rattle.c_statement.specs.Sources.{end}

pub front_of : (a tail rest : List CToken) {old : List CToken} → old ≡ (a ++ tail) ++ rest → old ≡ a ++ (tail ++ rest)
front_of a tail rest e = e ∙ append_assoc a tail rest

pub joined : (a tail rest : List CToken) {old new : List CToken} → old ≡ a ++ new → new ≡ tail ++ rest → old ≡ (a ++ tail) ++ rest
joined a tail rest e f = e ∙ (ap (λ (t : List CToken). a ++ t) f ∙ sym (append_assoc a tail rest))

pub number_apart : (n : ViewNumber) (more rest : List CToken) → word "suboffsets" ∷ more ≡ (number_spelling n ++ end) ++ rest → ⊥
unfolding c_tokens tokens_from
number_apart number.Dimensions more rest e = cc
number_apart number.ItemSize more rest e = cc
number_apart number.Readonly more rest e = cc
number_apart (number.Shape j) more rest e = cc
number_apart (number.Stride j) more rest e = cc

pub missing : {A : Type 0} {x : A} → None ≡ Some x → ⊥
missing e = cc

pub end_apart : {xs ys : List CToken} → sign ";" ∷ xs ≡ sign "." ∷ ys → ⊥
end_apart e = cc

pub field_known : {v : ViewPlace} {p q : FieldPlace} → Some v ≡ Some (place.Field p) → v ≡ place.Field q → q ≡ p
field_known known is = cc

pub variable_apart : {v : ViewPlace} {p : FieldPlace} {x : Variable} → Some v ≡ Some (place.Field p) → v ≡ place.Variable x → ⊥
variable_apart known is = cc

pub left_found : {A : Type 0} (form : A → Type 0) (spell : A → List CToken) {found x : A} {r : Option A} {old new rest : List CToken}
    → r ≡ Some found → r ≡ Some x → Finds form spell old r new → old ≡ spell x ++ rest → new ≡ rest
left_found form spell {found = found} {x = x} {r = r} {old = old} {new = new} {rest = rest} is known finds e = (next_one form spell old r new found x rest is finds known e).left

pub plus_apart : {xs ys : List CToken} → sign ";" ∷ xs ≡ sign "+" ∷ ys → ⊥
plus_apart e = false≢true (sym (ap (sign_at ";" 0) e))

pub memory_apart : {xs ys : List CToken} → word "buf" ∷ xs ≡ word "mv" ∷ ys → ⊥
memory_apart e = false≢true (sym (ap (word_at "buf" 0) e))

pub extent_apart : (x : Extent) {xs ys : List CToken} → word "buf" ∷ xs ≡ extent_name x ∷ ys → ⊥
extent_apart extent.Length e = false≢true (sym (ap (word_at "buf" 0) e))
extent_apart extent.Stride e = false≢true (sym (ap (word_at "buf" 0) e))

pub view_word : (v : ViewPlace) (more : List CToken) → word_at "char" 1 (view v ++ (sign "." ∷ more)) ≡ false
unfolding c_tokens tokens_from
view_word (place.Variable x) more = refl
view_word (place.Field p) more = refl

pub no_view : (v : ViewPlace) (more : List CToken) {old : List CToken} {b : Bool} → old ≡ view v ++ (sign "." ∷ more) → b ≡ word_at "char" 1 old → b ≡ true → ⊥
no_view v more e seen is = false≢true (sym (view_word v more) ∙ (ap (word_at "char" 1) (sym e) ∙ (sym seen ∙ is)))

pub equals_apart : {xs ys : List CToken} → sign "=" ∷ xs ≡ sign "." ∷ ys → ⊥
equals_apart e = false≢true (sym (ap (sign_at "=" 0) e))

-- ---- kinds of statements that differ

abbrev pub number_of : kind.the_data → ℕ
number_of kind.Goto = 0
number_of kind.Return = 1
number_of kind.Element = 2
number_of kind.Method = 3
number_of kind.Table = 4
number_of kind.Place = 5
number_of kind.Assigned = 6
number_of kind.Free = 7
number_of kind.Call = 8

abbrev pub same_kind : kind.the_data → kind.the_data → Bool
same_kind a b = nat_eq (number_of a) (number_of b)

same_refl : (a : kind.the_data) → same_kind a a ≡ true
same_refl kind.Goto = refl
same_refl kind.Return = refl
same_refl kind.Element = refl
same_refl kind.Method = refl
same_refl kind.Table = refl
same_refl kind.Place = refl
same_refl kind.Assigned = refl
same_refl kind.Free = refl
same_refl kind.Call = refl

pub kind_apart : {a b : kind.the_data} → a ≡ b → same_kind a b ≡ false → ⊥
kind_apart {b = b} e d = false≢true (sym d ∙ (ap (λ k. same_kind k b) e ∙ same_refl b))
