-- One reader after another: what was read, and what is left.
use Rattle.std.proofs.Common.{◌≡◌, List, ◌++◌, Some, refl, sym, ◌∙◌, append_assoc}
use Rattle.std.specs.Prelude.{Option}
use Rattle.c_token.specs.CTokens.{CToken}
use Rattle.c_input.specs.Reads.{Finds, Reads, ReadsEvery}
use Rattle.c_input.proofs.Rows as rows

pub assoc : (a b c : List CToken) → (a ++ b) ++ c ≡ a ++ (b ++ c)
assoc a b c = append_assoc a b c

pub some_same : {A : Type 0} (x y : A) → Some x ≡ Some y → x ≡ y
some_same x y e = cc

-- what is left behind fixed tokens
pub behind : (fixed old new rest : List CToken) → old ≡ fixed ++ new → old ≡ fixed ++ rest → new ≡ rest
behind fixed old new rest e f = rows.same_left fixed new rest (sym e ∙ f)

pub next : {A : Type 0} (form : A → Type 0) (spell : A → List CToken) (old new : List CToken) (found x : A) (rest : List CToken)
    → Finds form spell old (Some found) new → ReadsEvery form spell old (Some found) → form x → old ≡ spell x ++ rest → rows.IsNext x found new rest
next form spell old new found x rest finds every f e = rows.next form spell old (Some found) new found x rest refl finds every f e

pub next_one : {A : Type 0} (form : A → Type 0) (spell : A → List CToken) (old new : List CToken) (found x : A) (rest : List CToken)
    → Finds form spell old (Some found) new → Some found ≡ Some x → old ≡ spell x ++ rest → rows.IsNext x found new rest
next_one form spell old new found x rest finds is e = rows.next_one form spell old (Some found) new found x rest refl finds is e

pub next_read : {A : Type 0} (form : A → Type 0) (spell : A → List CToken) (old : List CToken) (r : Option A) (new : List CToken) (found x : A) (rest : List CToken)
    → r ≡ Some found → Reads form spell old r new → ReadsEvery form spell old r → form x → old ≡ spell x ++ rest → rows.IsNext x found new rest
next_read form spell old r new found x rest is reads every f e = rows.next form spell old r new found x rest is (rows.finds_of form spell old r new reads) every f e
