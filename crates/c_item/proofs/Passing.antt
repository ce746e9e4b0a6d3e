-- Fixed tokens that are taken in parts.
use Rattle.std.proofs.Common.{◌≡◌, List, ◌++◌, ap, sym, ◌∙◌}
use Rattle.std.specs.Prelude.{◌≢◌, Bool, true, false}
use Rattle.c_token.specs.CTokens.{CToken}
use Rattle.c_input.specs.Reads.{Passes}
use Rattle.c_input.proofs.Rows.{same_left}
use Rattle.c_table.proofs.Steps.{assoc}

-- the first part was taken
pub first_passed : (a b old mid new : List CToken) (r : Bool) → old ≡ a ++ mid → Passes b mid r new → Passes (a ++ b) old r new
first_passed a b old mid new true e p = e ∙ (ap (λ (t : List CToken). a ++ t) p ∙ sym (assoc a b new))
first_passed a b old mid new false e p = λ rest f. p rest (same_left a mid (b ++ rest) (sym e ∙ (f ∙ assoc a b rest)))

-- the first part doesn't stand there
pub first_missed : (a b old new : List CToken) → ((rest : List CToken) → old ≢ a ++ rest) → Passes (a ++ b) old false new
first_missed a b old new h = λ rest f. h (b ++ rest) (f ∙ assoc a b rest)
