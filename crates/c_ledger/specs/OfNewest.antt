-- The ledger at its newest frame. The project's own, after the Python/C API manual, "Reference Counts".
use Rattle.std.specs.Prelude.{Bool, true, ◌&&◌, ◌||◌, List, [], ◌∷◌, ◌++◌, ◌-◌}
use Rattle.std.specs.List.{list_any}
use Rattle.api_model.specs.declared.object.Obj.{Obj}
use Rattle.c_ledger.specs.Ledger.{Account, Accounts, has, lose, account_at, with_account}
use Rattle.c_ledger.specs.Newest.{newest}

-- references of several objects, one after the other: whether they are all there, and what is left
abbrev pub has_all : List Obj → List Obj → Bool
has_all own [] = true
has_all own (o ∷ os) = has own o && has_all (lose own o) os

abbrev pub lose_all : List Obj → List Obj → List Obj
lose_all own [] = own
lose_all own (o ∷ os) = lose_all (lose own o) os

-- what the newest frame owns, and was lent
abbrev pub owned : Accounts → List Obj
owned l = (account_at l (newest l)).own

abbrev pub lent : Accounts → List Obj
lent l = (account_at l (newest l)).lent

-- what the frame below the newest owns
abbrev pub owned_below : Accounts → List Obj
owned_below l = (account_at l (newest l - 1)).own

-- the ledger where the newest frame owns these references
abbrev pub owning : List Obj → Accounts → Accounts
owning own l = with_account l (newest l) (record (account_at l (newest l)) { own = own })

abbrev pub gain_all : List Obj → Accounts → Accounts
gain_all os l = owning (owned l ++ os) l

abbrev pub loan_all : List Obj → Accounts → Accounts
loan_all os l = record l { loans = l.loans ++ os }

-- whether a frame owns a reference of an object, or was lent it
abbrev pub uses_it : Obj → Account → Bool
uses_it o a = has a.own o || has a.lent o

abbrev pub in_use : List Account → Obj → Bool
in_use accounts o = list_any (uses_it o) accounts
