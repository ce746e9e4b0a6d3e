-- Frames with the newest first, as a machine has them, and how they go together with the numbered ones. The project's own.
use Rattle.std.specs.Prelude.{◌≡◌, ℕ, List, [], ◌∷◌, ◌-◌, length, drop, reverse}
use Rattle.api_model.specs.declared.object.Obj.{Obj}
use Rattle.c_ledger.specs.Ledger.{Account, Accounts, opened, account_at, with_account, entered, left}

-- the frames of a ledger, the newest first
abbrev pub newest_first : Accounts → List Account
newest_first l = reverse l.frames

-- the number of the newest frame
abbrev pub newest : Accounts → ℕ
newest l = length l.frames - 1

-- the newest frame, which owns nothing where there is none
abbrev pub first_account : List Account → Account
first_account [] = opened []
first_account (a ∷ rest) = a

-- another account in place of the newest
abbrev pub with_first : List Account → Account → List Account
with_first [] a = []
with_first (b ∷ rest) a = a ∷ rest

-- What is done to the newest frame is done to the first: a frame entered stands before the others, and leaving drops it.
pub record AreTogether (l : Accounts) : Type 0 where
  pub entered : (lent : List Obj) → newest_first (entered l lent) ≡ opened lent ∷ newest_first l
  pub left : newest_first (left l) ≡ drop 1 (newest_first l)
  pub account : account_at l (newest l) ≡ first_account (newest_first l)
  pub changed : (a : Account) → newest_first (with_account l (newest l) a) ≡ with_first (newest_first l) a
