-- The ledger: what each frame owns, what was lent to it, and the loans. The project's own, after the Python/C API manual's rules on references.
use Rattle.std.specs.Prelude.{◌≡◌, ℕ, suc, Bool, true, false, ◌||◌, List, [], ◌∷◌, ◌++◌, ◌-◌, ◌<◌, Option, Some, None, length, take, remove, slice_get, slice_set, unwrap_or, if◌then◌else◌}
use Rattle.api_model.specs.declared.object.Obj.{Obj}
use Rattle.api_model.specs.Objects.{same_obj}

-- ---- lists of objects

-- how many references of an object a list holds
abbrev pub counts : List Obj → Obj → ℕ
counts [] o = 0
counts (x ∷ xs) o = if same_obj x o then suc (counts xs o) else counts xs o

abbrev pub has : List Obj → Obj → Bool
has [] o = false
has (x ∷ xs) o = same_obj x o || has xs o

-- one reference less: the first that is there
abbrev pub lose : List Obj → Obj → List Obj
lose [] o = []
lose (x ∷ xs) o = if same_obj x o then xs else x ∷ lose xs o

-- where the first of some objects is that is the given one
abbrev pub IsPlace : List Obj → Obj → Option ℕ → Type 0
IsPlace os o None = (has os o ≡ false) × (lose os o ≡ os)
IsPlace os o (Some i) = (i < length os) × (has os o ≡ true) × (lose os o ≡ remove os i)

-- ---- one frame

pub record Account : Type 0 where
  pub own : List Obj
  pub lent : List Obj

-- a new frame owns nothing
abbrev pub opened : List Obj → Account
opened lent = record { own = []; lent = lent }

-- one reference more, and one less
abbrev pub more_own : Account → Obj → Account
more_own a o = record a { own = a.own ++ o ∷ [] }

abbrev pub less_own : Account → Obj → Account
less_own a o = record a { own = lose a.own o }

-- ---- all frames, the oldest first, and the loans beside them

pub record Accounts : Type 0 where
  pub frames : List Account
  pub loans : List Obj

abbrev pub empty : Accounts
empty = record { frames = []; loans = [] }

-- a frame by its number
abbrev pub account_at : Accounts → ℕ → Account
account_at l k = unwrap_or (slice_get l.frames k) (opened [])

abbrev pub with_account : Accounts → ℕ → Account → Accounts
with_account l k a = record l { frames = slice_set l.frames k a }

abbrev pub entered : Accounts → List Obj → Accounts
entered l lent = record l { frames = l.frames ++ opened lent ∷ [] }

abbrev pub left : Accounts → Accounts
left l = record l { frames = take (length l.frames - 1) l.frames }

abbrev pub gained : Accounts → ℕ → Obj → Accounts
gained l k o = with_account l k (more_own (account_at l k) o)

abbrev pub lost : Accounts → ℕ → Obj → Accounts
lost l k o = with_account l k (less_own (account_at l k) o)

abbrev pub loaned : Accounts → Obj → Accounts
loaned l o = record l { loans = l.loans ++ o ∷ [] }

abbrev pub without_loans : Accounts → Accounts
without_loans l = record l { loans = [] }
