-- The ledger: what each frame owns, what was lent to it, and the loans. The project's own, after the Python/C API manual's rules on references.
use Rattle.std.specs.Prelude.{◌≡◌, ℕ, true, false, List, [], ◌∷◌, ◌++◌, ◌-◌, ◌<◌, Option, Some, None, length, take, remove, slice_get, slice_set, unwrap_or}
use Rattle.thin_state.specs.declared.space.Obj.{Obj}
use Rattle.thin_state.specs.State.{has, lose}

pub record Holding : Type 0 where
  pub own : List Obj
  pub lent : List Obj

-- the frames, the oldest first
pub record Holdings : Type 0 where
  pub frames : List Holding
  pub loans : List Obj

abbrev pub empty : Holdings
empty = record { frames = []; loans = [] }

-- a frame by its number
abbrev pub holding_at : Holdings → ℕ → Holding
holding_at l k = unwrap_or (slice_get l.frames k) (record { own = []; lent = [] })

abbrev pub with_holding : Holdings → ℕ → Holding → Holdings
with_holding l k h = record l { frames = slice_set l.frames k h }

-- a new frame owns nothing
abbrev pub entered : Holdings → List Obj → Holdings
entered l lent = record l { frames = l.frames ++ record { own = []; lent = lent } ∷ [] }

abbrev pub left : Holdings → Holdings
left l = record l { frames = take (length l.frames - 1) l.frames }

-- one reference more, and one less: the first that is there
abbrev pub more_own : Holding → Obj → Holding
more_own h o = record h { own = h.own ++ o ∷ [] }

abbrev pub less_own : Holding → Obj → Holding
less_own h o = record h { own = lose h.own o }

abbrev pub gained : Holdings → ℕ → Obj → Holdings
gained l k o = with_holding l k (more_own (holding_at l k) o)

abbrev pub lost : Holdings → ℕ → Obj → Holdings
lost l k o = with_holding l k (less_own (holding_at l k) o)

-- where the first of some objects is that is the given one
abbrev pub IsPlace : List Obj → Obj → Option ℕ → Type 0
IsPlace os o None = (has os o ≡ false) × (lose os o ≡ os)
IsPlace os o (Some i) = (i < length os) × (has os o ≡ true) × (lose os o ≡ remove os i)
