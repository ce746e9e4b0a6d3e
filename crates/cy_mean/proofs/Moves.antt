-- Runs of moves.
use Rattle.std.proofs.Common.{◌≡◌, ℕ, zero, suc, ◌+◌, ◌*◌, ◌≤◌, List, refl, ap, ◌∙◌, arith}
use Rattle.thin_state.specs.declared.tree.CFile.{CFile}
use Rattle.thin_state.specs.declared.state.FaultKind.{FaultKind}
use Rattle.thin_state.specs.State.{CState}
use Rattle.thin_state.specs.Statements.{Moved, Went, Over, Faulted}
use Rattle.thin_state.specs.Machine.{move}

-- where some moves lead: a state, where it stays at the end, or a fault
pub data Reached : Type 0 where
  At : CState → Reached
  Bad : FaultKind → Reached

abbrev pub moves : List CFile → ℕ → CState → Reached
moves files zero c = At c
moves files (suc n) c = elim (move files c) [ Went d ↦ moves files n d | Over ↦ At c | Faulted k ↦ Bad k ]

pub moves_on : (files : List CFile) (n : ℕ) (c d : CState) → move files c ≡ Went d → moves files (suc n) c ≡ moves files n d
moves_on files n c d e =
    ap (λ (m : Moved). elim m as (λ v. Reached) [ Went d ↦ moves files n d | Over ↦ At c | Faulted k ↦ Bad k ]) e

-- the files that run, and how many units of the sources' budget one move pays for
pub record Pace : Type 0 where
  pub files : List CFile
  pub weight : ℕ

module _ (pace : Pace) where
  -- the machine comes from c to d; its moves pay for u units
  pub record Comes (u : ℕ) (c d : CState) : Type 0 where
    pub by : (k : ℕ) → (j : ℕ) × (u + pace.weight * k ≤ pace.weight * j) × (moves pace.files j c ≡ moves pace.files k d)

  pub here : (c : CState) → Comes 0 c c
  here c = record { by = λ k. (k, omega arith, refl) }

  pub one : (c d : CState) → move pace.files c ≡ Went d → Comes pace.weight c d
  one c d e = record { by = λ k. (suc k, omega arith, moves_on pace.files k c d e) }

  pub comes_on : (u v : ℕ) (c d e : CState) → Comes u c d → Comes v d e → Comes (u + v) c e
  comes_on u v c d e p q =
      record { by = λ k. let b = q.by k in let a = p.by b.0 in (a.0, omega (arith, a.1, b.1), a.2 ∙ b.2) }

  pub less : (u v : ℕ) (c d : CState) → v ≤ u → Comes u c d → Comes v c d
  less u v c d le p = record { by = λ k. let a = p.by k in (a.0, omega (arith, a.1), a.2) }
