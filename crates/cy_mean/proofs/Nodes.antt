-- Nodes of the sources that take a unit, and names.
use Rattle.std.proofs.Common.{◌≡◌, ℕ, zero, suc, ◌≤◌, List, Option, Some, refl, sym, subst, arith}
use Rattle.thin_state.specs.declared.space.Obj.{Obj}
use Rattle.thin_state.specs.State.{CState}
use Rattle.cy_mean.specs.Source.{Named}
use Rattle.cy_mean.specs.Meaning.{SourceState, Outcome, unit_then, Awaiter, Local, local_of, local_value, eval}
use Rattle.cy_mean.proofs.Moves.{Pace, here}
use Rattle.cy_mean.proofs.Follows.{Joint, Follows, spent}

module _ (pace : Pace) where
  -- one unit, taken before anything is done
  pub unit_follows : {A J : Type 0} (joint : Joint J) (at : A → J → CState) (ok : A → J → Type 0) (c : CState) (b s s2 : ℕ) (p : SourceState) (k : ℕ → Outcome A) → suc s ≤ s2 → c.world.events ≡ p.world.events → ((b1 : ℕ) → b1 ≤ b → Follows pace joint at ok c b1 s (k b1)) → Follows pace joint at ok c b s2 (unit_then b p k)
  unit_follows joint at ok c zero s s2 p k le ev h = (0, omega arith, c, here pace c, ev)
  unit_follows joint at ok c (suc b) s s2 p k le ev h =
      spent pace joint at ok c (suc b) b s s2 (k b) (omega arith) (omega (arith, le)) (h b (omega arith))

  -- a name whose value is known, where the C does nothing
  pub name_follows : {J : Type 0} (joint : Joint J) (at : J → CState) (await : Awaiter) (locals : List Local) (x : List ℕ) (o : Obj) (b : ℕ) (j : J) → local_of locals x ≡ Some o → (at j).world.events ≡ (joint.state j).world.events → Follows pace joint (λ v i. at i) (λ v i. v ≡ o) (at j) b 1 (eval await locals (Named x) (joint.state j) b)
  name_follows joint at await locals x o b j found ev =
      unit_follows joint (λ v i. at i) (λ v i. v ≡ o) (at j) b 0 1 (joint.state j) (λ b1. local_value await x (local_of locals x) (joint.state j) b1) (omega arith) ev
      (λ b1 le. subst (λ (q : Option Obj). Follows pace joint (λ v i. at i) (λ v i. v ≡ o) (at j) b1 0 (local_value await x q (joint.state j) b1)) (sym found) (0, omega arith, omega arith, j, refl, refl, here pace (at j)))
