-- Files whose runs follow the runs of their sources are sound.
use Rattle.std.proofs.Common.{◌≡◌, ℕ, ◌+◌, ◌*◌, ◌≤◌, ◌<◌, ◌⊎◌, inl, inr, List, sym, ap, ◌∙◌, subst, arith}
use Rattle.std.proofs.Math.Nat.{le_of_mul-le-mul_left}
use Rattle.thin_state.specs.declared.space.Entry.{Entry}
use Rattle.thin_state.specs.declared.space.Event.{Event}
use Rattle.thin_state.specs.declared.state.FaultKind.{FaultKind}
use Rattle.thin_state.specs.State.{CState, linked}
use Rattle.thin_state.specs.Statements.{Over}
use Rattle.thin_state.specs.Machine.{move, c_steps, c_events}
use Rattle.cy_mean.specs.Source.{Sources}
use Rattle.cy_mean.specs.Meaning.{SourceState, Outcome, Value, Raised, Stopped, Out, Back, first_state, state_of, run_within, source_events}
use Rattle.cy_mean.specs.Sound.{Prefix, IsSoundOn}
use Rattle.cy_mean.proofs.Quiet.{IsQuiet, all_quiet}
use Rattle.cy_mean.proofs.Moves.{At, Bad, moves, Pace, Comes}
use Rattle.cy_mean.proofs.TopLevel.{RunFollows}
use Rattle.cy_mean.proofs.Steps.{earlier, no_bad, walk, fault_moves}

-- what one budget tells of the machine's run: it comes to a state with the same events, over or far enough
record Reaches (pace : Pace) (c : CState) (b : ℕ) (es : List Event) : Type 0 where
  count : ℕ
  state : CState
  comes : moves pace.files count c ≡ At state
  events : state.world.events ≡ es
  far : (b ≤ pace.weight * count) ⊎ (move pace.files state ≡ Over)

reached : (pace : Pace) (c d : CState) (u : ℕ) (es : List Event) → Comes pace u c d → d.world.events ≡ es → (b : ℕ) → (b ≤ u) ⊎ (move pace.files d ≡ Over) → Reaches pace c b es
reached pace c d u es co e b h =
    let k = co.by 0 in
    record { count = k.0; state = d; comes = k.2; events = e; far = by_far k.0 k.1 h }
  where
    by_far : (j : ℕ) → u + pace.weight * 0 ≤ pace.weight * j → (b ≤ u) ⊎ (move pace.files d ≡ Over) → (b ≤ pace.weight * j) ⊎ (move pace.files d ≡ Over)
    by_far j le (inl h) = inl (omega (arith, le, h))
    by_far j le (inr o) = inr o

reaches : (pace : Pace) (c : CState) (b : ℕ) (r : Outcome Back) → IsQuiet r → RunFollows pace c b 0 r → Reaches pace c b (state_of r).world.events
reaches pace c b (Value g p left) q h =
    reached pace c h.3.c h.0 p.world.events h.6 (h.5.1 ∙ ap (λ (x : SourceState). x.world.events) (sym h.4)) b (inr h.5.0)
reaches pace c b (Raised e p left) q h = absurd q
reaches pace c b (Stopped p) q h = reached pace c h.0 0 p.world.events h.1 h.3 b (inr h.2)
reaches pace c b (Out p) q h = reached pace c h.2 h.0 p.world.events h.3 h.4 b (inl (omega (arith, h.1)))

module _ (pace : Pace) (set : Sources) (script : List Entry) (pays : 0 < pace.weight) (follows : (m : ℕ) → RunFollows pace (linked pace.files script) m 0 (run_within set script m)) where
  abbrev start : CState
  start = linked pace.files script

  reach : (m : ℕ) → Reaches pace start m (source_events set script m)
  reach m =
      reaches pace start m (run_within set script m) (all_quiet set m set (first_state script) m) (follows m)

  past : (k j : ℕ) (d : CState) → (pace.weight * k ≤ pace.weight * j) ⊎ (move pace.files d ≡ Over) → (k ≤ j) ⊎ (move pace.files d ≡ Over)
  past k j d (inl h) = inl (le_of_mul-le-mul_left h pays)
  past k j d (inr o) = inr o

  fine : (k : ℕ) (f : FaultKind) → moves pace.files k start ≡ Bad f → ⊥
  fine k f e =
      let r = reach (pace.weight * k) in
      no_bad pace.files k r.count start r.state f e r.comes (past k r.count r.state r.far)

  c_first : (n : ℕ) → (m : ℕ) × Prefix (c_events pace.files script n) (source_events set script m)
  c_first n =
      let w = walk pace.files n start fine in
      let m = pace.weight * w.count in
      let r = reach m in
      let p = earlier pace.files w.count r.count start (c_steps pace.files n start) r.state w.comes r.comes (past w.count r.count r.state r.far) in
      (m, subst (λ (es : List Event). Prefix (c_events pace.files script n) es) r.events p)

  source_first : (m : ℕ) → (n : ℕ) × Prefix (source_events set script m) (c_events pace.files script n)
  source_first m =
      let r = reach m in
      let w = walk pace.files r.count start fine in
      let p = earlier pace.files r.count w.count start r.state (c_steps pace.files r.count start) r.comes w.comes w.far in
      (r.count, subst (λ (es : List Event). Prefix es (c_events pace.files script r.count)) r.events p)

  pub sound_on : IsSoundOn set pace.files script
  sound_on = record {
    c_within_source = c_first;
    source_within_c = source_first;
    never_faults = λ n k e. fault_moves pace.files n start k fine e;
  }
