-- The entries at top level, and what a whole run is followed by.
use Rattle.std.proofs.Common.{◌≡◌, ℕ, zero, suc, ◌≤◌, List, [], ◌∷◌, Option, Some, None, refl, ap, arith}
use Rattle.thin_state.specs.declared.space.Obj.{Obj}
use Rattle.thin_state.specs.declared.space.Callee.{Callee}
use Rattle.thin_state.specs.declared.space.Entry.{Entry}
use Rattle.thin_state.specs.declared.space.Entry.TheVariants as entry
use Rattle.thin_state.specs.declared.space.Event.TheVariants as event
use Rattle.thin_state.specs.declared.tree.CFunction.{CFunction}
use Rattle.thin_state.specs.declared.state.Course.TheVariants as course
use Rattle.thin_state.specs.World.{World, say, with_script, read_in}
use Rattle.thin_state.specs.State.{CState}
use Rattle.thin_state.specs.Reads.{Found, FoundFunction, NotFound, entered_by, initializer_from}
use Rattle.thin_state.specs.Statements.{Went, Over}
use Rattle.thin_state.specs.Outside.{enter, top, top_called, begin}
use Rattle.thin_state.specs.Machine.{move}
use Rattle.cy_mean.specs.Source.{Function}
use Rattle.cy_mean.specs.Meaning.{SourceState, Outcome, Out, then_do, Back, leave, call_of, called_by, calls_or_skips, next_top, by_next_top, await_within, top_within}
use Rattle.cy_mean.specs.Meaning as meaning
use Rattle.cy_mean.proofs.Moves.{Pace, here, one}
use Rattle.cy_mean.proofs.Follows.{Joint, Follows, any_value, moved, then_into}
use Rattle.cy_mean.proofs.Operations.{Setting, standing, source_at, worlds, CallFollows, Realised, AllRealised, asks_follow}

-- a state of the C and one of the meaning
pub record Both : Type 0 where
  pub c : CState
  pub source : SourceState

abbrev pub c_of : {A : Type 0} → A → Both → CState
c_of a j = j.c

abbrev pub both : Joint Both
both = record { state = λ j. j.source; raised = c_of }

-- the run is over, with the same events
abbrev pub is_over : Pace → Back → Both → Type 0
is_over pace e j = (move pace.files j.c ≡ Over) × (j.c.world.events ≡ j.source.world.events)

-- the machine follows a whole run to its end
abbrev pub RunFollows : Pace → CState → (b slack : ℕ) → Outcome Back → Type 0
RunFollows pace c b slack result = Follows pace both c_of (is_over pace) c b slack result

module _ (s : Setting) (all : AllRealised s) (begun : initializer_from s.base.begun s.pace.files ≡ NotFound) where
  abbrev idle : World → CState
  idle w = standing s.base w []

  -- the next move takes an entry
  takes : (w : World) → move s.pace.files (idle w) ≡ Went (top s.pace.files (idle w) w.script)
  takes w = ap (λ (found : Found). Went (begin s.pace.files (idle w) found)) begun

  abbrev go_on : ℕ → Back → SourceState → ℕ → Outcome Back
  go_on n e p b = top_within s.set n p b

  -- what is done with a call, where the machine takes it
  abbrev Goes : ℕ → (Callee → Function → List Obj → SourceState → Outcome Back) → Option Function → Found → Type 0
  Goes b go None NotFound = Unit {0}
  Goes b go (Some g) (FoundFunction k fn) =
      (callee : Callee) (args : List Obj) (w : World) (c : CState) → move s.pace.files c ≡ Went (enter (idle w) [] callee args k fn) → c.world.events ≡ w.events → RunFollows s.pace c b 0 (go callee g args (source_at s.ready w))
  Goes b go None (FoundFunction k fn) = ⊥
  Goes b go (Some g) NotFound = ⊥

  call_case : (b : ℕ) (go : Callee → Function → List Obj → SourceState → Outcome Back) (g : Option Function) (found : Found) (callee : Callee) (args : List Obj) (w : World) (c : CState) (rest : meaning.Next) (p : SourceState) → Goes b go g found → move s.pace.files c ≡ Went (top_called (idle w) callee args found) → c.world.events ≡ w.events → RunFollows s.pace (idle w) b 0 (by_next_top rest p b go) → RunFollows s.pace c b 0 (by_next_top (calls_or_skips g callee args (source_at s.ready w) rest) p b go)
  call_case b go None NotFound callee args w c rest p h m ev more =
      moved s.pace both c_of (is_over s.pace) c (idle w) b b 0 0 (by_next_top rest p b go) m (omega arith) (omega arith) more
  call_case b go (Some g) (FoundFunction k fn) callee args w c rest p h m ev more = h callee (read_in w args) w c m ev
  call_case b go None (FoundFunction k fn) callee args w c rest p h m ev more = absurd h
  call_case b go (Some g) NotFound callee args w c rest p h m ev more = absurd h

  top_runs : (b : ℕ) (go : Callee → Function → List Obj → SourceState → Outcome Back) → ((callee : Callee) → Goes b go (called_by s.set s.ready callee) (entered_by s.pace.files s.base.places callee)) → (es : List Entry) (w : World) → RunFollows s.pace (idle (with_script es w)) b 0 (by_next_top (next_top s.set es (source_at s.ready w)) (source_at s.ready w) b go)
  top_runs b go goes [] w =
      let c = idle (with_script [] w) in
      let w1 = say event.End (with_script [] w) in
      let d = record (idle w1) { course = course.Ended } in
      (s.pace.weight, omega arith, omega arith, record { c = d; source = source_at s.ready w1 }, refl, (refl, refl), one s.pace c d (takes (with_script [] w)))
  top_runs b go goes (entry.Enter callee args ∷ es) w =
      let w0 = with_script (entry.Enter callee args ∷ es) w in
      call_case b go (called_by s.set s.ready callee) (entered_by s.pace.files s.base.places callee) callee args (with_script es w) (idle w0) (next_top s.set es (source_at s.ready w)) (source_at s.ready w) (goes callee) (takes w0) refl (top_runs b go goes es w)
  top_runs b go goes (e ∷ es) w =
      let c = idle (with_script (e ∷ es) w) in
      moved s.pace both c_of (is_over s.pace) c (idle (with_script es w)) b b 0 0 (by_next_top (next_top s.set es (source_at s.ready w)) (source_at s.ready w) b go) (takes (with_script (e ∷ es) w)) (omega arith) (omega arith) (top_runs b go goes es w)

  no_unit : (b : ℕ) → b ≤ 0 → (g : Option Function) (found : Found) → Realised s g found → Goes b (λ callee h args p. Out p) g found
  no_unit b le None NotFound h = tt
  no_unit b le (Some g) (FoundFunction k fn) h = λ callee args w c m ev. (0, omega (arith, le), c, here s.pace c, ev)
  no_unit b le None (FoundFunction k fn) h = h
  no_unit b le (Some g) NotFound h = h

  abbrev then_top : ℕ → ℕ → Callee → Function → List Obj → SourceState → Outcome Back
  then_top n b callee g args p = then_do (meaning.enter (await_within s.set n) callee g args p b) (go_on n)

  call_on : (n : ℕ) → ((w : World) (b : ℕ) → b ≤ n → RunFollows s.pace (idle w) b 0 (top_within s.set n (source_at s.ready w) b)) → (b : ℕ) → b ≤ suc n → (slack k : ℕ) (g : Function) (fn : CFunction) → suc slack ≤ s.pace.weight → CallFollows s n slack g k fn → (callee : Callee) (args : List Obj) (w : World) (c : CState) → move s.pace.files c ≡ Went (enter (idle w) [] callee args k fn) → c.world.events ≡ w.events → RunFollows s.pace c b 0 (then_top n b callee g args (source_at s.ready w))
  call_on n more zero le slack k g fn pays follows callee args w c m ev = (0, omega arith, c, here s.pace c, ev)
  call_on n more (suc b) le slack k g fn pays follows callee args w c m ev =
      let c1 = enter (idle w) [] callee args k fn in
      let run = leave (call_of (await_within s.set n) g args (source_at s.ready (say (event.Enter callee args) w)) b) in
      let raised = λ (e : Obj) (v : World). idle v in
      moved s.pace both c_of (is_over s.pace) c c1 (suc b) b slack 0 (then_do run (go_on n)) m (omega arith) (omega (arith, pays))
      (then_into s.pace (worlds s raised) (λ (e : Back) v. idle v) any_value both c_of (is_over s.pace) c1 b slack 0 slack run (go_on n) (omega arith)
      (follows callee args w [] raised b (omega (arith, le)))
      (λ e v left u le2. more v left (omega (arith, le, le2)))
      (λ e v left le2. (0, omega arith, omega arith, record { c = idle v; source = source_at s.ready v }, refl, here s.pace (idle v))))

  goes_on : (n : ℕ) → ((w : World) (b : ℕ) → b ≤ n → RunFollows s.pace (idle w) b 0 (top_within s.set n (source_at s.ready w) b)) → (b : ℕ) → b ≤ suc n → (g : Option Function) (found : Found) → Realised s g found → Goes b (then_top n b) g found
  goes_on n more b le None NotFound h = tt
  goes_on n more b le (Some g) (FoundFunction k fn) h =
      λ callee args w c m ev. call_on n more b le h.0 k g fn h.1 (h.2 n (asks_follow s all n)) callee args w c m ev
  goes_on n more b le None (FoundFunction k fn) h = h
  goes_on n more b le (Some g) NotFound h = h

  -- once all initialisations have begun, the machine follows the entries at top level to the end of the run
  pub top_follows : (n : ℕ) (w : World) (b : ℕ) → b ≤ n → RunFollows s.pace (idle w) b 0 (top_within s.set n (source_at s.ready w) b)
  top_follows zero w b le =
      top_runs b (λ callee g args p. Out p) (λ callee. no_unit b le (called_by s.set s.ready callee) (entered_by s.pace.files s.base.places callee) (all callee)) w.script w
  top_follows (suc n) w b le =
      top_runs b (then_top n b) (λ callee. goes_on n (λ v left le2. top_follows n v left le2) b le (called_by s.set s.ready callee) (entered_by s.pace.files s.base.places callee) (all callee)) w.script w
