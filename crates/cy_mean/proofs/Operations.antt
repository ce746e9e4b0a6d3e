-- Any operation and any call from outside, at any depth.
use Rattle.std.proofs.Common.{◌≡◌, ℕ, zero, suc, ◌≤◌, List, [], ◌∷◌, Option, Some, None, refl, arith}
use Rattle.thin_state.specs.declared.space.Obj.{Obj}
use Rattle.thin_state.specs.declared.space.Callee.{Callee}
use Rattle.thin_state.specs.declared.space.Entry.{Entry}
use Rattle.thin_state.specs.declared.space.Entry.TheVariants as entry
use Rattle.thin_state.specs.declared.space.Op.{Op}
use Rattle.thin_state.specs.declared.space.Answer.{Answer}
use Rattle.thin_state.specs.declared.space.Event.TheVariants as event
use Rattle.thin_state.specs.declared.tree.Variable.{Variable}
use Rattle.thin_state.specs.declared.tree.ApiRow.{ApiRow}
use Rattle.thin_state.specs.declared.tree.CFunction.{CFunction}
use Rattle.thin_state.specs.declared.state.Doing.TheVariants as doing
use Rattle.thin_state.specs.declared.state.Course.TheVariants as course
use Rattle.thin_state.specs.World.{World, say, with_script, answer_in, read_in}
use Rattle.thin_state.specs.State.{Frame, CState}
use Rattle.thin_state.specs.Reads.{Found, FoundFunction, NotFound, entered_by}
use Rattle.thin_state.specs.Statements.{Went, tell, script_to}
use Rattle.thin_state.specs.Outside.{deliver, enter, answered, called}
use Rattle.thin_state.specs.Machine.{move}
use Rattle.cy_mean.specs.Source.{Function, Sources}
use Rattle.cy_mean.specs.Meaning.{ReadyModule, SourceState, Outcome, Out, then_do, Back, leave, call_of, Gives, called_by, calls_or_gives, next_inside, by_next, await_within}
use Rattle.cy_mean.specs.Meaning as meaning
use Rattle.cy_mean.proofs.Moves.{Pace, here, one, less}
use Rattle.cy_mean.proofs.Follows.{Joint, Follows, any_value, moved, then_follows}

-- what stays the same while functions run: the files, the sources, the modules that are ready, and the rest of the C's state
pub record Setting : Type 0 where
  pub pace : Pace
  pub set : Sources
  pub ready : List ReadyModule
  pub base : CState

-- the C's state with this world and these frames
abbrev pub standing : CState → World → List Frame → CState
standing c w fs = record c { world = w; frames = fs; course = course.Goes }

-- a frame that has asked an operation
abbrev pub asking : Frame → Op → ApiRow → Option Variable → Frame
asking f o r x = record f { doing = doing.Asks o r x }

abbrev pub source_at : List ReadyModule → World → SourceState
source_at rs w = record { world = w; ready = rs }

-- the joint states of a setting are the worlds
abbrev pub worlds : Setting → (Obj → World → CState) → Joint World
worlds s raised = record { state = source_at s.ready; raised = raised }

-- an operation that a frame asks, where calls stand up to n deep: the machine follows its meaning to the answer, which is delivered
abbrev pub AskFollows : Setting → ℕ → Type 0
AskFollows s n =
    (w : World) (f : Frame) (fs : List Frame) (o : Op) (r : ApiRow) (x : Option Variable) (b : ℕ) (raised : Obj → World → CState) → b ≤ n → Follows s.pace (worlds s raised) (λ a v. deliver r x a (standing s.base v fs) (asking f o r x) fs) any_value (standing s.base w (asking f o r x ∷ fs)) b 0 (await_within s.set n o (source_at s.ready w) b)

-- a call from outside of a function of the sources, which the C enters at its frame: the machine follows its meaning until it is back
abbrev pub CallFollows : Setting → (n slack : ℕ) → Function → ℕ → CFunction → Type 0
CallFollows s n slack g k fn =
    (callee : Callee) (args : List Obj) (w : World) (fs : List Frame) (raised : Obj → World → CState) (b : ℕ) → b ≤ n → Follows s.pace (worlds s raised) (λ (e : Back) v. standing s.base v fs) any_value (enter (standing s.base w fs) fs callee args k fn) b slack (leave (call_of (await_within s.set n) g args (source_at s.ready (say (event.Enter callee args) w)) b))

-- what the sources and the C call by one name, each by its own tables: the same function, which does what it means where its operations do; or none
abbrev pub Realised : Setting → Option Function → Found → Type 0
Realised s None NotFound = Unit {0}
Realised s (Some g) (FoundFunction k fn) =
    (slack : ℕ) × (suc slack ≤ s.pace.weight) × ((n : ℕ) → AskFollows s n → CallFollows s n slack g k fn)
Realised s None (FoundFunction k fn) = ⊥
Realised s (Some g) NotFound = ⊥

abbrev pub AllRealised : Setting → Type 0
AllRealised s = (callee : Callee) → Realised s (called_by s.set s.ready callee) (entered_by s.pace.files s.base.places callee)

module _ (s : Setting) (f : Frame) (fs : List Frame) (o : Op) (r : ApiRow) (x : Option Variable) (b : ℕ) (raised : Obj → World → CState) where
  abbrev asked : World → CState
  asked w = standing s.base w (asking f o r x ∷ fs)

  -- the state without the frame that asked
  abbrev under : World → CState
  under w = standing s.base w fs

  abbrev delivered : Answer → World → CState
  delivered a w = deliver r x a (under w) (asking f o r x) fs

  abbrev AnswerFollows : CState → Outcome Answer → Type 0
  AnswerFollows c result = Follows s.pace (worlds s raised) delivered any_value c b 0 result

  module _ (go : Callee → Function → List Obj → SourceState → Outcome Answer) where
    -- what the meaning does with a call, where the machine enters it
    abbrev Serves : Option Function → Found → Type 0
    Serves None NotFound = Unit {0}
    Serves (Some g) (FoundFunction k fn) =
        (callee : Callee) (args : List Obj) (w : World) (c : CState) → move s.pace.files c ≡ Went (enter (asked w) (asking f o r x ∷ fs) callee args k fn) → c.world.events ≡ w.events → AnswerFollows c (go callee g args (source_at s.ready w))
    Serves None (FoundFunction k fn) = ⊥
    Serves (Some g) NotFound = ⊥

    gives_answer : (e : Entry) (w : World) (p : SourceState) (c : CState) → move s.pace.files c ≡ Went (answered (under w) (asking f o r x) fs o r x e) → AnswerFollows c (by_next (Gives e (source_at s.ready w)) o p b go)
    gives_answer e w p c m =
        (s.pace.weight, omega arith, omega arith, say (event.Answer (answer_in w o e)) w, refl, tt, one s.pace c (answered (under w) (asking f o r x) fs o r x e) m)

    call_case : (g : Option Function) (found : Found) (callee : Callee) (args : List Obj) (w : World) (p : SourceState) (c : CState) → Serves g found → move s.pace.files c ≡ Went (called (under w) (asking f o r x) fs o r x callee args found) → c.world.events ≡ w.events → AnswerFollows c (by_next (calls_or_gives g callee args (source_at s.ready w)) o p b go)
    call_case None NotFound callee args w p c h m ev = gives_answer (entry.Enter callee args) w p c m
    call_case (Some g) (FoundFunction k fn) callee args w p c h m ev = h callee (read_in w args) w c m ev
    call_case None (FoundFunction k fn) callee args w p c h m ev = absurd h
    call_case (Some g) NotFound callee args w p c h m ev = absurd h

    ask_runs : ((callee : Callee) → Serves (called_by s.set s.ready callee) (entered_by s.pace.files s.base.places callee)) → (es : List Entry) (w : World) → AnswerFollows (asked (with_script es w)) (by_next (next_inside s.set es (source_at s.ready w)) o (source_at s.ready w) b go)
    ask_runs serves [] w =
        let c = asked (with_script [] w) in
        let d = tell event.Stop (script_to [] (record c { course = course.Stopped })) in
        (d, less s.pace s.pace.weight 0 c d (omega arith) (one s.pace c d refl), refl, refl)
    ask_runs serves (entry.Die k ∷ es) w =
        moved s.pace (worlds s raised) delivered any_value (asked (with_script (entry.Die k ∷ es) w)) (asked (with_script es w)) b b 0 0 (by_next (next_inside s.set es (source_at s.ready w)) o (source_at s.ready w) b go) refl (omega arith) (omega arith) (ask_runs serves es w)
    ask_runs serves (entry.Enter callee args ∷ es) w =
        let w0 = with_script (entry.Enter callee args ∷ es) w in
        call_case (called_by s.set s.ready callee) (entered_by s.pace.files s.base.places callee) callee args (with_script es w) (source_at s.ready w) (asked w0) (serves callee) refl refl
    ask_runs serves (e ∷ es) w =
        gives_answer e (with_script es w) (source_at s.ready w) (asked (with_script (e ∷ es) w)) refl

  -- a call that the budget has no unit for
  no_unit : b ≤ 0 → (g : Option Function) (found : Found) → Realised s g found → Serves (λ callee h args p. Out p) g found
  no_unit le None NotFound h = tt
  no_unit le (Some g) (FoundFunction k fn) h = λ callee args w c m ev. (0, omega (arith, le), c, here s.pace c, ev)
  no_unit le None (FoundFunction k fn) h = h
  no_unit le (Some g) NotFound h = h

  abbrev again : ℕ → Callee → Function → List Obj → SourceState → Outcome Answer
  again n callee g args p =
      then_do (meaning.enter (await_within s.set n) callee g args p b) (λ (e : Back) p2 b2. await_within s.set n o p2 b2)

module _ (s : Setting) where
  -- a call inside an operation, and the operation again
  call_then : (n : ℕ) → AskFollows s n → (f : Frame) (fs : List Frame) (o : Op) (r : ApiRow) (x : Option Variable) (b : ℕ) (raised : Obj → World → CState) → b ≤ suc n → (slack k : ℕ) (g : Function) (fn : CFunction) → suc slack ≤ s.pace.weight → CallFollows s n slack g k fn → (callee : Callee) (args : List Obj) (w : World) (c : CState) → move s.pace.files c ≡ Went (enter (asked s f fs o r x b raised w) (asking f o r x ∷ fs) callee args k fn) → c.world.events ≡ w.events → AnswerFollows s f fs o r x b raised c (again s f fs o r x b raised n callee g args (source_at s.ready w))
  call_then n asks f fs o r x zero raised le slack k g fn pays follows callee args w c m ev =
      (0, omega arith, c, here s.pace c, ev)
  call_then n asks f fs o r x (suc b) raised le slack k g fn pays follows callee args w c m ev =
      let top = asking f o r x ∷ fs in
      let joint = worlds s raised in
      let at = λ (a : Answer) (v : World). deliver r x a (standing s.base v fs) (asking f o r x) fs in
      let c1 = enter (standing s.base w top) top callee args k fn in
      let run = leave (call_of (await_within s.set n) g args (source_at s.ready (say (event.Enter callee args) w)) b) in
      let go_on = λ (e : Back) (p2 : SourceState) (b2 : ℕ). await_within s.set n o p2 b2 in
      moved s.pace joint at any_value c c1 (suc b) b slack 0 (then_do run go_on) m (omega arith) (omega (arith, pays))
      (then_follows s.pace joint (λ (e : Back) v. standing s.base v top) any_value at any_value c1 b slack 0 slack run go_on (omega arith)
      (follows callee args w top raised b (omega (arith, le)))
      (λ e v left u le2. asks v f fs o r x left raised (omega (arith, le, le2))))

  serves_again : (n : ℕ) → AskFollows s n → (f : Frame) (fs : List Frame) (o : Op) (r : ApiRow) (x : Option Variable) (b : ℕ) (raised : Obj → World → CState) → b ≤ suc n → (g : Option Function) (found : Found) → Realised s g found → Serves s f fs o r x b raised (again s f fs o r x b raised n) g found
  serves_again n asks f fs o r x b raised le None NotFound h = tt
  serves_again n asks f fs o r x b raised le (Some g) (FoundFunction k fn) h =
      λ callee args w c m ev. call_then n asks f fs o r x b raised le h.0 k g fn h.1 (h.2 n asks) callee args w c m ev
  serves_again n asks f fs o r x b raised le None (FoundFunction k fn) h = h
  serves_again n asks f fs o r x b raised le (Some g) NotFound h = h

  -- where all functions do what they mean, all operations do, at any depth
  pub asks_follow : AllRealised s → (n : ℕ) → AskFollows s n
  asks_follow all zero w f fs o r x b raised le =
      ask_runs s f fs o r x b raised (λ callee g args p. Out p) (λ callee. no_unit s f fs o r x b raised le (called_by s.set s.ready callee) (entered_by s.pace.files s.base.places callee) (all callee)) w.script w
  asks_follow all (suc n) w f fs o r x b raised le =
      ask_runs s f fs o r x b raised (again s f fs o r x b raised n) (λ callee. serves_again n (asks_follow all n) f fs o r x b raised le (called_by s.set s.ready callee) (entered_by s.pace.files s.base.places callee) (all callee)) w.script w
