-- A step is what is decided, and then what is changed.
use Rattle.std.proofs.Common.{◌≡◌, suc, List, [], ◌∷◌, ◌++◌, Bool, ℕ, true, false, not, Option, Some, None, IsTrue, refl, sym, ap, ◌∙◌, drop, subst, length, if◌then◌else◌}
use Rattle.thin_state.specs.declared.space.Entry.{Entry}
use Rattle.thin_state.specs.declared.space.Entry.TheVariants as entry
use Rattle.thin_state.specs.declared.space.Event.{Event}
use Rattle.thin_state.specs.declared.space.Event.TheVariants as event
use Rattle.thin_state.specs.declared.space.Callee.{Callee}
use Rattle.thin_state.specs.declared.space.Obj.{Obj}
use Rattle.thin_state.specs.declared.tree.Line.{Line}
use Rattle.thin_state.specs.declared.tree.Line.TheVariants as line
use Rattle.thin_state.specs.declared.tree.CStmt.{CStmt}
use Rattle.thin_state.specs.declared.tree.CFunction.{CFunction}
use Rattle.thin_state.specs.declared.tree.CFile.{CFile}
use Rattle.thin_state.specs.declared.state.FaultKind.{FaultKind}
use Rattle.thin_state.specs.declared.state.Step.TheVariants as step
use Rattle.thin_state.specs.declared.state.Doing.{Doing}
use Rattle.thin_state.specs.declared.state.Doing.TheVariants as doing
use Rattle.thin_state.specs.declared.state.Course.{Course}
use Rattle.thin_state.specs.declared.state.Course.TheVariants as course
use Rattle.thin_state.specs.Objects.{read_objs}
use Rattle.thin_state.specs.State.{Frame, CState}
use Rattle.thin_state.specs.Statements.{Went, Over, Faulted, act, run_line}
use Rattle.thin_state.specs.Machine.{by_frame, by_frames, by_course, move, is_asking, none_runs, outside_by, outside, settle, over_answer, stepped, c_step}
use Rattle.thin_look.specs.declared.parts.Standing.{Standing}
use Rattle.thin_look.specs.declared.parts.Activation.{Activation}
use Rattle.thin_plan.specs.declared.effects.Effect.{Effect}
use Rattle.thin_plan.specs.declared.effects.Effect.TheVariants as effect
use Rattle.thin_turn.specs.declared.parts.Turn.{Turn}
use Rattle.thin_turn.specs.declared.parts.Turn.TheVariants as turn
use Rattle.thin_look.specs.Views.{function_at, function_there, found_at, found_with, frame_view, frames_view}
use Rattle.thin_look.specs.Lookups.{standing_entered, standing_next}
use Rattle.thin_tables.specs.Lines.{Next, Lines, NoLine, next_line}
use Rattle.thin_plan.specs.Plans.{Scene, plan}
use Rattle.thin_plan.specs.Effects.{effected}
use Rattle.thin_turn.specs.Turned.{turned}
use Rattle.thin_turn.specs.Turns.{Stage, Go, is_found, fitting, enter_else, enter_or, top_turn, begin_there, begin_at, idle_go, effect_go}
use Rattle.thin_apply.specs.Applied.{Parts, Fixed, applied, effect_events, moved_on, turn_events, last_of, seen, NoFault}
use Rattle.thin_plan.specs.Running.{next_effect, lines_after, next_here, doing_effect, effect_here}
use Rattle.thin_mach.specs.Deciding.{scene_at, stage_at, rests, is_resting, finished, finished_events, started, Starts, IsDecided, IsFirst, Ends, IsStep}
use Rattle.thin_plan.proofs.Planned.{IsBelow, planned}
use Rattle.thin_turn.proofs.Settled.{calm, idle-settled, failed-settled, effect-settled, runs-calm}
use Rattle.thin_turn.proofs.Calm.{settled_calm}
use Rattle.thin_apply.proofs.Seen.{view-above, last-split, last-none, effect-seen}
use Rattle.thin_apply.proofs.Puts.{last_of-snoc}
use Rattle.thin_apply.proofs.Stepped.{turn-seen, plan-hands, is-done, NoHand}

-- the frame below is that of the caller
below-is : (files : List CFile) (xs : List Activation) (o : Option Activation) → last_of xs ≡ o → IsBelow files o (frames_view files xs)
below-is files xs None e = ap (frames_view files) (last-none xs e)
below-is files xs (Some g) e = let s = last-split xs g e in (frames_view files s.front, ap (frames_view files) s.is ∙ view-above files s.front g)

-- the next line
next-act : (files : List CFile) (c : CState) (f : Frame) (fs : List Frame) (s : Scene) (ls : List Line)
    → ((st : CStmt) (rest : List Line) → act files c (record f { code = rest }) fs st ≡ effected files c (record f { code = rest }) fs (plan s st))
    → run_line files c f fs ls ≡ effected files c (record f { code = lines_after (next_line ls) }) fs (next_effect s (next_line ls))
next-act files c f fs s [] h = refl
next-act files c f fs s (line.Label l ∷ ls) h = next-act files c f fs s ls h
next-act files c f fs s (line.Statement st ∷ ls) h = h st ls

-- the parts without the newest frame
abbrev pub without : Parts → List Activation → Parts
without p below = record p { frames = below }

abbrev pub at_next : Activation → ℕ → Activation
at_next a i = record a { line = i }

-- a move of a frame that doesn't ask
run-is : (x : Fixed) (p : Parts) (script : List Entry) (ev : List Event) (below : List Activation) (top : Activation) (d : Doing)
    → p.frames ≡ below ++ top ∷ [] → p.course ≡ course.Goes → top.doing ≡ d
    → move x.files (seen x p script ev) ≡ by_frame x.files (seen x (without p below) script ev) (frame_view x.files top) (frames_view x.files below) d
run-is x p script ev below top d e g q =
    ap (by_course x.files (seen x p script ev)) g
    ∙ (ap (by_frames x.files (seen x p script ev)) (ap (frames_view x.files) e ∙ view-above x.files below top)
    ∙ ap (by_frame x.files (seen x (without p below) script ev) (frame_view x.files top) (frames_view x.files below)) q)

planned-here : (x : Fixed) (p : Parts) (script : List Entry) (ev : List Event) (top : Activation) (st : CStmt) (rest : List Line)
    → act x.files (seen x p script ev) (record (frame_view x.files top) { code = rest }) (frames_view x.files p.frames) st
    ≡ effected x.files (seen x p script ev) (record (frame_view x.files top) { code = rest }) (frames_view x.files p.frames) (plan (scene_at x p top) st)
planned-here x p script ev top st rest =
    sym (planned x.files (seen x p script ev) p.loans top rest (last_of p.frames) (frames_view x.files p.frames) st refl (below-is x.files p.frames (last_of p.frames) refl))

moved-by : (x : Fixed) (p : Parts) (script : List Entry) (ev : List Event) (below : List Activation) (top : Activation) (i : ℕ) (d : Doing)
    → p.frames ≡ below ++ top ∷ [] → p.course ≡ course.Goes → top.doing ≡ d → is_asking d ≡ false
    → drop i (function_at x.files top.file top.item).lines ≡ lines_after (next_here (scene_at x (without p below) top))
    → move x.files (seen x p script ev)
    ≡ effected x.files (seen x (without p below) script ev) (frame_view x.files (at_next top i)) (frames_view x.files below) (doing_effect (scene_at x (without p below) top) d)
moved-by x p script ev below top i (doing.Asks o r y) e g q a l = cc a
moved-by x p script ev below top i (doing.Waits y) e g q a l = run-is x p script ev below top (doing.Waits y) e g q
moved-by x p script ev below top i doing.Runs e g q a l =
    run-is x p script ev below top doing.Runs e g q
    ∙ (next-act x.files (seen x (without p below) script ev) (frame_view x.files top) (frames_view x.files below) (scene_at x (without p below) top)
    (drop top.line (function_at x.files top.file top.item).lines) (planned-here x (without p below) script ev top)
    ∙ ap (λ ls. effected x.files (seen x (without p below) script ev) (record (frame_view x.files top) { code = ls }) (frames_view x.files below)
    (next_effect (scene_at x (without p below) top) (next_here (scene_at x (without p below) top)))) (sym l))

-- what is decided for the newest frame of the parts
pub record Decides (x : Fixed) (p : Parts) (script : List Entry) (below : List Activation) (top : Activation) (i : ℕ) (e : Effect) (n : ℕ) (t : Turn) : Type 0 where
  pub frames : p.frames ≡ below ++ top ∷ []
  pub goes : p.course ≡ course.Goes
  pub asks : is_asking top.doing ≡ false
  pub lines : drop i (function_at x.files top.file top.item).lines ≡ lines_after (next_here (scene_at x (without p below) top))
  pub effect : e ≡ effect_here (scene_at x (without p below) top)
  pub turn : record { turn = t; rest = drop n script } ≡ effect_go (stage_at x p) top.own (last_of below) (drop p.taken script) e

pub decided-move : (x : Fixed) (p : Parts) (script : List Entry) (ev : List Event) (below : List Activation) (top : Activation) (i : ℕ) (e : Effect) (n : ℕ) (t : Turn)
    → Decides x p script below top i e n t
    → move x.files (seen x p script ev) ≡ effected x.files (seen x (without p below) script ev) (frame_view x.files (at_next top i)) (frames_view x.files below) e
decided-move x p script ev below top i e n t d =
    moved-by x p script ev below top i top.doing d.frames d.goes refl d.asks d.lines
    ∙ ap (effected x.files (seen x (without p below) script ev) (frame_view x.files (at_next top i)) (frames_view x.files below)) (sym d.effect)

-- the newest frame runs where its effect is no fault
runs-of : (s : Scene) (d : Doing) → NoFault (doing_effect s d) → d ≡ doing.Runs
runs-of s doing.Runs h = refl
runs-of s (doing.Waits x) h = absurd h
runs-of s (doing.Asks o r x) h = absurd h

next-hands : (s : Scene) (q : Next) → s.caller ≡ None → NoHand (next_effect s q)
next-hands s NoLine e = tt
next-hands s (Lines st ls) e = plan-hands s st e

doing-hands : (s : Scene) (d : Doing) → s.caller ≡ None → NoHand (doing_effect s d)
doing-hands s doing.Runs e = next-hands s (next_here s) e
doing-hands s (doing.Waits x) e = tt
doing-hands s (doing.Asks o r x) e = tt

-- the parts after a step
abbrev pub parts_after : Parts → List Activation → Activation → ℕ → Effect → ℕ → Turn → Parts
parts_after p below top i e n t = moved_on n t (applied (without p below) (at_next top i) e)

abbrev pub events_after : List Event → Effect → Turn → List Event
events_after ev e t = (ev ++ effect_events e) ++ turn_events t

-- where it is no fault, the move and what settling makes of it
pub record Goes (x : Fixed) (p : Parts) (script : List Entry) (ev : List Event) (q : Parts) (ew : List Event) : Type 0 where
  pub between : CState
  pub moves : move x.files (seen x p script ev) ≡ Went between
  pub settles : settle x.files between ≡ seen x q script ew

pub decided-goes : (x : Fixed) (p : Parts) (script : List Entry) (ev : List Event) (below : List Activation) (top : Activation) (i : ℕ) (e : Effect) (n : ℕ) (t : Turn)
    → Decides x p script below top i e n t → NoFault e → Goes x p script ev (parts_after p below top i e n t) (events_after ev e t)
decided-goes x p script ev below top i e n t d f =
    let s = scene_at x (without p below) top in
    let q = applied (without p below) (at_next top i) e in
    let c = seen x (without p below) script ev in
    let d1 = seen x q script (ev ++ effect_events e) in
    let r : top.doing ≡ doing.Runs = runs-of s top.doing (subst NoFault d.effect f) in
    let done = is-done (last_of below) e f (λ h. subst NoHand (sym d.effect) (doing-hands s top.doing h)) in
    let went : effected x.files c (frame_view x.files (at_next top i)) (frames_view x.files below) e ≡ Went d1 = effect-seen x (without p below) (at_next top i) e script ev done in
    record {
      between = d1;
      moves = decided-move x p script ev below top i e n t d ∙ went;
      settles =
          effect-settled x.files c d1 (frame_view x.files (at_next top i)) (frames_view x.files below) (last_of below) e d.goes r (below-is x.files below (last_of below) refl) went
          ∙ (ap (λ (g : Go). turned x.files g.rest d1 g.turn) (sym d.turn)
          ∙ turn-seen x q n t script (ev ++ effect_events e));
    }

-- steps after settling
pub faulting : (files : List CFile) (c d : CState) (k : FaultKind) → settle files c ≡ d → move files d ≡ Faulted k → c_step files c ≡ record { answer = step.Fault k; state = c }
faulting files c d k s m = ap (λ y. stepped files c (move files y)) s ∙ ap (stepped files c) m

pub going : (files : List CFile) (c d between t : CState) → settle files c ≡ d → move files d ≡ Went between → settle files between ≡ t → c_step files c ≡ record { answer = step.Went; state = t }
going files c d between t s m w = ap (λ y. stepped files c (move files y)) s ∙ (ap (stepped files c) m ∙ ap (λ y. record { answer = step.Went; state = y }) w)

pub ending : (files : List CFile) (c d : CState) → settle files c ≡ d → move files d ≡ Over → c_step files c ≡ record { answer = over_answer d.course; state = d }
ending files c d s m =
    ap (λ y. stepped files c (move files y)) s ∙ (ap (stepped files c) m ∙ ap (λ (y : CState). record { answer = over_answer y.course; state = y }) s)

-- the newest frame asks nothing where it isn't the outside's turn
pub resting-is : (x : Fixed) (p : Parts) (script : List Entry) (ev : List Event) → outside (seen x p script ev) ≡ false → IsTrue (is_resting p.course (last_of p.frames))
resting-is x p script ev o = by_course_is p.course refl
  where
    by_frame_is : (q : Bool) → q ≡ false → IsTrue (not q)
    by_frame_is true e = cc
    by_frame_is false e = refl

    by_last : (a : Option Activation) → last_of p.frames ≡ a → none_runs (frames_view x.files p.frames) ≡ false → IsTrue (rests a)
    by_last None e h = refl
    by_last (Some g) e h =
        let b = below-is x.files p.frames (Some g) e in
        by_frame_is (is_asking g.doing) (sym (ap none_runs b.1) ∙ h)

    by_course_is : (k : Course) → p.course ≡ k → IsTrue (is_resting k (last_of p.frames))
    by_course_is course.Goes e = by_last (last_of p.frames) refl (sym (ap (outside_by (seen x p script ev)) e) ∙ o)
    by_course_is course.Failed e = refl
    by_course_is course.Ended e = refl
    by_course_is course.Stopped e = refl

-- after a step the newest frame asks nothing
pub goes-rests : (x : Fixed) (p : Parts) (script : List Entry) (ev : List Event) (q : Parts) (ew : List Event) → Goes x p script ev q ew → IsTrue (is_resting q.course (last_of q.frames))
goes-rests x p script ev q ew g = resting-is x q script ew (ap outside (sym g.settles) ∙ settled_calm x.files g.between)

-- where no function runs, an initialisation begins, a function is entered, or the run ends
abbrev pub IsStart : Turn → Type 0
IsStart (turn.Begin name k b) = b.doing ≡ doing.Runs
IsStart (turn.Enter callee args b) = b.doing ≡ doing.Runs
IsStart turn.End = Unit {0}
IsStart _ = ⊥

enter-start : (s : Stage) (callee : Callee) (args : List Obj) (o : Option Standing) → is_found (found_at s.files o) ≡ true → IsStart (enter_or s callee args turn.Nothing o)
enter-start s callee args None e = cc
enter-start s callee args (Some at) e = by_function (function_there s.files at.file at.item) e
  where
    by_function : (f : Option CFunction) → is_found (found_with at.file f) ≡ true → IsStart (enter_else s callee args turn.Nothing at f)
    by_function None e = cc
    by_function (Some fn) e = refl

enter-test : (s : Stage) (callee : Callee) (args : List Obj) (es : List Entry) (b : Bool) → is_found (found_at s.files (standing_entered s.files s.places callee)) ≡ b
    → IsStart (top_turn s (fitting s.files s.places es)) → IsStart (top_turn s (if b then entry.Enter callee args ∷ es else fitting s.files s.places es))
enter-test s callee args es true e h = enter-start s callee (read_objs s.instances s.views args) (standing_entered s.files s.places callee) e
enter-test s callee args es false e h = h

top-start : (s : Stage) (es : List Entry) → IsStart (top_turn s (fitting s.files s.places es))
top-start s [] = tt
top-start s (entry.Enter callee args ∷ es) =
    enter-test s callee args es (is_found (found_at s.files (standing_entered s.files s.places callee))) refl (top-start s es)
top-start s (entry.OkNode a ∷ es) = top-start s es
top-start s (entry.Num a ∷ es) = top-start s es
top-start s (entry.Raise a ∷ es) = top-start s es
top-start s (entry.Missing ∷ es) = top-start s es
top-start s (entry.Made ∷ es) = top-start s es
top-start s (entry.View a ∷ es) = top-start s es
top-start s (entry.New a b ∷ es) = top-start s es
top-start s (entry.Get a b ∷ es) = top-start s es
top-start s (entry.Set a b c ∷ es) = top-start s es
top-start s (entry.Unset a b ∷ es) = top-start s es
top-start s (entry.Die a ∷ es) = top-start s es

begin_there-start : (s : Stage) (es : List Entry) (at : Standing) (f : Option CFunction) → IsStart (begin_there s es at f).turn
begin_there-start s es at None = top-start s es
begin_there-start s es at (Some fn) = refl

begin_at-start : (s : Stage) (es : List Entry) (o : Option Standing) → IsStart (begin_at s es o).turn
begin_at-start s es None = top-start s es
begin_at-start s es (Some at) = begin_there-start s es at (function_there s.files at.file at.item)

pub idle-start : (s : Stage) (es : List Entry) → IsStart (idle_go s es).turn
idle-start s es = begin_at-start s es (standing_next s.files s.begun)

-- what a step comes to, from what was decided

pub is-memory : (x : Fixed) (p : Parts) (script : List Entry) (ev : List Event) (q : Parts) (ew : List Event) → q ≡ p → ew ≡ ev → IsStep x p script ev step.Memory q ew
unfolding IsStep
is-memory x p script ev q ew a b = (a, b)

top-calm : (x : Fixed) (p : Parts) (script : List Entry) (ev : List Event) (below : List Activation) (top : Activation) (i : ℕ) (e : Effect) (n : ℕ) (t : Turn)
    → Decides x p script below top i e n t → settle x.files (seen x p script ev) ≡ seen x p script ev
top-calm x p script ev below top i e n t d =
    calm x.files (suc (suc (length (drop p.taken script)))) (seen x p script ev)
    (runs-calm (seen x p script ev) (frame_view x.files top) (frames_view x.files below) (ap (frames_view x.files) d.frames ∙ view-above x.files below top) d.goes d.asks)

pub is-fault : (x : Fixed) (p : Parts) (script : List Entry) (ev : List Event) (below : List Activation) (top : Activation) (i : ℕ) (e : Effect) (n : ℕ) (t : Turn) (k : FaultKind) (q : Parts) (ew : List Event)
    → Decides x p script below top i e n t → e ≡ effect.Fault k → q ≡ p → ew ≡ ev → IsStep x p script ev (step.Fault k) q ew
unfolding IsStep
is-fault x p script ev below top i e n t k q ew d f a b = (
  faulting x.files (seen x p script ev) (seen x p script ev) k (top-calm x p script ev below top i e n t d)
      (decided-move x p script ev below top i e n t d
      ∙ ap (effected x.files (seen x (without p below) script ev) (frame_view x.files (at_next top i)) (frames_view x.files below)) f),
  a,
  b,
)

pub is-went : (x : Fixed) (p : Parts) (script : List Entry) (ev : List Event) (below : List Activation) (top : Activation) (i : ℕ) (e : Effect) (n : ℕ) (t : Turn) (q : Parts) (ew : List Event)
    → Decides x p script below top i e n t → NoFault e → q ≡ finished (without p below) top i e n t → ew ≡ finished_events ev e t → IsStep x p script ev step.Went q ew
unfolding IsStep finished finished_events
is-went x p script ev below top i e n t q ew d f a b =
    let g = decided-goes x p script ev below top i e n t d f in
    going x.files (seen x p script ev) (seen x p script ev) g.between (seen x q script ew) (top-calm x p script ev below top i e n t d) g.moves
    (g.settles ∙ sym (ap (λ r. seen x r script ew) a ∙ ap (λ l. seen x (parts_after p below top i e n t) script l) b))

pub went-rests : (x : Fixed) (p : Parts) (script : List Entry) (ev : List Event) (below : List Activation) (top : Activation) (i : ℕ) (e : Effect) (n : ℕ) (t : Turn) (q : Parts)
    → Decides x p script below top i e n t → NoFault e → q ≡ finished (without p below) top i e n t → IsTrue (is_resting q.course (last_of q.frames))
unfolding finished
went-rests x p script ev below top i e n t q d f a =
    let g = decided-goes x p script ev below top i e n t d f in
    subst (λ (r : Parts). IsTrue (is_resting r.course (last_of r.frames))) (sym a) (goes-rests x p script ev (parts_after p below top i e n t) (events_after ev e t) g)

-- the newest frame asks nothing while the machine rests
pub asks-nothing : (k : Course) (xs below : List Activation) (top : Activation) → k ≡ course.Goes → xs ≡ below ++ top ∷ [] → IsTrue (is_resting k (last_of xs)) → is_asking top.doing ≡ false
asks-nothing k xs below top g e r =
    by_test (is_asking top.doing)
    (subst (λ o. IsTrue (is_resting course.Goes o)) (ap last_of e ∙ last_of-snoc below top) (subst (λ j. IsTrue (is_resting j (last_of xs))) g r))
  where
    by_test : (b : Bool) → IsTrue (not b) → b ≡ false
    by_test true h = cc
    by_test false h = refl

-- the newest frame put back
pub put-back : (p n : Parts) (below : List Activation) (top : Activation) (xs : List Activation) → n ≡ without p below → xs ≡ n.frames ++ top ∷ [] → p.frames ≡ below ++ top ∷ [] → record n { frames = xs } ≡ p
put-back p n below top xs a b c =
    ap (λ (r : Parts). record r { frames = xs }) a
    ∙ ap (λ l. record p { frames = l }) (b ∙ (ap (λ (r : Parts). r.frames ++ top ∷ []) a ∙ sym c))

-- what was decided for the newest frame
pub decides : (x : Fixed) (p : Parts) (script : List Entry) (below : List Activation) (top : Activation) (i : ℕ) (e : Effect) (n : ℕ) (t : Turn)
    → p.frames ≡ below ++ top ∷ [] → p.course ≡ course.Goes → IsTrue (is_resting p.course (last_of p.frames)) → IsDecided x (without p below) script p.begun p.taken top i e n t
    → Decides x p script below top i e n t
unfolding IsDecided
decides x p script below top i e n t f g r d = record {
  frames = f;
  goes = g;
  asks = asks-nothing p.course p.frames below top g f r;
  lines = d.1;
  effect = d.0;
  turn = d.2;
}

-- where no frame runs

starts-decides : (x : Fixed) (p : Parts) (script : List Entry) (begun taken : ℕ) (a : Activation) (i : ℕ) (e : Effect) (n : ℕ) (t : Turn)
    → p.frames ≡ [] → p.course ≡ course.Goes → is_asking a.doing ≡ false → IsDecided x p script begun taken a i e n t
    → Decides x (started p begun taken a) script [] a i e n t
unfolding IsDecided
starts-decides x p script begun taken a i e n t f g h d = record {
  frames = refl;
  goes = g;
  asks = h;
  lines = d.1;
  effect = subst (λ xs. e ≡ effect_here (scene_at x (record p { frames = xs }) a)) f d.0;
  turn = subst (λ xs. record { turn = t; rest = drop n script } ≡ effect_go (record (stage_at x p) { begun = begun }) a.own (last_of xs) (drop taken script) e) f d.2;
}

pub start-fault : (x : Fixed) (p : Parts) (script : List Entry) (ev : List Event) (event : Event) (begun taken : ℕ) (a : Activation) (i : ℕ) (e : Effect) (n : ℕ) (t : Turn) (k : FaultKind) (q : Parts) (ew : List Event)
    → p.frames ≡ [] → p.course ≡ course.Goes → Starts x p script ev event a begun taken → IsDecided x p script begun taken a i e n t → e ≡ effect.Fault k → q ≡ p → ew ≡ ev
    → IsStep x p script ev (step.Fault k) q ew
unfolding IsStep Starts
start-fault x p script ev event begun taken a i e n t k q ew f g s d z u v = (
  faulting x.files (seen x p script ev) (seen x (started p begun taken a) script (ev ++ event ∷ [])) k s.0
      (decided-move x (started p begun taken a) script (ev ++ event ∷ []) [] a i e n t (starts-decides x p script begun taken a i e n t f g s.1 d)
      ∙ ap (effected x.files (seen x (without (started p begun taken a) []) script (ev ++ event ∷ [])) (frame_view x.files (at_next a i)) []) z),
  u,
  v,
)

pub start-went : (x : Fixed) (p : Parts) (script : List Entry) (ev : List Event) (event : Event) (begun taken : ℕ) (a : Activation) (i : ℕ) (e : Effect) (n : ℕ) (t : Turn) (q : Parts) (ew : List Event)
    → p.frames ≡ [] → p.course ≡ course.Goes → Starts x p script ev event a begun taken → IsDecided x p script begun taken a i e n t → NoFault e
    → q ≡ finished (without (started p begun taken a) []) a i e n t → ew ≡ finished_events (ev ++ event ∷ []) e t → IsStep x p script ev step.Went q ew
unfolding IsStep Starts finished finished_events
start-went x p script ev event begun taken a i e n t q ew f g s d z u v =
    let w = decided-goes x (started p begun taken a) script (ev ++ event ∷ []) [] a i e n t (starts-decides x p script begun taken a i e n t f g s.1 d) z in
    going x.files (seen x p script ev) (seen x (started p begun taken a) script (ev ++ event ∷ [])) w.between (seen x q script ew) s.0 w.moves
    (w.settles ∙ sym (ap (λ r. seen x r script ew) u ∙ ap (λ l. seen x (parts_after (started p begun taken a) [] a i e n t) script l) v))

pub start-rests : (x : Fixed) (p : Parts) (script : List Entry) (ev : List Event) (event : Event) (begun taken : ℕ) (a : Activation) (i : ℕ) (e : Effect) (n : ℕ) (t : Turn) (q : Parts)
    → p.frames ≡ [] → p.course ≡ course.Goes → Starts x p script ev event a begun taken → IsDecided x p script begun taken a i e n t → NoFault e
    → q ≡ finished (without (started p begun taken a) []) a i e n t → IsTrue (is_resting q.course (last_of q.frames))
unfolding Starts finished
start-rests x p script ev event begun taken a i e n t q f g s d z u =
    let w = decided-goes x (started p begun taken a) script (ev ++ event ∷ []) [] a i e n t (starts-decides x p script begun taken a i e n t f g s.1 d) z in
    subst (λ (r : Parts). IsTrue (is_resting r.course (last_of r.frames))) (sym u)
    (goes-rests x (started p begun taken a) script (ev ++ event ∷ []) (parts_after (started p begun taken a) [] a i e n t) (events_after (ev ++ event ∷ []) e t) w)

-- the parts once a frame has begun, without that frame
pub begun-parts : (p n : Parts) (begun taken : ℕ) (a : Activation) → n ≡ p → p.frames ≡ [] → record n { taken = taken; begun = begun } ≡ without (started p begun taken a) []
begun-parts p n begun taken a e f =
    ap (λ (r : Parts). record r { taken = taken; begun = begun }) e ∙ ap (λ xs. record p { taken = taken; begun = begun; frames = xs }) f

-- the first turn
first-settled : (x : Fixed) (p : Parts) (script : List Entry) (ev : List Event) (n : ℕ) (t : Turn) → p.frames ≡ [] → p.course ≡ course.Goes
    → IsFirst x p script n t → settle x.files (seen x p script ev) ≡ seen x (moved_on n t p) script (ev ++ turn_events t)
unfolding IsFirst
first-settled x p script ev n t f g s =
    idle-settled x.files (seen x p script ev) (ap (frames_view x.files) f) g
    ∙ (ap (λ (y : Go). turned x.files y.rest (seen x p script ev) y.turn) (sym s) ∙ turn-seen x p n t script ev)

pub first-start : (x : Fixed) (p : Parts) (script : List Entry) (n : ℕ) (t : Turn) → IsFirst x p script n t → IsStart t
unfolding IsFirst
first-start x p script n t s = subst (λ (y : Go). IsStart y.turn) (sym s) (idle-start (stage_at x p) (drop p.taken script))

pub starts-begin : (x : Fixed) (p : Parts) (script : List Entry) (ev : List Event) (n : ℕ) (name : List ℕ) (k : ℕ) (b : Activation) → p.frames ≡ [] → p.course ≡ course.Goes
    → IsFirst x p script n (turn.Begin name k b) → Starts x p script ev (event.Init name) b k n
unfolding Starts
starts-begin x p script ev n name k b f g s =
    (first-settled x p script ev n (turn.Begin name k b) f g s, ap is_asking (first-start x p script n (turn.Begin name k b) s))

pub starts-enter : (x : Fixed) (p : Parts) (script : List Entry) (ev : List Event) (n : ℕ) (callee : Callee) (args : List Obj) (b : Activation) → p.frames ≡ [] → p.course ≡ course.Goes
    → IsFirst x p script n (turn.Enter callee args b) → Starts x p script ev (event.Enter callee args) b p.begun n
unfolding Starts
starts-enter x p script ev n callee args b f g s = (
  first-settled x p script ev n (turn.Enter callee args b) f g s
      ∙ ap (λ xs. seen x (record p { taken = n; frames = xs ++ b ∷ [] }) script (ev ++ event.Enter callee args ∷ [])) f,
  ap is_asking (first-start x p script n (turn.Enter callee args b) s),
)

-- where the run ends
pub first-ends : (x : Fixed) (p : Parts) (script : List Entry) (ev : List Event) (n : ℕ) → p.frames ≡ [] → p.course ≡ course.Goes
    → IsFirst x p script n turn.End → Ends x p script ev n
unfolding Ends
first-ends x p script ev n f g s =
    ending x.files (seen x p script ev) (seen x (moved_on n turn.End p) script (ev ++ event.End ∷ [])) (first-settled x p script ev n turn.End f g s) refl

pub failed-ends : (x : Fixed) (p : Parts) (script : List Entry) (ev : List Event) → p.course ≡ course.Failed → Ends x p script ev p.taken
unfolding Ends
failed-ends x p script ev g =
    ending x.files (seen x p script ev) (seen x (moved_on p.taken turn.End p) script (ev ++ event.End ∷ [])) (failed-settled x.files (seen x p script ev) g ∙ turn-seen x p p.taken turn.End script ev) refl

pub is-ended : (x : Fixed) (p : Parts) (script : List Entry) (ev : List Event) (n : ℕ) (q : Parts) (ew : List Event) → Ends x p script ev n
    → q ≡ moved_on n turn.End p → ew ≡ ev ++ event.End ∷ [] → IsStep x p script ev step.Ended q ew
unfolding IsStep Ends
is-ended x p script ev n q ew e u v =
    e ∙ sym (ap (λ r. record { answer = step.Ended; state = seen x r script ew }) u ∙ ap (λ l. record { answer = step.Ended; state = seen x (moved_on n turn.End p) script l }) v)

over-is : (x : Fixed) (p : Parts) (script : List Entry) (ev : List Event) (k : Course) → p.course ≡ k → outside_by (seen x p script ev) k ≡ false → by_course x.files (seen x p script ev) k ≡ Over
    → c_step x.files (seen x p script ev) ≡ record { answer = over_answer k; state = seen x p script ev }
over-is x p script ev k g o m =
    ending x.files (seen x p script ev) (seen x p script ev)
    (calm x.files (suc (suc (length (drop p.taken script)))) (seen x p script ev) (ap (outside_by (seen x p script ev)) g ∙ o))
    (ap (by_course x.files (seen x p script ev)) g ∙ m)
    ∙ ap (λ j. record { answer = over_answer j; state = seen x p script ev }) g

pub ended-stays : (x : Fixed) (p : Parts) (script : List Entry) (ev : List Event) → p.course ≡ course.Ended → IsStep x p script ev step.Ended p ev
unfolding IsStep
ended-stays x p script ev g = over-is x p script ev course.Ended g refl refl

pub stopped-stays : (x : Fixed) (p : Parts) (script : List Entry) (ev : List Event) → p.course ≡ course.Stopped → IsStep x p script ev step.Stopped p ev
unfolding IsStep
stopped-stays x p script ev g = over-is x p script ev course.Stopped g refl refl
