-- Settling ends: afterwards a function runs, or the run is over.
use Rattle.std.proofs.Common.{◌≡◌, ℕ, zero, suc, ◌≤◌, ◌⊎◌, inl, inr, ⊎_elim, Bool, true, false, List, [], ◌∷◌, length, Option, refl, ap, ◌∙◌, arith}
use Rattle.std.specs.Prelude.{if◌then◌else◌}
use Rattle.thin_state.specs.declared.space.Obj.{Obj}
use Rattle.thin_state.specs.declared.space.Callee.{Callee}
use Rattle.thin_state.specs.declared.space.Entry.{Entry}
use Rattle.thin_state.specs.declared.space.Entry.TheVariants as entry
use Rattle.thin_state.specs.declared.space.Op.{Op}
use Rattle.thin_state.specs.declared.space.Answer.{Answer}
use Rattle.thin_state.specs.declared.space.Event.TheVariants as event
use Rattle.thin_state.specs.declared.tree.Variable.{Variable}
use Rattle.thin_state.specs.declared.tree.ApiRow.{ApiRow}
use Rattle.thin_state.specs.declared.tree.CFile.{CFile}
use Rattle.thin_state.specs.declared.state.Doing.{Doing}
use Rattle.thin_state.specs.declared.state.Doing.TheVariants as doing
use Rattle.thin_state.specs.declared.state.Course.{Course}
use Rattle.thin_state.specs.declared.state.Course.TheVariants as course
use Rattle.thin_state.specs.Objects.{NewResult, Gave, Raises, new_result}
use Rattle.thin_state.specs.World.{answer_in}
use Rattle.thin_state.specs.State.{Frame, CState}
use Rattle.thin_state.specs.Reads.{Found, FoundFunction, NotFound, entered_by, initializer_from}
use Rattle.thin_state.specs.Statements.{Moved, Went, off, tell, script_to}
use Rattle.thin_state.specs.Outside.{How, NewReference, Borrowed, SetsError, how, deliver_new, deliver_by, answered, called, await, top_called, top, begin, idle}
use Rattle.thin_state.specs.Machine.{by_frame, by_frames, by_course, move, is_asking, none_runs, outside_by, outside, went_or, settle_for, settle}

-- one move of the outside: nothing is left to the outside, or an entry is gone
abbrev Shrinks : CState → CState → Type 0
Shrinks c d = (outside d ≡ false) ⊎ (suc (length d.world.script) ≤ length c.world.script)

module _ (files : List CFile) where
  new_runs : (r : NewResult) (x : Option Variable) (c : CState) (f : Frame) (fs : List Frame) → c.course ≡ course.Goes → outside (deliver_new r x c f fs) ≡ false
  new_runs (Gave o) x c f fs e = ap (λ k. outside_by (deliver_new (Gave o) x c f fs) k) e
  new_runs (Raises o) x c f fs e = ap (λ k. outside_by (deliver_new (Raises o) x c f fs) k) e

  deliver_runs : (h : How) (x : Option Variable) (a : Answer) (c : CState) (f : Frame) (fs : List Frame) → c.course ≡ course.Goes → outside (deliver_by h x a c f fs) ≡ false
  deliver_runs NewReference x a c f fs e = new_runs (new_result a) x c f fs e
  deliver_runs Borrowed x a c f fs e = ap (λ k. outside_by (deliver_by Borrowed x a c f fs) k) e
  deliver_runs SetsError x a c f fs e = ap (λ k. outside_by (deliver_by SetsError x a c f fs) k) e

  answered_runs : (c : CState) (f : Frame) (fs : List Frame) (o : Op) (r : ApiRow) (x : Option Variable) (e : Entry) → c.course ≡ course.Goes → outside (answered c f fs o r x e) ≡ false
  answered_runs c f fs o r x e g =
      deliver_runs (how r) x (answer_in c.world o e) (tell (event.Answer (answer_in c.world o e)) c) f fs g

  called_runs : (c : CState) (f : Frame) (fs : List Frame) (o : Op) (r : ApiRow) (x : Option Variable) (callee : Callee) (args : List Obj) (found : Found) → c.course ≡ course.Goes → outside (called c f fs o r x callee args found) ≡ false
  called_runs c f fs o r x callee args (FoundFunction k fn) g =
      ap (λ q. outside_by (called c f fs o r x callee args (FoundFunction k fn)) q) g
  called_runs c f fs o r x callee args NotFound g = answered_runs c f fs o r x (entry.Enter callee args) g

  await_shrinks : (c : CState) (f : Frame) (fs : List Frame) (o : Op) (r : ApiRow) (x : Option Variable) (es : List Entry) → c.course ≡ course.Goes → (outside (await files c f fs o r x es) ≡ false) ⊎ (suc (length (await files c f fs o r x es).world.script) ≤ length es)
  await_shrinks c f fs o r x [] g = inl refl
  await_shrinks c f fs o r x (entry.Die k ∷ es) g = inr (omega arith)
  await_shrinks c f fs o r x (entry.Enter callee args ∷ es) g =
      inl (called_runs (script_to es c) f fs o r x callee args (entered_by files c.places callee) g)
  await_shrinks c f fs o r x (e ∷ es) g = inl (answered_runs (script_to es c) f fs o r x e g)

  top_called_shrinks : (c : CState) (callee : Callee) (args : List Obj) (found : Found) (n : ℕ) → c.course ≡ course.Goes → suc (length c.world.script) ≤ n → (outside (top_called c callee args found) ≡ false) ⊎ (suc (length (top_called c callee args found).world.script) ≤ n)
  top_called_shrinks c callee args (FoundFunction k fn) n g le =
      inl (ap (λ q. outside_by (top_called c callee args (FoundFunction k fn)) q) g)
  top_called_shrinks c callee args NotFound n g le = inr le

  top_shrinks : (c : CState) (es : List Entry) → c.course ≡ course.Goes → (outside (top files c es) ≡ false) ⊎ (suc (length (top files c es).world.script) ≤ length es)
  top_shrinks c [] g = inl refl
  top_shrinks c (entry.Enter callee args ∷ es) g =
      top_called_shrinks (script_to es c) callee args (entered_by files c.places callee) (suc (length es)) g (omega arith)
  top_shrinks c (e ∷ es) g = inr (omega arith)

  begin_shrinks : (c : CState) (found : Found) → c.course ≡ course.Goes → Shrinks c (begin files c found)
  begin_shrinks c (FoundFunction k fn) g = inl (ap (λ q. outside_by (begin files c (FoundFunction k fn)) q) g)
  begin_shrinks c NotFound g = top_shrinks c c.world.script g

  record Shift (c : CState) (m : Moved) : Type 0 where
    to : CState
    is : m ≡ Went to
    shrinks : Shrinks c to

  frame_shift : (c : CState) (f : Frame) (fs : List Frame) (d : Doing) → c.course ≡ course.Goes → is_asking d ≡ true → Shift c (by_frame files c f fs d)
  frame_shift c f fs doing.Runs g o = cc o
  frame_shift c f fs (doing.Waits x) g o = cc o
  frame_shift c f fs (doing.Asks op r x) g o =
      record { to = await files c f fs op r x c.world.script; is = refl; shrinks = await_shrinks c f fs op r x c.world.script g }

  frames_shift : (c : CState) (fs : List Frame) → c.course ≡ course.Goes → none_runs fs ≡ true → Shift c (by_frames files c fs)
  frames_shift c [] g o =
      record { to = idle files c; is = refl; shrinks = begin_shrinks c (initializer_from c.begun files) g }
  frames_shift c (f ∷ fs) g o =
      let s = frame_shift (off c fs) f fs f.doing g o in
      record { to = s.to; is = s.is; shrinks = s.shrinks }

  course_shift : (c : CState) (k : Course) → c.course ≡ k → outside_by c k ≡ true → Shift c (by_course files c k)
  course_shift c course.Goes e o = frames_shift c c.frames e o
  course_shift c course.Failed e o =
      record { to = went_or (by_course files c course.Failed) c; is = refl; shrinks = inl refl }
  course_shift c course.Ended e o = cc o
  course_shift c course.Stopped e o = cc o

  -- the outside moves, and never faults
  shift : (c : CState) → outside c ≡ true → Shift c (move files c)
  shift c o = course_shift c c.course refl o

  settle_on : (n : ℕ) (c d : CState) → outside c ≡ true → move files c ≡ Went d → settle_for files (suc n) c ≡ settle_for files n d
  settle_on n c d o m =
      ap (λ q. if q then settle_for files n (went_or (move files c) c) else c) o ∙ ap (λ (q : Moved). settle_for files n (went_or q c)) m

  settle_off : (n : ℕ) (c : CState) → outside c ≡ false → settle_for files (suc n) c ≡ c
  settle_off n c o = ap (λ q. if q then settle_for files n (went_or (move files c) c) else c) o

  -- after settling a function runs, or the run is over
  pub settle_done : (n : ℕ) (c : CState) → suc (length c.world.script) ≤ n → outside (settle_for files n c) ≡ false
  settle_done zero c le = absurd (omega arith)
  settle_done (suc n) c le = by_turn (outside c) refl (λ d h. settle_done n d h)
    where
      fixed : (d : CState) → outside d ≡ false → (k : ℕ) → outside (settle_for files k d) ≡ false
      fixed d o zero = o
      fixed d o (suc k) = ap outside (settle_off k d o) ∙ o

      by_turn : (q : Bool) → outside c ≡ q → ((d : CState) → suc (length d.world.script) ≤ n → outside (settle_for files n d) ≡ false) → outside (settle_for files (suc n) c) ≡ false
      by_turn false o go = ap outside (settle_off n c o) ∙ o
      by_turn true o go =
          let s = shift c o in
          ap outside (settle_on n c s.to o s.is) ∙ ⊎_elim (λ h. fixed s.to h n) (λ h. go s.to (omega (arith, h))) s.shrinks

  pub settled_calm : (c : CState) → outside (settle files c) ≡ false
  settled_calm c = settle_done (suc (suc (length c.world.script))) c (omega arith)
