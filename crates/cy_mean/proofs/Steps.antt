-- Steps and moves: a step is some moves.
use Rattle.std.proofs.Common.{◌≡◌, ℕ, zero, suc, ◌+◌, ◌-◌, ◌≤◌, ◌<◌, ◌⊎◌, inl, inr, ⊎_elim, Bool, true, false, List, [], ◌∷◌, length, Option, refl, sym, ap, ◌∙◌, subst, arith}
use Rattle.std.specs.Prelude.{if◌then◌else◌}
use Rattle.std.proofs.lemmas.Bool.{cases_lt}
use Rattle.thin_state.specs.declared.space.Obj.{Obj}
use Rattle.thin_state.specs.declared.space.Callee.{Callee}
use Rattle.thin_state.specs.declared.space.Entry.{Entry}
use Rattle.thin_state.specs.declared.space.Entry.TheVariants as entry
use Rattle.thin_state.specs.declared.space.Op.{Op}
use Rattle.thin_state.specs.declared.space.Answer.{Answer}
use Rattle.thin_state.specs.declared.space.Event.TheVariants as event
use Rattle.thin_state.specs.declared.tree.Variable.{Variable}
use Rattle.thin_state.specs.declared.tree.ApiRow.{ApiRow}
use Rattle.thin_state.specs.declared.tree.CFile.{CFile}
use Rattle.thin_state.specs.declared.state.FaultKind.{FaultKind}
use Rattle.thin_state.specs.declared.state.Step.TheVariants as step
use Rattle.thin_state.specs.declared.state.Doing.{Doing}
use Rattle.thin_state.specs.declared.state.Doing.TheVariants as doing
use Rattle.thin_state.specs.declared.state.Course.{Course}
use Rattle.thin_state.specs.declared.state.Course.TheVariants as course
use Rattle.thin_state.specs.Objects.{NewResult, Gave, Raises, new_result}
use Rattle.thin_state.specs.World.{answer_in}
use Rattle.thin_state.specs.State.{Frame, CState}
use Rattle.thin_state.specs.Reads.{Found, FoundFunction, NotFound, entered_by, initializer_from}
use Rattle.thin_state.specs.Statements.{Moved, Went, Over, Faulted, off, tell, script_to}
use Rattle.thin_state.specs.Outside.{How, NewReference, Borrowed, SetsError, how, deliver_new, deliver_by, answered, called, await, top_called, top, begin, idle}
use Rattle.thin_state.specs.Machine.{by_frame, by_frames, by_course, move, is_asking, none_runs, outside_by, outside, went_or, settle_for, settle, over_answer, stepped, c_step, c_steps}
use Rattle.cy_mean.specs.Sound.{Prefix}
use Rattle.cy_mean.proofs.Moves.{Reached, At, Bad, moves, moves_on}
use Rattle.cy_mean.proofs.Endings.{same_prefix, prefix_trans}
use Rattle.cy_mean.proofs.Growth.{move_grows}

-- one move of the outside: nothing is left to the outside, or an entry is gone
abbrev Shrinks : CState → CState → Type 0
Shrinks c d = (outside d ≡ false) ⊎ (suc (length d.world.script) ≤ length c.world.script)

over_answers : (k : Course) (f : FaultKind) → over_answer k ≡ step.Fault f → ⊥
over_answers course.Goes f e = cc e
over_answers course.Failed f e = cc e
over_answers course.Ended f e = cc e
over_answers course.Stopped f e = cc e

module _ (files : List CFile) where
  new_runs : (r : NewResult) (x : Option Variable) (c : CState) (f : Frame) (fs : List Frame) → c.course ≡ course.Goes → outside (deliver_new r x c f fs) ≡ false
  new_runs (Gave o) x c f fs e = ap (λ k. outside_by (deliver_new (Gave o) x c f fs) k) e
  new_runs (Raises o) x c f fs e = ap (λ k. outside_by (deliver_new (Raises o) x c f fs) k) e

  deliver_runs : (h : How) (x : Option Variable) (a : Answer) (c : CState) (f : Frame) (fs : List Frame) → c.course ≡ course.Goes → outside (deliver_by h x a c f fs) ≡ false
  deliver_runs NewReference x a c f fs e = new_runs (new_result a) x c f fs e
  deliver_runs Borrowed x a c f fs e = ap (λ k. outside_by (deliver_by Borrowed x a c f fs) k) e
  deliver_runs SetsError x a c f fs e = ap (λ k. outside_by (deliver_by SetsError x a c f fs) k) e

  answered_runs : (c : CState) (f : Frame) (fs : List Frame) (o : Op) (r : ApiRow) (x : Option Variable) (e : Entry) → c.course ≡ course.Goes → outside (answered c f fs o r x e) ≡ false
  answered_runs c f fs o r x e g =
      deliver_runs (how r) x (answer_in c.world o e) (tell (event.Answer (answer_in c.world o e)) c) f fs g

  called_runs : (c : CState) (f : Frame) (fs : List Frame) (o : Op) (r : ApiRow) (x : Option Variable) (callee : Callee) (args : List Obj) (found : Found) → c.course ≡ course.Goes → outside (called c f fs o r x callee args found) ≡ false
  called_runs c f fs o r x callee args (FoundFunction k fn) g =
      ap (λ q. outside_by (called c f fs o r x callee args (FoundFunction k fn)) q) g
  called_runs c f fs o r x callee args NotFound g = answered_runs c f fs o r x (entry.Enter callee args) g

  await_shrinks : (c : CState) (f : Frame) (fs : List Frame) (o : Op) (r : ApiRow) (x : Option Variable) (es : List Entry) → c.course ≡ course.Goes → (outside (await files c f fs o r x es) ≡ false) ⊎ (suc (length (await files c f fs o r x es).world.script) ≤ length es)
  await_shrinks c f fs o r x [] g = inl refl
  await_shrinks c f fs o r x (entry.Die k ∷ es) g = inr (omega arith)
  await_shrinks c f fs o r x (entry.Enter callee args ∷ es) g =
      inl (called_runs (script_to es c) f fs o r x callee args (entered_by files c.places callee) g)
  await_shrinks c f fs o r x (e ∷ es) g = inl (answered_runs (script_to es c) f fs o r x e g)

  top_called_shrinks : (c : CState) (callee : Callee) (args : List Obj) (found : Found) (n : ℕ) → c.course ≡ course.Goes → suc (length c.world.script) ≤ n → (outside (top_called c callee args found) ≡ false) ⊎ (suc (length (top_called c callee args found).world.script) ≤ n)
  top_called_shrinks c callee args (FoundFunction k fn) n g le =
      inl (ap (λ q. outside_by (top_called c callee args (FoundFunction k fn)) q) g)
  top_called_shrinks c callee args NotFound n g le = inr le

  top_shrinks : (c : CState) (es : List Entry) → c.course ≡ course.Goes → (outside (top files c es) ≡ false) ⊎ (suc (length (top files c es).world.script) ≤ length es)
  top_shrinks c [] g = inl refl
  top_shrinks c (entry.Enter callee args ∷ es) g =
      top_called_shrinks (script_to es c) callee args (entered_by files c.places callee) (suc (length es)) g (omega arith)
  top_shrinks c (e ∷ es) g = inr (omega arith)

  begin_shrinks : (c : CState) (found : Found) → c.course ≡ course.Goes → Shrinks c (begin files c found)
  begin_shrinks c (FoundFunction k fn) g = inl (ap (λ q. outside_by (begin files c (FoundFunction k fn)) q) g)
  begin_shrinks c NotFound g = top_shrinks c c.world.script g

  record Shift (c : CState) (m : Moved) : Type 0 where
    to : CState
    is : m ≡ Went to
    shrinks : Shrinks c to

  frame_shift : (c : CState) (f : Frame) (fs : List Frame) (d : Doing) → c.course ≡ course.Goes → is_asking d ≡ true → Shift c (by_frame files c f fs d)
  frame_shift c f fs doing.Runs g o = cc o
  frame_shift c f fs (doing.Waits x) g o = cc o
  frame_shift c f fs (doing.Asks op r x) g o =
      record { to = await files c f fs op r x c.world.script; is = refl; shrinks = await_shrinks c f fs op r x c.world.script g }

  frames_shift : (c : CState) (fs : List Frame) → c.course ≡ course.Goes → none_runs fs ≡ true → Shift c (by_frames files c fs)
  frames_shift c [] g o =
      record { to = idle files c; is = refl; shrinks = begin_shrinks c (initializer_from c.begun files) g }
  frames_shift c (f ∷ fs) g o =
      let s = frame_shift (off c fs) f fs f.doing g o in
      record { to = s.to; is = s.is; shrinks = s.shrinks }

  course_shift : (c : CState) (k : Course) → c.course ≡ k → outside_by c k ≡ true → Shift c (by_course files c k)
  course_shift c course.Goes e o = frames_shift c c.frames e o
  course_shift c course.Failed e o =
      record { to = went_or (by_course files c course.Failed) c; is = refl; shrinks = inl refl }
  course_shift c course.Ended e o = cc o
  course_shift c course.Stopped e o = cc o

  -- the outside moves, and never faults
  shift : (c : CState) → outside c ≡ true → Shift c (move files c)
  shift c o = course_shift c c.course refl o

  -- the end stays the end
  pub over_stays : (k : ℕ) (c : CState) → move files c ≡ Over → moves files k c ≡ At c
  over_stays zero c e = refl
  over_stays (suc k) c e =
      ap (λ (m : Moved). elim m as (λ v. Reached) [ Went d ↦ moves files k d | Over ↦ At c | Faulted f ↦ Bad f ]) e

  bad_move : (k : ℕ) (c : CState) (f : FaultKind) → move files c ≡ Faulted f → moves files (suc k) c ≡ Bad f
  bad_move k c f e =
      ap (λ (m : Moved). elim m as (λ v. Reached) [ Went d ↦ moves files k d | Over ↦ At c | Faulted f ↦ Bad f ]) e

  pub at_then : (j k : ℕ) (c d : CState) → moves files j c ≡ At d → moves files (j + k) c ≡ moves files k d
  at_then zero k c d e =
      let same : c ≡ d = cc e in
      let z : 0 + k ≡ k = omega arith in
      ap (λ n. moves files n c) z ∙ ap (λ x. moves files k x) same
  at_then (suc j) k c d e = by_move (move files c) refl (λ x m. at_then j k x d (sym (moves_on files j c x m) ∙ e))
    where
      shape : suc j + k ≡ suc (j + k)
      shape = omega arith

      by_move : (m : Moved) → move files c ≡ m → ((x : CState) → move files c ≡ Went x → moves files (j + k) x ≡ moves files k d) → moves files (suc j + k) c ≡ moves files k d
      by_move (Went x) m go = ap (λ n. moves files n c) shape ∙ moves_on files (j + k) c x m ∙ go x m
      by_move Over m go =
          let there = sym (over_stays (suc j) c m) ∙ e in
          let same : c ≡ d = cc there in
          over_stays (suc j + k) c m ∙ sym (over_stays k c m) ∙ ap (λ x. moves files k x) same
      by_move (Faulted f) m go = let bad : Bad f ≡ At d = sym (bad_move j c f m) ∙ e in cc bad

  bad_then : (j k : ℕ) (c : CState) (f : FaultKind) → moves files j c ≡ Bad f → moves files (j + k) c ≡ Bad f
  bad_then zero k c f e = cc e
  bad_then (suc j) k c f e = by_move (move files c) refl (λ x m. bad_then j k x f (sym (moves_on files j c x m) ∙ e))
    where
      shape : suc j + k ≡ suc (j + k)
      shape = omega arith

      by_move : (m : Moved) → move files c ≡ m → ((x : CState) → move files c ≡ Went x → moves files (j + k) x ≡ Bad f) → moves files (suc j + k) c ≡ Bad f
      by_move (Went x) m go = ap (λ n. moves files n c) shape ∙ moves_on files (j + k) c x m ∙ go x m
      by_move Over m go = let there = sym (over_stays (suc j) c m) ∙ e in cc there
      by_move (Faulted g) m go =
          let there = sym (bad_move j c g m) ∙ e in
          ap (λ n. moves files n c) shape ∙ bad_move (j + k) c g m ∙ there

  -- the events of a state are a prefix of those of a later one
  pub along : (k : ℕ) (c d : CState) → moves files k c ≡ At d → Prefix c.world.events d.world.events
  along zero c d e =
      let same : c ≡ d = cc e in
      subst (λ (x : CState). Prefix c.world.events x.world.events) same (same_prefix c.world.events)
  along (suc k) c d e = by_move (move files c) refl (λ x m. along k x d (sym (moves_on files k c x m) ∙ e))
    where
      by_move : (m : Moved) → move files c ≡ m → ((x : CState) → move files c ≡ Went x → Prefix x.world.events d.world.events) → Prefix c.world.events d.world.events
      by_move (Went x) m go =
          prefix_trans c.world.events x.world.events d.world.events (move_grows files c x m) (go x m)
      by_move Over m go =
          let there = sym (over_stays (suc k) c m) ∙ e in
          let same : c ≡ d = cc there in
          subst (λ (x : CState). Prefix c.world.events x.world.events) same (same_prefix c.world.events)
      by_move (Faulted f) m go = let bad : Bad f ≡ At d = sym (bad_move k c f m) ∙ e in cc bad

  -- of two states of one run the one with fewer moves comes first, and so does any other before the end
  pub earlier : (i j : ℕ) (c x d : CState) → moves files i c ≡ At x → moves files j c ≡ At d → ((i ≤ j) ⊎ (move files d ≡ Over)) → Prefix x.world.events d.world.events
  earlier i j c x d ei ej (inl le) =
      let shape : i + (j - i) ≡ j = omega arith in
      along (j - i) x d (sym (at_then i (j - i) c x ei) ∙ ap (λ n. moves files n c) shape ∙ ej)
  earlier i j c x d ei ej (inr over) = by_order (cases_lt i j)
    where
      by_order : (i < j) ⊎ (j ≤ i) → Prefix x.world.events d.world.events
      by_order (inl lt) =
          let shape : i + (j - i) ≡ j = omega arith in
          along (j - i) x d (sym (at_then i (j - i) c x ei) ∙ ap (λ n. moves files n c) shape ∙ ej)
      by_order (inr le) =
          let shape : j + (i - j) ≡ i = omega arith in
          let there = sym ei ∙ sym (ap (λ n. moves files n c) shape) ∙ at_then j (i - j) c d ej ∙ over_stays (i - j) d over in
          let same : x ≡ d = cc there in
          subst (λ (y : CState). Prefix x.world.events y.world.events) same (same_prefix x.world.events)

  -- a run that comes to a state, and past it or to its end, has no fault before
  pub no_bad : (i j : ℕ) (c d : CState) (f : FaultKind) → moves files i c ≡ Bad f → moves files j c ≡ At d → ((i ≤ j) ⊎ (move files d ≡ Over)) → ⊥
  no_bad i j c d f ei ej h = by_order (cases_lt i j) h
    where
      before : i ≤ j → ⊥
      before le =
          let shape : i + (j - i) ≡ j = omega arith in
          let there = sym (bad_then i (j - i) c f ei) ∙ ap (λ n. moves files n c) shape ∙ ej in
          cc there

      by_order : (i < j) ⊎ (j ≤ i) → ((i ≤ j) ⊎ (move files d ≡ Over)) → ⊥
      by_order (inl lt) h = before (omega arith)
      by_order (inr le) (inl ge) = before ge
      by_order (inr le) (inr over) =
          let shape : j + (i - j) ≡ i = omega arith in
          let there = sym ei ∙ sym (ap (λ n. moves files n c) shape) ∙ at_then j (i - j) c d ej ∙ over_stays (i - j) d over in
          cc there

  -- settling is some moves
  settle_on : (n : ℕ) (c d : CState) → outside c ≡ true → move files c ≡ Went d → settle_for files (suc n) c ≡ settle_for files n d
  settle_on n c d o m =
      ap (λ q. if q then settle_for files n (went_or (move files c) c) else c) o ∙ ap (λ (q : Moved). settle_for files n (went_or q c)) m

  settle_off : (n : ℕ) (c : CState) → outside c ≡ false → settle_for files (suc n) c ≡ c
  settle_off n c o = ap (λ q. if q then settle_for files n (went_or (move files c) c) else c) o

  record Settles (n : ℕ) (c : CState) : Type 0 where
    count : ℕ
    by : (k : ℕ) → moves files (count + k) c ≡ moves files k (settle_for files n c)

  settles : (n : ℕ) (c : CState) → Settles n c
  settles zero c = record { count = 0; by = λ k. let z : 0 + k ≡ k = omega arith in ap (λ n. moves files n c) z }
  settles (suc n) c = by_turn (outside c) refl (λ d. settles n d)
    where
      by_turn : (q : Bool) → outside c ≡ q → ((d : CState) → Settles n d) → Settles (suc n) c
      by_turn false o go =
          record { count = 0; by = λ k. let z : 0 + k ≡ k = omega arith in ap (λ n. moves files n c) z ∙ ap (λ x. moves files k x) (sym (settle_off n c o)) }
      by_turn true o go =
          let s = shift c o in
          let r = go s.to in
          record {
            count = suc r.count;
            by = λ k. let shape : suc r.count + k ≡ suc (r.count + k) = omega arith in ap (λ n. moves files n c) shape ∙ moves_on files (r.count + k) c s.to s.is ∙ r.by k ∙ ap (λ x. moves files k x) (sym (settle_on n c s.to o s.is));
          }

  -- after settling a function runs, or the run is over
  pub settle_done : (n : ℕ) (c : CState) → suc (length c.world.script) ≤ n → outside (settle_for files n c) ≡ false
  settle_done zero c le = absurd (omega arith)
  settle_done (suc n) c le = by_turn (outside c) refl (λ d h. settle_done n d h)
    where
      fixed : (d : CState) → outside d ≡ false → (k : ℕ) → outside (settle_for files k d) ≡ false
      fixed d o zero = o
      fixed d o (suc k) = ap outside (settle_off k d o) ∙ o

      by_turn : (q : Bool) → outside c ≡ q → ((d : CState) → suc (length d.world.script) ≤ n → outside (settle_for files n d) ≡ false) → outside (settle_for files (suc n) c) ≡ false
      by_turn false o go = ap outside (settle_off n c o) ∙ o
      by_turn true o go =
          let s = shift c o in
          ap outside (settle_on n c s.to o s.is) ∙ ⊎_elim (λ h. fixed s.to h n) (λ h. go s.to (omega (arith, h))) s.shrinks

  not_outside : (c : CState) → move files c ≡ Over → outside c ≡ false
  not_outside c e = by_turn (outside c) refl
    where
      by_turn : (q : Bool) → outside c ≡ q → q ≡ false
      by_turn false o = refl
      by_turn true o = let s = shift c o in let bad : Over ≡ Went s.to = sym e ∙ s.is in cc bad

  over_settled : (c : CState) → move files c ≡ Over → settle files c ≡ c
  over_settled c e = settle_off (suc (length c.world.script)) c (not_outside c e)

  pub over_steps : (n : ℕ) (c : CState) → move files c ≡ Over → c_steps files n c ≡ c
  over_steps zero c e = refl
  over_steps (suc n) c e =
      let s = over_settled c e in
      let m : move files (settle files c) ≡ Over = ap (λ (x : CState). move files x) s ∙ e in
      let l : (c_step files c).state ≡ c = ap (λ (q : Moved). (stepped files c q).state) m ∙ s in
      ap (λ x. c_steps files n x) l ∙ over_steps n c e

  -- a step that faults changes nothing
  fault_steps : (n : ℕ) (c : CState) (f : FaultKind) → move files (settle files c) ≡ Faulted f → c_steps files n c ≡ c
  fault_steps zero c f e = refl
  fault_steps (suc n) c f e =
      let l : (c_step files c).state ≡ c = ap (λ (q : Moved). (stepped files c q).state) e in
      ap (λ x. c_steps files n x) l ∙ fault_steps n c f e

  -- n steps are some moves, as many as n at least where the run isn't over
  pub record Walk (n : ℕ) (c : CState) : Type 0 where
    pub count : ℕ
    pub comes : moves files count c ≡ At (c_steps files n c)
    pub far : (n ≤ count) ⊎ (move files (c_steps files n c) ≡ Over)

  far_on : (n n2 j j2 : ℕ) (a b : CState) → a ≡ b → (n ≤ j → n2 ≤ j2) → ((n ≤ j) ⊎ (move files a ≡ Over)) → (n2 ≤ j2) ⊎ (move files b ≡ Over)
  far_on n n2 j j2 a b e up (inl h) = inl (up h)
  far_on n n2 j j2 a b e up (inr h) = inr (subst (λ (y : CState). move files y ≡ Over) e h)

  pub walk : (n : ℕ) (c : CState) → ((k : ℕ) (f : FaultKind) → moves files k c ≡ Bad f → ⊥) → Walk n c
  walk zero c fine = record { count = 0; comes = refl; far = inl (omega arith) }
  walk (suc n) c fine = by_move (move files (settle files c)) refl (λ d h. walk n d h)
    where
      first : Settles (suc (suc (length c.world.script))) c
      first = settles (suc (suc (length c.world.script))) c

      by_move : (m : Moved) → move files (settle files c) ≡ m → ((d : CState) → ((k : ℕ) (f : FaultKind) → moves files k d ≡ Bad f → ⊥) → Walk n d) → Walk (suc n) c
      by_move (Went d) m go =
          let second = settles (suc (suc (length d.world.script))) d in
          let there : (k : ℕ) → moves files (first.count + suc (second.count + k)) c ≡ moves files k (settle files d) = λ k. (first.by (suc (second.count + k)) ∙ moves_on files (second.count + k) (settle files c) d m ∙ second.by k) in
          let w = go (settle files d) (λ k f h. fine (first.count + suc (second.count + k)) f (there k ∙ h)) in
          let l : c_steps files (suc n) c ≡ c_steps files n (settle files d) = ap (λ (q : Moved). c_steps files n (stepped files c q).state) m in
          record {
            count = first.count + suc (second.count + w.count);
            comes = there w.count ∙ w.comes ∙ ap At (sym l);
            far = far_on n (suc n) w.count (first.count + suc (second.count + w.count)) (c_steps files n (settle files d)) (c_steps files (suc n) c) (sym l) (λ h. omega (arith, h)) w.far;
          }
      by_move Over m go =
          let l : c_steps files (suc n) c ≡ settle files c = ap (λ (q : Moved). c_steps files n (stepped files c q).state) m ∙ over_steps n (settle files c) m in
          record {
            count = first.count + 0;
            comes = first.by 0 ∙ ap At (sym l);
            far = inr (subst (λ (y : CState). move files y ≡ Over) (sym l) m);
          }
      by_move (Faulted f) m go = absurd (fine (first.count + 1) f (first.by 1 ∙ bad_move 0 (settle files c) f m))

  -- a step that faults is a move that faults
  pub fault_moves : (n : ℕ) (c : CState) (f : FaultKind) → ((k : ℕ) (g : FaultKind) → moves files k c ≡ Bad g → ⊥) → (c_step files (c_steps files n c)).answer ≡ step.Fault f → ⊥
  fault_moves n c f fine e = by_move (move files (settle files here)) refl
    where
      here : CState
      here = c_steps files n c

      w : Walk n c
      w = walk n c fine

      s : Settles (suc (suc (length here.world.script))) here
      s = settles (suc (suc (length here.world.script))) here

      by_move : (m : Moved) → move files (settle files here) ≡ m → ⊥
      by_move (Went d) m = let bad : step.Went ≡ step.Fault f = sym (ap (λ (q : Moved). (stepped files here q).answer) m) ∙ e in cc bad
      by_move Over m = over_answers (settle files here).course f (sym (ap (λ (q : Moved). (stepped files here q).answer) m) ∙ e)
      by_move (Faulted g) m =
          fine (w.count + (s.count + 1)) g (at_then w.count (s.count + 1) c here w.comes ∙ s.by 1 ∙ bad_move 0 (settle files here) g m)

  -- the events of later steps go on where those of earlier ones end
  settle_grows : (n : ℕ) (c : CState) → Prefix c.world.events (settle_for files n c).world.events
  settle_grows n c =
      let s = settles n c in
      along (s.count + 0) c (settle_for files n c) (s.by 0)

  step_grows : (c : CState) → Prefix c.world.events (c_step files c).state.world.events
  step_grows c = by_move (move files (settle files c)) refl
    where
      first : Prefix c.world.events (settle files c).world.events
      first = settle_grows (suc (suc (length c.world.script))) c

      by_move : (m : Moved) → move files (settle files c) ≡ m → Prefix c.world.events (stepped files c m).state.world.events
      by_move (Went d) m =
          let second = settle_grows (suc (suc (length d.world.script))) d in
          prefix_trans c.world.events (settle files c).world.events (settle files d).world.events first
          (prefix_trans (settle files c).world.events d.world.events (settle files d).world.events (move_grows files (settle files c) d m) second)
      by_move Over m = first
      by_move (Faulted f) m = same_prefix c.world.events

  pub steps_grow : (n : ℕ) (c : CState) → Prefix c.world.events (c_steps files n c).world.events
  steps_grow zero c = same_prefix c.world.events
  steps_grow (suc n) c =
      prefix_trans c.world.events (c_step files c).state.world.events (c_steps files (suc n) c).world.events (step_grows c)
      (steps_grow n (c_step files c).state)

  pub steps_then : (n k : ℕ) (c : CState) → c_steps files (n + k) c ≡ c_steps files k (c_steps files n c)
  steps_then zero k c = let z : 0 + k ≡ k = omega arith in ap (λ n. c_steps files n c) z
  steps_then (suc n) k c =
      let shape : suc n + k ≡ suc (n + k) = omega arith in
      ap (λ i. c_steps files i c) shape ∙ steps_then n k (c_step files c).state
