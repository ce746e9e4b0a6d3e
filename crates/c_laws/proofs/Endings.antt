-- After its end a run stays.
use Rattle.std.proofs.Common.{◌≡◌, ℕ, zero, suc, Bool, true, false, List, [], ◌∷◌, refl, ap, ◌∙◌, subst, length}
use Rattle.std.specs.Prelude.{if◌then◌else◌, ⊤}
use Rattle.api_model.specs.declared.entry.Entry.{Entry}
use Rattle.api_model.specs.declared.event.Event.{Event}
use Rattle.c_tree.specs.declared.item.CFile.{CFile}
use Rattle.c_value.specs.declared.frame.Doing.{Doing}
use Rattle.c_value.specs.declared.frame.Doing.TheVariants as doing
use Rattle.c_value.specs.declared.change.Planned.{Planned}
use Rattle.c_value.specs.declared.change.Planned.TheVariants.{Fault, Does, Asks, Hands}
use Rattle.c_value.specs.declared.space.Course.{Course}
use Rattle.c_value.specs.declared.space.Course.TheVariants as course
use Rattle.c_state.specs.declared.state.Frame.{Frame}
use Rattle.c_state.specs.declared.state.State.{State}
use Rattle.c_state.specs.Elements.{stopping}
use Rattle.c_state.specs.Outside.{await, idle}
use Rattle.c_state.specs.Machine.{next_entry, Moved, Went, Over, Faulted, Stepped, made_by, statement, by_frame, by_frames, by_course, move, wants_entry, outside, outside_by, behind, settle_for, settle, settled, stepped, over_answer, from_settled, c_step}
use Rattle.c_laws.specs.Laws.{EndStays, is_end}
use Rattle.c_laws.proofs.Runs.{stays_settled}

-- a move that isn't the end
abbrev GoesOn : Moved → Type 0
GoesOn Over = ⊥
GoesOn _ = ⊤

behind_went : (es : List Event) (c : State) (m : Moved) → GoesOn m → GoesOn (behind (Went es c) (λ x. m))
behind_went es c (Went more d) h = tt
behind_went es c Over h = h
behind_went es c (Faulted k) h = tt

behind_goes : (m : Moved) (more : State → Moved) → GoesOn m → ((c : State) → GoesOn (more c)) → GoesOn (behind m more)
behind_goes (Went es c) more h g = behind_went es c (more c) (g c)
behind_goes Over more h g = h
behind_goes (Faulted k) more h g = tt

module _ (files : List CFile) (script : List Entry) where
  made_goes : (c : State) (p : Planned) → GoesOn (made_by files c p)
  made_goes c (Fault k) = tt
  made_goes c (Does d) = tt
  made_goes c (Asks a) = tt
  made_goes c (Hands h) = tt

  either_goes : (b : Bool) (m n : Moved) → GoesOn m → GoesOn n → GoesOn (if b then m else n)
  either_goes true m n h g = h
  either_goes false m n h g = g

  frame_goes : (c : State) (f : Frame) (d : Doing) → GoesOn (by_frame files script c f d)
  frame_goes c f doing.Runs =
      either_goes (wants_entry script c f) (made_by files c (Does stopping)) (statement files script c f)
      (made_goes c (Does stopping)) (made_goes _ _)
  frame_goes c f (doing.Asks o r m x) = made_goes c (await files c f o r m x (next_entry script c))
  frame_goes c f (doing.Waits x) = tt

  frames_go : (c : State) (fs : List Frame) → GoesOn (by_frames files script c fs)
  frames_go c [] = made_goes c (Does (idle files c (next_entry script c)))
  frames_go c (f ∷ fs) = frame_goes c f f.doing

  outside_goes : (c : State) (q : Course) → outside_by script c q ≡ true → GoesOn (by_course files script c q)
  outside_goes c course.Goes e = frames_go c c.thread.frames
  outside_goes c course.Ended e = cc
  outside_goes c course.Stopped e = cc

  turn_goes : (b : Bool) (c : State) (m : Moved) → (b ≡ true → GoesOn m) → GoesOn (if b then m else Went [] c)
  turn_goes true c m h = h refl
  turn_goes false c m h = tt

  settle_goes : (n : ℕ) (c : State) → GoesOn (settle_for files script n c)
  settle_goes zero c = tt
  settle_goes (suc n) c =
      turn_goes (outside script c) c (behind (move files script c) (settle_for files script n))
      (λ e. behind_goes (move files script c) (settle_for files script n) (outside_goes c c.thread.course e) (settle_goes n))

  -- the end is reached where the run has ended or stopped
  over_outside : (c : State) (q : Course) → by_course files script c q ≡ Over → outside_by script c q ≡ false
  over_outside c course.Goes e = absurd (subst GoesOn e (frames_go c c.thread.frames))
  over_outside c course.Ended e = refl
  over_outside c course.Stopped e = refl

  abbrev stays_at : State → Stepped
  stays_at d = record { answer = over_answer d.thread.course; events = []; state = d }

  over_step : (d : State) → move files script d ≡ Over → c_step files script d ≡ stays_at d
  over_step d e =
      ap (from_settled files script d) (stays_settled files script d (over_outside d d.thread.course e))
      ∙ ap (λ (m : Moved). stepped files script d [] d m) e

  abbrev Stays : Stepped → Type 0
  Stays s = is_end s.answer ≡ true → c_step files script s.state ≡ record { answer = s.answer; events = []; state = s.state }

  settled_no_end : (c : State) (m : Moved) → GoesOn m → is_end (settled c m).answer ≡ true → ⊥
  settled_no_end c (Went es d) h e = cc
  settled_no_end c Over h e = h
  settled_no_end c (Faulted k) h e = cc

  stepped_stays : (c : State) (es : List Event) (d : State) (m : Moved) → move files script d ≡ m → Stays (stepped files script c es d m)
  stepped_stays c es d Over q e = over_step d q
  stepped_stays c es d (Went more f) q e =
      absurd (settled_no_end c (behind (Went es d) (λ x. behind (Went more f) (settle files script)))
      (behind_went es d (behind (Went more f) (settle files script)) (behind_goes (Went more f) (settle files script) tt (settle_goes (suc (suc (length script)))))) e)
  stepped_stays c es d (Faulted k) q e =
      absurd (settled_no_end c (behind (Went es d) (λ x. behind (Faulted k) (settle files script))) tt e)

  from_stays : (c : State) (m : Moved) → GoesOn m → Stays (from_settled files script c m)
  from_stays c (Went es d) h e = stepped_stays c es d (move files script d) refl e
  from_stays c Over h e = absurd h
  from_stays c (Faulted k) h e = cc

pub end_stays : (files : List CFile) (script : List Entry) (c : State) → EndStays files script c
end_stays files script c =
    let stays = from_stays files script c (settle files script c) (settle_goes files script (suc (suc (length script))) c) in
    record {
      answer = λ e. ap (λ (s : Stepped). s.answer) (stays e);
      events = λ e. ap (λ (s : Stepped). s.events) (stays e);
      state = λ e. ap (λ (s : Stepped). s.state) (stays e);
    }
