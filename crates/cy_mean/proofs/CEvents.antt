-- The events of the C's steps: they only grow, and they end once.
use Rattle.std.proofs.Common.{◌≡◌, ℕ, zero, suc, Bool, true, false, List, ◌++◌, length, refl, sym, subst}
use Rattle.std.specs.Prelude.{if◌then◌else◌}
use Rattle.thin_state.specs.declared.space.Event.{Event}
use Rattle.thin_state.specs.declared.tree.CFile.{CFile}
use Rattle.thin_state.specs.declared.state.Course.{Course}
use Rattle.thin_state.specs.declared.state.Course.TheVariants as course
use Rattle.thin_state.specs.State.{CState, linked}
use Rattle.thin_state.specs.Statements.{Moved, Went, Over, Faulted}
use Rattle.thin_state.specs.Machine.{by_course, move, outside, went_or, settle_for, settle, stepped, c_step, c_steps, c_events}
use Rattle.cy_mean.specs.Sound.{Prefix}
use Rattle.cy_mean.specs.Laws.{EndsOnce, CEventsGrow, CEventsEndOnce}
use Rattle.cy_mean.proofs.Endings.{is_open, open-append, closed-append, open-ends_once, closed-ends_once}
use Rattle.cy_mean.proofs.Growth.{Ending, AfterMove, move_ends}
use Rattle.cy_mean.proofs.Steps.{steps_grow, steps_then}

pub c_events_grow : CEventsGrow
c_events_grow files script n k =
    subst (λ (c : CState). Prefix (c_events files script n) c.world.events) (sym (steps_then files n k (linked files script)))
    (steps_grow files k (c_steps files n (linked files script)))

abbrev EndsWell : CState → Type 0
EndsWell c = Ending c.world.events c.course

ending-on : (a more : List Event) (k : Course) → is_open a ≡ true → Ending more k → Ending (a ++ more) k
ending-on a more course.Goes p h = open-append a more p h
ending-on a more course.Failed p h = open-append a more p h
ending-on a more course.Ended p h = closed-append a more p h
ending-on a more course.Stopped p h = closed-append a more p h

ending-once : (es : List Event) (k : Course) → Ending es k → EndsOnce es
ending-once es course.Goes h = open-ends_once es h
ending-once es course.Failed h = open-ends_once es h
ending-once es course.Ended h = closed-ends_once es h
ending-once es course.Stopped h = closed-ends_once es h

module _ (files : List CFile) where
  after_open : (c d : CState) → is_open c.world.events ≡ true → AfterMove c (Went d) → EndsWell d
  after_open c d p h =
      subst (λ (es : List Event). Ending es d.course) (sym h.1) (ending-on c.world.events h.0 d.course p h.2)

  by_course_keeps : (c d : CState) (k : Course) → c.course ≡ k → Ending c.world.events k → by_course files c k ≡ Went d → AfterMove c (Went d) → EndsWell d
  by_course_keeps c d course.Goes e h m a = after_open c d h a
  by_course_keeps c d course.Failed e h m a = after_open c d h a
  by_course_keeps c d course.Ended e h m a = cc m
  by_course_keeps c d course.Stopped e h m a = cc m

  move_keeps : (c d : CState) → EndsWell c → move files c ≡ Went d → EndsWell d
  move_keeps c d h m =
      by_course_keeps c d c.course refl h m (subst (λ (q : Moved). AfterMove c q) m (move_ends files c))

  went_keeps : (c : CState) (m : Moved) → EndsWell c → move files c ≡ m → EndsWell (went_or m c)
  went_keeps c (Went d) h e = move_keeps c d h e
  went_keeps c Over h e = h
  went_keeps c (Faulted f) h e = h

  settle_keeps : (n : ℕ) (c : CState) → EndsWell c → EndsWell (settle_for files n c)
  settle_keeps zero c h = h
  settle_keeps (suc n) c h =
      by_turn (outside c) (settle_keeps n (went_or (move files c) c) (went_keeps c (move files c) h refl))
    where
      by_turn : (q : Bool) → EndsWell (settle_for files n (went_or (move files c) c)) → EndsWell (if q then settle_for files n (went_or (move files c) c) else c)
      by_turn true g = g
      by_turn false g = h

  stepped_keeps : (c : CState) (m : Moved) → EndsWell c → EndsWell (settle files c) → move files (settle files c) ≡ m → EndsWell (stepped files c m).state
  stepped_keeps c (Went d) h s e =
      settle_keeps (suc (suc (length d.world.script))) d (move_keeps (settle files c) d s e)
  stepped_keeps c Over h s e = s
  stepped_keeps c (Faulted f) h s e = h

  steps_keep : (n : ℕ) (c : CState) → EndsWell c → EndsWell (c_steps files n c)
  steps_keep zero c h = h
  steps_keep (suc n) c h =
      steps_keep n (c_step files c).state
      (stepped_keeps c (move files (settle files c)) h (settle_keeps (suc (suc (length c.world.script))) c h) refl)

pub c_events_end_once : CEventsEndOnce
c_events_end_once files script n =
    let c = c_steps files n (linked files script) in
    ending-once c.world.events c.course (steps_keep files n (linked files script) refl)
