-- Laws of runs.
use Rattle.std.proofs.Common.{◌≡◌, ℕ, zero, suc, ◌+◌, Bool, true, false, List, [], ◌++◌, refl, sym, ap, ◌∙◌, length, arith}
use Rattle.std.proofs.lemmas.List.{append_assoc}
use Rattle.std.specs.Prelude.{if◌then◌else◌}
use Rattle.api_model.specs.declared.entry.Entry.{Entry}
use Rattle.api_model.specs.declared.event.Event.{Event}
use Rattle.c_tree.specs.declared.item.CFile.{CFile}
use Rattle.c_value.specs.declared.space.Course.{Course}
use Rattle.c_value.specs.declared.space.Course.TheVariants as course
use Rattle.c_value.specs.declared.step.FaultKind.{FaultKind}
use Rattle.c_value.specs.declared.step.Step.TheVariants as step
use Rattle.c_state.specs.declared.state.State.{State}
use Rattle.c_state.specs.State.{linked}
use Rattle.c_state.specs.Machine.{Moved, Went, Over, Faulted, Stepped, move, outside, behind, settle_for, settle, settled, stepped, over_answer, from_settled, c_step, c_steps, lines_of}
use Rattle.c_laws.specs.Laws.{RunsGoOn, ChangesNothing, StaysSettled}

none : (k : ℕ) → zero + k ≡ k
none k = omega arith

one_more : (n k : ℕ) → suc n + k ≡ suc (n + k)
one_more n k = omega arith

module _ (files : List CFile) (script : List Entry) where
  steps_compose : (n k : ℕ) (c : State) → c_steps files script (n + k) c ≡ c_steps files script k (c_steps files script n c)
  steps_compose zero k c = ap (λ (m : ℕ). c_steps files script m c) (none k)
  steps_compose (suc n) k c = ap (λ (m : ℕ). c_steps files script m c) (one_more n k) ∙ steps_compose n k (c_step files script c).state

  lines_append : (n k : ℕ) (c : State)
      → lines_of files script (n + k) c ≡ lines_of files script n c ++ lines_of files script k (c_steps files script n c)
  lines_append zero k c = ap (λ (m : ℕ). lines_of files script m c) (none k)
  lines_append (suc n) k c =
      ap (λ (m : ℕ). lines_of files script m c) (one_more n k)
      ∙ ap (λ (es : List Event). (c_step files script c).events ++ es) (lines_append n k (c_step files script c).state)
      ∙ sym (append_assoc (c_step files script c).events (lines_of files script n (c_step files script c).state)
      (lines_of files script k (c_steps files script n (c_step files script c).state)))

pub runs_go_on : (files : List CFile) (script : List Entry) (n k : ℕ) → RunsGoOn files script n k
runs_go_on files script n k = record {
  steps = steps_compose files script n k;
  lines = lines_append files script n k;
  events = lines_append files script n k (linked true files);
  bare = lines_append files script n k (linked false files);
}

-- ---- settling

by_turn : (b : Bool) (c : State) (m : Moved) → b ≡ false → (if b then m else Went [] c) ≡ Went [] c
by_turn true c m e = cc
by_turn false c m e = refl

pub stays_settled : (files : List CFile) (script : List Entry) (c : State) → StaysSettled files script c
stays_settled files script c e =
    by_turn (outside script c) c (behind (move files script c) (settle_for files script (suc (length script)))) e

-- ---- faults

abbrev Nothing : State → FaultKind → Stepped → Type 0
Nothing c k s = s.answer ≡ step.Fault k → (s.events ≡ []) × (s.state ≡ c)

settled_nothing : (c : State) (k : FaultKind) (m : Moved) → Nothing c k (settled c m)
settled_nothing c k (Went es d) e = cc
settled_nothing c k Over e = cc
settled_nothing c k (Faulted f) e = (refl, refl)

over_no_fault : (q : Course) (k : FaultKind) → over_answer q ≡ step.Fault k → ⊥
over_no_fault course.Goes k e = cc
over_no_fault course.Ended k e = cc
over_no_fault course.Stopped k e = cc

stepped_nothing : (files : List CFile) (script : List Entry) (c : State) (k : FaultKind) (es : List Event) (d : State) (m : Moved)
    → Nothing c k (stepped files script c es d m)
stepped_nothing files script c k es d Over e = absurd (over_no_fault d.thread.course k e)
stepped_nothing files script c k es d (Went more f) e = settled_nothing c k (behind (Went es d) (λ x. behind (Went more f) (settle files script))) e
stepped_nothing files script c k es d (Faulted f) e = settled_nothing c k (behind (Went es d) (λ x. behind (Faulted f) (settle files script))) e

from_nothing : (files : List CFile) (script : List Entry) (c : State) (k : FaultKind) (m : Moved) → Nothing c k (from_settled files script c m)
from_nothing files script c k (Went es d) e = stepped_nothing files script c k es d (move files script d) e
from_nothing files script c k Over e = cc
from_nothing files script c k (Faulted f) e = (refl, refl)

pub changes_nothing : (files : List CFile) (script : List Entry) (c : State) (k : FaultKind) → ChangesNothing files script c k
changes_nothing files script c k e = from_nothing files script c k (settle files script c) e
