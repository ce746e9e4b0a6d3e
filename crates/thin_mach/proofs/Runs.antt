-- A step of the parts is a step of what they stand for.
use Rattle.std.proofs.Common.{◌≡◌, List, sym, ap, ◌∙◌, subst}
use Rattle.thin_state.specs.declared.space.Entry.{Entry}
use Rattle.thin_state.specs.declared.space.Event.{Event}
use Rattle.thin_state.specs.declared.state.Step.{Step}
use Rattle.thin_state.specs.declared.state.Step.TheVariants as step
use Rattle.thin_apply.specs.Applied.{Parts, Fixed, seen}
use Rattle.thin_mach.specs.Deciding.{IsStep}
use Rattle.thin_mach.specs.Runs.{Run, IsStepOf, IsKept}
use Rattle.thin_mach.specs.Held.{run_from}

is-step : (x : Fixed) (p : Parts) (script : List Entry) (ev : List Event) (s : Step) (q : Parts) (ew : List Event) → IsStep x p script ev s q ew
    → IsStepOf (run_from x p) script ev s (run_from x q) ew
unfolding IsStep
is-step x p script ev step.Memory q ew h = tt
is-step x p script ev (step.Fault k) q ew h =
    h.0 ∙ sym (ap (λ (r : Parts). record { answer = step.Fault k; state = seen x r script ew }) h.1 ∙ ap (λ (l : List Event). record { answer = step.Fault k; state = seen x p script l }) h.2)
is-step x p script ev step.Went q ew h = h
is-step x p script ev step.Ended q ew h = h
is-step x p script ev step.Stopped q ew h = h

is-kept : (x : Fixed) (p : Parts) (script : List Entry) (ev : List Event) (s : Step) (q : Parts) (ew : List Event) → IsStep x p script ev s q ew
    → IsKept s (run_from x p) (run_from x q) ev ew
unfolding IsStep
is-kept x p script ev step.Memory q ew h = (ap (run_from x) h.0, h.1)
is-kept x p script ev (step.Fault k) q ew h = (ap (run_from x) h.1, h.2)
is-kept x p script ev step.Went q ew h = tt
is-kept x p script ev step.Ended q ew h = tt
is-kept x p script ev step.Stopped q ew h = tt

-- with what stays, and the machine as it is seen
pub step-seen : (x y : Fixed) (p : Parts) (script : List Entry) (ev : List Event) (s : Step) (q : Parts) (ew : List Event) (r : Run) → IsStep x p script ev s q ew → y ≡ x
    → run_from x p ≡ r → IsStepOf r script ev s (run_from y q) ew
step-seen x y p script ev s q ew r h f v =
    subst (λ (t : Run). IsStepOf t script ev s (run_from y q) ew) v
    (subst (λ (z : Fixed). IsStepOf (run_from x p) script ev s (run_from z q) ew) (sym f) (is-step x p script ev s q ew h))

pub kept-seen : (x y : Fixed) (p : Parts) (script : List Entry) (ev : List Event) (s : Step) (q : Parts) (ew : List Event) (r : Run) → IsStep x p script ev s q ew → y ≡ x
    → run_from x p ≡ r → IsKept s r (run_from y q) ev ew
kept-seen x y p script ev s q ew r h f v =
    subst (λ (t : Run). IsKept s t (run_from y q) ev ew) v
    (subst (λ (z : Fixed). IsKept s (run_from x p) (run_from z q) ev ew) (sym f) (is-kept x p script ev s q ew h))
