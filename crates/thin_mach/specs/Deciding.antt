-- What is decided before anything is changed, and what a step comes to.
use Rattle.std.specs.Prelude.{◌≡◌, ℕ, Bool, true, false, not, List, [], ◌∷◌, ◌++◌, Option, Some, None, drop}
use Rattle.thin_state.specs.declared.space.Entry.{Entry}
use Rattle.thin_state.specs.declared.space.Event.{Event}
use Rattle.thin_state.specs.declared.space.Event.TheVariants as event
use Rattle.thin_state.specs.declared.state.Step.{Step}
use Rattle.thin_state.specs.declared.state.Step.TheVariants as step
use Rattle.thin_state.specs.declared.state.Course.{Course}
use Rattle.thin_state.specs.declared.state.Course.TheVariants as course
use Rattle.thin_state.specs.Machine.{settle, is_asking, Stepped, c_step}
use Rattle.thin_look.specs.declared.parts.Activation.{Activation}
use Rattle.thin_plan.specs.declared.effects.Effect.{Effect}
use Rattle.thin_plan.specs.declared.effects.Effect.TheVariants as effect
use Rattle.thin_plan.specs.Plans.{Scene}
use Rattle.thin_plan.specs.Running.{lines_after, next_here, effect_here}
use Rattle.thin_apply.specs.Applied.{Parts, Fixed, applied, effect_events, moved_on, turn_events, last_of, seen}
use Rattle.thin_turn.specs.Turns.{Stage, idle_go, effect_go}
use Rattle.thin_turn.specs.declared.parts.Turn.{Turn}
use Rattle.thin_turn.specs.declared.parts.Turn.TheVariants as turn
use Rattle.thin_look.specs.Views.{function_at}

abbrev pub scene_at : Fixed → Parts → Activation → Scene
scene_at x p a = record {
  files = x.files;
  places = p.places;
  lock = x.lock;
  error = p.error;
  loans = p.loans;
  here = a;
  caller = last_of p.frames;
}

abbrev pub stage_at : Fixed → Parts → Stage
stage_at x p = record {
  files = x.files;
  places = p.places;
  lock = x.lock;
  instances = x.instances;
  views = x.views;
  begun = p.begun;
}

-- the parts and the events after what was decided
unfoldable pub finished : Parts → Activation → ℕ → Effect → ℕ → Turn → Parts
finished p a i e n t = moved_on n t (applied p (record a { line = i }) e)

unfoldable pub finished_events : List Event → Effect → Turn → List Event
finished_events ev e t = (ev ++ effect_events e) ++ turn_events t

-- what is decided for a frame above those of the parts, while so many files have begun and so many entries are taken
unfoldable pub IsDecided : Fixed → Parts → List Entry → ℕ → ℕ → Activation → ℕ → Effect → ℕ → Turn → Type 0
IsDecided x p script begun taken a i e n t =
    (e ≡ effect_here (scene_at x p a))
    × (drop i (function_at x.files a.file a.item).lines ≡ lines_after (next_here (scene_at x p a)))
    × (record { turn = t; rest = drop n script } ≡ effect_go (record (stage_at x p) { begun = begun }) a.own (last_of p.frames) (drop taken script) e)

-- a turn that begins with a frame where none runs, with its event
abbrev pub started : Parts → ℕ → ℕ → Activation → Parts
started p begun taken a = record p { taken = taken; begun = begun; frames = a ∷ [] }

unfoldable pub Starts : Fixed → Parts → List Entry → List Event → Event → Activation → ℕ → ℕ → Type 0
Starts x p script ev event a begun taken =
    (settle x.files (seen x p script ev) ≡ seen x (started p begun taken a) script (ev ++ event ∷ [])) × (is_asking a.doing ≡ false)

-- the outside's turn where no frame runs, after which so many entries are taken
unfoldable pub IsFirst : Fixed → Parts → List Entry → ℕ → Turn → Type 0
IsFirst x p script n t = record { turn = t; rest = drop n script } ≡ idle_go (stage_at x p) (drop p.taken script)

-- the newest frame asks nothing, while the run goes on
abbrev pub rests : Option Activation → Bool
rests None = true
rests (Some a) = not (is_asking a.doing)

abbrev pub is_resting : Course → Option Activation → Bool
is_resting course.Goes newest = rests newest
is_resting _ newest = true

-- what a step comes to: where memory is wanting, or it faults, nothing is changed
abbrev pub step_of : Fixed → Parts → List Entry → List Event → Stepped
step_of x p script ev = c_step x.files (seen x p script ev)

unfoldable pub IsStep : Fixed → Parts → List Entry → List Event → Step → Parts → List Event → Type 0
IsStep x p script ev step.Memory q ew = (q ≡ p) × (ew ≡ ev)
IsStep x p script ev (step.Fault k) q ew = (step_of x p script ev ≡ record { answer = step.Fault k; state = seen x p script ev }) × (q ≡ p) × (ew ≡ ev)
IsStep x p script ev s q ew = step_of x p script ev ≡ record { answer = s; state = seen x q script ew }

-- the run ends in this step, after which so many entries are taken
unfoldable pub Ends : Fixed → Parts → List Entry → List Event → ℕ → Type 0
Ends x p script ev n =
    step_of x p script ev ≡ record { answer = step.Ended; state = seen x (moved_on n turn.End p) script (ev ++ event.End ∷ []) }
