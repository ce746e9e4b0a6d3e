-- A machine as callers see it.
use Rattle.std.specs.Prelude.{◌≡◌, ℕ, List, [], drop}
use Rattle.thin_state.specs.declared.tree.CFile.{CFile}
use Rattle.thin_state.specs.declared.space.Entry.{Entry}
use Rattle.thin_state.specs.declared.space.Event.{Event}
use Rattle.thin_state.specs.declared.state.Step.{Step}
use Rattle.thin_state.specs.declared.state.Step.TheVariants as step
use Rattle.thin_state.specs.State.{CState, linked}
use Rattle.thin_state.specs.Machine.{c_step}

-- its files, how many entries it has taken, and its state; the script and the events are given to each step
pub record Run : Type 0 where
  pub files : List CFile
  pub taken : ℕ
  pub state : CState

-- the state over a script, after so many events
abbrev pub state_at : Run → List Entry → List Event → CState
state_at r script events =
    record r.state { world = record { script = drop r.taken script; instances = r.state.world.instances; views = r.state.world.views; events = events } }

-- before the first initialisation
abbrev pub linked_run : List CFile → Run
linked_run files = record { files = files; taken = 0; state = linked files [] }

-- a step leaves what the definition leaves, unless memory is wanting
abbrev pub IsStepOf : Run → List Entry → List Event → Step → Run → List Event → Type 0
IsStepOf r script events step.Memory s more = Unit {0}
IsStepOf r script events answer s more =
    c_step r.files (state_at r script events) ≡ record { answer = answer; state = state_at s script more }

-- a step that faults or wants memory changes nothing
abbrev pub IsKept : Step → Run → Run → List Event → List Event → Type 0
IsKept step.Memory r s events more = (s ≡ r) × (more ≡ events)
IsKept (step.Fault k) r s events more = (s ≡ r) × (more ≡ events)
IsKept _ r s events more = Unit {0}
