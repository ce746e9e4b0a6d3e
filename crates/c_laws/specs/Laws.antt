-- Laws of runs, over any files and script. The project's own.
use Rattle.std.specs.Prelude.{◌≡◌, ℕ, ◌+◌, Bool, true, false, List, [], ◌++◌}
use Rattle.api_model.specs.declared.entry.Entry.{Entry}
use Rattle.c_tree.specs.declared.item.CFile.{CFile}
use Rattle.c_value.specs.declared.step.FaultKind.{FaultKind}
use Rattle.c_value.specs.declared.step.Step.{Step}
use Rattle.c_value.specs.declared.step.Step.TheVariants as step
use Rattle.c_state.specs.declared.state.State.{State}
use Rattle.c_state.specs.State.{linked}
use Rattle.c_state.specs.Machine.{Went, outside, settle, c_step, c_steps, lines_of, c_events, bare_events}

-- more steps go on from where fewer ended, and only add trace lines at the end
pub record RunsGoOn (files : List CFile) (script : List Entry) (n k : ℕ) : Type 0 where
  pub steps : (c : State) → c_steps files script (n + k) c ≡ c_steps files script k (c_steps files script n c)
  pub lines : (c : State) → lines_of files script (n + k) c ≡ lines_of files script n c ++ lines_of files script k (c_steps files script n c)
  pub events : c_events files script (n + k)
      ≡ c_events files script n ++ lines_of files script k (c_steps files script n (linked true files))
  pub bare : bare_events files script (n + k)
      ≡ bare_events files script n ++ lines_of files script k (c_steps files script n (linked false files))

-- whether an answer is the end of a run
abbrev pub is_end : Step → Bool
is_end step.Ended = true
is_end step.Stopped = true
is_end _ = false

-- after its end a run stays: the next step answers the same, makes no trace line, and changes nothing
pub record EndStays (files : List CFile) (script : List Entry) (c : State) : Type 0 where
  pub answer : is_end (c_step files script c).answer ≡ true
      → (c_step files script (c_step files script c).state).answer ≡ (c_step files script c).answer
  pub events : is_end (c_step files script c).answer ≡ true → (c_step files script (c_step files script c).state).events ≡ []
  pub state : is_end (c_step files script c).answer ≡ true
      → (c_step files script (c_step files script c).state).state ≡ (c_step files script c).state

-- a step that faults changes nothing, and makes no trace line
abbrev pub ChangesNothing : List CFile → List Entry → State → FaultKind → Type 0
ChangesNothing files script c k =
    (c_step files script c).answer ≡ step.Fault k → ((c_step files script c).events ≡ []) × ((c_step files script c).state ≡ c)

-- where the next move isn't the outside's, settling does nothing
abbrev pub StaysSettled : List CFile → List Entry → State → Type 0
StaysSettled files script c = outside script c ≡ false → settle files script c ≡ Went [] c
