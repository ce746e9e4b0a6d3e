-- The machine: a move is one C statement, or one move of the outside. A step settles, runs one statement and settles.
use Rattle.std.specs.Prelude.{ℕ, zero, suc, Bool, true, false, ◌&&◌, List, [], ◌∷◌, ◌++◌, Option, length, slice_get, is_none, if◌then◌else◌}
use Rattle.api_model.specs.declared.entry.Entry.{Entry}
use Rattle.api_model.specs.declared.event.Event.{Event}
use Rattle.c_tree.specs.declared.item.CFile.{CFile}
use Rattle.c_value.specs.declared.step.FaultKind.{FaultKind}
use Rattle.c_value.specs.declared.step.FaultKind.TheVariants as fault
use Rattle.c_value.specs.declared.step.Step.{Step}
use Rattle.c_value.specs.declared.step.Step.TheVariants as step
use Rattle.c_value.specs.declared.frame.Doing.{Doing}
use Rattle.c_value.specs.declared.frame.Doing.TheVariants as doing
use Rattle.c_value.specs.declared.space.Course.{Course}
use Rattle.c_value.specs.declared.space.Course.TheVariants as course
use Rattle.c_value.specs.declared.change.Planned.{Planned}
use Rattle.c_value.specs.declared.change.Planned.TheVariants.{Fault, Does, Asks, Hands}
use Rattle.api_model.specs.declared.event.Event.TheVariants as event
use Rattle.c_state.specs.State.{linked}
use Rattle.c_state.specs.Changed.{changed, asked, handed, event_of, events_of}
use Rattle.c_state.specs.Statements.{run_next, past_next, is_element_read}
use Rattle.c_state.specs.Elements.{stopping}
use Rattle.c_state.specs.Outside.{await, idle}
use Rattle.c_state.specs.declared.state.Frame.{Frame}
use Rattle.c_state.specs.declared.state.State.{State}
use Rattle.c_frame.specs.Lines.{next_line}

-- the next entry of the script
abbrev pub next_entry : List Entry → State → Option Entry
next_entry script c = slice_get script c.thread.taken

-- whether a frame wants an entry for an element where none is left
abbrev pub wants_entry : List Entry → State → Frame → Bool
wants_entry script c f = is_none (next_entry script c) && is_element_read (next_line f.code)

-- ---- moves

-- the next state with the trace lines that were made, the end of the run, or a fault
pub data Moved : Type 0 where
  Went : List Event → State → Moved
  Over : Moved
  Faulted : FaultKind → Moved

abbrev pub made_by : List CFile → State → Planned → Moved
made_by files c (Fault k) = Faulted k
made_by files c (Does d) = Went (events_of d) (changed files d c)
made_by files c (Asks a) = Went (event.Ask a.op ∷ []) (asked a c)
made_by files c (Hands h) = Went (event_of h.event) (handed h c)

-- a statement of the newest frame
abbrev pub statement : List CFile → List Entry → State → Frame → Moved
statement files script c f =
    made_by files (past_next (next_line f.code) c) (run_next files script c f (next_line f.code))

abbrev pub by_frame : List CFile → List Entry → State → Frame → Doing → Moved
by_frame files script c f doing.Runs =
    if wants_entry script c f then made_by files c (Does stopping) else statement files script c f
by_frame files script c f (doing.Asks o r m x) = made_by files c (await files c f o r m x (next_entry script c))
by_frame files script c f (doing.Waits x) = Faulted fault.Stuck

abbrev pub by_frames : List CFile → List Entry → State → List Frame → Moved
by_frames files script c [] = made_by files c (Does (idle files c (next_entry script c)))
by_frames files script c (f ∷ fs) = by_frame files script c f f.doing

abbrev pub by_course : List CFile → List Entry → State → Course → Moved
by_course files script c course.Goes = by_frames files script c c.thread.frames
by_course files script c course.Ended = Over
by_course files script c course.Stopped = Over

-- one move
abbrev pub move : List CFile → List Entry → State → Moved
move files script c = by_course files script c c.thread.course

-- ---- settling

-- whether the next move is the outside's
abbrev pub outside_frame : List Entry → State → Frame → Doing → Bool
outside_frame script c f doing.Runs = wants_entry script c f
outside_frame script c f (doing.Asks o r m x) = true
outside_frame script c f (doing.Waits x) = false

abbrev pub outside_frames : List Entry → State → List Frame → Bool
outside_frames script c [] = true
outside_frames script c (f ∷ fs) = outside_frame script c f f.doing

abbrev pub outside_by : List Entry → State → Course → Bool
outside_by script c course.Goes = outside_frames script c c.thread.frames
outside_by script c _ = false

abbrev pub outside : List Entry → State → Bool
outside script c = outside_by script c c.thread.course

-- more moves behind one
abbrev pub behind : Moved → (State → Moved) → Moved
behind (Went es c) more = with_events es (more c)
  where
    with_events : List Event → Moved → Moved
    with_events es (Went more c) = Went (es ++ more) c
    with_events es m = m
behind m more = m

-- the outside's moves; one for each entry of the script, and two more, are enough
abbrev pub settle_for : List CFile → List Entry → ℕ → State → Moved
settle_for files script zero c = Went [] c
settle_for files script (suc n) c =
    if outside script c then behind (move files script c) (settle_for files script n) else Went [] c

abbrev pub settle : List CFile → List Entry → State → Moved
settle files script c = settle_for files script (suc (suc (length script))) c

-- ---- steps

-- what a step answers, the trace lines that it makes, and the state that it leaves
pub record Stepped : Type 0 where
  pub answer : Step
  pub events : List Event
  pub state : State

abbrev pub over_answer : Course → Step
over_answer course.Stopped = step.Stopped
over_answer _ = step.Ended

-- a step that faults changes nothing
abbrev pub faulted : State → FaultKind → Stepped
faulted c k = record { answer = step.Fault k; events = []; state = c }

-- from the state c before the step: where statement and settling were done
abbrev pub settled : State → Moved → Stepped
settled c (Went es d) = record { answer = step.Went; events = es; state = d }
settled c Over = record { answer = step.Ended; events = []; state = c }
settled c (Faulted k) = faulted c k

-- the statement, from the settled state d; at the end a step has only settled
abbrev pub stepped : List CFile → List Entry → State → List Event → State → Moved → Stepped
stepped files script c es d Over = record { answer = over_answer d.thread.course; events = es; state = d }
stepped files script c es d m = settled c (behind (Went es d) (λ x. behind m (settle files script)))

abbrev pub from_settled : List CFile → List Entry → State → Moved → Stepped
from_settled files script c (Went es d) = stepped files script c es d (move files script d)
from_settled files script c Over = record { answer = step.Ended; events = []; state = c }
from_settled files script c (Faulted k) = faulted c k

-- one step
abbrev pub c_step : List CFile → List Entry → State → Stepped
c_step files script c = from_settled files script c (settle files script c)

-- ---- runs

-- the state after a number of steps
abbrev pub c_steps : List CFile → List Entry → ℕ → State → State
c_steps files script zero c = c
c_steps files script (suc n) c = c_steps files script n (c_step files script c).state

-- the trace lines of a number of steps
abbrev pub lines_of : List CFile → List Entry → ℕ → State → List Event
lines_of files script zero c = []
lines_of files script (suc n) c = (c_step files script c).events ++ lines_of files script n (c_step files script c).state

-- the events of the first steps of a run
abbrev pub c_events : List CFile → List Entry → ℕ → List Event
c_events files script n = lines_of files script n (linked true files)

-- the same without the ledger and the lock
abbrev pub bare_events : List CFile → List Entry → ℕ → List Event
bare_events files script n = lines_of files script n (linked false files)
