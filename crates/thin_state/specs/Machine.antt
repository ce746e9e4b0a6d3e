-- The machine: a move is one C statement, or one move of the outside. A step settles, runs one statement and settles.
use Rattle.std.specs.Prelude.{ℕ, zero, suc, Bool, true, false, List, [], ◌∷◌, length, if◌then◌else◌}
use Rattle.thin_state.specs.declared.space.Entry.{Entry}
use Rattle.thin_state.specs.declared.space.Event.{Event}
use Rattle.thin_state.specs.declared.space.Event.TheVariants as event
use Rattle.thin_state.specs.declared.tree.CFile.{CFile}
use Rattle.thin_state.specs.declared.state.FaultKind.TheVariants as fault
use Rattle.thin_state.specs.declared.state.Step.{Step}
use Rattle.thin_state.specs.declared.state.Step.TheVariants as step
use Rattle.thin_state.specs.declared.state.Doing.{Doing}
use Rattle.thin_state.specs.declared.state.Doing.TheVariants as doing
use Rattle.thin_state.specs.declared.state.Course.{Course}
use Rattle.thin_state.specs.declared.state.Course.TheVariants as course
use Rattle.thin_state.specs.State.{Frame, CState, linked}
use Rattle.thin_state.specs.Statements.{Moved, Went, Over, Faulted, off, tell, run_line}
use Rattle.thin_state.specs.Outside.{await, idle}

abbrev pub by_frame : List CFile → CState → Frame → List Frame → Doing → Moved
by_frame files c f fs doing.Runs = run_line files c f fs f.code
by_frame files c f fs (doing.Asks o r x) = Went (await files c f fs o r x c.world.script)
by_frame files c f fs (doing.Waits x) = Faulted fault.Stuck

abbrev pub by_frames : List CFile → CState → List Frame → Moved
by_frames files c [] = Went (idle files c)
by_frames files c (f ∷ fs) = by_frame files (off c fs) f fs f.doing

-- after a failed initialisation the run ends
abbrev pub by_course : List CFile → CState → Course → Moved
by_course files c course.Goes = by_frames files c c.frames
by_course files c course.Failed = Went (tell event.End (record c { course = course.Ended }))
by_course files c course.Ended = Over
by_course files c course.Stopped = Over

-- one move
abbrev pub move : List CFile → CState → Moved
move files c = by_course files c c.course

-- whether the next move is the outside's
abbrev pub is_asking : Doing → Bool
is_asking (doing.Asks o r x) = true
is_asking _ = false

abbrev pub none_runs : List Frame → Bool
none_runs [] = true
none_runs (f ∷ fs) = is_asking f.doing

abbrev pub outside_by : CState → Course → Bool
outside_by c course.Goes = none_runs c.frames
outside_by c course.Failed = true
outside_by c _ = false

abbrev pub outside : CState → Bool
outside c = outside_by c c.course

abbrev pub went_or : Moved → CState → CState
went_or (Went c) d = c
went_or _ d = d

-- the outside's moves; one for each entry that is left, and two more, are enough
abbrev pub settle_for : List CFile → ℕ → CState → CState
settle_for files zero c = c
settle_for files (suc n) c = if outside c then settle_for files n (went_or (move files c) c) else c

abbrev pub settle : List CFile → CState → CState
settle files c = settle_for files (suc (suc (length c.world.script))) c

-- what a step answers, and the state that it leaves
pub record Stepped : Type 0 where
  pub answer : Step
  pub state : CState

abbrev pub over_answer : Course → Step
over_answer course.Stopped = step.Stopped
over_answer _ = step.Ended

-- a step at the end has only settled, and one that faults changes nothing
abbrev pub stepped : List CFile → CState → Moved → Stepped
stepped files c (Went d) = record { answer = step.Went; state = settle files d }
stepped files c Over = record { answer = over_answer (settle files c).course; state = settle files c }
stepped files c (Faulted k) = record { answer = step.Fault k; state = c }

-- one step
abbrev pub c_step : List CFile → CState → Stepped
c_step files c = stepped files c (move files (settle files c))

-- the state after a number of steps
abbrev pub c_steps : List CFile → ℕ → CState → CState
c_steps files zero c = c
c_steps files (suc n) c = c_steps files n (c_step files c).state

-- the events of the first steps of a run
abbrev pub c_events : List CFile → List Entry → ℕ → List Event
c_events files script n = (c_steps files n (linked files script)).world.events
