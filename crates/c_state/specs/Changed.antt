-- The state after a change.
use Rattle.std.specs.Prelude.{ℕ, suc, Bool, true, false, List, [], ◌∷◌, ◌++◌, Option, Some, None, unwrap_or}
use Rattle.api_model.specs.declared.event.Event.{Event}
use Rattle.api_model.specs.declared.object.Obj.{Obj}
use Rattle.c_tree.specs.declared.name.Variable.{Variable}
use Rattle.c_tree.specs.declared.name.Variable.TheVariants as variable
use Rattle.c_tree.specs.declared.item.CFunction.{CFunction}
use Rattle.c_tree.specs.declared.item.CFile.{CFile}
use Rattle.c_value.specs.declared.value.Value.{Value}
use Rattle.c_value.specs.declared.space.Course.{Course}
use Rattle.c_value.specs.declared.frame.Doing.{Doing}
use Rattle.c_value.specs.declared.change.Change.{Change}
use Rattle.c_value.specs.declared.change.Entering.{Entering}
use Rattle.c_value.specs.declared.change.ErrorChange.{ErrorChange}
use Rattle.c_value.specs.declared.change.ErrorChange.TheVariants as error
use Rattle.c_value.specs.declared.change.Remembered.{Remembered}
use Rattle.c_value.specs.declared.change.Remembering.{Remembering}
use Rattle.c_value.specs.declared.change.Remembering.TheVariants as remembering
use Rattle.c_value.specs.declared.change.SpaceChange.{SpaceChange}
use Rattle.c_value.specs.declared.change.SpaceChange.TheVariants as space
use Rattle.c_value.specs.declared.change.Flow.{Flow}
use Rattle.c_value.specs.declared.change.Flow.TheVariants as flow
use Rattle.c_value.specs.declared.change.Asking.{Asking}
use Rattle.c_value.specs.declared.change.Handing.{Handing}
use Rattle.c_value.specs.declared.frame.Doing.TheVariants as doing
use Rattle.c_state.specs.Linked.{function_at}
use Rattle.c_ledger.specs.Ledger.{entered, left, without_loans}
use Rattle.c_ledger.specs.OfNewest.{gain_all, lose_all, owned, owning, loan_all}
use Rattle.c_state.specs.State.{with_shared, with_frames, with_ledger, with_error, with_remembered, with_ensured, with_taken, with_course, with_lock, with_instances, with_views, set_begun, set_failed, in_frame, set_spot, new_instance}
use Rattle.c_state.specs.Calls.{frame_of}
use Rattle.c_state.specs.declared.state.Frame.{Frame}
use Rattle.c_state.specs.declared.state.State.{State}
use Rattle.c_frame.specs.Cells.{put}
use Rattle.c_space.specs.Instances.{change_at, freed, stored_in, with_table}
use Rattle.c_frame.specs.Lines.{after_label}

-- ---- one part after the other

abbrev pub take_entry : Bool → State → State
take_entry true c = with_taken (suc c.thread.taken) c
take_entry false c = c

abbrev pub without_first : List Frame → List Frame
without_first [] = []
without_first (f ∷ fs) = fs

abbrev pub leave_frame : State → State
leave_frame c = with_ledger (left c.thread.ledger) (with_frames (without_first c.thread.frames) c)

abbrev pub leave_for : Flow → State → State
leave_for flow.Resumes c = leave_frame c
leave_for _ c = c

abbrev pub stop_loans : Bool → State → State
stop_loans true c = with_ledger (without_loans c.thread.ledger) c
stop_loans false c = c

abbrev pub lend : List Obj → State → State
lend os c = with_ledger (loan_all os c.thread.ledger) c

abbrev pub gain : List Obj → State → State
gain os c = with_ledger (gain_all os c.thread.ledger) c

abbrev pub lose : List Obj → State → State
lose os c = with_ledger (owning (lose_all (owned c.thread.ledger) os) c.thread.ledger) c

abbrev pub error_changed : ErrorChange → State → State
error_changed error.Stays c = c
error_changed error.Clears c = with_error None c
error_changed (error.Sets o) c = with_error (Some o) c

abbrev pub lock_changed : Option Bool → State → State
lock_changed None c = c
lock_changed (Some l) c = with_lock l c

abbrev pub forget : List Remembered → List Remembered
forget [] = []
forget (l ∷ ls) = ls

abbrev pub remember : Remembering → State → State
remember remembering.Stays c = c
remember (remembering.Adds l) c = with_ensured (suc c.thread.ensured) (with_remembered (l ∷ c.thread.remembered) c)
remember remembering.Forgets c = with_remembered (forget c.thread.remembered) c

abbrev pub change_space : List CFile → SpaceChange → State → State
change_space files space.Stays c = c
change_space files (space.Field k class j v) c = with_instances (change_at (stored_in class j v) k c.shared.instances) c
change_space files (space.Table k class) c = with_instances (change_at (with_table class) k c.shared.instances) c
change_space files (space.Freed k) c = with_instances (change_at freed k c.shared.instances) c
change_space files (space.Made t a) c = with_instances (c.shared.instances ++ new_instance files t a ∷ []) c
change_space files (space.Viewed i) c = with_views (c.shared.views ++ i ∷ []) c

abbrev pub begin_file : Option ℕ → State → State
begin_file None c = c
begin_file (Some k) c = with_shared c (set_begun c.shared (suc k))

abbrev pub course_changed : Option Course → State → State
course_changed None c = c
course_changed (Some course) c = with_course course c

abbrev pub jump_to : ℕ → Frame → Frame
jump_to label f = record f { code = unwrap_or (after_label f.function.lines label) f.code }

abbrev pub doing_it : Doing → Frame → Frame
doing_it d f = record f { doing = d }

-- what the newest frame does next
abbrev pub go_on : Flow → State → State
go_on (flow.Jumps label) c = in_frame (jump_to label) c
go_on (flow.Calls x e) c = in_frame (doing_it (doing.Waits x)) c
go_on flow.Resumes c = in_frame (doing_it doing.Runs) c
go_on flow.Runs c = in_frame (doing_it doing.Runs) c
go_on _ c = c

-- a variable of the newest frame, or a place of its file
abbrev pub put_in_frame : Variable → Value → Frame → Frame
put_in_frame x v f = record f { variables = put f.variables x v }

abbrev pub put_value : List Frame → Variable → Value → State → State
put_value (f ∷ fs) (variable.Place p) v c = set_spot f.file p v c
put_value fs x v c = in_frame (put_in_frame x v) c

abbrev pub give_value : Option (Variable × Value) → State → State
give_value None c = c
give_value (Some (x, v)) c = put_value c.thread.frames x v c

abbrev pub enter_function : Entering → State → Option CFunction → State
enter_function e c None = c
enter_function e c (Some fn) =
    with_ledger (entered c.thread.ledger e.lent) (with_frames (frame_of e.function.file fn e.values e.by c.shared.lock ∷ c.thread.frames) c)

abbrev pub enter_frame : List CFile → Flow → State → State
enter_frame files (flow.Calls x e) c = enter_function e c (function_at files e.function)
enter_frame files (flow.Enters e) c = enter_function e c (function_at files e.function)
enter_frame files _ c = c

-- ---- all of it

abbrev pub ledger_changed : Change → State → State
ledger_changed d c = gain d.gets_back (lose d.loses (gain d.gains (lend d.lends (stop_loans d.ends_loans c))))

abbrev pub thread_changed : Change → State → State
thread_changed d c = remember d.remembered (lock_changed d.lock (error_changed d.error (ledger_changed d c)))

abbrev pub shared_changed : List CFile → Change → State → State
shared_changed files d c = course_changed d.course (begin_file d.begins (change_space files d.space c))

abbrev pub frame_changed : List CFile → Change → State → State
frame_changed files d c = enter_frame files d.flow (give_value d.gives (go_on d.flow c))

-- the state after a change
abbrev pub changed : List CFile → Change → State → State
changed files d c = frame_changed files d (shared_changed files d (thread_changed d (leave_for d.flow (take_entry d.takes c))))

-- ---- asking, and handing a result to the outside

abbrev pub clear_error : Bool → State → State
clear_error true c = with_error None c
clear_error false c = c

-- the newest frame asks an operation
abbrev pub asked : Asking → State → State
asked a c = in_frame (doing_it (doing.Asks a.op a.row a.making a.target)) (clear_error a.clears (stop_loans true c))

abbrev pub fail_initialising : Bool → State → State
fail_initialising true c = with_shared c (set_failed c.shared true)
fail_initialising false c = c

-- the newest frame is left
abbrev pub handed : Handing → State → State
handed h c = fail_initialising h.fails (clear_error h.clears (stop_loans true (leave_frame c)))

-- ---- trace lines

-- the trace lines of a change
abbrev pub event_of : Option Event → List Event
event_of None = []
event_of (Some e) = e ∷ []

abbrev pub events_of : Change → List Event
events_of d = event_of d.event
