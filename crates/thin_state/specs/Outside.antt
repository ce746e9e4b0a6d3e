-- The moves of the outside: it starts initialisations, takes entries, enters functions and answers operations. The project's own.
use Rattle.std.specs.Prelude.{ℕ, suc, Bool, List, [], ◌∷◌, Option, Some, pos, length}
use Rattle.thin_state.specs.declared.space.Obj.{Obj}
use Rattle.thin_state.specs.declared.space.Callee.{Callee}
use Rattle.thin_state.specs.declared.space.Entry.{Entry}
use Rattle.thin_state.specs.declared.space.Entry.TheVariants as entry
use Rattle.thin_state.specs.declared.space.Op.{Op}
use Rattle.thin_state.specs.declared.space.Answer.{Answer}
use Rattle.thin_state.specs.declared.space.Event.TheVariants as event
use Rattle.thin_state.specs.declared.tree.Variable.{Variable}
use Rattle.thin_state.specs.declared.tree.ApiRow.{ApiRow}
use Rattle.thin_state.specs.declared.tree.ApiRow.TheVariants as row
use Rattle.thin_state.specs.declared.tree.CFunction.{CFunction}
use Rattle.thin_state.specs.declared.tree.CFile.{CFile}
use Rattle.thin_state.specs.declared.state.Value.TheVariants as value
use Rattle.thin_state.specs.declared.state.Entered.TheVariants as entered
use Rattle.thin_state.specs.declared.state.Doing.TheVariants as doing
use Rattle.thin_state.specs.declared.state.Course.TheVariants as course
use Rattle.thin_state.specs.Objects.{NewResult, Gave, Raises, new_result, sure_result}
use Rattle.thin_state.specs.World.{answer_in, read_in}
use Rattle.thin_state.specs.State.{put_to, Frame, CState}
use Rattle.thin_state.specs.Reads.{Found, FoundFunction, NotFound, frame_of, entered_by, initializer_from, initializer_name}
use Rattle.thin_state.specs.Statements.{on, tell, script_to}

-- how an answer comes back to the frame that asked
pub data How : Type 0 where
  NewReference : How
  Borrowed : How
  SetsError : How

abbrev pub how : ApiRow → How
how (row.Number b) = NewReference
how row.ModuleCreate = NewReference
how row.ImportModule = NewReference
how row.ModuleGetDict = Borrowed
how row.ErrSetString = SetsError

abbrev pub deliver_new : NewResult → Option Variable → CState → Frame → List Frame → CState
deliver_new (Gave o) x c f fs =
    on c (record f { doing = doing.Runs; own = o ∷ f.own; variables = put_to f.variables x (value.Object o) }) fs
deliver_new (Raises e) x c f fs =
    on (record c { error = Some e }) (record f { doing = doing.Runs; variables = put_to f.variables x value.Null }) fs

abbrev pub deliver_by : How → Option Variable → Answer → CState → Frame → List Frame → CState
deliver_by NewReference x a c f fs = deliver_new (new_result a) x c f fs
deliver_by Borrowed x a c f fs =
    on (record c { loans = sure_result a ∷ c.loans }) (record f { doing = doing.Runs; variables = put_to f.variables x (value.Object (sure_result a)) }) fs
deliver_by SetsError x a c f fs = on (record c { error = Some (sure_result a) }) (record f { doing = doing.Runs }) fs

abbrev pub deliver : ApiRow → Option Variable → Answer → CState → Frame → List Frame → CState
deliver r x a c f fs = deliver_by (how r) x a c f fs

-- a function that is entered from outside: its `self` is NULL, and its arguments are lent to it
abbrev pub entered_frame : ℕ → CFunction → List Obj → Bool → Frame
entered_frame k fn args lock =
    frame_of k fn (value.Null ∷ value.Arguments args ∷ value.Number (pos (length args)) ∷ []) args entered.FromOutside lock

abbrev pub enter : CState → List Frame → Callee → List Obj → ℕ → CFunction → CState
enter c fs callee args k fn = tell (event.Enter callee args) (on c (entered_frame k fn args c.lock) fs)

-- an entry that answers the operation
abbrev pub answered : CState → Frame → List Frame → Op → ApiRow → Option Variable → Entry → CState
answered c f fs o r x e = deliver r x (answer_in c.world o e) (tell (event.Answer (answer_in c.world o e)) c) f fs

-- a calling entry inside an operation: where it doesn't fit it is an answer that doesn't fit
abbrev pub called : CState → Frame → List Frame → Op → ApiRow → Option Variable → Callee → List Obj → Found → CState
called c f fs o r x callee args (FoundFunction k fn) = enter c (f ∷ fs) callee (read_in c.world args) k fn
called c f fs o r x callee args NotFound = answered c f fs o r x (entry.Enter callee args)

-- the move inside an operation: with no entry left the run stops
abbrev pub await : List CFile → CState → Frame → List Frame → Op → ApiRow → Option Variable → List Entry → CState
await files c f fs o r x [] = tell event.Stop (script_to [] (on (record c { course = course.Stopped }) f fs))
await files c f fs o r x (entry.Die k ∷ es) = script_to es (on c f fs)
await files c f fs o r x (entry.Enter callee args ∷ es) =
    called (script_to es c) f fs o r x callee args (entered_by files c.places callee)
await files c f fs o r x (e ∷ es) = answered (script_to es c) f fs o r x e

-- a calling entry at top level: where it doesn't fit it is skipped
abbrev pub top_called : CState → Callee → List Obj → Found → CState
top_called c callee args (FoundFunction k fn) = enter c [] callee (read_in c.world args) k fn
top_called c callee args NotFound = c

-- the move at top level once all initialisations have begun: entries that call nothing are skipped, and with none left the run ends
abbrev pub top : List CFile → CState → List Entry → CState
top files c [] = tell event.End (script_to [] (record c { course = course.Ended }))
top files c (entry.Enter callee args ∷ es) = top_called (script_to es c) callee args (entered_by files c.places callee)
top files c (e ∷ es) = script_to es c

-- the next initialisation, if there is one
abbrev pub begin : List CFile → CState → Found → CState
begin files c (FoundFunction k fn) =
    tell (event.Init (initializer_name fn.head)) (on (record c { begun = suc k }) (frame_of k fn [] [] entered.ForInitialisation c.lock) [])
begin files c NotFound = top files c c.world.script

-- the outside's move where no function runs
abbrev pub idle : List CFile → CState → CState
idle files c = begin files c (initializer_from c.begun files)
