-- What the outside's turns make of a state.
use Rattle.std.specs.Prelude.{List, [], ◌∷◌, Option, Some}
use Rattle.thin_state.specs.declared.space.Entry.{Entry}
use Rattle.thin_state.specs.declared.space.Event.TheVariants as event
use Rattle.thin_state.specs.declared.tree.Variable.{Variable}
use Rattle.thin_state.specs.declared.tree.CFile.{CFile}
use Rattle.thin_state.specs.declared.state.Value.TheVariants as value
use Rattle.thin_state.specs.declared.state.Doing.TheVariants as doing
use Rattle.thin_state.specs.declared.state.Course.TheVariants as course
use Rattle.thin_state.specs.State.{put_to, Frame, CState}
use Rattle.thin_state.specs.Statements.{on, tell, script_to}
use Rattle.thin_turn.specs.declared.parts.Delivery.{Delivery}
use Rattle.thin_turn.specs.declared.parts.Delivery.TheVariants as delivery
use Rattle.thin_turn.specs.declared.parts.Turn.{Turn}
use Rattle.thin_turn.specs.declared.parts.Turn.TheVariants as turn
use Rattle.thin_look.specs.Views.{frame_view}

-- an answer that reaches the frame that asked
abbrev pub delivered : Option Variable → Delivery → CState → Frame → List Frame → CState
delivered x (delivery.New own o) c f fs =
    on c (record f { doing = doing.Runs; own = own; variables = put_to f.variables x (value.Object o) }) fs
delivered x (delivery.Raised e) c f fs =
    on (record c { error = Some e }) (record f { doing = doing.Runs; variables = put_to f.variables x value.Null }) fs
delivered x (delivery.Borrowed o loan) c f fs =
    on (record c { loans = loan ∷ c.loans }) (record f { doing = doing.Runs; variables = put_to f.variables x (value.Object o) }) fs
delivered x (delivery.SetsError e) c f fs = on (record c { error = Some e }) (record f { doing = doing.Runs }) fs

abbrev pub delivered_nowhere : Delivery → CState → CState
delivered_nowhere (delivery.New own o) c = c
delivered_nowhere (delivery.Raised e) c = record c { error = Some e }
delivered_nowhere (delivery.Borrowed o loan) c = record c { loans = loan ∷ c.loans }
delivered_nowhere (delivery.SetsError e) c = record c { error = Some e }

abbrev pub delivered_to : List Frame → Option Variable → Delivery → CState → CState
delivered_to [] x d c = delivered_nowhere d c
delivered_to (f ∷ fs) x d c = delivered x d c f fs

-- a turn of the outside, with the entries that are left after it
abbrev pub turned : List CFile → List Entry → CState → Turn → CState
turned files es c turn.Nothing = script_to es c
turned files es c turn.Stop = tell event.Stop (script_to es (record c { course = course.Stopped }))
turned files es c turn.End = tell event.End (script_to es (record c { course = course.Ended }))
turned files es c (turn.Answer a x d) = delivered_to c.frames x d (tell (event.Answer a) (script_to es c))
turned files es c (turn.Enter callee args a) =
    tell (event.Enter callee args) (on (script_to es c) (frame_view files a) c.frames)
turned files es c (turn.Begin name k a) =
    tell (event.Init name) (on (record (script_to es c) { begun = k }) (frame_view files a) [])
