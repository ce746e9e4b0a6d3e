-- What effects make of a state.
use Rattle.std.specs.Prelude.{ℕ, Bool, true, false, List, [], ◌∷◌, Option, Some, None, drop}
use Rattle.thin_state.specs.declared.space.Obj.{Obj}
use Rattle.thin_state.specs.declared.space.Event.TheVariants as event
use Rattle.thin_state.specs.declared.tree.Variable.{Variable}
use Rattle.thin_state.specs.declared.tree.CFile.{CFile}
use Rattle.thin_state.specs.declared.state.FaultKind.TheVariants as fault
use Rattle.thin_state.specs.declared.state.Value.{Value}
use Rattle.thin_state.specs.declared.state.Doing.TheVariants as doing
use Rattle.thin_state.specs.declared.state.Course.{Course}
use Rattle.thin_state.specs.declared.state.Course.TheVariants as course
use Rattle.thin_state.specs.State.{lose, put, put_to, Frame, CState}
use Rattle.thin_state.specs.Statements.{Moved, Went, Faulted, on, off, tell, lend, store}
use Rattle.thin_plan.specs.declared.effects.Effect.{Effect}
use Rattle.thin_plan.specs.declared.effects.Effect.TheVariants as effect
use Rattle.thin_look.specs.Views.{frame_view}

abbrev pub jumped : Frame → Option ℕ → Frame
jumped f None = f
jumped f (Some i) = record f { code = drop i f.function.lines }

abbrev pub handed : CState → List Frame → Option Variable → Value → List Obj → Moved
handed c [] x v own = Faulted fault.Stuck
handed c (g ∷ gs) x v own =
    Went (on c (record g { doing = doing.Runs; own = own; variables = put_to g.variables x v }) gs)

abbrev pub course_after : Bool → Course → Course
course_after true k = course.Failed
course_after false k = k

-- an effect, with the frame that ran and those below it
abbrev pub effected : List CFile → CState → Frame → List Frame → Effect → Moved
effected files c f fs (effect.Fault k) = Faulted k
effected files c f fs (effect.Write x v l) = Went (on (lend l c) (record f { variables = put f.variables x v }) fs)
effected files c f fs (effect.Store p v own l) = Went (on (store (lend l c) f.file p v) (record f { own = own }) fs)
effected files c f fs (effect.Ask o r x e) = Went (tell e (on (record c { loans = [] }) (record f { doing = doing.Asks o r x }) fs))
effected files c f fs (effect.Call a x l) = Went (on (lend l c) (record (frame_view files a) { doing = doing.Runs }) (record f { doing = doing.Waits x } ∷ fs))
effected files c f fs (effect.Gain own l) = Went (on (lend l c) (record f { own = own }) fs)
effected files c f fs (effect.Lose o) = Went (on (record c { loans = [] }) (record f { own = lose f.own o }) fs)
effected files c f fs (effect.Jump i l) = Went (on (lend l c) (jumped f i) fs)
effected files c f fs (effect.Hand x v own l) = handed (lend l c) fs x v own
effected files c f fs (effect.Leave o l) = Went (tell (event.Leave o) (off (lend l c) fs))
effected files c f fs (effect.LeaveRaise e failed l) =
    Went (tell (event.LeaveRaise e) (off (record (lend l c) { error = None; course = course_after failed c.course }) fs))
