-- The moves of the outside: it starts initialisations, takes entries, enters functions, destroys instances and answers
-- operations. The project's own.
use Rattle.std.specs.Prelude.{ℕ, List, [], Option, Some, None, if◌then◌else◌}
use Rattle.api_model.specs.declared.entry.Entry.{Entry}
use Rattle.api_model.specs.declared.entry.Entry.TheVariants as entry
use Rattle.api_model.specs.declared.event.Event.TheVariants as event
use Rattle.api_model.specs.declared.op.Op.{Op}
use Rattle.api_model.specs.declared.rows.ApiRow.{ApiRow}
use Rattle.c_tree.specs.declared.name.FunctionName.{FunctionName}
use Rattle.c_tree.specs.declared.name.FunctionName.TheVariants as function
use Rattle.c_tree.specs.declared.name.Variable.{Variable}
use Rattle.c_tree.specs.declared.item.CFunction.{CFunction}
use Rattle.c_tree.specs.declared.item.CFile.{CFile}
use Rattle.c_value.specs.declared.space.Course.TheVariants as course
use Rattle.c_value.specs.declared.frame.Entered.TheVariants as entered
use Rattle.c_value.specs.declared.frame.Making.{Making}
use Rattle.c_state.specs.Linked.{name_of, function_at, next_initializer}
use Rattle.c_value.specs.declared.value.ItemPlace.{ItemPlace}
use Rattle.c_value.specs.declared.change.Flow.TheVariants as flow
use Rattle.c_value.specs.declared.change.Planned.{Planned}
use Rattle.c_value.specs.declared.change.Planned.TheVariants.{Does}
use Rattle.c_value.specs.declared.change.Change.{Change}
use Rattle.c_state.specs.Planned.{nothing}
use Rattle.c_state.specs.Elements.{stopping}
use Rattle.c_state.specs.Answered.{answered}
use Rattle.c_state.specs.Entering.{OutsideCall, call_of, entering_call}
use Rattle.c_state.specs.Destruction.{die, skipping}
use Rattle.c_state.specs.declared.state.Frame.{Frame}
use Rattle.c_state.specs.declared.state.State.{State}

-- a calling entry inside an operation; one that doesn't fit is an answer that doesn't fit
abbrev pub called : State → Frame → Op → ApiRow → Making → Option Variable → Entry → Option OutsideCall → Planned
called c f o r m x e (Some call) = Does (entering_call call)
called c f o r m x e None = answered c f o r m x e

-- the move inside an operation: with no entry left the run stops
abbrev pub await : List CFile → State → Frame → Op → ApiRow → Making → Option Variable → Option Entry → Planned
await files c f o r m x None = Does stopping
await files c f o r m x (Some (entry.Die k)) = Does (die files c k)
await files c f o r m x (Some e) = called c f o r m x e (call_of files c e)

abbrev pub ending : Change
ending = record nothing { event = Some event.End; course = Some course.Ended }

-- an entry at top level: one that calls nothing, and a call that doesn't fit, is skipped
abbrev pub top_called : Option OutsideCall → Change
top_called (Some call) = entering_call call
top_called None = skipping

-- the move at top level once all initialisations have begun: with no entry left the run ends
abbrev pub top : List CFile → State → Option Entry → Change
top files c None = ending
top files c (Some (entry.Die k)) = die files c k
top files c (Some e) = top_called (call_of files c e)

abbrev pub name_in : Option CFunction → List ℕ
name_in None = []
name_in (Some fn) = module_of (name_of fn.head)
  where
    module_of : FunctionName → List ℕ
    module_of (function.Initializer n) = n
    module_of _ = []

abbrev pub initialising : List CFile → ItemPlace → Change
initialising files p = record nothing {
  event = Some (event.Init (name_in (function_at files p)));
  flow = flow.Enters (record { function = p; values = []; lent = []; by = entered.ForInitialisation });
  begins = Some p.file;
}

-- the next initialisation, of the next file that has one
abbrev pub begin : List CFile → State → Option Entry → Option ItemPlace → Change
begin files c e (Some p) = initialising files p
begin files c e None = top files c e

-- the outside's move where no function runs; after a failed initialisation the run ends
abbrev pub idle : List CFile → State → Option Entry → Change
idle files c e = if c.shared.failed then ending else begin files c e (next_initializer files c.shared.begun)
