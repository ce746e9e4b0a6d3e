-- How an answer comes back to the frame that asked (Python/C API manual, "Reference Counts", "Exception Handling").
use Rattle.std.specs.Prelude.{ℕ, List, [], ◌∷◌, Option, Some, pos, negsuc, length, true, if◌then◌else◌}
use Rattle.api_model.specs.declared.object.Obj.{Obj}
use Rattle.api_model.specs.declared.entry.Entry.{Entry}
use Rattle.api_model.specs.declared.entry.Entry.TheVariants as entry
use Rattle.api_model.specs.declared.event.Event.TheVariants as event
use Rattle.api_model.specs.declared.info.Info.{Info}
use Rattle.api_model.specs.declared.op.Op.{Op}
use Rattle.api_model.specs.declared.op.Answer.{Answer}
use Rattle.api_model.specs.declared.op.Answer.TheVariants as answers
use Rattle.api_model.specs.declared.rows.ApiRow.{ApiRow}
use Rattle.api_model.specs.declared.rows.Gives.{Gives}
use Rattle.api_model.specs.declared.rows.Gives.TheVariants as gives
use Rattle.api_model.specs.declared.rows.Fails.{Fails}
use Rattle.api_model.specs.declared.rows.Fails.TheVariants as fails
use Rattle.api_model.specs.Answers.{answer_of, is_view, read_obj}
use Rattle.c_tree.specs.declared.name.Variable.{Variable}
use Rattle.c_value.specs.declared.value.Value.{Value}
use Rattle.c_value.specs.declared.value.Value.TheVariants as value
use Rattle.c_value.specs.declared.frame.Making.{Making}
use Rattle.c_value.specs.declared.frame.Making.TheVariants as making
use Rattle.c_value.specs.declared.change.Flow.TheVariants as flow
use Rattle.c_value.specs.declared.change.ErrorChange.{ErrorChange}
use Rattle.c_value.specs.declared.change.ErrorChange.TheVariants as error
use Rattle.c_value.specs.declared.change.SpaceChange.{SpaceChange}
use Rattle.c_value.specs.declared.change.SpaceChange.TheVariants as space
use Rattle.c_value.specs.declared.change.Planned.{Planned}
use Rattle.c_value.specs.declared.change.Change.{Change}
use Rattle.c_state.specs.Planned.{nothing}
use Rattle.c_state.specs.Stores.{give_to}
use Rattle.c_state.specs.declared.state.Frame.{Frame}
use Rattle.c_state.specs.declared.state.State.{State}

-- ---- what is new: an instance or a view

-- what isn't in form is answered by no object
abbrev pub viewed : Info → SpaceChange
viewed i = if is_view i then space.Viewed i else space.Stays

abbrev pub view_of : Entry → SpaceChange
view_of (entry.View i) = viewed i
view_of e = space.Stays

abbrev pub added : Making → Entry → SpaceChange
added making.Nothing e = space.Stays
added making.View e = view_of e
added (making.Instance t a) e = space.Made t a

abbrev pub made : Making → Entry → Answer → SpaceChange
made m e (answers.Object o) = added m e
made m e a = space.Stays

-- ---- what the answer gives

-- the value by which a call signals failure
abbrev pub failure_of : Fails → Value
failure_of fails.Null = value.Null
failure_of fails.NullSet = value.Null
failure_of fails.MinusOne = value.Number (negsuc 0)
failure_of fails.MinusOneSet = value.Number (negsuc 0)
failure_of fails.GreatestSet = value.Number (pos 18446744073709551615)
failure_of fails.Never = value.Null

-- the reference, the loan or the exception that an answer brings
abbrev pub gained : Gives → Obj → List Obj
gained gives.New o = o ∷ []
gained _ o = []

abbrev pub lent_by : Gives → Obj → List Obj
lent_by gives.Borrowed o = o ∷ []
lent_by _ o = []

abbrev pub thrown : Gives → Obj → ErrorChange
thrown gives.Nothing o = error.Sets o
thrown _ o = error.Stays

abbrev pub gains_of : ApiRow → Answer → List Obj
gains_of r (answers.Object o) = gained r.gives o
gains_of r a = []

abbrev pub lends_of : ApiRow → Answer → List Obj
lends_of r (answers.Object o) = lent_by r.gives o
lends_of r a = []

abbrev pub error_of : ApiRow → Answer → ErrorChange
error_of r (answers.Object o) = thrown r.gives o
error_of r (answers.Raised o) = error.Sets o
error_of r a = error.Stays

abbrev pub value_of : ApiRow → Answer → Value
value_of r (answers.Object o) = value.Object o
value_of r (answers.Number z) = value.Number z
value_of r answers.Missing = value.Null
value_of r (answers.Raised o) = failure_of r.fails
value_of r answers.Plain = value.Null

abbrev pub instances_made : State → ℕ
instances_made c = length c.shared.instances

abbrev pub views_made : State → ℕ
views_made c = length c.shared.views

abbrev pub answer_in : State → Op → Entry → Answer
answer_in c o e = answer_of o e (instances_made c) (views_made c)

-- the frame runs again
abbrev pub answering : ApiRow → Making → Entry → Answer → Change
answering r m e a = record nothing {
  takes = true;
  event = Some (event.Answer a);
  lends = lends_of r a;
  gains = gains_of r a;
  error = error_of r a;
  space = made m e a;
  flow = flow.Runs;
}

-- an entry that answers the operation: the result goes where the call sent it
abbrev pub answered_by : State → Frame → ApiRow → Making → Option Variable → Entry → Answer → Planned
answered_by c f r m x e a = give_to c f x (value_of r a) (answering r m e a)

abbrev pub answered : State → Frame → Op → ApiRow → Making → Option Variable → Entry → Planned
answered c f o r m x e = answered_by c f r m x e (answer_in c o e)

-- what a script's objects are there
abbrev pub read_in : State → Obj → Obj
read_in c o = read_obj (instances_made c) (views_made c) o
