-- What a move comes to: a fault, the first whose test isn't passed in the order of the table of faults, or what it changes.
-- The project's own.
use Rattle.std.specs.Prelude.{Bool, true, false, not, ◌||◌, List, [], Option, Some, None}
use Rattle.api_model.specs.declared.object.Obj.{Obj}
use Rattle.c_value.specs.declared.step.FaultKind.{FaultKind}
use Rattle.c_value.specs.declared.change.Change.{Change}
use Rattle.c_value.specs.declared.change.Planned.{Planned}
use Rattle.c_value.specs.declared.change.Planned.TheVariants.{Fault}
use Rattle.c_value.specs.declared.change.ErrorChange.TheVariants as error
use Rattle.c_value.specs.declared.change.Remembering.TheVariants as remembering
use Rattle.c_value.specs.declared.change.SpaceChange.TheVariants as space
use Rattle.c_value.specs.declared.change.Flow.TheVariants as flow
use Rattle.c_state.specs.declared.state.State.{State}

-- a test, the fault where it isn't passed, and what follows
abbrev pub need : Bool → FaultKind → Planned → Planned
need true k m = m
need false k m = Fault k

abbrev pub need_some : {A : Type 0} → Option A → FaultKind → (A → Planned) → Planned
need_some (Some x) k m = m x
need_some None k m = Fault k

-- a test on ownership or the lock, which counts where the machine is strict
abbrev pub need_strictly : State → Bool → FaultKind → Planned → Planned
need_strictly c fact k m = need (fact || not c.strict) k m

-- nothing is changed
abbrev pub nothing : Change
nothing = record {
  takes = false;
  event = None;
  flow = flow.Stays;
  ends_loans = false;
  lends = [];
  gains = [];
  loses = [];
  gets_back = [];
  error = error.Stays;
  lock = None;
  remembered = remembering.Stays;
  space = space.Stays;
  begins = None;
  course = None;
  gives = None;
}

-- loans are made, and nothing else
abbrev pub lending : List Obj → Change
lending os = record nothing { lends = os }
