-- The turn that the outside takes after a statement, from the parts of the state that it reads.
use Rattle.std.specs.Prelude.{ℕ, suc, Bool, true, false, List, [], ◌∷◌, Option, Some, None, pos, length, if◌then◌else◌}
use Rattle.thin_state.specs.declared.space.Obj.{Obj}
use Rattle.thin_state.specs.declared.space.Op.{Op}
use Rattle.thin_state.specs.declared.space.Answer.{Answer}
use Rattle.thin_state.specs.declared.space.Callee.{Callee}
use Rattle.thin_state.specs.declared.space.Entry.{Entry}
use Rattle.thin_state.specs.declared.space.Entry.TheVariants as entry
use Rattle.thin_state.specs.declared.tree.Variable.{Variable}
use Rattle.thin_state.specs.declared.tree.ApiRow.{ApiRow}
use Rattle.thin_state.specs.declared.tree.CFunction.{CFunction}
use Rattle.thin_state.specs.declared.tree.CFile.{CFile}
use Rattle.thin_state.specs.declared.state.Spot.{Spot}
use Rattle.thin_state.specs.declared.state.Value.TheVariants as value
use Rattle.thin_state.specs.declared.state.Entered.TheVariants as entered
use Rattle.thin_state.specs.declared.state.Doing.{Doing}
use Rattle.thin_state.specs.declared.state.Doing.TheVariants as doing
use Rattle.thin_state.specs.Objects.{answer, read_objs, NewResult, Gave, Raises, new_result, sure_result}
use Rattle.thin_state.specs.Reads.{Found, FoundFunction, NotFound, initializer_name}
use Rattle.thin_state.specs.Outside.{How, NewReference, Borrowed, SetsError, how}
use Rattle.thin_look.specs.declared.parts.Standing.{Standing}
use Rattle.thin_look.specs.declared.parts.Activation.{Activation}
use Rattle.thin_plan.specs.declared.effects.Effect.{Effect}
use Rattle.thin_plan.specs.declared.effects.Effect.TheVariants as effect
use Rattle.thin_turn.specs.declared.parts.Delivery.{Delivery}
use Rattle.thin_turn.specs.declared.parts.Delivery.TheVariants as delivery
use Rattle.thin_turn.specs.declared.parts.Turn.{Turn}
use Rattle.thin_turn.specs.declared.parts.Turn.TheVariants as turn
use Rattle.thin_look.specs.Views.{function_there, found_at, activated}
use Rattle.thin_look.specs.Lookups.{standing_entered, standing_next}

-- the parts of the state that the outside reads
pub record Stage : Type 0 where
  pub files : List CFile
  pub places : List (List Spot)
  pub lock : Bool
  pub instances : ℕ
  pub views : ℕ
  pub begun : ℕ

-- a turn, and the entries that are left after it
pub record Go : Type 0 where
  pub turn : Turn
  pub rest : List Entry

abbrev pub go : Turn → List Entry → Go
go t es = record { turn = t; rest = es }

-- the entries without those that say that an instance died, up to the first that says something else
abbrev pub living : List Entry → List Entry
living [] = []
living (entry.Die k ∷ es) = living es
living (e ∷ es) = e ∷ es

abbrev pub is_found : Found → Bool
is_found (FoundFunction k f) = true
is_found NotFound = false

-- the entries from the first on that enters a function
abbrev pub fitting : List CFile → List (List Spot) → List Entry → List Entry
fitting files places [] = []
fitting files places (entry.Enter callee args ∷ es) =
    if is_found (found_at files (standing_entered files places callee)) then entry.Enter callee args ∷ es else fitting files places es
fitting files places (e ∷ es) = fitting files places es

abbrev pub rest_of : List Entry → List Entry
rest_of [] = []
rest_of (e ∷ es) = es

-- how an answer reaches the frame that asked, which owns so much
abbrev pub delivery_new : List Obj → NewResult → Delivery
delivery_new own (Gave o) = delivery.New (o ∷ own) o
delivery_new own (Raises e) = delivery.Raised e

abbrev pub delivery_by : How → List Obj → Answer → Delivery
delivery_by NewReference own a = delivery_new own (new_result a)
delivery_by Borrowed own a = delivery.Borrowed (sure_result a) (sure_result a)
delivery_by SetsError own a = delivery.SetsError (sure_result a)

abbrev pub answer_turn : ApiRow → Option Variable → List Obj → Answer → Turn
answer_turn r x own a = turn.Answer a x (delivery_by (how r) own a)

-- a function that is entered
abbrev pub enter_turn : Stage → Callee → List Obj → Standing → CFunction → Turn
enter_turn s callee args at fn =
    turn.Enter callee args
    (activated at.file at.item fn (value.Null ∷ value.Arguments args ∷ value.Number (pos (length args)) ∷ []) args entered.FromOutside s.lock)

abbrev pub enter_else : Stage → Callee → List Obj → Turn → Standing → Option CFunction → Turn
enter_else s callee args other at None = other
enter_else s callee args other at (Some fn) = enter_turn s callee args at fn

abbrev pub enter_or : Stage → Callee → List Obj → Turn → Option Standing → Turn
enter_or s callee args other None = other
enter_or s callee args other (Some at) = enter_else s callee args other at (function_there s.files at.file at.item)

-- the turn inside an operation, at an entry and where none is left
abbrev pub entry_turn : Stage → Op → ApiRow → Option Variable → List Obj → Entry → Turn
entry_turn s o r x own (entry.Enter callee args) =
    enter_or s callee (read_objs s.instances s.views args) (answer_turn r x own (answer o (entry.Enter callee args) s.instances s.views))
    (standing_entered s.files s.places callee)
entry_turn s o r x own e = answer_turn r x own (answer o e s.instances s.views)

abbrev pub ask_turn : Stage → Op → ApiRow → Option Variable → List Obj → List Entry → Turn
ask_turn s o r x own [] = turn.Stop
ask_turn s o r x own (e ∷ es) = entry_turn s o r x own e

abbrev pub ask_go : Stage → Op → ApiRow → Option Variable → List Obj → List Entry → Go
ask_go s o r x own es = go (ask_turn s o r x own (living es)) (rest_of (living es))

-- the turn at top level, at an entry and where none is left
abbrev pub top_entry : Stage → Entry → Turn
top_entry s (entry.Enter callee args) =
    enter_or s callee (read_objs s.instances s.views args) turn.Nothing (standing_entered s.files s.places callee)
top_entry s e = turn.Nothing

abbrev pub top_turn : Stage → List Entry → Turn
top_turn s [] = turn.End
top_turn s (e ∷ es) = top_entry s e

abbrev pub top_go : Stage → List Entry → Go
top_go s es = go (top_turn s (fitting s.files s.places es)) (rest_of (fitting s.files s.places es))

abbrev pub begin_there : Stage → List Entry → Standing → Option CFunction → Go
begin_there s es at None = top_go s es
begin_there s es at (Some fn) =
    go (turn.Begin (initializer_name fn.head) (suc at.file) (activated at.file at.item fn [] [] entered.ForInitialisation s.lock)) es

abbrev pub begin_at : Stage → List Entry → Option Standing → Go
begin_at s es None = top_go s es
begin_at s es (Some at) = begin_there s es at (function_there s.files at.file at.item)

-- the turn where no function runs
abbrev pub idle_go : Stage → List Entry → Go
idle_go s es = begin_at s es (standing_next s.files s.begun)

-- the turn over the newest frame
abbrev pub doing_go : Stage → List Obj → List Entry → Doing → Go
doing_go s own es (doing.Asks o r x) = ask_go s o r x own es
doing_go s own es _ = go turn.Nothing es

abbrev pub newest_go : Stage → Option Activation → List Entry → Go
newest_go s None es = idle_go s es
newest_go s (Some g) es = doing_go s g.own es g.doing

abbrev pub failed_go : Bool → Stage → Option Activation → List Entry → Go
failed_go true s caller es = go turn.End es
failed_go false s caller es = newest_go s caller es

-- the turn after an effect
abbrev pub effect_go : Stage → List Obj → Option Activation → List Entry → Effect → Go
effect_go s own caller es (effect.Ask o r x e) = ask_go s o r x own es
effect_go s own caller es (effect.Leave o l) = newest_go s caller es
effect_go s own caller es (effect.LeaveRaise e failed l) = failed_go failed s caller es
effect_go s own caller es _ = go turn.Nothing es
