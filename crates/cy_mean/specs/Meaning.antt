-- What the sources mean: the events of a run within a budget. It knows neither counts nor frames nor statements of C.
-- The budget is threaded: each expression node, statement node and call from outside takes one unit before it does anything.
use Rattle.std.specs.Prelude.{ℕ, zero, suc, List, [], ◌∷◌, ◌++◌, Option, Some, None, length, if◌then◌else◌, nat_eq, codes}
use Rattle.std.specs.Str.{bytes_eq}
use Rattle.c_token.specs.declared.exception.Exception.{Exception}
use Rattle.c_token.specs.declared.exception.Exception.TheVariants as exception
use Rattle.thin_state.specs.declared.space.Obj.{Obj}
use Rattle.thin_state.specs.declared.space.Obj.TheVariants as obj
use Rattle.thin_state.specs.declared.space.Callee.{Callee}
use Rattle.thin_state.specs.declared.space.Callee.TheVariants as callee
use Rattle.thin_state.specs.declared.space.Entry.{Entry}
use Rattle.thin_state.specs.declared.space.Entry.TheVariants as entry
use Rattle.thin_state.specs.declared.space.Op.{Op}
use Rattle.thin_state.specs.declared.space.Op.TheVariants as op
use Rattle.thin_state.specs.declared.space.Answer.{Answer}
use Rattle.thin_state.specs.declared.space.Event.{Event}
use Rattle.thin_state.specs.declared.space.Event.TheVariants as event
use Rattle.thin_state.specs.Objects.{NewResult, Gave, Raises, new_result, sure_result}
use Rattle.thin_state.specs.World.{World, first_world, say, with_script, answer_in, read_in}
use Rattle.cy_mean.specs.Texts.{arity_text}
use Rattle.cy_mean.specs.Source.{Expression, Named, Binary, Statement, Return, Function, Module, Sources}

-- the state of the meaning

-- a module whose functions may be entered: its object, its dictionary and the builtins
pub record ReadyModule : Type 0 where
  pub object : Obj
  pub dictionary : Obj
  pub builtins : Obj

-- the world and the modules that are ready: those are the first ones of the sources
pub record SourceState : Type 0 where
  pub world : World
  pub ready : List ReadyModule

-- with one event more
abbrev pub tell : Event → SourceState → SourceState
tell e s = record s { world = say e s.world }

-- with other entries left
abbrev pub script_to : List Entry → SourceState → SourceState
script_to es s = record s { world = with_script es s.world }

-- with one module more that is ready
abbrev pub add_ready : ReadyModule → SourceState → SourceState
add_ready r s = record s { ready = s.ready ++ r ∷ [] }

-- outcomes

-- how the meaning of a part ends, with the state and the units that are left: a value or a raise; or the run stops in it, or the budget is out in it
pub data Outcome (A : Type 0) : Type 0 where
  Value : A → SourceState → ℕ → Outcome A
  Raised : Obj → SourceState → ℕ → Outcome A
  Stopped : SourceState → Outcome A
  Out : SourceState → Outcome A

-- goes on after a value
abbrev pub then_do : {A B : Type 0} → Outcome A → (A → SourceState → ℕ → Outcome B) → Outcome B
then_do (Value v s b) k = k v s b
then_do (Raised e s b) k = Raised e s b
then_do (Stopped s) k = Stopped s
then_do (Out s) k = Out s

-- goes on after a value, and after a raise
abbrev pub either_do : {A B : Type 0} → Outcome A → (A → SourceState → ℕ → Outcome B) → (Obj → SourceState → ℕ → Outcome B) → Outcome B
either_do (Value v s b) k h = k v s b
either_do (Raised e s b) k h = h e s b
either_do (Stopped s) k h = Stopped s
either_do (Out s) k h = Out s

-- takes one unit, or is out
abbrev pub unit_then : {A : Type 0} → ℕ → SourceState → (ℕ → Outcome A) → Outcome A
unit_then zero s k = Out s
unit_then (suc b) s k = k b

-- operations

-- what an operation that was asked comes to, from a state and a budget
abbrev pub Awaiter : Type 0
Awaiter = Op → SourceState → ℕ → Outcome Answer

-- an operation: its event, the calls that stand next in the script, and its answer. The project's own
abbrev pub ask : Awaiter → Op → SourceState → ℕ → Outcome Answer
ask await o s b = await o (tell (event.Ask o) s) b

abbrev pub give : NewResult → SourceState → ℕ → Outcome Obj
give (Gave o) s b = Value o s b
give (Raises e) s b = Raised e s b

abbrev pub give_new : Answer → SourceState → ℕ → Outcome Obj
give_new a s b = give (new_result a) s b

abbrev pub give_sure : Answer → SourceState → ℕ → Outcome Obj
give_sure a s b = Value (sure_result a) s b

abbrev pub raise_it : {A : Type 0} → Answer → SourceState → ℕ → Outcome A
raise_it a s b = Raised (sure_result a) s b

-- an operation that gives an object or raises
abbrev pub operate : Awaiter → Op → SourceState → ℕ → Outcome Obj
operate await o s b = then_do (ask await o s b) give_new

-- an operation that never fails
abbrev pub operate_sure : Awaiter → Op → SourceState → ℕ → Outcome Obj
operate_sure await o s b = then_do (ask await o s b) give_sure

-- raises an exception of this type and text: what the operation answers is the exception
abbrev pub raising : {A : Type 0} → Awaiter → Exception → List ℕ → SourceState → ℕ → Outcome A
raising await type text s b = then_do (ask await (op.Fail (obj.ExceptionType type) text) s b) raise_it

-- local variables

pub record Local : Type 0 where
  pub name : List ℕ
  pub value : Obj

-- the value of a local name, if it has one (Cython documentation, Language Basics, "Scope rules")
abbrev pub local_of : List Local → List ℕ → Option Obj
local_of [] x = None
local_of (l ∷ ls) x = if bytes_eq l.name x then Some l.value else local_of ls x

-- the parameters with their arguments
abbrev pub bind_all : List (List ℕ) → List Obj → List Local
bind_all [] os = []
bind_all (x ∷ xs) [] = []
bind_all (x ∷ xs) (o ∷ os) = record { name = x; value = o } ∷ bind_all xs os

-- reading a local that has no value raises UnboundLocalError with the name
-- On this path every name of an expression is a parameter, so that the rule for globals isn't needed yet.
abbrev pub local_value : Awaiter → List ℕ → Option Obj → SourceState → ℕ → Outcome Obj
local_value await x (Some o) s b = Value o s b
local_value await x None s b = raising await exception.UnboundLocalError x s b

-- the meaning of an expression: operands from left to right, then the operation (Cython documentation, Language Basics, "Statements and expressions")
abbrev pub eval : Awaiter → List Local → Expression → SourceState → ℕ → Outcome Obj
eval await locals (Named x) s b = unit_then b s (λ b1. local_value await x (local_of locals x) s b1)
eval await locals (Binary o left right) s b =
    unit_then b s (λ b1. then_do (eval await locals left s b1) (λ x s2 b2. then_do (eval await locals right s2 b2) (λ y s3 b3. operate await (op.Binary o x y) s3 b3)))

-- how a statement ends, where it doesn't raise
pub data Exit : Type 0 where
  Normal : Exit
  Returns : Obj → Exit

abbrev pub returning : Obj → SourceState → ℕ → Outcome Exit
returning v s b = Value (Returns v) s b

-- the meaning of a statement (Cython documentation, Language Basics, "Statements and expressions")
abbrev pub exec : Awaiter → List Local → Statement → SourceState → ℕ → Outcome Exit
exec await locals (Return e) s b = unit_then b s (λ b1. then_do (eval await locals e s b1) returning)

abbrev pub after_statement : (SourceState → ℕ → Outcome Exit) → Exit → SourceState → ℕ → Outcome Exit
after_statement k Normal s b = k s b
after_statement k (Returns v) s b = Value (Returns v) s b

-- statements in order, up to the first that returns
abbrev pub suite : Awaiter → List Local → List Statement → SourceState → ℕ → Outcome Exit
suite await locals [] s b = Value Normal s b
suite await locals (t ∷ ts) s b =
    then_do (exec await locals t s b) (after_statement (λ s1 b1. suite await locals ts s1 b1))

-- a function that falls off its end returns None
abbrev pub result_of : Exit → Obj
result_of Normal = obj.NoneNode
result_of (Returns v) = v

abbrev pub results : Exit → SourceState → ℕ → Outcome Obj
results x s b = Value (result_of x) s b

-- a call: the number of arguments is tested, they are bound, and the body runs (Cython documentation, Language Basics, "Python functions vs. C functions")
abbrev pub call_of : Awaiter → Function → List Obj → SourceState → ℕ → Outcome Obj
call_of await f args s b =
    if nat_eq (length args) (length f.parameters) then
    then_do (suite await (bind_all f.parameters args) f.body s b) results
    else raising await exception.TypeError (arity_text f.name (length f.parameters)) s b

-- calls from outside

-- a call is back in the outside
pub data Back : Type 0 where
  Left : Back

abbrev pub leaves : Obj → SourceState → ℕ → Outcome Back
leaves v s b = Value Left (tell (event.Leave v) s) b

abbrev pub leaves_raise : Obj → SourceState → ℕ → Outcome Back
leaves_raise e s b = Value Left (tell (event.LeaveRaise e) s) b

-- a result or a raise goes to the outside, which takes either
abbrev pub leave : Outcome Obj → Outcome Back
leave r = either_do r leaves leaves_raise

-- a call from outside: its unit, its event, the call, and what leaves. The project's own
abbrev pub enter : Awaiter → Callee → Function → List Obj → SourceState → ℕ → Outcome Back
enter await callee f args s b =
    unit_then b s (λ b1. leave (call_of await f args (tell (event.Enter callee args) s) b1))

-- what the script has next: nothing, a call that fits, or an entry that is an answer
pub data Next : Type 0 where
  Nothing : Next
  Calls : Callee → Function → List Obj → SourceState → Next
  Gives : Entry → SourceState → Next

-- the function of that name that a module's text defines
abbrev pub function_in : List Function → List ℕ → Option Function
function_in [] name = None
function_in (f ∷ fs) name = if bytes_eq f.name name then Some f else function_in fs name

-- the function that the outside names, in the first module of that name, if that is ready
abbrev pub function_of : Sources → List ReadyModule → List ℕ → List ℕ → Option Function
function_of [] rs module_name name = None
function_of (m ∷ ms) [] module_name name = None
function_of (m ∷ ms) (r ∷ rs) module_name name =
    if bytes_eq m.name module_name then function_in m.functions name else function_of ms rs module_name name

-- what an entry calls, where it fits; there is no class yet that has methods
abbrev pub called_by : Sources → List ReadyModule → Callee → Option Function
called_by set rs (callee.Function p) = function_of set rs p.module p.name
called_by set rs (callee.Method p) = None

-- inside an operation a calling entry that doesn't fit is an answer that doesn't fit
abbrev pub calls_or_gives : Option Function → Callee → List Obj → SourceState → Next
calls_or_gives (Some f) callee args s = Calls callee f (read_in s.world args) s
calls_or_gives None callee args s = Gives (entry.Enter callee args) s

-- inside an operation `die` is skipped
abbrev pub next_inside : Sources → List Entry → SourceState → Next
next_inside set [] s = Nothing
next_inside set (entry.Die k ∷ es) s = next_inside set es s
next_inside set (entry.Enter callee args ∷ es) s =
    calls_or_gives (called_by set s.ready callee) callee args (script_to es s)
next_inside set (e ∷ es) s = Gives e (script_to es s)

-- with no entry left the run stops; an answer is told; a call runs in place
abbrev pub by_next : Next → Op → SourceState → ℕ → (Callee → Function → List Obj → SourceState → Outcome Answer) → Outcome Answer
by_next Nothing o s b go = Stopped (tell event.Stop (script_to [] s))
by_next (Calls callee f args s1) o s b go = go callee f args s1
by_next (Gives e s1) o s b go = Value (answer_in s1.world o e) (tell (event.Answer (answer_in s1.world o e)) s1) b

-- an operation that was asked: the calls that stand next, and then its answer. The project's own
-- The number is fuel, one for each call: a run takes as much as its budget, where each call takes a unit, so that it never runs out first.
abbrev pub await_within : Sources → ℕ → Awaiter
await_within set zero o s b = by_next (next_inside set s.world.script s) o s b (λ callee f args s1. Out s1)
await_within set (suc n) o s b =
    by_next (next_inside set s.world.script s) o s b (λ callee f args s1. then_do (enter (await_within set n) callee f args s1 b) (λ g s2 b2. await_within set n o s2 b2))

-- at top level what calls nothing is skipped, so that no entry is an answer there
abbrev pub calls_or_skips : Option Function → Callee → List Obj → SourceState → Next → Next
calls_or_skips (Some f) callee args s rest = Calls callee f (read_in s.world args) s
calls_or_skips None callee args s rest = rest

abbrev pub next_top : Sources → List Entry → SourceState → Next
next_top set [] s = Nothing
next_top set (entry.Enter callee args ∷ es) s =
    calls_or_skips (called_by set s.ready callee) callee args (script_to es s) (next_top set es s)
next_top set (e ∷ es) s = next_top set es s

-- with no entry left the run ends
abbrev pub by_next_top : Next → SourceState → ℕ → (Callee → Function → List Obj → SourceState → Outcome Back) → Outcome Back
by_next_top Nothing s b go = Value Left (tell event.End (script_to [] s)) b
by_next_top (Calls callee f args s1) s b go = go callee f args s1
by_next_top (Gives e s1) s b go = Stopped s1

-- the entries at top level, after all initialisations
abbrev pub top_within : Sources → ℕ → SourceState → ℕ → Outcome Back
top_within set zero s b = by_next_top (next_top set s.world.script s) s b (λ callee f args s1. Out s1)
top_within set (suc n) s b =
    by_next_top (next_top set s.world.script s) s b (λ callee f args s1. then_do (enter (await_within set n) callee f args s1 b) (λ g s2 b2. top_within set n s2 b2))

-- initialisation

abbrev pub with_builtins : Obj → Obj → Obj → SourceState → ℕ → Outcome ReadyModule
with_builtins object dictionary builtins s b =
    Value (record { object = object; dictionary = dictionary; builtins = builtins }) s b

abbrev pub with_import : Awaiter → Obj → Obj → Obj → SourceState → ℕ → Outcome ReadyModule
with_import await object dictionary imported s b =
    then_do (operate_sure await (op.Dict imported) s b) (with_builtins object dictionary)

abbrev pub with_dictionary : Awaiter → Obj → Obj → SourceState → ℕ → Outcome ReadyModule
with_dictionary await object dictionary s b =
    then_do (operate await (op.Import (codes "builtins")) s b) (with_import await object dictionary)

abbrev pub with_module : Awaiter → Obj → SourceState → ℕ → Outcome ReadyModule
with_module await object s b =
    then_do (operate_sure await (op.Dict object) s b) (with_dictionary await object)

-- the initialisation of a module: it asks for the module, its dictionary, the module `builtins` and its dictionary. The project's own
abbrev pub initialise : Awaiter → Module → SourceState → ℕ → Outcome ReadyModule
initialise await m s b = then_do (operate await (op.Module m.name) s b) (with_module await)

-- from then on the module's functions may be entered, and its object leaves
abbrev pub initialised : (SourceState → ℕ → Outcome Back) → ReadyModule → SourceState → ℕ → Outcome Back
initialised k r s b = k (tell (event.Leave r.object) (add_ready r s)) b

-- after an initialisation that raises the run ends
abbrev pub not_initialised : Obj → SourceState → ℕ → Outcome Back
not_initialised e s b = Value Left (tell event.End (tell (event.LeaveRaise e) s)) b

abbrev pub after_initialise : Outcome ReadyModule → (SourceState → ℕ → Outcome Back) → Outcome Back
after_initialise r k = either_do r (initialised k) not_initialised

-- the initialisations of these modules in order, and then the entries at top level
abbrev pub initialise_all : Sources → ℕ → Sources → SourceState → ℕ → Outcome Back
initialise_all set n [] s b = top_within set n s b
initialise_all set n (m ∷ ms) s b =
    after_initialise (initialise (await_within set n) m (tell (event.Init m.name) s) b) (λ s1 b1. initialise_all set n ms s1 b1)

-- whole runs

abbrev pub first_state : List Entry → SourceState
first_state script = record { world = first_world script; ready = [] }

abbrev pub state_of : {A : Type 0} → Outcome A → SourceState
state_of (Value v s b) = s
state_of (Raised e s b) = s
state_of (Stopped s) = s
state_of (Out s) = s

-- the whole run with a budget
abbrev pub run_within : Sources → List Entry → ℕ → Outcome Back
run_within set script m = initialise_all set m set (first_state script) m

-- what the sources mean: the events of the run with a budget. The project's own
abbrev pub source_events : Sources → List Entry → ℕ → List Event
source_events set script m = (state_of (run_within set script m)).world.events
