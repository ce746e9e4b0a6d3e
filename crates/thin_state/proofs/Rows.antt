-- Runs of small programs, computed: their traces, and the faults of wrong C.
use Rattle.std.proofs.Common.{◌≡◌, ℕ, false, List, [], ◌∷◌, ◌++◌, Option, Some, None, refl}
use Rattle.std.specs.Prelude.{codes}
use Rattle.c_token.specs.declared.exception.Exception.TheVariants as exception
use Rattle.thin_state.specs.declared.space.BinaryOp.TheVariants as binary
use Rattle.thin_state.specs.declared.space.Obj.{Obj}
use Rattle.thin_state.specs.declared.space.Obj.TheVariants as obj
use Rattle.thin_state.specs.declared.space.Callee.{Callee}
use Rattle.thin_state.specs.declared.space.Callee.TheVariants as callee
use Rattle.thin_state.specs.declared.space.Entry.{Entry}
use Rattle.thin_state.specs.declared.space.Entry.TheVariants as entry
use Rattle.thin_state.specs.declared.space.Op.TheVariants as op
use Rattle.thin_state.specs.declared.space.Answer.TheVariants as answers
use Rattle.thin_state.specs.declared.space.Event.{Event}
use Rattle.thin_state.specs.declared.space.Event.TheVariants as event
use Rattle.thin_state.specs.declared.tree.CType.TheVariants as type
use Rattle.thin_state.specs.declared.tree.Variable.{Variable}
use Rattle.thin_state.specs.declared.tree.Variable.TheVariants as variable
use Rattle.thin_state.specs.declared.tree.Place.TheVariants as place
use Rattle.thin_state.specs.declared.tree.FunctionName.TheVariants as function
use Rattle.thin_state.specs.declared.tree.ApiRow.TheVariants as row
use Rattle.thin_state.specs.declared.tree.CValue.{CValue}
use Rattle.thin_state.specs.declared.tree.CValue.TheVariants as operand
use Rattle.thin_state.specs.declared.tree.Comparison.TheVariants as comparison
use Rattle.thin_state.specs.declared.tree.Target.TheVariants as target
use Rattle.thin_state.specs.declared.tree.CStmt.{CStmt}
use Rattle.thin_state.specs.declared.tree.CStmt.TheVariants as stmt
use Rattle.thin_state.specs.declared.tree.Line.{Line}
use Rattle.thin_state.specs.declared.tree.Line.TheVariants as line
use Rattle.thin_state.specs.declared.tree.InitialValue.TheVariants as initial
use Rattle.thin_state.specs.declared.tree.Declaration.{Declaration}
use Rattle.thin_state.specs.declared.tree.CHead.TheVariants as head
use Rattle.thin_state.specs.declared.tree.CFunction.{CFunction}
use Rattle.thin_state.specs.declared.tree.CItem.{CItem}
use Rattle.thin_state.specs.declared.tree.CItem.TheVariants as item
use Rattle.thin_state.specs.declared.tree.CFile.{CFile}
use Rattle.thin_state.specs.declared.state.FaultKind.TheVariants as fault
use Rattle.thin_state.specs.declared.state.Step.{Step}
use Rattle.thin_state.specs.declared.state.Step.TheVariants as step
use Rattle.thin_state.specs.State.{linked}
use Rattle.thin_state.specs.Machine.{c_step, c_steps, c_events}

-- the C of `def f(a, b): return a + b` in a module m

abbrev p : ℕ → CValue
p j = operand.Variable (variable.Parameter j)

abbrev t : ℕ → CValue
t j = operand.Variable (variable.Temporary j)

abbrev r : CValue
r = operand.Variable variable.Returned

abbrev module_place : CValue
module_place = operand.Place place.Module

abbrev to_temporary : ℕ → Option Variable
to_temporary j = Some (variable.Temporary j)

abbrev do_it : CStmt → Line
do_it s = line.Statement s

abbrev null_object : Variable → Declaration
null_object x = record { kind = type.PyObject; variable = x; initial = initial.Null }

abbrev leave_if_null : ℕ → Line
leave_if_null j = do_it (stmt.GotoIf (t j) comparison.Equal operand.Null 0)

abbrev return_r : Line
return_r = do_it (stmt.Return r)

abbrev set_r : CValue → Line
set_r k = do_it (stmt.Assign (target.Variable variable.Returned) k)

abbrev add : CValue → CValue → Line
add a b = do_it (stmt.Api (to_temporary 0) (row.Number binary.Add) (a ∷ b ∷ []))

abbrev sum_lines : List Line
sum_lines = add (p 0) (p 1) ∷ leave_if_null 0 ∷ set_r (t 0) ∷ line.Label 0 ∷ return_r ∷ []

abbrev sum_function : List Line → CFunction
sum_function ls = record {
  head = head.Plain 0 0 type.PyObject (record { kind = type.PyObject; number = 0 } ∷ record { kind = type.PyObject; number = 1 } ∷ []);
  declarations = null_object variable.Returned ∷ null_object (variable.Temporary 0) ∷ [];
  lines = ls;
}

abbrev wrapper_lines : List Line
wrapper_lines =
    do_it (stmt.GotoIf (operand.Variable variable.ArgumentCount) comparison.NotEqual (operand.Int 2) 0)
    ∷ do_it (stmt.Call (Some variable.Returned) (function.Plain 0 0) (operand.Argument 0 ∷ operand.Argument 1 ∷ []))
    ∷ return_r
    ∷ line.Label 0
    ∷ do_it (stmt.Api None row.ErrSetString (operand.ExceptionType exception.TypeError ∷ operand.Str (codes "f() takes 2 arguments") ∷ []))
    ∷ return_r
    ∷ []

abbrev init_lines : List Line
init_lines =
    do_it (stmt.Api (to_temporary 0) row.ModuleCreate (operand.Definition ∷ []))
    ∷ leave_if_null 0
    ∷ do_it (stmt.Assign (target.Place place.Module) (t 0))
    ∷ do_it (stmt.Api (to_temporary 0) row.ModuleGetDict (module_place ∷ []))
    ∷ do_it (stmt.Incref (t 0))
    ∷ do_it (stmt.Assign (target.Place place.Dictionary) (t 0))
    ∷ do_it (stmt.Api (to_temporary 0) row.ImportModule (operand.Str (codes "builtins") ∷ []))
    ∷ leave_if_null 0
    ∷ do_it (stmt.Api (to_temporary 1) row.ModuleGetDict (t 0 ∷ []))
    ∷ do_it (stmt.Incref (t 1))
    ∷ do_it (stmt.Assign (target.Place place.Builtins) (t 1))
    ∷ do_it (stmt.Decref (t 0))
    ∷ do_it (stmt.Assign (target.Place place.Ready) (operand.Int 1))
    ∷ do_it (stmt.Incref module_place)
    ∷ set_r module_place
    ∷ line.Label 0
    ∷ return_r
    ∷ []

abbrev header : CFile
header = record {
  items =
      item.DefineClean ∷ item.IncludePython ∷ item.ViewType ∷ item.RootStruct ∷ item.FormatTest
      ∷ item.Prototype type.PyObject 0 0 (type.PyObject ∷ type.PyObject ∷ []) ∷ [];
}

-- the file with other places before its own, another body of the function, and another body of the initialisation
abbrev file_with : List CItem → List Line → List Line → CFile
file_with more body init = record {
  items = more ++ (
      item.IncludeSet
      ∷ item.Static type.PyObject place.Module
      ∷ item.Static type.PyObject place.Dictionary
      ∷ item.Static type.PyObject place.Builtins
      ∷ item.Static type.Int place.Ready
      ∷ item.Function (sum_function body)
      ∷ item.Function (record { head = head.Wrapper 0 0; declarations = null_object variable.Returned ∷ []; lines = wrapper_lines })
      ∷ item.Methods (record { name = codes "f"; «module» = 0; index = 0 } ∷ [])
      ∷ item.ModuleDefinition (codes "m")
      ∷ item.Function (record {
        head = head.Initializer (codes "m");
        declarations = null_object variable.Returned ∷ null_object (variable.Temporary 0) ∷ null_object (variable.Temporary 1) ∷ [];
        lines = init;
      })
      ∷ []);
}

abbrev files_with : List Line → List CFile
files_with body = header ∷ file_with [] body init_lines ∷ []

abbrev files : List CFile
files = files_with sum_lines

-- scripts and traces

abbrev foreign : ℕ → Obj
foreign k = obj.Foreign k

abbrev ok : ℕ → Entry
ok k = entry.OkNode (foreign k)

abbrev call_f : Callee
call_f = callee.Function (record { «module» = codes "m"; name = codes "f" })

abbrev enter_f : ℕ → ℕ → Entry
enter_f a b = entry.Enter call_f (foreign a ∷ foreign b ∷ [])

abbrev entered_f : ℕ → ℕ → Event
entered_f a b = event.Enter call_f (foreign a ∷ foreign b ∷ [])

abbrev asks_add : ℕ → ℕ → Event
asks_add a b = event.Ask (op.Binary binary.Add (foreign a) (foreign b))

abbrev gives : ℕ → Event
gives k = event.Answer (answers.Object (foreign k))

abbrev after_init : List Entry → List Entry
after_init es = ok 1 ∷ ok 2 ∷ ok 3 ∷ ok 4 ∷ es

abbrev init_trace : List Event → List Event
init_trace es =
    event.Init (codes "m")
    ∷ event.Ask (op.Module (codes "m")) ∷ gives 1
    ∷ event.Ask (op.Dict (foreign 1)) ∷ gives 2
    ∷ event.Ask (op.Import (codes "builtins")) ∷ gives 3
    ∷ event.Ask (op.Dict (foreign 3)) ∷ gives 4
    ∷ event.Leave (foreign 1) ∷ es

-- adds_two_objects: 16 statements for the initialisation, 7 for the call

abbrev sum_script : List Entry
sum_script = after_init (enter_f 5 6 ∷ ok 7 ∷ [])

abbrev sum_trace : List Event
sum_trace = init_trace (entered_f 5 6 ∷ asks_add 5 6 ∷ gives 7 ∷ event.Leave (foreign 7) ∷ event.End ∷ [])

adds_two_objects : c_events files sum_script 23 ≡ sum_trace
adds_two_objects = refl

adds_two_objects-22 : c_events files sum_script 22 ++ event.Leave (foreign 7) ∷ event.End ∷ [] ≡ sum_trace
adds_two_objects-22 = refl

adds_two_objects-23_went : (c_step files (c_steps files 22 (linked files sum_script))).answer ≡ step.Went
adds_two_objects-23_went = refl

adds_two_objects-ended : (c_step files (c_steps files 23 (linked files sum_script))).answer ≡ step.Ended
adds_two_objects-ended = refl

adds_two_objects-ends_once : c_events files sum_script 30 ≡ sum_trace
adds_two_objects-ends_once = refl

no_steps : c_events files sum_script 0 ≡ []
no_steps = refl

-- operation_raises, also with the script cut after `enter`

operation_raises : c_events files (after_init (enter_f 5 6 ∷ entry.Raise (foreign 8) ∷ [])) 23
    ≡ init_trace (entered_f 5 6 ∷ asks_add 5 6 ∷ event.Answer (answers.Raised (foreign 8)) ∷ event.LeaveRaise (foreign 8) ∷ event.End ∷ [])
operation_raises = refl

abbrev cut_script : List Entry
cut_script = after_init (enter_f 5 6 ∷ [])

operation_raises-cut : c_events files cut_script 23 ≡ init_trace (entered_f 5 6 ∷ asks_add 5 6 ∷ event.Stop ∷ [])
operation_raises-cut = refl

operation_raises-stopped : (c_step files (c_steps files 23 (linked files cut_script))).answer ≡ step.Stopped
operation_raises-stopped = refl

-- wrong_number_of_arguments

wrong_number_of_arguments : c_events files (after_init (entry.Enter call_f (foreign 5 ∷ []) ∷ ok 9 ∷ [])) 23
    ≡ init_trace (
    event.Enter call_f (foreign 5 ∷ [])
    ∷ event.Ask (op.Fail (obj.ExceptionType exception.TypeError) (codes "f() takes 2 arguments"))
    ∷ gives 9 ∷ event.LeaveRaise (foreign 9) ∷ event.End ∷ [])
wrong_number_of_arguments = refl

-- callbacks: one inside the operation that enters the same function, and one inside another

callback_inside : c_events files (after_init (enter_f 5 6 ∷ enter_f 7 8 ∷ ok 9 ∷ ok 10 ∷ [])) 40
    ≡ init_trace (
    entered_f 5 6 ∷ asks_add 5 6
    ∷ entered_f 7 8 ∷ asks_add 7 8 ∷ gives 9 ∷ event.Leave (foreign 9)
    ∷ gives 10 ∷ event.Leave (foreign 10) ∷ event.End ∷ [])
callback_inside = refl

callbacks_nested : c_events files (after_init (enter_f 5 6 ∷ enter_f 7 8 ∷ enter_f 9 10 ∷ ok 11 ∷ ok 12 ∷ ok 13 ∷ [])) 40
    ≡ init_trace (
    entered_f 5 6 ∷ asks_add 5 6
    ∷ entered_f 7 8 ∷ asks_add 7 8
    ∷ entered_f 9 10 ∷ asks_add 9 10 ∷ gives 11 ∷ event.Leave (foreign 11)
    ∷ gives 12 ∷ event.Leave (foreign 12)
    ∷ gives 13 ∷ event.Leave (foreign 13) ∷ event.End ∷ [])
callbacks_nested = refl

-- entries left over at top level are skipped, also calling entries that don't fit, and `die`

abbrev call_g : Callee
call_g = callee.Function (record { «module» = codes "m"; name = codes "g" })

entries_left_over : c_events files (after_init (ok 20 ∷ entry.Die 0 ∷ entry.Enter call_g [] ∷ enter_f 5 6 ∷ ok 7 ∷ entry.Made ∷ [])) 23 ≡ sum_trace
entries_left_over = refl

-- inside an operation a calling entry that doesn't fit is a raise of Foreign 0, and `die` is skipped

unfit_inside : c_events files (after_init (enter_f 5 6 ∷ entry.Die 0 ∷ entry.Enter call_g [] ∷ [])) 23
    ≡ init_trace (
    entered_f 5 6 ∷ asks_add 5 6 ∷ event.Answer (answers.Raised (foreign 0)) ∷ event.LeaveRaise (foreign 0) ∷ event.End ∷ [])
unfit_inside = refl

-- no function may be entered before its module is ready: the entry is an answer that doesn't fit, and the initialisation fails

entered_too_early : c_events files (enter_f 5 6 ∷ ok 2 ∷ []) 9
    ≡ event.Init (codes "m") ∷ event.Ask (op.Module (codes "m")) ∷ event.Answer (answers.Raised (foreign 0)) ∷ event.LeaveRaise (foreign 0) ∷ event.End ∷ []
entered_too_early = refl

-- an instance that isn't made yet reads as None

unmade_instance : c_events files (after_init (enter_f 5 6 ∷ entry.OkNode (obj.Inst 0) ∷ [])) 23
    ≡ init_trace (entered_f 5 6 ∷ asks_add 5 6 ∷ event.Answer (answers.Object obj.NoneNode) ∷ event.Leave obj.NoneNode ∷ event.End ∷ [])
unmade_instance = refl

-- wrong C is refused by the machine

abbrev fault_with : List Line → List Entry → ℕ → Step
fault_with body script n = (c_step (files_with body) (c_steps (files_with body) n (linked (files_with body) script))).answer

-- one_decrement_too_many: it faults in its 22nd step, and the step changes nothing
abbrev decrement_lines : List Line
decrement_lines = add (p 0) (p 1) ∷ leave_if_null 0 ∷ set_r (t 0) ∷ line.Label 0 ∷ do_it (stmt.Decref (p 0)) ∷ return_r ∷ []

one_decrement_too_many : fault_with decrement_lines sum_script 21 ≡ step.Fault fault.Unheld
one_decrement_too_many = refl

one_decrement_too_many-before : fault_with decrement_lines sum_script 20 ≡ step.Went
one_decrement_too_many-before = refl

faulting_step_changes_nothing : c_steps (files_with decrement_lines) 22 (linked (files_with decrement_lines) sum_script)
    ≡ c_steps (files_with decrement_lines) 21 (linked (files_with decrement_lines) sum_script)
faulting_step_changes_nothing = refl

-- a jump to a label that isn't there, also where it isn't taken
jump_nowhere : fault_with (do_it (stmt.GotoIf (p 0) comparison.Equal operand.Null 3) ∷ return_r ∷ []) sum_script 18 ≡ step.Fault fault.Stuck
jump_nowhere = refl

-- NULL where an operation needs an object comes before a variable without a value
null_operand : fault_with (add r (operand.Variable (variable.Local 0)) ∷ return_r ∷ []) sum_script 18 ≡ step.Fault fault.Stuck
null_operand = refl

-- a body that ends without a return
no_return : fault_with [] sum_script 18 ≡ step.Fault fault.Stuck
no_return = refl

-- an `int` is no object
wrong_type : fault_with (set_r (operand.Int 0) ∷ return_r ∷ []) sum_script 18 ≡ step.Fault fault.Stuck
wrong_type = refl

-- other bodies of the initialisation, from the first step on

abbrev init_with : List Line → List CFile
init_with ls = header ∷ record {
  items =
      item.Static type.PyObject place.Module
      ∷ item.Static type.PyObject (place.Global 0)
      ∷ item.Static type.Int (place.Global 1)
      ∷ item.ModuleDefinition (codes "m")
      ∷ item.Function (record {
        head = head.Initializer (codes "m");
        declarations =
            null_object variable.Returned ∷ null_object (variable.Temporary 0)
            ∷ record { kind = type.PyObject; variable = variable.Local 0; initial = initial.Nothing } ∷ [];
        lines = ls;
      })
      ∷ [];
} ∷ []

abbrev init_fault : List Line → ℕ → Step
init_fault ls n = (c_step (init_with ls) (c_steps (init_with ls) n (linked (init_with ls) (ok 1 ∷ ok 2 ∷ ok 3 ∷ ok 4 ∷ [])))).answer

abbrev create : Line
create = do_it (stmt.Api (to_temporary 0) row.ModuleCreate (operand.Definition ∷ []))

abbrev set_error : Line
set_error = do_it (stmt.Api None row.ErrSetString (operand.ExceptionType exception.ValueError ∷ operand.Str [] ∷ []))

unset_variable : init_fault (set_r (operand.Variable (variable.Local 0)) ∷ []) 0 ≡ step.Fault fault.Undefined
unset_variable = refl

operation_with_error : init_fault (set_error ∷ create ∷ []) 1 ≡ step.Fault fault.ErrorSet
operation_with_error = refl

result_with_error : init_fault (create ∷ set_error ∷ do_it (stmt.Return (t 0)) ∷ []) 2 ≡ step.Fault fault.ErrorSet
result_with_error = refl

failure_without_error : init_fault (return_r ∷ []) 0 ≡ step.Fault fault.ErrorLost
failure_without_error = refl

error_over_error : init_fault (set_error ∷ set_error ∷ []) 1 ≡ step.Fault fault.ErrorLost
error_over_error = refl

-- a borrowed dictionary is a loan, which the next operation ends
unheld_argument : init_fault (create ∷ do_it (stmt.Api (to_temporary 0) row.ModuleGetDict (t 0 ∷ [])) ∷ add (t 0) (t 0) ∷ []) 2 ≡ step.Fault fault.Unheld
unheld_argument = refl

increment_after_loan : init_fault (create ∷ do_it (stmt.Assign (target.Place place.Module) (t 0)) ∷ do_it (stmt.Api (to_temporary 0) row.ModuleGetDict (module_place ∷ [])) ∷ set_r (t 0) ∷ create ∷ do_it (stmt.Incref r) ∷ []) 5
    ≡ step.Fault fault.Unheld
increment_after_loan = refl

-- a result that the function doesn't own, and one that it owns beside another
unowned_result : init_fault (do_it (stmt.Return (operand.ExceptionType exception.ValueError)) ∷ []) 0 ≡ step.Fault fault.Unbalanced
unowned_result = refl

reference_too_many : init_fault (create ∷ do_it (stmt.Incref (t 0)) ∷ do_it (stmt.Return (t 0)) ∷ []) 2 ≡ step.Fault fault.Unbalanced
reference_too_many = refl

-- a constant place takes one store, of NULL too; a module variable takes any number
second_store : init_fault (do_it (stmt.Assign (target.Place place.Module) operand.Null) ∷ create ∷ do_it (stmt.Assign (target.Place place.Module) (t 0)) ∷ []) 2 ≡ step.Fault fault.Stuck
second_store = refl

module_variable : init_fault (create ∷ do_it (stmt.Assign (target.Place (place.Global 0)) (t 0)) ∷ do_it (stmt.Incref (operand.Place (place.Global 0))) ∷ do_it (stmt.Assign (target.Place (place.Global 0)) operand.Null) ∷ []) 4
    ≡ step.Fault fault.Stuck
module_variable = refl

module_variable-unheld : init_fault (create ∷ do_it (stmt.Assign (target.Place (place.Global 0)) (t 0)) ∷ add (operand.Place (place.Global 0)) (operand.Place (place.Global 0)) ∷ []) 2
    ≡ step.Fault fault.Unheld
module_variable-unheld = refl

-- without the lock a module variable of a number type is stored and read, and one that holds an object is neither

abbrev unlocked : List Line → ℕ → Step
unlocked ls n = (c_step (init_with ls) (c_steps (init_with ls) n (record (linked (init_with ls) []) { lock = false }))).answer

number_stored : unlocked (do_it (stmt.Assign (target.Place (place.Global 1)) (operand.Int 5)) ∷ return_r ∷ []) 0 ≡ step.Went
number_stored = refl

number_read : unlocked (do_it (stmt.GotoIf (operand.Place (place.Global 1)) comparison.Equal (operand.Int 0) 0) ∷ line.Label 0 ∷ return_r ∷ []) 0 ≡ step.Went
number_read = refl

object_stored : unlocked (do_it (stmt.Assign (target.Place (place.Global 0)) operand.Null) ∷ return_r ∷ []) 0 ≡ step.Fault fault.Unlocked
object_stored = refl

object_read : unlocked (set_r (operand.Place (place.Global 0)) ∷ return_r ∷ []) 0 ≡ step.Fault fault.Unlocked
object_read = refl
