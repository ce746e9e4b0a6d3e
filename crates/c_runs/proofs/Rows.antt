-- Runs of small programs, computed: their traces, and the faults of wrong C.
use Rattle.c_state.specs.State.{linked, with_lock}
use Rattle.c_value.specs.declared.step.Step.{Step}
use Rattle.c_value.specs.declared.step.Step.TheVariants as step
use Rattle.c_value.specs.declared.step.FaultKind.TheVariants as fault
use Rattle.std.proofs.Common.{◌≡◌, ℕ, true, List, [], ◌∷◌, ◌++◌, Option, Some, None, refl, false}
use Rattle.std.specs.Prelude.{codes, pos}
use Prim.Native.String.{String}
use Rattle.c_token.specs.declared.exception.Exception.TheVariants as exception
use Rattle.api_model.specs.declared.object.Obj.{Obj}
use Rattle.api_model.specs.declared.object.Obj.TheVariants as obj
use Rattle.api_model.specs.declared.object.Callee.{Callee}
use Rattle.api_model.specs.declared.object.Callee.TheVariants as outside
use Rattle.api_model.specs.declared.entry.Entry.{Entry}
use Rattle.api_model.specs.declared.entry.Entry.TheVariants as entry
use Rattle.api_model.specs.declared.op.BinaryOp.TheVariants as binary
use Rattle.api_model.specs.declared.op.Make.TheVariants as make
use Rattle.api_model.specs.declared.op.Op.TheVariants as op
use Rattle.api_model.specs.declared.op.Answer.TheVariants as answers
use Rattle.api_model.specs.declared.event.Event.{Event}
use Rattle.api_model.specs.declared.event.Event.TheVariants as event
use Rattle.c_tree.specs.declared.name.Numbered.{Numbered}
use Rattle.c_tree.specs.declared.name.FixedParameter.TheVariants as fixed
use Rattle.c_tree.specs.declared.name.FunctionName.TheVariants as function
use Rattle.c_tree.specs.declared.name.Place.TheVariants as place
use Rattle.c_tree.specs.declared.name.TableName.TheVariants as table
use Rattle.c_tree.specs.declared.name.Variable.{Variable}
use Rattle.c_tree.specs.declared.name.Variable.TheVariants as variable
use Rattle.c_tree.specs.declared.value.CType.TheVariants as type
use Rattle.c_tree.specs.declared.value.CResult.TheVariants as result
use Rattle.c_tree.specs.declared.value.CValue.{CValue}
use Rattle.c_tree.specs.declared.value.CValue.TheVariants as operand
use Rattle.c_tree.specs.declared.value.Literal.TheVariants as literal
use Rattle.c_tree.specs.declared.statement.Argument.{Argument}
use Rattle.c_tree.specs.declared.statement.Argument.TheVariants as argument
use Rattle.c_tree.specs.declared.statement.BinaryOp.TheVariants as operator
use Rattle.c_tree.specs.declared.statement.Callee.TheVariants as callee
use Rattle.c_tree.specs.declared.statement.CTest.TheVariants as test
use Rattle.c_tree.specs.declared.statement.CStmt.{CStmt}
use Rattle.c_tree.specs.declared.statement.CStmt.TheVariants as stmt
use Rattle.c_tree.specs.declared.item.CFile.{CFile}
use Rattle.c_tree.specs.declared.item.CFunction.{CFunction}
use Rattle.c_tree.specs.declared.item.CHead.TheVariants as head
use Rattle.c_tree.specs.declared.item.CItem.{CItem}
use Rattle.c_tree.specs.declared.item.CItem.TheVariants as item
use Rattle.c_tree.specs.declared.item.Declaration.{Declaration}
use Rattle.c_tree.specs.declared.item.InitialValue.TheVariants as initial
use Rattle.c_tree.specs.declared.item.Line.{Line}
use Rattle.c_tree.specs.declared.item.Line.TheVariants as line
use Rattle.api_model.specs.Rows as rows
use Rattle.cy_num.specs.Wrapping as wrapping
use Rattle.c_state.specs.ApiNames.{api_of, all_names, sums, shifts, sums_in_place, shifts_in_place, protocols, made_objects, modules_and_types, changes, numbers, exceptions, counts_and_lock, tests}
use Rattle.c_state.specs.Machine.{c_events, c_steps, c_step}

-- the C of `def f(a, b): return a + b` in a module m

abbrev zero_zero : Numbered
zero_zero = record { «module» = 0; index = 0 }

abbrev p : ℕ → CValue
p j = operand.Variable (variable.Parameter j)

abbrev t : ℕ → CValue
t j = operand.Variable (variable.Temporary j)

abbrev r : CValue
r = operand.Variable variable.Returned

abbrev module_place : CValue
module_place = operand.Variable (variable.Place place.Module)

abbrev to_temporary : ℕ → Option Variable
to_temporary j = Some (variable.Temporary j)

abbrev do_it : CStmt → Line
do_it s = line.Statement s

abbrev null_object : Variable → Declaration
null_object x = record { kind = type.Object; variable = x; initial = initial.Null }

abbrev calls : Option Variable → String → List Argument → Line
calls x name ks = do_it (stmt.Call x (callee.Named (codes name)) ks)

abbrev value_of : CValue → Argument
value_of k = argument.Value k

abbrev text : String → Argument
text t = argument.Str (codes t)

abbrev leave_if_null : ℕ → Line
leave_if_null j = do_it (stmt.Goto (test.Compare (t j) operator.Equal operand.Null) 0)

abbrev return_r : Line
return_r = do_it (stmt.Return (Some r))

abbrev set_r : CValue → Line
set_r k = do_it (stmt.Assign variable.Returned k)

abbrev sum_lines : List Line
sum_lines = calls (to_temporary 0) "PyNumber_Add" (value_of (p 0) ∷ value_of (p 1) ∷ []) ∷ leave_if_null 0 ∷ set_r (t 0) ∷ line.Label 0 ∷ return_r ∷ []

abbrev sum_function : List Line → CFunction
sum_function ls = record {
  head = head.Plain zero_zero (result.Value type.Object) (record { kind = type.Object; number = 0 } ∷ record { kind = type.Object; number = 1 } ∷ []);
  declarations = null_object variable.Returned ∷ null_object (variable.Temporary 0) ∷ [];
  lines = ls;
}

abbrev wrapper_lines : List Line
wrapper_lines =
    do_it (stmt.Goto (test.Compare (operand.Variable (variable.Fixed fixed.ArgumentCount)) operator.NotEqual (operand.Literal (literal.Int (pos 2)))) 0)
    ∷ do_it (stmt.Call (Some variable.Returned) (callee.Function (function.Plain zero_zero)) (value_of (operand.Argument 0) ∷ value_of (operand.Argument 1) ∷ []))
    ∷ return_r
    ∷ line.Label 0
    ∷ calls None "PyErr_SetString" (value_of (operand.Exception exception.TypeError) ∷ text "f() takes 2 arguments" ∷ [])
    ∷ return_r
    ∷ []

abbrev init_lines : List Line
init_lines =
    calls (to_temporary 0) "PyModule_Create" (value_of operand.Definition ∷ [])
    ∷ leave_if_null 0
    ∷ do_it (stmt.Assign (variable.Place place.Module) (t 0))
    ∷ calls (to_temporary 0) "PyModule_GetDict" (value_of module_place ∷ [])
    ∷ calls None "Py_INCREF" (value_of (t 0) ∷ [])
    ∷ do_it (stmt.Assign (variable.Place place.Dictionary) (t 0))
    ∷ calls (to_temporary 0) "PyImport_ImportModule" (text "builtins" ∷ [])
    ∷ leave_if_null 0
    ∷ calls (to_temporary 1) "PyModule_GetDict" (value_of (t 0) ∷ [])
    ∷ calls None "Py_INCREF" (value_of (t 1) ∷ [])
    ∷ do_it (stmt.Assign (variable.Place place.Builtins) (t 1))
    ∷ calls None "Py_DECREF" (value_of (t 0) ∷ [])
    ∷ do_it (stmt.Assign (variable.Place place.Ready) (operand.Literal (literal.Int (pos 1))))
    ∷ calls None "Py_INCREF" (value_of module_place ∷ [])
    ∷ set_r module_place
    ∷ line.Label 0
    ∷ return_r
    ∷ []

abbrev header : CFile
header = record {
  items =
      item.DefineClean ∷ item.IncludePython ∷ item.ViewType ∷ item.RootStruct ∷ item.FormatTest
      ∷ item.Prototype (result.Value type.Object) (function.Plain zero_zero) (type.Object ∷ type.Object ∷ []) ∷ [];
}

-- the file with other places before its own, another body of the function, and another body of the initialisation
abbrev file_with : List CItem → List Line → List Line → CFile
file_with more body init = record {
  items = more ++ (
      item.IncludeSet
      ∷ item.Static type.Object place.Module
      ∷ item.Static type.Object place.Dictionary
      ∷ item.Static type.Object place.Builtins
      ∷ item.Static type.Int place.Ready
      ∷ item.Function (sum_function body)
      ∷ item.Function (record { head = head.Wrapper zero_zero; declarations = null_object variable.Returned ∷ []; lines = wrapper_lines })
      ∷ item.Methods true table.OfFile (record { name = codes "f"; wrapper = zero_zero } ∷ [])
      ∷ item.ModuleDefinition true (codes "m")
      ∷ item.Function (record {
        head = head.Initializer (codes "m");
        declarations = null_object variable.Returned ∷ null_object (variable.Temporary 0) ∷ null_object (variable.Temporary 1) ∷ [];
        lines = init;
      })
      ∷ []);
}

abbrev files_with : List Line → List CFile
files_with body = header ∷ file_with [] body init_lines ∷ []

abbrev files : List CFile
files = files_with sum_lines

-- scripts and traces

abbrev foreign : ℕ → Obj
foreign k = obj.Foreign k

abbrev ok : ℕ → Entry
ok k = entry.OkNode (foreign k)

abbrev call_f : Callee
call_f = outside.Function (record { «module» = codes "m"; name = codes "f" })

abbrev enter_f : ℕ → ℕ → Entry
enter_f a b = entry.Enter call_f (foreign a ∷ foreign b ∷ [])

abbrev entered_f : ℕ → ℕ → Event
entered_f a b = event.Enter call_f (foreign a ∷ foreign b ∷ [])

abbrev asks_add : ℕ → ℕ → Event
asks_add a b = event.Ask (op.Binary binary.Add (foreign a) (foreign b))

abbrev gives : ℕ → Event
gives k = event.Answer (answers.Object (foreign k))

abbrev after_init : List Entry → List Entry
after_init es = ok 1 ∷ ok 2 ∷ ok 3 ∷ ok 4 ∷ es

abbrev init_trace : List Event → List Event
init_trace es =
    event.Init (codes "m")
    ∷ event.Ask (op.Make (make.Module (codes "m"))) ∷ gives 1
    ∷ event.Ask (op.Dict (foreign 1)) ∷ gives 2
    ∷ event.Ask (op.Make (make.Import (codes "builtins"))) ∷ gives 3
    ∷ event.Ask (op.Dict (foreign 3)) ∷ gives 4
    ∷ event.Leave (foreign 1) ∷ es

-- adds_two_objects: 16 statements for the initialisation, 7 for the call

abbrev sum_script : List Entry
sum_script = after_init (enter_f 5 6 ∷ ok 7 ∷ [])

abbrev sum_trace : List Event
sum_trace = init_trace (entered_f 5 6 ∷ asks_add 5 6 ∷ gives 7 ∷ event.Leave (foreign 7) ∷ event.End ∷ [])

adds_two_objects : c_events files sum_script 23 ≡ sum_trace
unfolding api_of all_names sums shifts sums_in_place shifts_in_place protocols made_objects modules_and_types changes numbers exceptions counts_and_lock tests rows.api_table rows.made_rows rows.asked_rows rows.unasked_rows rows.sums rows.shifts rows.sums_in_place rows.shifts_in_place rows.protocols rows.numbers_and_texts rows.containers_and_modules rows.objects rows.changes rows.numbers rows.handlers rows.counts rows.errors rows.locks rows.reads rows.row_of wrapping.wrap
adds_two_objects = refl

adds_two_objects-22 : c_events files sum_script 22 ++ event.Leave (foreign 7) ∷ event.End ∷ [] ≡ sum_trace
unfolding api_of all_names sums shifts sums_in_place shifts_in_place protocols made_objects modules_and_types changes numbers exceptions counts_and_lock tests rows.api_table rows.made_rows rows.asked_rows rows.unasked_rows rows.sums rows.shifts rows.sums_in_place rows.shifts_in_place rows.protocols rows.numbers_and_texts rows.containers_and_modules rows.objects rows.changes rows.numbers rows.handlers rows.counts rows.errors rows.locks rows.reads rows.row_of wrapping.wrap
adds_two_objects-22 = refl

abbrev add : CValue → CValue → Line
add a b = calls (to_temporary 0) "PyNumber_Add" (value_of a ∷ value_of b ∷ [])

adds_two_objects-23_went : (c_step files sum_script (c_steps files sum_script 22 (linked true files))).answer ≡ step.Went
unfolding api_of all_names sums shifts sums_in_place shifts_in_place protocols made_objects modules_and_types changes numbers exceptions counts_and_lock tests rows.api_table rows.made_rows rows.asked_rows rows.unasked_rows rows.sums rows.shifts rows.sums_in_place rows.shifts_in_place rows.protocols rows.numbers_and_texts rows.containers_and_modules rows.objects rows.changes rows.numbers rows.handlers rows.counts rows.errors rows.locks rows.reads rows.row_of wrapping.wrap
adds_two_objects-23_went = refl

adds_two_objects-ended : (c_step files sum_script (c_steps files sum_script 23 (linked true files))).answer ≡ step.Ended
unfolding api_of all_names sums shifts sums_in_place shifts_in_place protocols made_objects modules_and_types changes numbers exceptions counts_and_lock tests rows.api_table rows.made_rows rows.asked_rows rows.unasked_rows rows.sums rows.shifts rows.sums_in_place rows.shifts_in_place rows.protocols rows.numbers_and_texts rows.containers_and_modules rows.objects rows.changes rows.numbers rows.handlers rows.counts rows.errors rows.locks rows.reads rows.row_of wrapping.wrap
adds_two_objects-ended = refl

adds_two_objects-ends_once : c_events files sum_script 30 ≡ sum_trace
unfolding api_of all_names sums shifts sums_in_place shifts_in_place protocols made_objects modules_and_types changes numbers exceptions counts_and_lock tests rows.api_table rows.made_rows rows.asked_rows rows.unasked_rows rows.sums rows.shifts rows.sums_in_place rows.shifts_in_place rows.protocols rows.numbers_and_texts rows.containers_and_modules rows.objects rows.changes rows.numbers rows.handlers rows.counts rows.errors rows.locks rows.reads rows.row_of wrapping.wrap
adds_two_objects-ends_once = refl

no_steps : c_events files sum_script 0 ≡ []
unfolding api_of all_names sums shifts sums_in_place shifts_in_place protocols made_objects modules_and_types changes numbers exceptions counts_and_lock tests rows.api_table rows.made_rows rows.asked_rows rows.unasked_rows rows.sums rows.shifts rows.sums_in_place rows.shifts_in_place rows.protocols rows.numbers_and_texts rows.containers_and_modules rows.objects rows.changes rows.numbers rows.handlers rows.counts rows.errors rows.locks rows.reads rows.row_of wrapping.wrap
no_steps = refl

-- operation_raises, also with the script cut after `enter`

operation_raises : c_events files (after_init (enter_f 5 6 ∷ entry.Raise (foreign 8) ∷ [])) 23
    ≡ init_trace (entered_f 5 6 ∷ asks_add 5 6 ∷ event.Answer (answers.Raised (foreign 8)) ∷ event.LeaveRaise (foreign 8) ∷ event.End ∷ [])
unfolding api_of all_names sums shifts sums_in_place shifts_in_place protocols made_objects modules_and_types changes numbers exceptions counts_and_lock tests rows.api_table rows.made_rows rows.asked_rows rows.unasked_rows rows.sums rows.shifts rows.sums_in_place rows.shifts_in_place rows.protocols rows.numbers_and_texts rows.containers_and_modules rows.objects rows.changes rows.numbers rows.handlers rows.counts rows.errors rows.locks rows.reads rows.row_of wrapping.wrap
operation_raises = refl

abbrev cut_script : List Entry
cut_script = after_init (enter_f 5 6 ∷ [])

operation_raises-cut : c_events files cut_script 23 ≡ init_trace (entered_f 5 6 ∷ asks_add 5 6 ∷ event.Stop ∷ [])
unfolding api_of all_names sums shifts sums_in_place shifts_in_place protocols made_objects modules_and_types changes numbers exceptions counts_and_lock tests rows.api_table rows.made_rows rows.asked_rows rows.unasked_rows rows.sums rows.shifts rows.sums_in_place rows.shifts_in_place rows.protocols rows.numbers_and_texts rows.containers_and_modules rows.objects rows.changes rows.numbers rows.handlers rows.counts rows.errors rows.locks rows.reads rows.row_of wrapping.wrap
operation_raises-cut = refl

operation_raises-stopped : (c_step files cut_script (c_steps files cut_script 23 (linked true files))).answer ≡ step.Stopped
unfolding api_of all_names sums shifts sums_in_place shifts_in_place protocols made_objects modules_and_types changes numbers exceptions counts_and_lock tests rows.api_table rows.made_rows rows.asked_rows rows.unasked_rows rows.sums rows.shifts rows.sums_in_place rows.shifts_in_place rows.protocols rows.numbers_and_texts rows.containers_and_modules rows.objects rows.changes rows.numbers rows.handlers rows.counts rows.errors rows.locks rows.reads rows.row_of wrapping.wrap
operation_raises-stopped = refl

-- wrong_number_of_arguments

wrong_number_of_arguments : c_events files (after_init (entry.Enter call_f (foreign 5 ∷ []) ∷ ok 9 ∷ [])) 23
    ≡ init_trace (
    event.Enter call_f (foreign 5 ∷ [])
    ∷ event.Ask (op.Fail (obj.ExceptionType exception.TypeError) (codes "f() takes 2 arguments"))
    ∷ gives 9 ∷ event.LeaveRaise (foreign 9) ∷ event.End ∷ [])
unfolding api_of all_names sums shifts sums_in_place shifts_in_place protocols made_objects modules_and_types changes numbers exceptions counts_and_lock tests rows.api_table rows.made_rows rows.asked_rows rows.unasked_rows rows.sums rows.shifts rows.sums_in_place rows.shifts_in_place rows.protocols rows.numbers_and_texts rows.containers_and_modules rows.objects rows.changes rows.numbers rows.handlers rows.counts rows.errors rows.locks rows.reads rows.row_of wrapping.wrap
wrong_number_of_arguments = refl

-- callbacks: one inside the operation that enters the same function, and one inside another

callback_inside : c_events files (after_init (enter_f 5 6 ∷ enter_f 7 8 ∷ ok 9 ∷ ok 10 ∷ [])) 40
    ≡ init_trace (
    entered_f 5 6 ∷ asks_add 5 6
    ∷ entered_f 7 8 ∷ asks_add 7 8 ∷ gives 9 ∷ event.Leave (foreign 9)
    ∷ gives 10 ∷ event.Leave (foreign 10) ∷ event.End ∷ [])
unfolding api_of all_names sums shifts sums_in_place shifts_in_place protocols made_objects modules_and_types changes numbers exceptions counts_and_lock tests rows.api_table rows.made_rows rows.asked_rows rows.unasked_rows rows.sums rows.shifts rows.sums_in_place rows.shifts_in_place rows.protocols rows.numbers_and_texts rows.containers_and_modules rows.objects rows.changes rows.numbers rows.handlers rows.counts rows.errors rows.locks rows.reads rows.row_of wrapping.wrap
callback_inside = refl

callbacks_nested : c_events files (after_init (enter_f 5 6 ∷ enter_f 7 8 ∷ enter_f 9 10 ∷ ok 11 ∷ ok 12 ∷ ok 13 ∷ [])) 40
    ≡ init_trace (
    entered_f 5 6 ∷ asks_add 5 6
    ∷ entered_f 7 8 ∷ asks_add 7 8
    ∷ entered_f 9 10 ∷ asks_add 9 10 ∷ gives 11 ∷ event.Leave (foreign 11)
    ∷ gives 12 ∷ event.Leave (foreign 12)
    ∷ gives 13 ∷ event.Leave (foreign 13) ∷ event.End ∷ [])
unfolding api_of all_names sums shifts sums_in_place shifts_in_place protocols made_objects modules_and_types changes numbers exceptions counts_and_lock tests rows.api_table rows.made_rows rows.asked_rows rows.unasked_rows rows.sums rows.shifts rows.sums_in_place rows.shifts_in_place rows.protocols rows.numbers_and_texts rows.containers_and_modules rows.objects rows.changes rows.numbers rows.handlers rows.counts rows.errors rows.locks rows.reads rows.row_of wrapping.wrap
callbacks_nested = refl

-- entries left over at top level are skipped, also calling entries that don't fit, and `die`

abbrev call_g : Callee
call_g = outside.Function (record { «module» = codes "m"; name = codes "g" })

entries_left_over : c_events files (after_init (ok 20 ∷ entry.Die 0 ∷ entry.Enter call_g [] ∷ enter_f 5 6 ∷ ok 7 ∷ entry.Made ∷ [])) 23 ≡ sum_trace
unfolding api_of all_names sums shifts sums_in_place shifts_in_place protocols made_objects modules_and_types changes numbers exceptions counts_and_lock tests rows.api_table rows.made_rows rows.asked_rows rows.unasked_rows rows.sums rows.shifts rows.sums_in_place rows.shifts_in_place rows.protocols rows.numbers_and_texts rows.containers_and_modules rows.objects rows.changes rows.numbers rows.handlers rows.counts rows.errors rows.locks rows.reads rows.row_of wrapping.wrap
entries_left_over = refl

-- inside an operation a calling entry that doesn't fit is a raise of Foreign 0, and `die` is skipped

unfit_inside : c_events files (after_init (enter_f 5 6 ∷ entry.Die 0 ∷ entry.Enter call_g [] ∷ [])) 23
    ≡ init_trace (
    entered_f 5 6 ∷ asks_add 5 6 ∷ event.Answer (answers.Raised (foreign 0)) ∷ event.LeaveRaise (foreign 0) ∷ event.End ∷ [])
unfolding api_of all_names sums shifts sums_in_place shifts_in_place protocols made_objects modules_and_types changes numbers exceptions counts_and_lock tests rows.api_table rows.made_rows rows.asked_rows rows.unasked_rows rows.sums rows.shifts rows.sums_in_place rows.shifts_in_place rows.protocols rows.numbers_and_texts rows.containers_and_modules rows.objects rows.changes rows.numbers rows.handlers rows.counts rows.errors rows.locks rows.reads rows.row_of wrapping.wrap
unfit_inside = refl

-- no function may be entered before its module is ready: the entry is an answer that doesn't fit, and the initialisation fails

entered_too_early : c_events files (enter_f 5 6 ∷ ok 2 ∷ []) 9
    ≡ event.Init (codes "m") ∷ event.Ask (op.Make (make.Module (codes "m"))) ∷ event.Answer (answers.Raised (foreign 0)) ∷ event.LeaveRaise (foreign 0) ∷ event.End ∷ []
unfolding api_of all_names sums shifts sums_in_place shifts_in_place protocols made_objects modules_and_types changes numbers exceptions counts_and_lock tests rows.api_table rows.made_rows rows.asked_rows rows.unasked_rows rows.sums rows.shifts rows.sums_in_place rows.shifts_in_place rows.protocols rows.numbers_and_texts rows.containers_and_modules rows.objects rows.changes rows.numbers rows.handlers rows.counts rows.errors rows.locks rows.reads rows.row_of wrapping.wrap
entered_too_early = refl

-- an instance that isn't made yet reads as None

unmade_instance : c_events files (after_init (enter_f 5 6 ∷ entry.OkNode (obj.Inst 0) ∷ [])) 23
    ≡ init_trace (entered_f 5 6 ∷ asks_add 5 6 ∷ event.Answer (answers.Object obj.NoneNode) ∷ event.Leave obj.NoneNode ∷ event.End ∷ [])
unfolding api_of all_names sums shifts sums_in_place shifts_in_place protocols made_objects modules_and_types changes numbers exceptions counts_and_lock tests rows.api_table rows.made_rows rows.asked_rows rows.unasked_rows rows.sums rows.shifts rows.sums_in_place rows.shifts_in_place rows.protocols rows.numbers_and_texts rows.containers_and_modules rows.objects rows.changes rows.numbers rows.handlers rows.counts rows.errors rows.locks rows.reads rows.row_of wrapping.wrap
unmade_instance = refl

-- wrong C is refused by the machine

abbrev fault_with : List Line → List Entry → ℕ → Step
fault_with body script n = (c_step (files_with body) script (c_steps (files_with body) script n (linked true (files_with body)))).answer

-- one_decrement_too_many: it faults in its 22nd step, and the step changes nothing
abbrev decrement_lines : List Line
decrement_lines = add (p 0) (p 1) ∷ leave_if_null 0 ∷ set_r (t 0) ∷ line.Label 0 ∷ calls None "Py_DECREF" (value_of (p 0) ∷ []) ∷ return_r ∷ []

one_decrement_too_many : fault_with decrement_lines sum_script 21 ≡ step.Fault fault.Unheld
unfolding api_of all_names sums shifts sums_in_place shifts_in_place protocols made_objects modules_and_types changes numbers exceptions counts_and_lock tests rows.api_table rows.made_rows rows.asked_rows rows.unasked_rows rows.sums rows.shifts rows.sums_in_place rows.shifts_in_place rows.protocols rows.numbers_and_texts rows.containers_and_modules rows.objects rows.changes rows.numbers rows.handlers rows.counts rows.errors rows.locks rows.reads rows.row_of wrapping.wrap
one_decrement_too_many = refl

one_decrement_too_many-before : fault_with decrement_lines sum_script 20 ≡ step.Went
unfolding api_of all_names sums shifts sums_in_place shifts_in_place protocols made_objects modules_and_types changes numbers exceptions counts_and_lock tests rows.api_table rows.made_rows rows.asked_rows rows.unasked_rows rows.sums rows.shifts rows.sums_in_place rows.shifts_in_place rows.protocols rows.numbers_and_texts rows.containers_and_modules rows.objects rows.changes rows.numbers rows.handlers rows.counts rows.errors rows.locks rows.reads rows.row_of wrapping.wrap
one_decrement_too_many-before = refl

faulting_step_changes_nothing : c_steps (files_with decrement_lines) sum_script 22 (linked true (files_with decrement_lines))
    ≡ c_steps (files_with decrement_lines) sum_script 21 (linked true (files_with decrement_lines))
unfolding api_of all_names sums shifts sums_in_place shifts_in_place protocols made_objects modules_and_types changes numbers exceptions counts_and_lock tests rows.api_table rows.made_rows rows.asked_rows rows.unasked_rows rows.sums rows.shifts rows.sums_in_place rows.shifts_in_place rows.protocols rows.numbers_and_texts rows.containers_and_modules rows.objects rows.changes rows.numbers rows.handlers rows.counts rows.errors rows.locks rows.reads rows.row_of wrapping.wrap
faulting_step_changes_nothing = refl

-- a jump to a label that isn't there, also where it isn't taken
jump_nowhere : fault_with (do_it (stmt.Goto (test.Compare (p 0) operator.Equal operand.Null) 3) ∷ return_r ∷ []) sum_script 18 ≡ step.Fault fault.Stuck
unfolding api_of all_names sums shifts sums_in_place shifts_in_place protocols made_objects modules_and_types changes numbers exceptions counts_and_lock tests rows.api_table rows.made_rows rows.asked_rows rows.unasked_rows rows.sums rows.shifts rows.sums_in_place rows.shifts_in_place rows.protocols rows.numbers_and_texts rows.containers_and_modules rows.objects rows.changes rows.numbers rows.handlers rows.counts rows.errors rows.locks rows.reads rows.row_of wrapping.wrap
jump_nowhere = refl

-- NULL where an operation needs an object comes before a variable without a value
null_operand : fault_with (add r (operand.Variable (variable.Local 0)) ∷ return_r ∷ []) sum_script 18 ≡ step.Fault fault.Stuck
unfolding api_of all_names sums shifts sums_in_place shifts_in_place protocols made_objects modules_and_types changes numbers exceptions counts_and_lock tests rows.api_table rows.made_rows rows.asked_rows rows.unasked_rows rows.sums rows.shifts rows.sums_in_place rows.shifts_in_place rows.protocols rows.numbers_and_texts rows.containers_and_modules rows.objects rows.changes rows.numbers rows.handlers rows.counts rows.errors rows.locks rows.reads rows.row_of wrapping.wrap
null_operand = refl

-- a body that ends without a return
no_return : fault_with [] sum_script 18 ≡ step.Fault fault.Stuck
unfolding api_of all_names sums shifts sums_in_place shifts_in_place protocols made_objects modules_and_types changes numbers exceptions counts_and_lock tests rows.api_table rows.made_rows rows.asked_rows rows.unasked_rows rows.sums rows.shifts rows.sums_in_place rows.shifts_in_place rows.protocols rows.numbers_and_texts rows.containers_and_modules rows.objects rows.changes rows.numbers rows.handlers rows.counts rows.errors rows.locks rows.reads rows.row_of wrapping.wrap
no_return = refl

-- an `int` is no object
wrong_type : fault_with (set_r (operand.Literal (literal.Int (pos 0))) ∷ return_r ∷ []) sum_script 18 ≡ step.Fault fault.Stuck
unfolding api_of all_names sums shifts sums_in_place shifts_in_place protocols made_objects modules_and_types changes numbers exceptions counts_and_lock tests rows.api_table rows.made_rows rows.asked_rows rows.unasked_rows rows.sums rows.shifts rows.sums_in_place rows.shifts_in_place rows.protocols rows.numbers_and_texts rows.containers_and_modules rows.objects rows.changes rows.numbers rows.handlers rows.counts rows.errors rows.locks rows.reads rows.row_of wrapping.wrap
wrong_type = refl

-- other bodies of the initialisation, from the first step on

abbrev init_with : List Line → List CFile
init_with ls = header ∷ record {
  items =
      item.Static type.Object place.Module
      ∷ item.Static type.Object (place.Global 0)
      ∷ item.Static type.Int (place.Global 1)
      ∷ item.ModuleDefinition true (codes "m")
      ∷ item.Function (record {
        head = head.Initializer (codes "m");
        declarations =
            null_object variable.Returned ∷ null_object (variable.Temporary 0)
            ∷ record { kind = type.Object; variable = variable.Local 0; initial = initial.Nothing } ∷ [];
        lines = ls;
      })
      ∷ [];
} ∷ []

abbrev init_script : List Entry
init_script = ok 1 ∷ ok 2 ∷ ok 3 ∷ ok 4 ∷ []

abbrev init_fault : List Line → ℕ → Step
init_fault ls n = (c_step (init_with ls) init_script (c_steps (init_with ls) init_script n (linked true (init_with ls)))).answer

abbrev create : Line
create = calls (to_temporary 0) "PyModule_Create" (value_of operand.Definition ∷ [])

abbrev set_error : Line
set_error = calls None "PyErr_SetString" (value_of (operand.Exception exception.ValueError) ∷ argument.Str [] ∷ [])

unset_variable : init_fault (set_r (operand.Variable (variable.Local 0)) ∷ []) 0 ≡ step.Fault fault.Undefined
unfolding api_of all_names sums shifts sums_in_place shifts_in_place protocols made_objects modules_and_types changes numbers exceptions counts_and_lock tests rows.api_table rows.made_rows rows.asked_rows rows.unasked_rows rows.sums rows.shifts rows.sums_in_place rows.shifts_in_place rows.protocols rows.numbers_and_texts rows.containers_and_modules rows.objects rows.changes rows.numbers rows.handlers rows.counts rows.errors rows.locks rows.reads rows.row_of wrapping.wrap
unset_variable = refl

operation_with_error : init_fault (set_error ∷ create ∷ []) 1 ≡ step.Fault fault.ErrorSet
unfolding api_of all_names sums shifts sums_in_place shifts_in_place protocols made_objects modules_and_types changes numbers exceptions counts_and_lock tests rows.api_table rows.made_rows rows.asked_rows rows.unasked_rows rows.sums rows.shifts rows.sums_in_place rows.shifts_in_place rows.protocols rows.numbers_and_texts rows.containers_and_modules rows.objects rows.changes rows.numbers rows.handlers rows.counts rows.errors rows.locks rows.reads rows.row_of wrapping.wrap
operation_with_error = refl

result_with_error : init_fault (create ∷ set_error ∷ do_it (stmt.Return (Some (t 0))) ∷ []) 2 ≡ step.Fault fault.ErrorSet
unfolding api_of all_names sums shifts sums_in_place shifts_in_place protocols made_objects modules_and_types changes numbers exceptions counts_and_lock tests rows.api_table rows.made_rows rows.asked_rows rows.unasked_rows rows.sums rows.shifts rows.sums_in_place rows.shifts_in_place rows.protocols rows.numbers_and_texts rows.containers_and_modules rows.objects rows.changes rows.numbers rows.handlers rows.counts rows.errors rows.locks rows.reads rows.row_of wrapping.wrap
result_with_error = refl

failure_without_error : init_fault (return_r ∷ []) 0 ≡ step.Fault fault.ErrorLost
unfolding api_of all_names sums shifts sums_in_place shifts_in_place protocols made_objects modules_and_types changes numbers exceptions counts_and_lock tests rows.api_table rows.made_rows rows.asked_rows rows.unasked_rows rows.sums rows.shifts rows.sums_in_place rows.shifts_in_place rows.protocols rows.numbers_and_texts rows.containers_and_modules rows.objects rows.changes rows.numbers rows.handlers rows.counts rows.errors rows.locks rows.reads rows.row_of wrapping.wrap
failure_without_error = refl

error_over_error : init_fault (set_error ∷ set_error ∷ []) 1 ≡ step.Fault fault.ErrorLost
unfolding api_of all_names sums shifts sums_in_place shifts_in_place protocols made_objects modules_and_types changes numbers exceptions counts_and_lock tests rows.api_table rows.made_rows rows.asked_rows rows.unasked_rows rows.sums rows.shifts rows.sums_in_place rows.shifts_in_place rows.protocols rows.numbers_and_texts rows.containers_and_modules rows.objects rows.changes rows.numbers rows.handlers rows.counts rows.errors rows.locks rows.reads rows.row_of wrapping.wrap
error_over_error = refl

-- a borrowed dictionary is a loan, which the next operation ends
unheld_argument : init_fault (create ∷ calls (to_temporary 0) "PyModule_GetDict" (value_of (t 0) ∷ []) ∷ add (t 0) (t 0) ∷ []) 2 ≡ step.Fault fault.Unheld
unfolding api_of all_names sums shifts sums_in_place shifts_in_place protocols made_objects modules_and_types changes numbers exceptions counts_and_lock tests rows.api_table rows.made_rows rows.asked_rows rows.unasked_rows rows.sums rows.shifts rows.sums_in_place rows.shifts_in_place rows.protocols rows.numbers_and_texts rows.containers_and_modules rows.objects rows.changes rows.numbers rows.handlers rows.counts rows.errors rows.locks rows.reads rows.row_of wrapping.wrap
unheld_argument = refl

increment_after_loan : init_fault (create ∷ do_it (stmt.Assign (variable.Place place.Module) (t 0)) ∷ calls (to_temporary 0) "PyModule_GetDict" (value_of (module_place) ∷ []) ∷ set_r (t 0) ∷ create ∷ calls None "Py_INCREF" (value_of r ∷ []) ∷ []) 5
    ≡ step.Fault fault.Unheld
unfolding api_of all_names sums shifts sums_in_place shifts_in_place protocols made_objects modules_and_types changes numbers exceptions counts_and_lock tests rows.api_table rows.made_rows rows.asked_rows rows.unasked_rows rows.sums rows.shifts rows.sums_in_place rows.shifts_in_place rows.protocols rows.numbers_and_texts rows.containers_and_modules rows.objects rows.changes rows.numbers rows.handlers rows.counts rows.errors rows.locks rows.reads rows.row_of wrapping.wrap
increment_after_loan = refl

-- a result that the function doesn't own, and one that it owns beside another
unowned_result : init_fault (do_it (stmt.Return (Some (operand.Exception exception.ValueError))) ∷ []) 0 ≡ step.Fault fault.Unbalanced
unfolding api_of all_names sums shifts sums_in_place shifts_in_place protocols made_objects modules_and_types changes numbers exceptions counts_and_lock tests rows.api_table rows.made_rows rows.asked_rows rows.unasked_rows rows.sums rows.shifts rows.sums_in_place rows.shifts_in_place rows.protocols rows.numbers_and_texts rows.containers_and_modules rows.objects rows.changes rows.numbers rows.handlers rows.counts rows.errors rows.locks rows.reads rows.row_of wrapping.wrap
unowned_result = refl

reference_too_many : init_fault (create ∷ calls None "Py_INCREF" (value_of (t 0) ∷ []) ∷ do_it (stmt.Return (Some (t 0))) ∷ []) 2 ≡ step.Fault fault.Unbalanced
unfolding api_of all_names sums shifts sums_in_place shifts_in_place protocols made_objects modules_and_types changes numbers exceptions counts_and_lock tests rows.api_table rows.made_rows rows.asked_rows rows.unasked_rows rows.sums rows.shifts rows.sums_in_place rows.shifts_in_place rows.protocols rows.numbers_and_texts rows.containers_and_modules rows.objects rows.changes rows.numbers rows.handlers rows.counts rows.errors rows.locks rows.reads rows.row_of wrapping.wrap
reference_too_many = refl

-- a constant place takes one store, of NULL too; a module variable takes any number
second_store : init_fault (do_it (stmt.Assign (variable.Place place.Module) operand.Null) ∷ create ∷ do_it (stmt.Assign (variable.Place place.Module) (t 0)) ∷ []) 2 ≡ step.Fault fault.Stuck
unfolding api_of all_names sums shifts sums_in_place shifts_in_place protocols made_objects modules_and_types changes numbers exceptions counts_and_lock tests rows.api_table rows.made_rows rows.asked_rows rows.unasked_rows rows.sums rows.shifts rows.sums_in_place rows.shifts_in_place rows.protocols rows.numbers_and_texts rows.containers_and_modules rows.objects rows.changes rows.numbers rows.handlers rows.counts rows.errors rows.locks rows.reads rows.row_of wrapping.wrap
second_store = refl

module_variable : init_fault (create ∷ do_it (stmt.Assign (variable.Place (place.Global 0)) (t 0)) ∷ calls None "Py_INCREF" (value_of (operand.Variable (variable.Place (place.Global 0))) ∷ []) ∷ do_it (stmt.Assign (variable.Place (place.Global 0)) operand.Null) ∷ []) 4
    ≡ step.Fault fault.Stuck
unfolding api_of all_names sums shifts sums_in_place shifts_in_place protocols made_objects modules_and_types changes numbers exceptions counts_and_lock tests rows.api_table rows.made_rows rows.asked_rows rows.unasked_rows rows.sums rows.shifts rows.sums_in_place rows.shifts_in_place rows.protocols rows.numbers_and_texts rows.containers_and_modules rows.objects rows.changes rows.numbers rows.handlers rows.counts rows.errors rows.locks rows.reads rows.row_of wrapping.wrap
module_variable = refl

module_variable-unheld : init_fault (create ∷ do_it (stmt.Assign (variable.Place (place.Global 0)) (t 0)) ∷ add (operand.Variable (variable.Place (place.Global 0))) (operand.Variable (variable.Place (place.Global 0))) ∷ []) 2
    ≡ step.Fault fault.Unheld
unfolding api_of all_names sums shifts sums_in_place shifts_in_place protocols made_objects modules_and_types changes numbers exceptions counts_and_lock tests rows.api_table rows.made_rows rows.asked_rows rows.unasked_rows rows.sums rows.shifts rows.sums_in_place rows.shifts_in_place rows.protocols rows.numbers_and_texts rows.containers_and_modules rows.objects rows.changes rows.numbers rows.handlers rows.counts rows.errors rows.locks rows.reads rows.row_of wrapping.wrap
module_variable-unheld = refl

-- without the lock a module variable of a number type is stored and read, and one that holds an object is neither

abbrev unlocked : List Line → ℕ → Step
unlocked ls n = (c_step (init_with ls) [] (c_steps (init_with ls) [] n (with_lock false (linked true (init_with ls))))).answer

number_stored : unlocked (do_it (stmt.Assign (variable.Place (place.Global 1)) (operand.Literal (literal.Int (pos 5)))) ∷ return_r ∷ []) 0 ≡ step.Went
unfolding api_of all_names sums shifts sums_in_place shifts_in_place protocols made_objects modules_and_types changes numbers exceptions counts_and_lock tests rows.api_table rows.made_rows rows.asked_rows rows.unasked_rows rows.sums rows.shifts rows.sums_in_place rows.shifts_in_place rows.protocols rows.numbers_and_texts rows.containers_and_modules rows.objects rows.changes rows.numbers rows.handlers rows.counts rows.errors rows.locks rows.reads rows.row_of wrapping.wrap
number_stored = refl

number_read : unlocked (do_it (stmt.Goto (test.Compare (operand.Variable (variable.Place (place.Global 1))) operator.Equal (operand.Literal (literal.Int (pos 0)))) 0) ∷ line.Label 0 ∷ return_r ∷ []) 0 ≡ step.Went
unfolding api_of all_names sums shifts sums_in_place shifts_in_place protocols made_objects modules_and_types changes numbers exceptions counts_and_lock tests rows.api_table rows.made_rows rows.asked_rows rows.unasked_rows rows.sums rows.shifts rows.sums_in_place rows.shifts_in_place rows.protocols rows.numbers_and_texts rows.containers_and_modules rows.objects rows.changes rows.numbers rows.handlers rows.counts rows.errors rows.locks rows.reads rows.row_of wrapping.wrap
number_read = refl

object_stored : unlocked (do_it (stmt.Assign (variable.Place (place.Global 0)) operand.Null) ∷ return_r ∷ []) 0 ≡ step.Fault fault.Unlocked
unfolding api_of all_names sums shifts sums_in_place shifts_in_place protocols made_objects modules_and_types changes numbers exceptions counts_and_lock tests rows.api_table rows.made_rows rows.asked_rows rows.unasked_rows rows.sums rows.shifts rows.sums_in_place rows.shifts_in_place rows.protocols rows.numbers_and_texts rows.containers_and_modules rows.objects rows.changes rows.numbers rows.handlers rows.counts rows.errors rows.locks rows.reads rows.row_of wrapping.wrap
object_stored = refl

object_read : unlocked (set_r (operand.Variable (variable.Place (place.Global 0))) ∷ return_r ∷ []) 0 ≡ step.Fault fault.Unlocked
unfolding api_of all_names sums shifts sums_in_place shifts_in_place protocols made_objects modules_and_types changes numbers exceptions counts_and_lock tests rows.api_table rows.made_rows rows.asked_rows rows.unasked_rows rows.sums rows.shifts rows.sums_in_place rows.shifts_in_place rows.protocols rows.numbers_and_texts rows.containers_and_modules rows.objects rows.changes rows.numbers rows.handlers rows.counts rows.errors rows.locks rows.reads rows.row_of wrapping.wrap
object_read = refl
