-- Runs of thin sources, computed: what the sources mean, over the scripts of the worked runs.
use Rattle.std.proofs.Common.{◌≡◌, ℕ, List, [], ◌∷◌, ◌++◌, refl, ap, arith}
use Rattle.std.proofs.lemmas.Fmt.{decimal_digit}
use Rattle.std.specs.Prelude.{codes}
use Rattle.c_token.specs.declared.exception.Exception.TheVariants as exception
use Rattle.thin_state.specs.declared.space.BinaryOp.TheVariants as binary
use Rattle.thin_state.specs.declared.space.Obj.{Obj}
use Rattle.thin_state.specs.declared.space.Obj.TheVariants as obj
use Rattle.thin_state.specs.declared.space.Callee.{Callee}
use Rattle.thin_state.specs.declared.space.Callee.TheVariants as callee
use Rattle.thin_state.specs.declared.space.Entry.{Entry}
use Rattle.thin_state.specs.declared.space.Entry.TheVariants as entry
use Rattle.thin_state.specs.declared.space.Op.TheVariants as op
use Rattle.thin_state.specs.declared.space.Answer.TheVariants as answers
use Rattle.thin_state.specs.declared.space.Event.{Event}
use Rattle.thin_state.specs.declared.space.Event.TheVariants as event
use Rattle.thin_state.specs.Machine.{c_events}
use Rattle.cy_mean.specs.declared.ThinFunction.{ThinFunction}
use Rattle.cy_mean.specs.Texts.{arity_text}
use Rattle.cy_mean.specs.Source.{thin_set}
use Rattle.cy_mean.specs.Meaning.{source_events}
use Rattle.thin_code.specs.ThinC.{thin_files}

-- `def f(a, b): return a + b` in a module m
abbrev sum : ThinFunction
sum = record { name = codes "f"; parameters = codes "a" ∷ codes "b" ∷ []; left = codes "a"; right = codes "b" }

abbrev sum_events : List Entry → ℕ → List Event
sum_events script m = source_events (thin_set (codes "m") sum) script m

abbrev sum_c_events : List Entry → ℕ → List Event
sum_c_events script n = c_events (thin_files (codes "m") sum) script n

abbrev foreign : ℕ → Obj
foreign k = obj.Foreign k

abbrev ok : ℕ → Entry
ok k = entry.OkNode (foreign k)

abbrev call_f : Callee
call_f = callee.Function (record { «module» = codes "m"; name = codes "f" })

abbrev enter_f : ℕ → ℕ → Entry
enter_f a b = entry.Enter call_f (foreign a ∷ foreign b ∷ [])

abbrev gives : ℕ → Event
gives k = event.Answer (answers.Object (foreign k))

abbrev after_init : List Entry → List Entry
after_init es = ok 1 ∷ ok 2 ∷ ok 3 ∷ ok 4 ∷ es

abbrev init_trace : List Event → List Event
init_trace es =
    event.Init (codes "m")
    ∷ event.Ask (op.Module (codes "m")) ∷ gives 1
    ∷ event.Ask (op.Dict (foreign 1)) ∷ gives 2
    ∷ event.Ask (op.Import (codes "builtins")) ∷ gives 3
    ∷ event.Ask (op.Dict (foreign 3)) ∷ gives 4
    ∷ event.Leave (foreign 1) ∷ es

-- the call of f with 5 and 6, up to its operation
abbrev call_trace : List Event → List Event
call_trace es = init_trace (event.Enter call_f (foreign 5 ∷ foreign 6 ∷ []) ∷ event.Ask (op.Binary binary.Add (foreign 5) (foreign 6)) ∷ es)

abbrev sum_script : List Entry
sum_script = after_init (enter_f 5 6 ∷ ok 7 ∷ [])

abbrev sum_trace : List Event
sum_trace = call_trace (gives 7 ∷ event.Leave (foreign 7) ∷ event.End ∷ [])

-- one unit for the call, one for the statement and three for the expression
adds_two_objects : sum_events sum_script 5 ≡ sum_trace
adds_two_objects = refl

adds_two_objects-ends_once : sum_events sum_script 50 ≡ sum_trace
adds_two_objects-ends_once = refl

-- with four units the right operand isn't reached
adds_two_objects-four_units : sum_events sum_script 4 ≡ init_trace (event.Enter call_f (foreign 5 ∷ foreign 6 ∷ []) ∷ [])
adds_two_objects-four_units = refl

adds_two_objects-in_c : sum_c_events sum_script 23 ≡ sum_trace
adds_two_objects-in_c = refl

abbrev raise_script : List Entry
raise_script = after_init (enter_f 5 6 ∷ entry.Raise (foreign 8) ∷ [])

operation_raises : sum_events raise_script 5 ≡ call_trace (event.Answer (answers.Raised (foreign 8)) ∷ event.LeaveRaise (foreign 8) ∷ event.End ∷ [])
operation_raises = refl

-- cut after `enter`
operation_raises-cut : sum_events (after_init (enter_f 5 6 ∷ [])) 5 ≡ call_trace (event.Stop ∷ [])
operation_raises-cut = refl

abbrev wrong_count_script : List Entry
wrong_count_script = after_init (entry.Enter call_f (foreign 5 ∷ []) ∷ ok 9 ∷ [])

abbrev wrong_count_trace : List ℕ → List Event
wrong_count_trace text = init_trace (event.Enter call_f (foreign 5 ∷ []) ∷ event.Ask (op.Fail (obj.ExceptionType exception.TypeError) text) ∷ gives 9 ∷ event.LeaveRaise (foreign 9) ∷ event.End ∷ [])

takes_two : arity_text (codes "f") 2 ≡ codes "f() takes 2 arguments"
takes_two = ap (λ (digits : List ℕ). codes "f() takes " ++ (digits ++ codes " arguments")) (decimal_digit 2 (omega arith))

-- the call takes its unit, and the test of the number none
wrong_number_of_arguments : sum_events wrong_count_script 1 ≡ wrong_count_trace (codes "f() takes 2 arguments")
wrong_number_of_arguments = ap wrong_count_trace takes_two

-- an initialisation that raises ends the run
import_raises : sum_events (ok 1 ∷ ok 2 ∷ entry.Raise (foreign 3) ∷ sum_script) 9
    ≡ event.Init (codes "m") ∷ event.Ask (op.Module (codes "m")) ∷ gives 1 ∷ event.Ask (op.Dict (foreign 1)) ∷ gives 2
    ∷ event.Ask (op.Import (codes "builtins")) ∷ event.Answer (answers.Raised (foreign 3)) ∷ event.LeaveRaise (foreign 3) ∷ event.End ∷ []
import_raises = refl

-- a call inside an operation runs in place, and takes its units from the same budget
nested_call : sum_events (after_init (enter_f 5 6 ∷ enter_f 7 8 ∷ ok 9 ∷ ok 10 ∷ [])) 10
    ≡ call_trace (event.Enter call_f (foreign 7 ∷ foreign 8 ∷ []) ∷ event.Ask (op.Binary binary.Add (foreign 7) (foreign 8)) ∷ gives 9 ∷ event.Leave (foreign 9) ∷ gives 10 ∷ event.Leave (foreign 10) ∷ event.End ∷ [])
nested_call = refl
