-- What one statement does, where its tests hold.
use Rattle.std.proofs.Common.{◌≡◌, ℕ, ◌<◌, Bool, true, false, not, ◌||◌, List, [], ◌∷◌, Option, Some, refl, ap, ◌∙◌, arith}
use Rattle.std.specs.Prelude.{pos, negsuc, nat_lt, is_none, ◌%◌, ◌-◌, if◌then◌else◌}
use Rattle.std.proofs.Math.Nat.{mod-eq_of_lt}
use Rattle.std.proofs.lemmas.Bool.{lt-ltb}
use Rattle.thin_state.specs.declared.space.Obj.{Obj}
use Rattle.thin_state.specs.declared.space.Op.{Op}
use Rattle.thin_state.specs.declared.space.Event.TheVariants as event
use Rattle.thin_state.specs.declared.tree.Variable.{Variable}
use Rattle.thin_state.specs.declared.tree.FunctionName.{FunctionName}
use Rattle.thin_state.specs.declared.tree.ApiRow.{ApiRow}
use Rattle.thin_state.specs.declared.tree.CValue.{CValue}
use Rattle.thin_state.specs.declared.tree.CFunction.{CFunction}
use Rattle.thin_state.specs.declared.tree.CFile.{CFile}
use Rattle.thin_state.specs.declared.state.FaultKind.{FaultKind}
use Rattle.thin_state.specs.declared.state.FaultKind.TheVariants as fault
use Rattle.thin_state.specs.declared.state.Kind.{Kind}
use Rattle.thin_state.specs.declared.state.Kind.TheVariants as kind
use Rattle.thin_state.specs.declared.state.Value.{Value}
use Rattle.thin_state.specs.declared.state.Value.TheVariants as value
use Rattle.thin_state.specs.declared.state.Reading.{Reading}
use Rattle.thin_state.specs.declared.state.Doing.TheVariants as doing
use Rattle.thin_state.specs.declared.state.Entered.TheVariants as entered
use Rattle.thin_state.specs.State.{low_half, wrap_int, Frame, CState, has, held, all_held}
use Rattle.thin_state.specs.Reads.{loans_after, all_set, any_null, any_module_variable, passed, values_of, fits, receives, Found, FoundFunction, function_named, parameter_kinds, result_kind, frame_of}
use Rattle.thin_state.specs.Statements.{Moved, Went, need, need_some, on, tell, takes, row_result, op_of, error_fault, ask, api, call_found, call}
use Rattle.cy_mean.proofs.Same.{and_true, or_left, or_right, obj_same}

-- objects as operands give them, and as values
abbrev pub object_readings : List Obj → List Reading
object_readings [] = []
object_readings (o ∷ os) = record { kind = kind.PyObject; value = value.Object o } ∷ object_readings os

abbrev pub object_values : List Obj → List Value
object_values [] = []
object_values (o ∷ os) = value.Object o ∷ object_values os

-- as many objects as this
abbrev pub object_kinds : List Obj → List Kind
object_kinds [] = []
object_kinds (o ∷ os) = kind.PyObject ∷ object_kinds os

pub objects-set : (os : List Obj) → all_set (object_readings os) ≡ true
objects-set [] = refl
objects-set (o ∷ os) = objects-set os

pub objects-passed : (os : List Obj) → passed (object_readings os) ≡ os
objects-passed [] = refl
objects-passed (o ∷ os) = ap (λ l. o ∷ l) (objects-passed os)

pub objects-values : (os : List Obj) → values_of (object_readings os) ≡ object_values os
objects-values [] = refl
objects-values (o ∷ os) = ap (λ l. value.Object o ∷ l) (objects-values os)

pub objects-fit : (os : List Obj) → fits (object_kinds os) (object_readings os) ≡ true
objects-fit [] = refl
objects-fit (o ∷ os) = objects-fit os

-- what is lent is held
pub held_lent : (c : CState) (f : Frame) (o : Obj) → has f.lent o ≡ true → held c f o ≡ true
held_lent c f o h = or_right (has f.own o) _ (or_left (has f.lent o) _ h)

pub held_own : (c : CState) (f : Frame) (o : Obj) → has f.own o ≡ true → held c f o ≡ true
held_own c f o h = or_left (has f.own o) _ h

pub all_lent : (c : CState) (f : Frame) (os : List Obj) → ((o : Obj) → has os o ≡ true → has f.lent o ≡ true) → all_held c f os ≡ true
all_lent c f [] h = refl
all_lent c f (o ∷ os) h =
    and_true (held c f o) (all_held c f os) (held_lent c f o (h o (or_left _ (has os o) (obj_same o))))
    (all_lent c f os (λ x hx. h x (or_right _ (has os x) hx)))

-- numbers that `int` holds
pub int-small : (n : ℕ) → n < 2147483648 → wrap_int (pos n) ≡ pos n
int-small n lt =
    let below : n < 4294967296 = omega (arith, lt) in
    let same : n % 4294967296 ≡ n = mod-eq_of_lt below in
    let test : nat_lt n 2147483648 ≡ true = lt-ltb n 2147483648 lt in
    ap low_half same ∙ ap (λ q. if q then pos n else negsuc (4294967295 - n)) test

-- a test that holds
pub needed : (t : Bool) (k : FaultKind) (m : Moved) → t ≡ true → need t k m ≡ m
needed t k m e = ap (λ q. need q k m) e

-- a row that asks an operation
pub api_asks : (c : CState) (f : Frame) (fs : List Frame) (x : Option Variable) (r : ApiRow) (vs : List Reading) (o : Op) → fits (takes r) vs ≡ true → any_null vs ≡ false → row_result r f x ≡ true → all_set vs ≡ true → op_of r vs ≡ Some o → c.lock ≡ true → is_none c.error ≡ true → all_held c f (passed vs) ≡ true → api c f fs x r vs ≡ Went (tell (event.Ask o) (on (record c { loans = [] }) (record f { doing = doing.Asks o r x }) fs))
api_asks c f fs x r vs o ef en er es ep el ee eh =
    needed (fits (takes r) vs) fault.Stuck _ ef
    ∙ needed (not (any_null vs)) fault.Stuck _ (ap not en)
    ∙ needed (row_result r f x) fault.Stuck _ er
    ∙ needed (all_set vs) fault.Undefined _ es
    ∙ ap (λ (p : Option Op). need_some p fault.Stuck (ask c f fs x r vs)) ep
    ∙ needed c.lock fault.Unlocked _ el
    ∙ needed (is_none c.error) (error_fault r) _ ee
    ∙ needed (all_held c f (passed vs)) fault.Unheld _ eh

-- a call of a C function with objects that are held, none of them a module variable
pub call_enters : (files : List CFile) (c : CState) (f : Frame) (fs : List Frame) (x : Option Variable) (name : FunctionName) (ks : List CValue) (args : List Obj) (k : ℕ) (fn : CFunction) → function_named files f.file name ≡ FoundFunction k fn → parameter_kinds fn.head ≡ object_kinds args → receives f.variables x (result_kind fn.head) ≡ true → any_module_variable ks (object_readings args) ≡ false → loans_after ks (object_readings args) c.loans ≡ c.loans → all_held c f args ≡ true → call files c f fs x name ks (object_readings args) ≡ Went (on c (frame_of k fn (object_values args) args entered.FromC c.lock) (record f { doing = doing.Waits x } ∷ fs))
call_enters files c f fs x name ks args k fn ef ek er em el eh =
    let vs = object_readings args in
    let done = λ (ls : List Obj) (values : List Value) (lent : List Obj). Went (on (record c { loans = ls }) (frame_of k fn values lent entered.FromC c.lock) (record f { doing = doing.Waits x } ∷ fs)) in
    ap (λ (q : Found). call_found c f fs x ks vs q) ef
    ∙ needed (fits (parameter_kinds fn.head) vs) fault.Stuck _ (ap (λ (q : List Kind). fits q vs) ek ∙ objects-fit args)
    ∙ needed (receives f.variables x (result_kind fn.head)) fault.Stuck _ er
    ∙ needed (all_set vs) fault.Undefined _ (objects-set args)
    ∙ needed (not (any_module_variable ks vs) || c.lock) fault.Unlocked _ (or_left _ c.lock (ap not em))
    ∙ needed (all_held c f (passed vs)) fault.Unheld _ (ap (λ (l : List Obj). all_held c f l) (objects-passed args) ∙ eh)
    ∙ ap (λ (l : List Obj). done l (values_of vs) (passed vs)) el
    ∙ ap (λ (l : List Value). done c.loans l (passed vs)) (objects-values args)
    ∙ ap (λ (l : List Obj). done c.loans (object_values args) l) (objects-passed args)
