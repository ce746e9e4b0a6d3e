-- What is planned for a statement is what the statement does.
use Rattle.std.proofs.Common.{◌≡◌, ℕ, Bool, true, false, not, ◌&&◌, ◌||◌, List, [], ◌∷◌, ◌++◌, Option, Some, None, option_map, refl, sym, ap, ◌∙◌, drop, reverse, is_none, unwrap_or, append_assoc, if◌then◌else◌}
use Rattle.std.proofs.lemmas.List.{reverse-append}
use Rattle.thin_state.specs.declared.space.Obj.{Obj}
use Rattle.thin_state.specs.declared.space.Op.{Op}
use Rattle.thin_state.specs.declared.tree.Variable.{Variable}
use Rattle.thin_state.specs.declared.tree.Place.{Place}
use Rattle.thin_state.specs.declared.tree.Target.{Target}
use Rattle.thin_state.specs.declared.tree.Target.TheVariants as target
use Rattle.thin_state.specs.declared.tree.ApiRow.{ApiRow}
use Rattle.thin_state.specs.declared.tree.ApiRow.TheVariants as row
use Rattle.thin_state.specs.declared.tree.CValue.{CValue}
use Rattle.thin_state.specs.declared.tree.CValue.TheVariants as operand
use Rattle.thin_state.specs.declared.tree.Comparison.{Comparison}
use Rattle.thin_state.specs.declared.tree.Line.{Line}
use Rattle.thin_state.specs.declared.tree.CStmt.{CStmt}
use Rattle.thin_state.specs.declared.tree.CStmt.TheVariants as stmt
use Rattle.thin_state.specs.declared.tree.CFunction.{CFunction}
use Rattle.thin_state.specs.declared.tree.CFile.{CFile}
use Rattle.thin_state.specs.declared.state.FaultKind.{FaultKind}
use Rattle.thin_state.specs.declared.state.FaultKind.TheVariants as fault
use Rattle.thin_state.specs.declared.state.Kind.TheVariants as kind
use Rattle.thin_state.specs.declared.state.Value.{Value}
use Rattle.thin_state.specs.declared.state.Value.TheVariants as value
use Rattle.thin_state.specs.declared.state.Reading.{Reading}
use Rattle.thin_state.specs.declared.state.Cell.{Cell}
use Rattle.thin_state.specs.declared.state.Spot.{Spot}
use Rattle.thin_state.specs.declared.state.Entered.{Entered}
use Rattle.thin_state.specs.declared.state.Entered.TheVariants as entered
use Rattle.thin_state.specs.declared.space.Event.TheVariants as event
use Rattle.thin_state.specs.declared.state.Course.TheVariants as course
use Rattle.thin_state.specs.declared.state.Doing.{Doing}
use Rattle.thin_state.specs.declared.state.Doing.TheVariants as doing
use Rattle.thin_state.specs.Objects.{same_obj}
use Rattle.thin_state.specs.State.{put_to, converts, lookup, spot, spots_at, has, lose, held, all_held, put, converted, Frame, CState}
use Rattle.thin_state.specs.Reads.{is_null, frame_of, parameter_kinds, any_module_variable, is_set, any_null, all_set, fits, read, read_each, one_more_reading, reads_module_variable, lends, loans_after, object_in, passed, receives, result_kind, items_at, after_label, values_of}
use Rattle.thin_state.specs.Statements.{tell, owns_none, owns_just, same_lock, asking, store, may_store, error_fault, Moved, Went, need, need_some, on, off, lend, assign, assign_variable, assign_place, store_value, row_result, ask, api, call_found, call, owned_more, owned_less, incref, decref, branch, goto_if, to_caller, to_waiting, hand_object, hand_null, return_value, return_it, act, op_of, moved_out, comparable, same_value, by_comparison, takes}
use Rattle.thin_look.specs.declared.parts.Standing.{Standing}
use Rattle.thin_look.specs.declared.parts.Activation.{Activation}
use Rattle.thin_plan.specs.declared.effects.Effect.{Effect}
use Rattle.thin_plan.specs.declared.effects.Effect.TheVariants as effect
use Rattle.thin_look.specs.Views.{function_there, found_at, found_with, frame_by, frame_view, activated, no_function}
use Rattle.thin_look.specs.Lookups.{standing_named}
use Rattle.thin_tables.specs.Lines.{label_line}
use Rattle.thin_plan.specs.Plans.{checked, after, loans_in, write_plan, unowned, own_after_store, store_plan, row_accepts, row_plan, ask_plan, call_held, call_there, call_plan, gain_of, gain_plan, loss_of, loss_plan, taken_line, branch_plan, jump_plan, hand_by, hand_plan, object_plan, null_plan, null_with, result_plan, return_plan, read_then, Scene, assign_plan, plan}
use Rattle.thin_look.specs.Readings.{may_write_with, operand_in, operands_in, may_read_with, held_in, all_held_in}
use Rattle.thin_plan.specs.Effects.{jumped, handed, effected}
use Rattle.thin_look.proofs.Searches.{label_line-is, named-is}

-- where an effect happens
pub record Here : Type 0 where
  pub files : List CFile
  pub state : CState
  pub frame : Frame
  pub below : List Frame

abbrev made : Here → Effect → Moved
made h e = effected h.files h.state h.frame h.below e

-- checks that are passed, or not
abbrev Tests : Type 0
Tests = List (Bool × FaultKind)

abbrev check_all : Tests → Option FaultKind → Option FaultKind
check_all [] rest = rest
check_all (t ∷ ts) rest = checked t.0 t.1 (check_all ts rest)

abbrev need_all : Tests → Moved → Moved
need_all [] m = m
need_all (t ∷ ts) m = need t.0 t.1 (need_all ts m)

one_test : (h : Here) (b : Bool) (k : FaultKind) (rest : Option FaultKind) (e : Effect) (m : Moved) → made h (after rest e) ≡ m
    → made h (after (checked b k rest) e) ≡ need b k m
one_test h true k rest e m p = p
one_test h false k rest e m p = refl

passes : (h : Here) (ts : Tests) (rest : Option FaultKind) (e : Effect) (m : Moved) → made h (after rest e) ≡ m
    → made h (after (check_all ts rest) e) ≡ need_all ts m
passes h [] rest e m p = p
passes h (t ∷ ts) rest e m p = one_test h t.0 t.1 (check_all ts rest) e (need_all ts m) (passes h ts rest e m p)

chosen : {A : Type 0} (h : Here) (o : Option A) (e : A → Effect) (m : A → Moved) → ((x : A) → made h (e x) ≡ m x)
    → made h (read_then o e) ≡ need_some o fault.Stuck m
chosen h None e m p = refl
chosen h (Some x) e m p = p x

-- operands
read-is : (files : List CFile) (c : CState) (f : Frame) (k : CValue)
    → read files c f k ≡ operand_in (items_at files f.file) (spots_at c.places f.file) f.variables k
read-is files c f (operand.Variable x) = refl
read-is files c f (operand.Place p) = refl
read-is files c f (operand.Argument j) = refl
read-is files c f (operand.Int n) = refl
read-is files c f (operand.Str t) = refl
read-is files c f operand.Null = refl
read-is files c f (operand.ExceptionType e) = refl
read-is files c f operand.Definition = refl

read_each-is : (files : List CFile) (c : CState) (f : Frame) (ks : List CValue)
    → read_each files c f ks ≡ operands_in (items_at files f.file) (spots_at c.places f.file) f.variables ks
read_each-is files c f [] = refl
read_each-is files c f (k ∷ ks) =
    ap (λ o. one_more_reading o (read_each files c f ks)) (read-is files c f k)
    ∙ ap (one_more_reading (operand_in (items_at files f.file) (spots_at c.places f.file) f.variables k)) (read_each-is files c f ks)

-- loans
reverse-lends : (k : CValue) (v : Reading) → reverse (lends k v) ≡ lends k v
reverse-lends k v = by_test (reads_module_variable k v) v.value
  where
    by_test : (b : Bool) (w : Value) → reverse (if b then object_in w else []) ≡ (if b then object_in w else [])
    by_test false w = refl
    by_test true value.Unset = refl
    by_test true value.Null = refl
    by_test true (value.Object o) = refl
    by_test true (value.Number z) = refl
    by_test true (value.Arguments os) = refl
    by_test true (value.Text t) = refl
    by_test true (value.Definition n) = refl

-- `x = k;`
write-is : (h : Here) (x : Variable) (k : CValue) (v : Reading) (o : Option Cell)
    → made h (write_plan h.state.lock x k v o) ≡ need_some o fault.Stuck (assign_variable h.state h.frame h.below x k v)
write-is h x k v None = refl
write-is h x k v (Some cell) =
    passes h ((converts v.kind cell.kind, fault.Stuck) ∷ (is_set v.value, fault.Undefined) ∷ (may_read_with h.state.lock k v, fault.Unlocked) ∷ [])
    None (effect.Write x v.value (lends k v))
    (Went (on (lend (lends k v) h.state) (record h.frame { variables = put h.frame.variables x v.value }) h.below))
    (refl)

-- `p = k;`
stored-is : (h : Here) (p : Place) (old v : Value) (k : CValue) (w : Reading)
    → made h (after (unowned h.frame.own v) (effect.Store p v (own_after_store h.frame.own old v) (lends k w)))
    ≡ store_value (lend (lends k w) h.state) h.frame h.below p old v
stored-is h p old (value.Object o) k w =
    passes h ((has h.frame.own o, fault.Unheld) ∷ []) None (effect.Store p (value.Object o) (moved_out old (lose h.frame.own o)) (lends k w))
    (Went (on (store (lend (lends k w) h.state) h.frame.file p (value.Object o)) (record h.frame { own = moved_out old (lose h.frame.own o) }) h.below))
    (refl)
stored-is h p old value.Unset k w = refl
stored-is h p old value.Null k w = refl
stored-is h p old (value.Number z) k w = refl
stored-is h p old (value.Arguments os) k w = refl
stored-is h p old (value.Text t) k w = refl
stored-is h p old (value.Definition n) k w = refl

store-is : (h : Here) (p : Place) (k : CValue) (v : Reading) (o : Option Spot)
    → made h (store_plan h.state.lock h.frame.own p k v o) ≡ need_some o fault.Stuck (assign_place h.state h.frame h.below p k v)
store-is h p k v None = refl
store-is h p k v (Some s) =
    passes h ((converts v.kind s.kind, fault.Stuck) ∷ (may_store s, fault.Stuck) ∷ (is_set v.value, fault.Undefined)
    ∷ (may_read_with h.state.lock k v && may_write_with h.state.lock s, fault.Unlocked) ∷ [])
    (unowned h.frame.own v.value) (effect.Store p v.value (own_after_store h.frame.own s.value v.value) (lends k v))
    (store_value (lend (lends k v) h.state) h.frame h.below p s.value v.value)
    (stored-is h p s.value v.value k v)

-- `x = Py..(k, ..);`
accepts-is : (r : ApiRow) (f : Frame) (x : Option Variable) → row_accepts r f.variables x ≡ row_result r f x
accepts-is (row.Number b) f x = refl
accepts-is row.ModuleCreate f x = refl
accepts-is row.ModuleGetDict f x = refl
accepts-is row.ImportModule f x = refl
accepts-is row.ErrSetString f x = refl

-- where the frame is that of a function, whatever its next line is
abbrev frame_at : CFunction → Activation → List Line → Frame
frame_at fn a ls = record (frame_by fn a) { code = ls }

held-is : (c : CState) (fn : CFunction) (a : Activation) (ls : List Line) (os : List Obj)
    → all_held_in c.places a os ≡ all_held c (frame_at fn a ls) os
held-is c fn a ls [] = refl
held-is c fn a ls (o ∷ os) = ap (λ b. held c (frame_at fn a ls) o && b) (held-is c fn a ls os)

ask-is : (h : Here) (fn : CFunction) (a : Activation) (ls : List Line) (x : Option Variable) (r : ApiRow) (vs : List Reading) (o : Option Op)
    → h.frame ≡ frame_at fn a ls
    → made h (ask_plan h.state.lock h.state.error h.state.places a x r vs o) ≡ need_some o fault.Stuck (ask h.state h.frame h.below x r vs)
ask-is h fn a ls x r vs None e = refl
ask-is h fn a ls x r vs (Some o) e =
    passes h ((h.state.lock, fault.Unlocked) ∷ (is_none h.state.error, error_fault r) ∷ (all_held_in h.state.places a (passed vs), fault.Unheld) ∷ [])
    None (effect.Ask o r x (event.Ask o)) (Went (asking h.state h.frame h.below x r o)) refl
    ∙ ap (λ b. need h.state.lock fault.Unlocked (need (is_none h.state.error) (error_fault r) (need b fault.Unheld (Went (asking h.state h.frame h.below x r o)))))
    (held-is h.state fn a ls (passed vs) ∙ ap (λ f. all_held h.state f (passed vs)) (sym e))

row-is : (h : Here) (fn : CFunction) (a : Activation) (ls : List Line) (x : Option Variable) (r : ApiRow) (vs : List Reading)
    → h.frame ≡ frame_at fn a ls
    → made h (row_plan h.state.lock h.state.error h.state.places a x r vs) ≡ api h.state h.frame h.below x r vs
row-is h fn a ls x r vs e =
    passes h ((fits (takes r) vs, fault.Stuck) ∷ (not (any_null vs), fault.Stuck) ∷ (row_accepts r a.variables x, fault.Stuck) ∷ (all_set vs, fault.Undefined) ∷ [])
    None (ask_plan h.state.lock h.state.error h.state.places a x r vs (op_of r vs))
    (need_some (op_of r vs) fault.Stuck (ask h.state h.frame h.below x r vs)) (ask-is h fn a ls x r vs (op_of r vs) e)
    ∙ ap (λ b. need (fits (takes r) vs) fault.Stuck (need (not (any_null vs)) fault.Stuck (need b fault.Stuck (need (all_set vs) fault.Undefined
    (need_some (op_of r vs) fault.Stuck (ask h.state h.frame h.below x r vs))))))
    (ap (λ f. row_accepts r f.variables x) (sym e) ∙ accepts-is r h.frame x)

-- `x = cyc_f_M_K(k, ..);`
loans-is : (ks : List CValue) (vs : List Reading) (loans : List Obj) → reverse (loans_in ks vs) ++ loans ≡ loans_after ks vs loans
loans-is [] vs loans = refl
loans-is (k ∷ ks) [] loans = refl
loans-is (k ∷ ks) (v ∷ vs) loans =
    ap (λ l. l ++ loans) (reverse-append (lends k v) (loans_in ks vs))
    ∙ (append_assoc (reverse (loans_in ks vs)) (reverse (lends k v)) loans
    ∙ (ap (λ l. reverse (loans_in ks vs) ++ (l ++ loans)) (reverse-lends k v)
    ∙ loans-is ks vs (lends k v ++ loans)))

abbrev at : List CFile → CState → CFunction → Activation → List Line → List Frame → Here
at files c fn a ls fs = record { files = files; state = c; frame = frame_at fn a ls; below = fs }

entered-is : (h : Here) (k i : ℕ) (fn : CFunction) (vs : List Value) (os : List Obj) (by : Entered) (lock : Bool)
    → function_there h.files k i ≡ Some fn → frame_view h.files (activated k i fn vs os by lock) ≡ frame_of k fn vs os by lock
entered-is h k i fn vs os by lock e = ap (λ o. frame_by (unwrap_or o no_function) (activated k i fn vs os by lock)) e

call_held-is : (files : List CFile) (c : CState) (fn : CFunction) (a : Activation) (ls : List Line) (fs : List Frame)
    (x : Option Variable) (ks : List CValue) (vs : List Reading) (s : Standing) (g : CFunction) → function_there files s.file s.item ≡ Some g
    → made (at files c fn a ls fs) (call_held c.lock c.places a x ks vs s g)
    ≡ need (all_held c (frame_at fn a ls) (passed vs)) fault.Unheld
    (Went (on (record c { loans = loans_after ks vs c.loans }) (frame_of s.file g (values_of vs) (passed vs) entered.FromC c.lock)
    (record (frame_at fn a ls) { doing = doing.Waits x } ∷ fs)))
call_held-is files c fn a ls fs x ks vs s g e =
    passes (at files c fn a ls fs) ((all_held_in c.places a (passed vs), fault.Unheld) ∷ []) None
    (effect.Call (activated s.file s.item g (values_of vs) (passed vs) entered.FromC c.lock) x (reverse (loans_in ks vs)))
    (Went (on (record c { loans = loans_after ks vs c.loans }) (frame_of s.file g (values_of vs) (passed vs) entered.FromC c.lock)
    (record (frame_at fn a ls) { doing = doing.Waits x } ∷ fs)))
    (ap (λ l. Went (on (record c { loans = l }) (record (frame_view files (activated s.file s.item g (values_of vs) (passed vs) entered.FromC c.lock)) { doing = doing.Runs })
    (record (frame_at fn a ls) { doing = doing.Waits x } ∷ fs))) (loans-is ks vs c.loans)
    ∙ ap (λ f. Went (on (record c { loans = loans_after ks vs c.loans }) (record f { doing = doing.Runs }) (record (frame_at fn a ls) { doing = doing.Waits x } ∷ fs)))
    (entered-is (at files c fn a ls fs) s.file s.item g (values_of vs) (passed vs) entered.FromC c.lock e))
    ∙ ap (λ b. need b fault.Unheld (Went (on (record c { loans = loans_after ks vs c.loans }) (frame_of s.file g (values_of vs) (passed vs) entered.FromC c.lock)
    (record (frame_at fn a ls) { doing = doing.Waits x } ∷ fs)))) (held-is c fn a ls (passed vs))

call_there-is : (files : List CFile) (c : CState) (fn : CFunction) (a : Activation) (ls : List Line) (fs : List Frame)
    (x : Option Variable) (ks : List CValue) (vs : List Reading) (s : Standing) (o : Option CFunction) → function_there files s.file s.item ≡ o
    → made (at files c fn a ls fs) (call_there c.lock c.places a x ks vs s o) ≡ call_found c (frame_at fn a ls) fs x ks vs (found_with s.file o)
call_there-is files c fn a ls fs x ks vs s None e = refl
call_there-is files c fn a ls fs x ks vs s (Some g) e =
    passes (at files c fn a ls fs) ((fits (parameter_kinds g.head) vs, fault.Stuck) ∷ (receives a.variables x (result_kind g.head), fault.Stuck)
    ∷ (all_set vs, fault.Undefined) ∷ (not (any_module_variable ks vs) || c.lock, fault.Unlocked) ∷ []) None
    (call_held c.lock c.places a x ks vs s g)
    (need (all_held c (frame_at fn a ls) (passed vs)) fault.Unheld
    (Went (on (record c { loans = loans_after ks vs c.loans }) (frame_of s.file g (values_of vs) (passed vs) entered.FromC c.lock)
    (record (frame_at fn a ls) { doing = doing.Waits x } ∷ fs))))
    (call_held-is files c fn a ls fs x ks vs s g e)

call-is : (files : List CFile) (c : CState) (fn : CFunction) (a : Activation) (ls : List Line) (fs : List Frame)
    (x : Option Variable) (ks : List CValue) (vs : List Reading) (o : Option Standing)
    → made (at files c fn a ls fs) (call_plan files c.lock c.places a x ks vs o) ≡ call_found c (frame_at fn a ls) fs x ks vs (found_at files o)
call-is files c fn a ls fs x ks vs None = refl
call-is files c fn a ls fs x ks vs (Some s) = call_there-is files c fn a ls fs x ks vs s (function_there files s.file s.item) refl

-- `Py_INCREF(k);` and `Py_DECREF(k);`
or_assoc : (a b c : Bool) → ((a || b) || c) ≡ (a || (b || c))
or_assoc true b c = refl
or_assoc false b c = refl

or_comm : (a b : Bool) → (a || b) ≡ (b || a)
or_comm true true = refl
or_comm true false = refl
or_comm false true = refl
or_comm false false = refl

or_false : (a : Bool) → (a || false) ≡ a
or_false true = refl
or_false false = refl

has-append : (xs ys : List Obj) (o : Obj) → has (xs ++ ys) o ≡ (has xs o || has ys o)
has-append [] ys o = refl
has-append (x ∷ xs) ys o = ap (λ b. same_obj x o || b) (has-append xs ys o) ∙ sym (or_assoc (same_obj x o) (has xs o) (has ys o))

has-reverse : (xs : List Obj) (o : Obj) → has (reverse xs) o ≡ has xs o
has-reverse [] o = refl
has-reverse (x ∷ xs) o =
    ap (λ l. has l o) (reverse-append (x ∷ []) xs)
    ∙ (has-append (reverse xs) (x ∷ []) o
    ∙ (ap (λ b. b || (same_obj x o || false)) (has-reverse xs o)
    ∙ (or_comm (has xs o) (same_obj x o || false)
    ∙ ap (λ b. b || has xs o) (or_false (same_obj x o)))))

gain_of-is : (files : List CFile) (c : CState) (fn : CFunction) (a : Activation) (ls : List Line) (fs : List Frame) (loans : List Obj)
    (k : CValue) (v : Reading) (w : Value) → c.loans ≡ reverse loans
    → made (at files c fn a ls fs) (gain_of c.places loans a k v w) ≡ owned_more (lend (lends k v) c) (frame_at fn a ls) fs w
gain_of-is files c fn a ls fs loans k v (value.Object o) e =
    passes (at files c fn a ls fs) ((held_in c.places a o || (has (lends k v) o || has loans o), fault.Unheld) ∷ []) None
    (effect.Gain (o ∷ a.own) (lends k v)) (Went (on (lend (lends k v) c) (record (frame_at fn a ls) { own = o ∷ a.own }) fs))
    (refl)
    ∙ ap (λ b. need b fault.Unheld (Went (on (lend (lends k v) c) (record (frame_at fn a ls) { own = o ∷ a.own }) fs)))
    (ap (λ b. held_in c.places a o || b) (ap (λ b. has (lends k v) o || b) (sym (ap (λ l. has l o) e ∙ has-reverse loans o)) ∙ sym (has-append (lends k v) c.loans o)))
gain_of-is files c fn a ls fs loans k v value.Unset e = refl
gain_of-is files c fn a ls fs loans k v value.Null e = refl
gain_of-is files c fn a ls fs loans k v (value.Number z) e = refl
gain_of-is files c fn a ls fs loans k v (value.Arguments os) e = refl
gain_of-is files c fn a ls fs loans k v (value.Text t) e = refl
gain_of-is files c fn a ls fs loans k v (value.Definition n) e = refl

abbrev counted_tests : CState → Reading → Tests
counted_tests c v = (converts v.kind kind.PyObject, fault.Stuck) ∷ (not (is_null v.value), fault.Stuck) ∷ (is_set v.value, fault.Undefined) ∷ (c.lock, fault.Unlocked) ∷ []

gain-is : (files : List CFile) (c : CState) (fn : CFunction) (a : Activation) (ls : List Line) (fs : List Frame) (loans : List Obj)
    (k : CValue) (v : Reading) → c.loans ≡ reverse loans
    → made (at files c fn a ls fs) (gain_plan c.lock c.places loans a k v) ≡ incref c (frame_at fn a ls) fs k v
gain-is files c fn a ls fs loans k v e =
    passes (at files c fn a ls fs) (counted_tests c v) None (gain_of c.places loans a k v v.value)
    (owned_more (lend (lends k v) c) (frame_at fn a ls) fs v.value) (gain_of-is files c fn a ls fs loans k v v.value e)

loss_of-is : (h : Here) (w : Value) → made h (loss_of h.frame.own w) ≡ owned_less h.state h.frame h.below w
loss_of-is h (value.Object o) =
    passes h ((has h.frame.own o, fault.Unheld) ∷ []) None (effect.Lose o)
    (Went (on (record h.state { loans = [] }) (record h.frame { own = lose h.frame.own o }) h.below)) refl
loss_of-is h value.Unset = refl
loss_of-is h value.Null = refl
loss_of-is h (value.Number z) = refl
loss_of-is h (value.Arguments os) = refl
loss_of-is h (value.Text t) = refl
loss_of-is h (value.Definition n) = refl

loss-is : (h : Here) (v : Reading) → made h (loss_plan h.state.lock h.frame.own v) ≡ decref h.state h.frame h.below v
loss-is h v =
    passes h (counted_tests h.state v) None (loss_of h.frame.own v.value) (owned_less h.state h.frame h.below v.value) (loss_of-is h v.value)

-- `if (k == k) goto L;`
both_lent : (a : CValue) (v : Reading) (b : CValue) (w : Reading) (c : CState)
    → lend (lends b w ++ lends a v) c ≡ lend (lends b w) (lend (lends a v) c)
both_lent a v b w c = ap (λ l. record c { loans = l }) (append_assoc (lends b w) (lends a v) c.loans)

branch_taken : (h : Here) (c : CState) (b : Bool) (i : ℕ)
    → Went (on c (jumped h.frame (taken_line b i)) h.below) ≡ branch c h.frame h.below (drop i h.frame.function.lines) b
branch_taken h c true i = refl
branch_taken h c false i = refl

branch-is : (h : Here) (a : CValue) (v : Reading) (r : Comparison) (b : CValue) (w : Reading) (o : Option ℕ)
    → made h (branch_plan h.state.lock a v r b w o)
    ≡ need_some (option_map (λ i. drop i h.frame.function.lines) o) fault.Stuck (goto_if h.state h.frame h.below a v r b w)
branch-is h a v r b w None = refl
branch-is h a v r b w (Some i) =
    passes h ((comparable v.kind w.kind, fault.Stuck) ∷ (is_set v.value && is_set w.value, fault.Undefined)
    ∷ (may_read_with h.state.lock a v && may_read_with h.state.lock b w, fault.Unlocked) ∷ []) None
    (effect.Jump (taken_line (by_comparison r (same_value v.value w.value)) i) (lends b w ++ lends a v))
    (branch (lend (lends b w) (lend (lends a v) h.state)) h.frame h.below (drop i h.frame.function.lines) (by_comparison r (same_value v.value w.value)))
    (ap (λ c. Went (on c (jumped h.frame (taken_line (by_comparison r (same_value v.value w.value)) i)) h.below)) (both_lent a v b w h.state)
    ∙ branch_taken h (lend (lends b w) (lend (lends a v) h.state)) (by_comparison r (same_value v.value w.value)) i)

jump-is : (h : Here) (o : Option ℕ)
    → made h (jump_plan o) ≡ need_some (option_map (λ i. drop i h.frame.function.lines) o) fault.Stuck (λ ls. Went (on h.state (record h.frame { code = ls }) h.below))
jump-is h None = refl
jump-is h (Some i) = refl

-- `return k;`
hand_by-is : (h : Here) (c : CState) (g : Frame) (gs : List Frame) (v : Value) (refs l : List Obj) (d : Doing) → h.below ≡ g ∷ gs → g.doing ≡ d → lend l h.state ≡ c
    → made h (hand_by d g.own v refs l) ≡ to_waiting c g gs v refs d
hand_by-is h c g gs v refs l doing.Runs e q p = refl
hand_by-is h c g gs v refs l (doing.Asks o r x) e q p = refl
hand_by-is h c g gs v refs l (doing.Waits x) e q p =
    ap (λ fs. handed (lend l h.state) fs x v (refs ++ g.own)) e
    ∙ ap (λ d. Went (on d (record g { doing = doing.Runs; own = refs ++ g.own; variables = put_to g.variables x v }) gs)) p

-- the frame below is that of the caller
abbrev pub IsBelow : List CFile → Option Activation → List Frame → Type 0
IsBelow files None fs = fs ≡ []
IsBelow files (Some g) fs = (gs : List Frame) × (fs ≡ frame_view files g ∷ gs)

hand-is : (h : Here) (c : CState) (caller : Option Activation) (v : Value) (refs l : List Obj) → IsBelow h.files caller h.below → lend l h.state ≡ c
    → made h (hand_plan caller v refs l) ≡ to_caller c h.below v refs
hand-is h c None v refs l e p = sym (ap (λ fs. to_caller c fs v refs) e)
hand-is h c (Some g) v refs l e p =
    hand_by-is h c (frame_view h.files g) e.0 v refs l g.doing e.1 refl p ∙ sym (ap (λ fs. to_caller c fs v refs) e.1)

object-is : (h : Here) (c : CState) (caller : Option Activation) (by : Entered) (o : Obj) (l : List Obj) → IsBelow h.files caller h.below → lend l h.state ≡ c
    → made h (object_plan caller by o l) ≡ hand_object c by h.below o
object-is h c caller entered.FromC o l e p = hand-is h c caller (value.Object o) (o ∷ []) l e p
object-is h c caller entered.FromOutside o l e p = ap (λ d. Went (tell (event.Leave o) (off d h.below))) p
object-is h c caller entered.ForInitialisation o l e p = ap (λ d. Went (tell (event.Leave o) (off d h.below))) p

null-is : (h : Here) (c : CState) (caller : Option Activation) (by : Entered) (o : Obj) (l : List Obj) → IsBelow h.files caller h.below → lend l h.state ≡ c
    → made h (null_plan caller by o l) ≡ hand_null c by h.below o
null-is h c caller entered.FromC o l e p = hand-is h c caller value.Null [] l e p
null-is h c caller entered.FromOutside o l e p =
    ap (λ d. Went (tell (event.LeaveRaise o) (off (record d { error = None }) h.below))) p
null-is h c caller entered.ForInitialisation o l e p =
    ap (λ d. Went (tell (event.LeaveRaise o) (off (record d { error = None; course = course.Failed }) h.below))) p

null_with-is : (h : Here) (c : CState) (caller : Option Activation) (a : Activation) (o : Option Obj) (l : List Obj) → IsBelow h.files caller h.below → lend l h.state ≡ c
    → made h (null_with caller a o l) ≡ need_some o fault.ErrorLost (λ e. need (owns_none a.own) fault.Unbalanced (hand_null c a.entered h.below e))
null_with-is h c caller a None l e p = refl
null_with-is h c caller a (Some x) l e p =
    passes h ((owns_none a.own, fault.Unbalanced) ∷ []) None (null_plan caller a.entered x l) (hand_null c a.entered h.below x)
    (null-is h c caller a.entered x l e p)

number-is : (h : Here) (c : CState) (caller : Option Activation) (a : Activation) (v : Value) (l : List Obj) → IsBelow h.files caller h.below → lend l h.state ≡ c
    → made h (after (checked (owns_none a.own) fault.Unbalanced None) (hand_plan caller v [] l)) ≡ need (owns_none a.own) fault.Unbalanced (to_caller c h.below v [])
number-is h c caller a v l e p =
    passes h ((owns_none a.own, fault.Unbalanced) ∷ []) None (hand_plan caller v [] l) (to_caller c h.below v []) (hand-is h c caller v [] l e p)

result-is : (h : Here) (c : CState) (caller : Option Activation) (fn : CFunction) (a : Activation) (ls : List Line) (v : Value) (l : List Obj)
    → IsBelow h.files caller h.below → lend l h.state ≡ c
    → made h (result_plan c.error caller a (result_kind fn.head) v l) ≡ return_value c (frame_at fn a ls) h.below v
result-is h c caller fn a ls (value.Object o) l e p =
    passes h ((is_none c.error, fault.ErrorSet) ∷ (owns_just a.own o, fault.Unbalanced) ∷ []) None (object_plan caller a.entered o l)
    (hand_object c a.entered h.below o) (object-is h c caller a.entered o l e p)
result-is h c caller fn a ls value.Null l e p = null_with-is h c caller a c.error l e p
result-is h c caller fn a ls value.Unset l e p = number-is h c caller a (converted (result_kind fn.head) value.Unset) l e p
result-is h c caller fn a ls (value.Number z) l e p = number-is h c caller a (converted (result_kind fn.head) (value.Number z)) l e p
result-is h c caller fn a ls (value.Arguments os) l e p = number-is h c caller a (converted (result_kind fn.head) (value.Arguments os)) l e p
result-is h c caller fn a ls (value.Text t) l e p = number-is h c caller a (converted (result_kind fn.head) (value.Text t)) l e p
result-is h c caller fn a ls (value.Definition n) l e p = number-is h c caller a (converted (result_kind fn.head) (value.Definition n)) l e p

return-is : (h : Here) (caller : Option Activation) (fn : CFunction) (a : Activation) (ls : List Line) (k : CValue) (v : Reading)
    → IsBelow h.files caller h.below
    → made h (return_plan h.state.lock h.state.error caller a (result_kind fn.head) k v) ≡ return_it h.state (frame_at fn a ls) h.below k v
return-is h caller fn a ls k v e =
    passes h ((converts v.kind (result_kind fn.head), fault.Stuck) ∷ (is_set v.value, fault.Undefined)
    ∷ (may_read_with h.state.lock k v && same_lock h.state.lock a.lock, fault.Unlocked) ∷ []) None
    (result_plan h.state.error caller a (result_kind fn.head) v.value (lends k v))
    (return_value (lend (lends k v) h.state) (frame_at fn a ls) h.below v.value)
    (result-is h (lend (lends k v) h.state) caller fn a ls v.value (lends k v) e refl)

-- every statement

abbrev pub scene_from : List CFile → CState → List Obj → Activation → Option Activation → Scene
scene_from files c loans a caller = record {
  files = files;
  places = c.places;
  lock = c.lock;
  error = c.error;
  loans = loans;
  here = a;
  caller = caller;
}

-- an operand, and what follows it
read_one : (files : List CFile) (c : CState) (fn : CFunction) (a : Activation) (ls : List Line) (fs : List Frame) (k : CValue) (e : Reading → Effect) (m : Reading → Moved)
    → ((v : Reading) → made (at files c fn a ls fs) (e v) ≡ m v)
    → made (at files c fn a ls fs) (read_then (operand_in (items_at files a.file) (spots_at c.places a.file) a.variables k) e)
    ≡ need_some (read files c (frame_at fn a ls) k) fault.Stuck m
read_one files c fn a ls fs k e m p =
    chosen (at files c fn a ls fs) (operand_in (items_at files a.file) (spots_at c.places a.file) a.variables k) e m p
    ∙ sym (ap (λ o. need_some o fault.Stuck m) (read-is files c (frame_at fn a ls) k))

read_list : (files : List CFile) (c : CState) (fn : CFunction) (a : Activation) (ls : List Line) (fs : List Frame) (ks : List CValue) (e : List Reading → Effect) (m : List Reading → Moved)
    → ((vs : List Reading) → made (at files c fn a ls fs) (e vs) ≡ m vs)
    → made (at files c fn a ls fs) (read_then (operands_in (items_at files a.file) (spots_at c.places a.file) a.variables ks) e)
    ≡ need_some (read_each files c (frame_at fn a ls) ks) fault.Stuck m
read_list files c fn a ls fs ks e m p =
    chosen (at files c fn a ls fs) (operands_in (items_at files a.file) (spots_at c.places a.file) a.variables ks) e m p
    ∙ sym (ap (λ o. need_some o fault.Stuck m) (read_each-is files c (frame_at fn a ls) ks))

assign-is : (h : Here) (fn : CFunction) (a : Activation) (ls : List Line) (files : List CFile) (c : CState) (fs : List Frame) (loans : List Obj) (caller : Option Activation) (t : Target) (k : CValue) (v : Reading)
    → made (at files c fn a ls fs) (assign_plan (scene_from files c loans a caller) t k v) ≡ assign c (frame_at fn a ls) fs t k v
assign-is h fn a ls files c fs loans caller (target.Variable x) k v = write-is (at files c fn a ls fs) x k v (lookup a.variables x)
assign-is h fn a ls files c fs loans caller (target.Place p) k v = store-is (at files c fn a ls fs) p k v (spot (spots_at c.places a.file) p)

abbrev function_of_scene : List CFile → Activation → CFunction
function_of_scene files a = unwrap_or (function_there files a.file a.item) no_function

-- what is planned for a statement is what it does
pub planned : (files : List CFile) (c : CState) (loans : List Obj) (a : Activation) (ls : List Line) (caller : Option Activation) (fs : List Frame) (s : CStmt)
    → c.loans ≡ reverse loans → IsBelow files caller fs
    → effected files c (frame_at (function_of_scene files a) a ls) fs (plan (scene_from files c loans a caller) s)
    ≡ act files c (frame_at (function_of_scene files a) a ls) fs s
planned files c loans a ls caller fs (stmt.Assign t k) e b =
    read_one files c (function_of_scene files a) a ls fs k (assign_plan (scene_from files c loans a caller) t k) (assign c (frame_at (function_of_scene files a) a ls) fs t k)
    (assign-is (at files c (function_of_scene files a) a ls fs) (function_of_scene files a) a ls files c fs loans caller t k)
planned files c loans a ls caller fs (stmt.Api x r ks) e b =
    read_list files c (function_of_scene files a) a ls fs ks (row_plan c.lock c.error c.places a x r) (api c (frame_at (function_of_scene files a) a ls) fs x r)
    (λ vs. row-is (at files c (function_of_scene files a) a ls fs) (function_of_scene files a) a ls x r vs refl)
planned files c loans a ls caller fs (stmt.Call x name ks) e b =
    read_list files c (function_of_scene files a) a ls fs ks (λ vs. call_plan files c.lock c.places a x ks vs (standing_named files a.file name)) (call files c (frame_at (function_of_scene files a) a ls) fs x name ks)
    (λ vs. call-is files c (function_of_scene files a) a ls fs x ks vs (standing_named files a.file name)
    ∙ sym (ap (call_found c (frame_at (function_of_scene files a) a ls) fs x ks vs) (named-is files a.file name)))
planned files c loans a ls caller fs (stmt.Incref k) e b =
    read_one files c (function_of_scene files a) a ls fs k (gain_plan c.lock c.places loans a k) (incref c (frame_at (function_of_scene files a) a ls) fs k)
    (λ v. gain-is files c (function_of_scene files a) a ls fs loans k v e)
planned files c loans a ls caller fs (stmt.Decref k) e b =
    read_one files c (function_of_scene files a) a ls fs k (loss_plan c.lock a.own) (decref c (frame_at (function_of_scene files a) a ls) fs)
    (loss-is (at files c (function_of_scene files a) a ls fs))
planned files c loans a ls caller fs (stmt.GotoIf x r y l) e b =
    read_one files c (function_of_scene files a) a ls fs x
    (λ v. read_then (operand_in (items_at files a.file) (spots_at c.places a.file) a.variables y) (λ w. branch_plan c.lock x v r y w (label_line (function_of_scene files a).lines l)))
    (λ v. need_some (read files c (frame_at (function_of_scene files a) a ls) y) fault.Stuck (λ w. need_some (after_label (function_of_scene files a).lines l) fault.Stuck (goto_if c (frame_at (function_of_scene files a) a ls) fs x v r y w)))
    (λ v. read_one files c (function_of_scene files a) a ls fs y (λ w. branch_plan c.lock x v r y w (label_line (function_of_scene files a).lines l))
    (λ w. need_some (after_label (function_of_scene files a).lines l) fault.Stuck (goto_if c (frame_at (function_of_scene files a) a ls) fs x v r y w))
    (λ w. branch-is (at files c (function_of_scene files a) a ls fs) x v r y w (label_line (function_of_scene files a).lines l)
    ∙ ap (λ o. need_some o fault.Stuck (goto_if c (frame_at (function_of_scene files a) a ls) fs x v r y w)) (label_line-is (function_of_scene files a).lines l)))
planned files c loans a ls caller fs (stmt.Goto l) e b =
    jump-is (at files c (function_of_scene files a) a ls fs) (label_line (function_of_scene files a).lines l)
    ∙ ap (λ o. need_some o fault.Stuck (λ xs. Went (on c (record (frame_at (function_of_scene files a) a ls) { code = xs }) fs))) (label_line-is (function_of_scene files a).lines l)
planned files c loans a ls caller fs (stmt.Return k) e b =
    read_one files c (function_of_scene files a) a ls fs k (return_plan c.lock c.error caller a (result_kind (function_of_scene files a).head) k)
    (return_it c (frame_at (function_of_scene files a) a ls) fs k)
    (λ v. return-is (at files c (function_of_scene files a) a ls fs) caller (function_of_scene files a) a ls k v b)
