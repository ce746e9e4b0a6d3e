-- One step, from what is planned and what is changed.
use Rattle.std.proofs.Common.{◌≡◌, ℕ, List, [], ◌∷◌, ◌++◌, Bool, Option, Some, None, refl, sym, ap, ◌∙◌, drop, reverse, subst, is_none, ◌||◌}
use Rattle.std.proofs.lemmas.List.{append-nil}
use Rattle.thin_state.specs.declared.space.Obj.{Obj}
use Rattle.thin_state.specs.declared.space.Op.{Op}
use Rattle.thin_state.specs.declared.space.Entry.{Entry}
use Rattle.thin_state.specs.declared.space.Event.{Event}
use Rattle.thin_state.specs.declared.space.Event.TheVariants as event
use Rattle.thin_state.specs.declared.tree.Variable.{Variable}
use Rattle.thin_state.specs.declared.tree.Place.{Place}
use Rattle.thin_state.specs.declared.tree.Target.{Target}
use Rattle.thin_state.specs.declared.tree.Target.TheVariants as target
use Rattle.thin_state.specs.declared.tree.ApiRow.{ApiRow}
use Rattle.thin_state.specs.declared.tree.CValue.{CValue}
use Rattle.thin_state.specs.declared.tree.Comparison.{Comparison}
use Rattle.thin_state.specs.declared.tree.CStmt.{CStmt}
use Rattle.thin_state.specs.declared.tree.CStmt.TheVariants as stmt
use Rattle.thin_state.specs.declared.tree.CFunction.{CFunction}
use Rattle.thin_state.specs.declared.tree.CFile.{CFile}
use Rattle.thin_state.specs.declared.state.FaultKind.{FaultKind}
use Rattle.thin_state.specs.declared.state.FaultKind.TheVariants as fault
use Rattle.thin_state.specs.declared.state.Kind.{Kind}
use Rattle.thin_state.specs.declared.state.Value.{Value}
use Rattle.thin_state.specs.declared.state.Value.TheVariants as value
use Rattle.thin_state.specs.declared.state.Reading.{Reading}
use Rattle.thin_state.specs.declared.state.Cell.{Cell}
use Rattle.thin_state.specs.declared.state.Spot.{Spot}
use Rattle.thin_state.specs.declared.state.Entered.{Entered}
use Rattle.thin_state.specs.declared.state.Entered.TheVariants as entered
use Rattle.thin_state.specs.State.{lookup, spot, has, converted}
use Rattle.thin_state.specs.Reads.{lends, passed, values_of, result_kind}
use Rattle.thin_state.specs.Statements.{op_of, same_value, by_comparison, owns_none, owns_just}
use Rattle.thin_look.specs.declared.parts.Standing.{Standing}
use Rattle.thin_look.specs.declared.parts.Activation.{Activation}
use Rattle.thin_plan.specs.declared.effects.Effect.{Effect}
use Rattle.thin_plan.specs.declared.effects.Effect.TheVariants as effect
use Rattle.thin_turn.specs.declared.parts.Delivery.{Delivery}
use Rattle.thin_turn.specs.declared.parts.Delivery.TheVariants as delivery
use Rattle.thin_turn.specs.declared.parts.Turn.{Turn}
use Rattle.thin_turn.specs.declared.parts.Turn.TheVariants as turn
use Rattle.thin_look.specs.Views.{function_there, frame_view, frames_view, activated}
use Rattle.thin_look.specs.Lookups.{standing_named}
use Rattle.thin_tables.specs.Lines.{label_line}
use Rattle.thin_plan.specs.Plans.{checked, write_fault, own_after_store, store_fault, ask_fault, row_fault, call_fault, call_held, loans_in, branch_fault, taken_line, counted_fault, return_fault, operand_here, operands_here, spots_here, function_here, after, write_plan, store_plan, row_plan, ask_plan, call_there, call_plan, gain_of, gain_plan, loss_of, loss_plan, branch_plan, jump_plan, hand_plan, object_plan, null_plan, null_with, result_plan, return_plan, read_then, Scene, assign_plan, plan}
use Rattle.thin_look.specs.Readings.{all_held_in, held_in}
use Rattle.thin_turn.specs.Turned.{delivered, delivered_to, turned}
use Rattle.thin_apply.specs.Applied.{Parts, Fixed, answered_to, given, runs, on_last, delivered_in, moved_on, turn_events, last_of, seen, NoFault}
use Rattle.thin_apply.proofs.Puts.{on_last-snoc}
use Rattle.thin_apply.proofs.Seen.{view-above, loans-more, last-split, last-none, IsDone}

-- a turn changes the parts as it changes the state
abbrev with_frames : Parts → List Activation → Parts
with_frames p xs = record p { frames = xs }

abbrev Delivers : Fixed → Parts → Delivery → Option Variable → List Entry → List Event → List Activation → Type 0
Delivers x p d to script ev xs =
    delivered_to (frames_view x.files xs) to d (seen x (with_frames p xs) script ev) ≡ seen x (delivered_in to d (with_frames p xs)) script ev

to_nobody : (x : Fixed) (p : Parts) (d : Delivery) (to : Option Variable) (script : List Entry) (ev : List Event) → Delivers x p d to script ev []
to_nobody x p (delivery.New own o) to script ev = refl
to_nobody x p (delivery.Raised e) to script ev = refl
to_nobody x p (delivery.Borrowed o loan) to script ev = ap (λ l. record (seen x (with_frames p []) script ev) { loans = l }) (sym (loans-more p.loans (loan ∷ [])))
to_nobody x p (delivery.SetsError e) to script ev = refl

newest-view : (x : Fixed) (h : Activation → Activation) (front : List Activation) (g : Activation)
    → frame_view x.files (h g) ∷ frames_view x.files front ≡ frames_view x.files (on_last h (front ++ g ∷ []))
newest-view x h front g = sym (ap (frames_view x.files) (on_last-snoc h front g) ∙ view-above x.files front (h g))

to_newest : (x : Fixed) (p : Parts) (d : Delivery) (to : Option Variable) (script : List Entry) (ev : List Event) (front : List Activation) (g : Activation)
    → delivered to d (seen x (with_frames p (front ++ g ∷ [])) script ev) (frame_view x.files g) (frames_view x.files front)
    ≡ seen x (delivered_in to d (with_frames p (front ++ g ∷ []))) script ev
to_newest x p (delivery.New own o) to script ev front g =
    ap (λ fs. record (seen x p script ev) { frames = fs }) (newest-view x (given to (value.Object o) own) front g)
to_newest x p (delivery.Raised e) to script ev front g =
    ap (λ fs. record (seen x (record p { error = Some e }) script ev) { frames = fs }) (newest-view x (answered_to to value.Null) front g)
to_newest x p (delivery.Borrowed o loan) to script ev front g =
    ap (λ fs. record (seen x p script ev) { frames = fs; loans = loan ∷ reverse p.loans }) (newest-view x (answered_to to (value.Object o)) front g)
    ∙ ap (λ l. record (seen x p script ev) { frames = frames_view x.files (on_last (answered_to to (value.Object o)) (front ++ g ∷ [])); loans = l }) (sym (loans-more p.loans (loan ∷ [])))
to_newest x p (delivery.SetsError e) to script ev front g =
    ap (λ fs. record (seen x (record p { error = Some e }) script ev) { frames = fs }) (newest-view x runs front g)

frames_on : (x : Fixed) (p : Parts) (d : Delivery) (to : Option Variable) (script : List Entry) (ev : List Event) (o : Option Activation) → last_of p.frames ≡ o
    → Delivers x p d to script ev p.frames
frames_on x p d to script ev None e = subst (λ xs. Delivers x p d to script ev xs) (sym (last-none p.frames e)) (to_nobody x p d to script ev)
frames_on x p d to script ev (Some g) e =
    let s = last-split p.frames g e in
    subst (λ xs. Delivers x p d to script ev xs) (sym s.is)
    (ap (λ fs. delivered_to fs to d (seen x (with_frames p (s.front ++ g ∷ [])) script ev)) (view-above x.files s.front g)
    ∙ to_newest x p d to script ev s.front g)

pub turn-seen : (x : Fixed) (p : Parts) (n : ℕ) (t : Turn) (script : List Entry) (ev : List Event)
    → turned x.files (drop n script) (seen x p script ev) t ≡ seen x (moved_on n t p) script (ev ++ turn_events t)
turn-seen x p n turn.Nothing script ev = sym (ap (λ es. seen x (record p { taken = n }) script es) (append-nil ev))
turn-seen x p n turn.Stop script ev = refl
turn-seen x p n turn.End script ev = refl
turn-seen x p n (turn.Answer a to d) script ev =
    frames_on x (record p { taken = n }) d to script (ev ++ event.Answer a ∷ []) (last_of p.frames) refl
turn-seen x p n (turn.Enter callee args b) script ev =
    ap (λ fs. record (seen x (record p { taken = n }) script (ev ++ event.Enter callee args ∷ [])) { frames = fs }) (sym (view-above x.files p.frames b))
turn-seen x p n (turn.Begin name k b) script ev = refl

-- where there is no caller no result is handed to one
abbrev pub NoHand : Effect → Type 0
NoHand (effect.Hand x v own l) = ⊥
NoHand _ = Unit {0}

after-hands : (f : Option FaultKind) (e : Effect) → NoHand e → NoHand (after f e)
after-hands None e h = h
after-hands (Some k) e h = tt

then-hands : {A : Type 0} (o : Option A) (e : A → Effect) → ((x : A) → NoHand (e x)) → NoHand (read_then o e)
then-hands None e h = tt
then-hands (Some x) e h = h x

write-hands : (lock : Bool) (x : Variable) (k : CValue) (v : Reading) (o : Option Cell) → NoHand (write_plan lock x k v o)
write-hands lock x k v None = tt
write-hands lock x k v (Some c) = after-hands (write_fault lock k v c.kind) (effect.Write x v.value (lends k v)) tt

store-hands : (lock : Bool) (own : List Obj) (y : Place) (k : CValue) (v : Reading) (o : Option Spot) → NoHand (store_plan lock own y k v o)
store-hands lock own y k v None = tt
store-hands lock own y k v (Some s) = after-hands (store_fault lock own k v s) (effect.Store y v.value (own_after_store own s.value v.value) (lends k v)) tt

assign-hands : (s : Scene) (t : Target) (k : CValue) (v : Reading) → NoHand (assign_plan s t k v)
assign-hands s (target.Variable x) k v = write-hands s.lock x k v (lookup s.here.variables x)
assign-hands s (target.Place y) k v = store-hands s.lock s.here.own y k v (spot (spots_here s) y)

ask-hands : (lock : Bool) (error : Option Obj) (places : List (List Spot)) (a : Activation) (x : Option Variable) (r : ApiRow) (vs : List Reading) (o : Option Op)
    → NoHand (ask_plan lock error places a x r vs o)
ask-hands lock error places a x r vs None = tt
ask-hands lock error places a x r vs (Some o) = after-hands (ask_fault lock error places a r vs) (effect.Ask o r x (event.Ask o)) tt

call_there-hands : (lock : Bool) (places : List (List Spot)) (a : Activation) (x : Option Variable) (ks : List CValue) (vs : List Reading) (s : Standing) (o : Option CFunction)
    → NoHand (call_there lock places a x ks vs s o)
call_there-hands lock places a x ks vs s None = tt
call_there-hands lock places a x ks vs s (Some fn) =
    after-hands (call_fault lock a x ks vs fn.head) (call_held lock places a x ks vs s fn)
    (after-hands (checked (all_held_in places a (passed vs)) fault.Unheld None)
    (effect.Call (activated s.file s.item fn (values_of vs) (passed vs) entered.FromC lock) x (reverse (loans_in ks vs))) tt)

call-hands : (files : List CFile) (lock : Bool) (places : List (List Spot)) (a : Activation) (x : Option Variable) (ks : List CValue) (vs : List Reading) (o : Option Standing)
    → NoHand (call_plan files lock places a x ks vs o)
call-hands files lock places a x ks vs None = tt
call-hands files lock places a x ks vs (Some s) = call_there-hands lock places a x ks vs s (function_there files s.file s.item)

gain-hands : (places : List (List Spot)) (loans : List Obj) (a : Activation) (k : CValue) (v : Reading) (w : Value) → NoHand (gain_of places loans a k v w)
gain-hands places loans a k v (value.Object o) =
    after-hands (checked (held_in places a o || (has (lends k v) o || has loans o)) fault.Unheld None) (effect.Gain (o ∷ a.own) (lends k v)) tt
gain-hands places loans a k v value.Unset = tt
gain-hands places loans a k v value.Null = tt
gain-hands places loans a k v (value.Number z) = tt
gain-hands places loans a k v (value.Arguments os) = tt
gain-hands places loans a k v (value.Text t) = tt
gain-hands places loans a k v (value.Definition n) = tt

loss-hands : (own : List Obj) (w : Value) → NoHand (loss_of own w)
loss-hands own (value.Object o) = after-hands (checked (has own o) fault.Unheld None) (effect.Lose o) tt
loss-hands own value.Unset = tt
loss-hands own value.Null = tt
loss-hands own (value.Number z) = tt
loss-hands own (value.Arguments os) = tt
loss-hands own (value.Text t) = tt
loss-hands own (value.Definition n) = tt

branch-hands : (lock : Bool) (a : CValue) (v : Reading) (r : Comparison) (b : CValue) (w : Reading) (o : Option ℕ) → NoHand (branch_plan lock a v r b w o)
branch-hands lock a v r b w None = tt
branch-hands lock a v r b w (Some i) =
    after-hands (branch_fault lock a v b w) (effect.Jump (taken_line (by_comparison r (same_value v.value w.value)) i) (lends b w ++ lends a v)) tt

jump-hands : (o : Option ℕ) → NoHand (jump_plan o)
jump-hands None = tt
jump-hands (Some i) = tt

object-hands : (by : Entered) (o : Obj) (l : List Obj) → NoHand (object_plan None by o l)
object-hands entered.FromC o l = tt
object-hands entered.FromOutside o l = tt
object-hands entered.ForInitialisation o l = tt

null-hands : (by : Entered) (o : Obj) (l : List Obj) → NoHand (null_plan None by o l)
null-hands entered.FromC o l = tt
null-hands entered.FromOutside o l = tt
null-hands entered.ForInitialisation o l = tt

null_with-hands : (a : Activation) (o : Option Obj) (l : List Obj) → NoHand (null_with None a o l)
null_with-hands a None l = tt
null_with-hands a (Some o) l = after-hands (checked (owns_none a.own) fault.Unbalanced None) (null_plan None a.entered o l) (null-hands a.entered o l)

number-hands : (a : Activation) (v : Value) (l : List Obj) → NoHand (after (checked (owns_none a.own) fault.Unbalanced None) (hand_plan None v [] l))
number-hands a v l = after-hands (checked (owns_none a.own) fault.Unbalanced None) (hand_plan None v [] l) tt

result-hands : (error : Option Obj) (a : Activation) (to : Kind) (v : Value) (l : List Obj) → NoHand (result_plan error None a to v l)
result-hands error a to (value.Object o) l =
    after-hands (checked (is_none error) fault.ErrorSet (checked (owns_just a.own o) fault.Unbalanced None)) (object_plan None a.entered o l) (object-hands a.entered o l)
result-hands error a to value.Null l = null_with-hands a error l
result-hands error a to value.Unset l = number-hands a (converted to value.Unset) l
result-hands error a to (value.Number z) l = number-hands a (converted to (value.Number z)) l
result-hands error a to (value.Arguments os) l = number-hands a (converted to (value.Arguments os)) l
result-hands error a to (value.Text t) l = number-hands a (converted to (value.Text t)) l
result-hands error a to (value.Definition n) l = number-hands a (converted to (value.Definition n)) l

return-hands : (lock : Bool) (error : Option Obj) (o : Option Activation) (a : Activation) (to : Kind) (k : CValue) (v : Reading) → o ≡ None
    → NoHand (return_plan lock error o a to k v)
return-hands lock error o a to k v e =
    subst (λ o. NoHand (return_plan lock error o a to k v)) (sym e)
    (after-hands (return_fault lock a to k v) (result_plan error None a to v.value (lends k v)) (result-hands error a to v.value (lends k v)))

pub plan-hands : (s : Scene) (st : CStmt) → s.caller ≡ None → NoHand (plan s st)
plan-hands s (stmt.Assign t k) e = then-hands (operand_here s k) (assign_plan s t k) (assign-hands s t k)
plan-hands s (stmt.Api x r ks) e =
    then-hands (operands_here s ks) (row_plan s.lock s.error s.places s.here x r)
    (λ vs. after-hands (row_fault s.here.variables x r vs) (ask_plan s.lock s.error s.places s.here x r vs (op_of r vs)) (ask-hands s.lock s.error s.places s.here x r vs (op_of r vs)))
plan-hands s (stmt.Call x name ks) e =
    then-hands (operands_here s ks) (λ vs. call_plan s.files s.lock s.places s.here x ks vs (standing_named s.files s.here.file name))
    (λ vs. call-hands s.files s.lock s.places s.here x ks vs (standing_named s.files s.here.file name))
plan-hands s (stmt.Incref k) e =
    then-hands (operand_here s k) (gain_plan s.lock s.places s.loans s.here k)
    (λ v. after-hands (counted_fault s.lock v) (gain_of s.places s.loans s.here k v v.value) (gain-hands s.places s.loans s.here k v v.value))
plan-hands s (stmt.Decref k) e =
    then-hands (operand_here s k) (loss_plan s.lock s.here.own)
    (λ v. after-hands (counted_fault s.lock v) (loss_of s.here.own v.value) (loss-hands s.here.own v.value))
plan-hands s (stmt.GotoIf a r b l) e =
    then-hands (operand_here s a) (λ v. read_then (operand_here s b) (λ w. branch_plan s.lock a v r b w (label_line (function_here s).lines l)))
    (λ v. then-hands (operand_here s b) (λ w. branch_plan s.lock a v r b w (label_line (function_here s).lines l)) (λ w. branch-hands s.lock a v r b w (label_line (function_here s).lines l)))
plan-hands s (stmt.Goto l) e = jump-hands (label_line (function_here s).lines l)
plan-hands s (stmt.Return k) e =
    then-hands (operand_here s k) (return_plan s.lock s.error s.caller s.here (result_kind (function_here s).head) k)
    (λ v. return-hands s.lock s.error s.caller s.here (result_kind (function_here s).head) k v e)

pub is-done : (o : Option Activation) (e : Effect) → NoFault e → (o ≡ None → NoHand e) → IsDone o e
is-done o (effect.Fault k) f h = f
is-done None (effect.Hand x v own l) f h = h refl
is-done (Some g) (effect.Hand x v own l) f h = tt
is-done None (effect.Write x v l) f h = tt
is-done (Some g) (effect.Write x v l) f h = tt
is-done None (effect.Store y v own l) f h = tt
is-done (Some g) (effect.Store y v own l) f h = tt
is-done None (effect.Ask o r x e) f h = tt
is-done (Some g) (effect.Ask o r x e) f h = tt
is-done None (effect.Call b x l) f h = tt
is-done (Some g) (effect.Call b x l) f h = tt
is-done None (effect.Gain own l) f h = tt
is-done (Some g) (effect.Gain own l) f h = tt
is-done None (effect.Lose o) f h = tt
is-done (Some g) (effect.Lose o) f h = tt
is-done None (effect.Jump i l) f h = tt
is-done (Some g) (effect.Jump i l) f h = tt
is-done None (effect.Leave o l) f h = tt
is-done (Some g) (effect.Leave o l) f h = tt
is-done None (effect.LeaveRaise o failed l) f h = tt
is-done (Some g) (effect.LeaveRaise o failed l) f h = tt
