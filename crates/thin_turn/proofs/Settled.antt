-- Settling is the skipping of entries that do nothing, and then one turn.
use Rattle.std.proofs.Common.{◌≡◌, ℕ, zero, suc, ◌≤◌, Bool, true, false, List, [], ◌∷◌, Option, Some, None, refl, sym, ap, ◌∙◌, drop, length, pos, unwrap_or, if◌then◌else◌, arith}
use Rattle.thin_state.specs.declared.space.Obj.{Obj}
use Rattle.thin_state.specs.declared.space.Op.{Op}
use Rattle.thin_state.specs.declared.space.Answer.{Answer}
use Rattle.thin_state.specs.declared.space.Callee.{Callee}
use Rattle.thin_state.specs.declared.space.Entry.{Entry}
use Rattle.thin_state.specs.declared.space.Entry.TheVariants as entry
use Rattle.thin_state.specs.declared.space.Event.TheVariants as event
use Rattle.thin_state.specs.declared.tree.Variable.{Variable}
use Rattle.thin_state.specs.declared.tree.ApiRow.{ApiRow}
use Rattle.thin_state.specs.declared.tree.CFunction.{CFunction}
use Rattle.thin_state.specs.declared.tree.CFile.{CFile}
use Rattle.thin_state.specs.declared.state.Value.{Value}
use Rattle.thin_state.specs.declared.state.Value.TheVariants as value
use Rattle.thin_state.specs.declared.state.Entered.{Entered}
use Rattle.thin_state.specs.declared.state.Entered.TheVariants as entered
use Rattle.thin_state.specs.declared.state.Doing.{Doing}
use Rattle.thin_state.specs.declared.state.Doing.TheVariants as doing
use Rattle.thin_state.specs.declared.state.Course.{Course}
use Rattle.thin_state.specs.declared.state.Course.TheVariants as course
use Rattle.thin_state.specs.Objects.{NewResult, Gave, Raises, new_result, answer, read_objs}
use Rattle.thin_state.specs.State.{lose, put, put_to, Frame, CState}
use Rattle.thin_state.specs.Reads.{FoundFunction, NotFound, frame_of, initializer_from, initializer_name}
use Rattle.thin_state.specs.Statements.{store, lend, Moved, Went, on, off, tell, script_to}
use Rattle.thin_state.specs.Outside.{How, NewReference, Borrowed, SetsError, how, deliver_new, deliver_by, deliver, answered, called, enter, top_called, top, begin}
use Rattle.thin_state.specs.Machine.{move, is_asking, none_runs, outside_by, outside, went_or, settle_for, settle}
use Rattle.thin_look.specs.declared.parts.Standing.{Standing}
use Rattle.thin_turn.specs.declared.parts.Delivery.{Delivery}
use Rattle.thin_turn.specs.declared.parts.Delivery.TheVariants as delivery
use Rattle.thin_turn.specs.declared.parts.Turn.TheVariants as turn
use Rattle.thin_look.specs.Views.{function_there, found_with, found_at, frame_by, frame_view, no_function, activated}
use Rattle.thin_look.specs.Lookups.{standing_entered, standing_next}
use Rattle.thin_turn.specs.Turns.{Stage, living, is_found, fitting, rest_of, delivery_new, delivery_by, answer_turn, enter_turn, enter_else, enter_or, ask_turn, top_turn, begin_there, begin_at, idle_go, Go, go, ask_go, doing_go, newest_go, failed_go, effect_go}
use Rattle.thin_turn.specs.Turned.{delivered, turned}
use Rattle.thin_plan.specs.Effects.{course_after, handed, effected}
use Rattle.thin_look.specs.declared.parts.Activation.{Activation}
use Rattle.thin_plan.specs.declared.effects.Effect.{Effect}
use Rattle.thin_plan.specs.declared.effects.Effect.TheVariants as effect
use Rattle.thin_plan.proofs.Planned.{IsBelow}
use Rattle.thin_look.proofs.Searches.{entered-is, next-is}

abbrev pub stage_from : List CFile → CState → Stage
stage_from files c = record {
  files = files;
  places = c.places;
  lock = c.lock;
  instances = c.world.instances;
  views = c.world.views;
  begun = c.begun;
}

-- where it isn't the outside's turn, settling does nothing
pub calm : (files : List CFile) (n : ℕ) (c : CState) → outside c ≡ false → settle_for files n c ≡ c
calm files zero c e = refl
calm files (suc n) c e = ap (λ b. if b then settle_for files n (went_or (move files c) c) else c) e

-- one move, after which it isn't
once : (files : List CFile) (n : ℕ) (c d t : CState) → settle_for files (suc n) c ≡ settle_for files n d → d ≡ t → outside t ≡ false
    → settle_for files (suc n) c ≡ t
once files n c d t e s o = e ∙ (ap (settle_for files n) s ∙ calm files n t o)

-- how an answer comes back
deliver_new-is : (q : NewResult) (x : Option Variable) (c : CState) (f : Frame) (fs : List Frame)
    → deliver_new q x c f fs ≡ delivered x (delivery_new f.own q) c f fs
deliver_new-is (Gave o) x c f fs = refl
deliver_new-is (Raises e) x c f fs = refl

deliver_by-is : (q : How) (x : Option Variable) (a : Answer) (c : CState) (f : Frame) (fs : List Frame)
    → deliver_by q x a c f fs ≡ delivered x (delivery_by q f.own a) c f fs
deliver_by-is NewReference x a c f fs = deliver_new-is (new_result a) x c f fs
deliver_by-is Borrowed x a c f fs = refl
deliver_by-is SetsError x a c f fs = refl

-- a state in which an operation is asked
abbrev asks : CState → Frame → List Frame → Op → ApiRow → Option Variable → CState
asks c f fs o r x = record c { frames = record f { doing = doing.Asks o r x } ∷ fs; course = course.Goes }

delivered_runs : (x : Option Variable) (d : Delivery) (c : CState) (f : Frame) (fs : List Frame) → c.course ≡ course.Goes → outside (delivered x d c f fs) ≡ false
delivered_runs x (delivery.New own o) c f fs e = ap (λ k. outside (delivered x (delivery.New own o) (record c { course = k }) f fs)) e
delivered_runs x (delivery.Raised o) c f fs e = ap (λ k. outside (delivered x (delivery.Raised o) (record c { course = k }) f fs)) e
delivered_runs x (delivery.Borrowed o l) c f fs e = ap (λ k. outside (delivered x (delivery.Borrowed o l) (record c { course = k }) f fs)) e
delivered_runs x (delivery.SetsError o) c f fs e = ap (λ k. outside (delivered x (delivery.SetsError o) (record c { course = k }) f fs)) e

-- the frames are those that are given
delivered_off : (x : Option Variable) (d : Delivery) (c : CState) (f : Frame) (fs gs : List Frame) → delivered x d (record c { frames = gs }) f fs ≡ delivered x d c f fs
delivered_off x (delivery.New own o) c f fs gs = refl
delivered_off x (delivery.Raised o) c f fs gs = refl
delivered_off x (delivery.Borrowed o l) c f fs gs = refl
delivered_off x (delivery.SetsError o) c f fs gs = refl

-- a move by an entry that answers
answers : (files : List CFile) (n : ℕ) (c : CState) (f : Frame) (fs : List Frame) (o : Op) (r : ApiRow) (x : Option Variable) (es : List Entry) (d : CState) (a : Answer) (start : CState)
    → settle_for files (suc n) start ≡ settle_for files n d
    → d ≡ deliver r x a (tell (event.Answer a) (script_to es (off (asks c f fs o r x) fs))) (record f { doing = doing.Asks o r x }) fs
    → settle_for files (suc n) start ≡ turned files es (asks c f fs o r x) (answer_turn r x f.own a)
answers files n c f fs o r x es d a start e s =
    once files n start d (turned files es (asks c f fs o r x) (answer_turn r x f.own a)) e
    (s ∙ (deliver_by-is (how r) x a (tell (event.Answer a) (script_to es (off (asks c f fs o r x) fs))) (record f { doing = doing.Asks o r x }) fs
    ∙ delivered_off x (delivery_by (how r) f.own a) (tell (event.Answer a) (script_to es (asks c f fs o r x))) (record f { doing = doing.Asks o r x }) fs fs))
    (delivered_runs x (delivery_by (how r) f.own a) (tell (event.Answer a) (script_to es (asks c f fs o r x))) (record f { doing = doing.Asks o r x }) fs refl)

-- a move by an entry that enters
view-activated : (files : List CFile) (k i : ℕ) (fn : CFunction) (vs : List Value) (os : List Obj) (by : Entered) (lock : Bool)
    → function_there files k i ≡ Some fn → frame_view files (activated k i fn vs os by lock) ≡ frame_of k fn vs os by lock
view-activated files k i fn vs os by lock e = ap (λ o. frame_by (unwrap_or o no_function) (activated k i fn vs os by lock)) e

abbrev outside_values : List Obj → List Value
outside_values args = value.Null ∷ value.Arguments args ∷ value.Number (pos (length args)) ∷ []

enters : (files : List CFile) (n : ℕ) (c : CState) (callee : Callee) (args : List Obj) (at : Standing) (fn : CFunction) (es : List Entry) (start : CState)
    → c.course ≡ course.Goes → function_there files at.file at.item ≡ Some fn
    → settle_for files (suc n) start ≡ settle_for files n (enter (script_to es c) c.frames callee args at.file fn)
    → settle_for files (suc n) start ≡ turned files es c (enter_turn (stage_from files c) callee args at fn)
enters files n c callee args at fn es start g e s =
    once files n start (enter (script_to es c) c.frames callee args at.file fn) (turned files es c (enter_turn (stage_from files c) callee args at fn)) s
    (ap (λ f. tell (event.Enter callee args) (on (script_to es c) f c.frames))
    (sym (view-activated files at.file at.item fn (outside_values args) args entered.FromOutside c.lock e)))
    (ap (λ k. outside (turned files es (record c { course = k }) (enter_turn (stage_from files c) callee args at fn))) g)

called_there : (files : List CFile) (n : ℕ) (c : CState) (f : Frame) (fs : List Frame) (o : Op) (r : ApiRow) (x : Option Variable) (es : List Entry)
    (callee : Callee) (args : List Obj) (start : CState) (at : Standing) (q : Option CFunction) → function_there files at.file at.item ≡ q
    → settle_for files (suc n) start ≡ settle_for files n (called (script_to es (off (asks c f fs o r x) fs)) (record f { doing = doing.Asks o r x }) fs o r x callee args (found_with at.file q))
    → settle_for files (suc n) start
    ≡ turned files es (asks c f fs o r x) (enter_else (stage_from files c) callee (read_objs c.world.instances c.world.views args)
    (answer_turn r x f.own (answer o (entry.Enter callee args) c.world.instances c.world.views)) at q)
called_there files n c f fs o r x es callee args start at None e s =
    answers files n c f fs o r x es (answered (script_to es (off (asks c f fs o r x) fs)) (record f { doing = doing.Asks o r x }) fs o r x (entry.Enter callee args))
    (answer o (entry.Enter callee args) c.world.instances c.world.views) start s refl
called_there files n c f fs o r x es callee args start at (Some fn) e s =
    enters files n (asks c f fs o r x) callee (read_objs c.world.instances c.world.views args) at fn es start refl e s

called_at : (files : List CFile) (n : ℕ) (c : CState) (f : Frame) (fs : List Frame) (o : Op) (r : ApiRow) (x : Option Variable) (es : List Entry)
    (callee : Callee) (args : List Obj) (start : CState) (q : Option Standing)
    → settle_for files (suc n) start ≡ settle_for files n (called (script_to es (off (asks c f fs o r x) fs)) (record f { doing = doing.Asks o r x }) fs o r x callee args (found_at files q))
    → settle_for files (suc n) start
    ≡ turned files es (asks c f fs o r x) (enter_or (stage_from files c) callee (read_objs c.world.instances c.world.views args)
    (answer_turn r x f.own (answer o (entry.Enter callee args) c.world.instances c.world.views)) q)
called_at files n c f fs o r x es callee args start None s =
    answers files n c f fs o r x es (answered (script_to es (off (asks c f fs o r x) fs)) (record f { doing = doing.Asks o r x }) fs o r x (entry.Enter callee args))
    (answer o (entry.Enter callee args) c.world.instances c.world.views) start s refl
called_at files n c f fs o r x es callee args start (Some at) s =
    called_there files n c f fs o r x es callee args start at (function_there files at.file at.item) refl s

-- settling where an operation is asked
abbrev asks_with : CState → Frame → List Frame → Op → ApiRow → Option Variable → List Entry → CState
asks_with c f fs o r x es = script_to es (asks c f fs o r x)

pub asks-settle : (files : List CFile) (n : ℕ) (c : CState) (f : Frame) (fs : List Frame) (o : Op) (r : ApiRow) (x : Option Variable) (es : List Entry) → length es ≤ n
    → settle_for files (suc n) (asks_with c f fs o r x es)
    ≡ turned files (rest_of (living es)) (asks c f fs o r x) (ask_turn (stage_from files c) o r x f.own (living es))
asks-settle files n c f fs o r x [] h =
    once files n (asks_with c f fs o r x []) (turned files [] (asks c f fs o r x) turn.Stop) (turned files [] (asks c f fs o r x) turn.Stop) refl refl refl
asks-settle files zero c f fs o r x (entry.Die k ∷ es) h = absurd (omega (arith, h))
asks-settle files (suc n) c f fs o r x (entry.Die k ∷ es) h = asks-settle files n c f fs o r x es (omega (arith, h))
asks-settle files n c f fs o r x (entry.Enter callee args ∷ es) h =
    called_at files n c f fs o r x es callee args (asks_with c f fs o r x (entry.Enter callee args ∷ es)) (standing_entered files c.places callee)
    (ap (λ q. settle_for files n (called (script_to es (off (asks c f fs o r x) fs)) (record f { doing = doing.Asks o r x }) fs o r x callee args q)) (entered-is files c.places callee))
asks-settle files n c f fs o r x (entry.OkNode y ∷ es) h =
    answers files n c f fs o r x es (answered (script_to es (off (asks c f fs o r x) fs)) (record f { doing = doing.Asks o r x }) fs o r x (entry.OkNode y))
    (answer o (entry.OkNode y) c.world.instances c.world.views) (asks_with c f fs o r x (entry.OkNode y ∷ es)) refl refl
asks-settle files n c f fs o r x (entry.Num y ∷ es) h =
    answers files n c f fs o r x es (answered (script_to es (off (asks c f fs o r x) fs)) (record f { doing = doing.Asks o r x }) fs o r x (entry.Num y))
    (answer o (entry.Num y) c.world.instances c.world.views) (asks_with c f fs o r x (entry.Num y ∷ es)) refl refl
asks-settle files n c f fs o r x (entry.Raise y ∷ es) h =
    answers files n c f fs o r x es (answered (script_to es (off (asks c f fs o r x) fs)) (record f { doing = doing.Asks o r x }) fs o r x (entry.Raise y))
    (answer o (entry.Raise y) c.world.instances c.world.views) (asks_with c f fs o r x (entry.Raise y ∷ es)) refl refl
asks-settle files n c f fs o r x (entry.Missing ∷ es) h =
    answers files n c f fs o r x es (answered (script_to es (off (asks c f fs o r x) fs)) (record f { doing = doing.Asks o r x }) fs o r x entry.Missing)
    (answer o entry.Missing c.world.instances c.world.views) (asks_with c f fs o r x (entry.Missing ∷ es)) refl refl
asks-settle files n c f fs o r x (entry.Made ∷ es) h =
    answers files n c f fs o r x es (answered (script_to es (off (asks c f fs o r x) fs)) (record f { doing = doing.Asks o r x }) fs o r x entry.Made)
    (answer o entry.Made c.world.instances c.world.views) (asks_with c f fs o r x (entry.Made ∷ es)) refl refl
asks-settle files n c f fs o r x (entry.View y ∷ es) h =
    answers files n c f fs o r x es (answered (script_to es (off (asks c f fs o r x) fs)) (record f { doing = doing.Asks o r x }) fs o r x (entry.View y))
    (answer o (entry.View y) c.world.instances c.world.views) (asks_with c f fs o r x (entry.View y ∷ es)) refl refl
asks-settle files n c f fs o r x (entry.New y z ∷ es) h =
    answers files n c f fs o r x es (answered (script_to es (off (asks c f fs o r x) fs)) (record f { doing = doing.Asks o r x }) fs o r x (entry.New y z))
    (answer o (entry.New y z) c.world.instances c.world.views) (asks_with c f fs o r x (entry.New y z ∷ es)) refl refl
asks-settle files n c f fs o r x (entry.Get y z ∷ es) h =
    answers files n c f fs o r x es (answered (script_to es (off (asks c f fs o r x) fs)) (record f { doing = doing.Asks o r x }) fs o r x (entry.Get y z))
    (answer o (entry.Get y z) c.world.instances c.world.views) (asks_with c f fs o r x (entry.Get y z ∷ es)) refl refl
asks-settle files n c f fs o r x (entry.Set y z w ∷ es) h =
    answers files n c f fs o r x es (answered (script_to es (off (asks c f fs o r x) fs)) (record f { doing = doing.Asks o r x }) fs o r x (entry.Set y z w))
    (answer o (entry.Set y z w) c.world.instances c.world.views) (asks_with c f fs o r x (entry.Set y z w ∷ es)) refl refl
asks-settle files n c f fs o r x (entry.Unset y z ∷ es) h =
    answers files n c f fs o r x es (answered (script_to es (off (asks c f fs o r x) fs)) (record f { doing = doing.Asks o r x }) fs o r x (entry.Unset y z))
    (answer o (entry.Unset y z) c.world.instances c.world.views) (asks_with c f fs o r x (entry.Unset y z ∷ es)) refl refl

-- a state in which no function runs
abbrev idles : CState → CState
idles c = record c { frames = []; course = course.Goes }

skip : (files : List CFile) (n : ℕ) (c : CState) (es : List Entry) (start t : CState)
    → settle_for files (suc n) start ≡ settle_for files n (script_to es (idles c)) → settle_for files n (script_to es (idles c)) ≡ t
    → settle_for files (suc n) start ≡ t
skip files n c es start t s e = s ∙ e

top_there : (files : List CFile) (n : ℕ) (c : CState) (es : List Entry) (callee : Callee) (args : List Obj) (start : CState) (at : Standing) (q : Option CFunction)
    → function_there files at.file at.item ≡ q → standing_entered files c.places callee ≡ Some at
    → settle_for files (suc n) start ≡ settle_for files n (top_called (script_to es (idles c)) callee args (found_with at.file q))
    → settle_for files n (script_to es (idles c)) ≡ turned files (rest_of (fitting files c.places es)) (idles c) (top_turn (stage_from files c) (fitting files c.places es))
    → settle_for files (suc n) start
    ≡ turned files (rest_of (if is_found (found_with at.file q) then entry.Enter callee args ∷ es else fitting files c.places es)) (idles c)
    (top_turn (stage_from files c) (if is_found (found_with at.file q) then entry.Enter callee args ∷ es else fitting files c.places es))
top_there files n c es callee args start at None e w s ih = s ∙ ih
top_there files n c es callee args start at (Some fn) e w s ih =
    enters files n (idles c) callee (read_objs c.world.instances c.world.views args) at fn es start refl e s
    ∙ sym (ap (λ o. turned files es (idles c) (enter_or (stage_from files c) callee (read_objs c.world.instances c.world.views args) turn.Nothing o)) w
    ∙ ap (λ o. turned files es (idles c) (enter_else (stage_from files c) callee (read_objs c.world.instances c.world.views args) turn.Nothing at o)) e)

top_at : (files : List CFile) (n : ℕ) (c : CState) (es : List Entry) (callee : Callee) (args : List Obj) (start : CState) (q : Option Standing)
    → standing_entered files c.places callee ≡ q
    → settle_for files (suc n) start ≡ settle_for files n (top_called (script_to es (idles c)) callee args (found_at files q))
    → settle_for files n (script_to es (idles c)) ≡ turned files (rest_of (fitting files c.places es)) (idles c) (top_turn (stage_from files c) (fitting files c.places es))
    → settle_for files (suc n) start
    ≡ turned files (rest_of (if is_found (found_at files q) then entry.Enter callee args ∷ es else fitting files c.places es)) (idles c)
    (top_turn (stage_from files c) (if is_found (found_at files q) then entry.Enter callee args ∷ es else fitting files c.places es))
top_at files n c es callee args start None w s ih = s ∙ ih
top_at files n c es callee args start (Some at) w s ih =
    top_there files n c es callee args start at (function_there files at.file at.item) refl w s ih

-- a move at top level
top_move : (files : List CFile) (n : ℕ) (c : CState) (es : List Entry) → initializer_from c.begun files ≡ NotFound
    → settle_for files (suc n) (script_to es (idles c)) ≡ settle_for files n (top files (script_to es (idles c)) es)
top_move files n c es e = ap (λ q. settle_for files n (begin files (script_to es (idles c)) q)) e

top-settle : (files : List CFile) (n : ℕ) (c : CState) (es : List Entry) → length es ≤ n → initializer_from c.begun files ≡ NotFound
    → settle_for files (suc n) (script_to es (idles c))
    ≡ turned files (rest_of (fitting files c.places es)) (idles c) (top_turn (stage_from files c) (fitting files c.places es))
top-settle files n c [] h e =
    once files n (script_to [] (idles c)) (turned files [] (idles c) turn.End) (turned files [] (idles c) turn.End) (top_move files n c [] e) refl refl
top-settle files zero c (entry.Enter callee args ∷ es) h e = absurd (omega (arith, h))
top-settle files (suc n) c (entry.Enter callee args ∷ es) h e =
    top_at files (suc n) c es callee args (script_to (entry.Enter callee args ∷ es) (idles c)) (standing_entered files c.places callee) refl
    (top_move files (suc n) c (entry.Enter callee args ∷ es) e
    ∙ ap (λ q. settle_for files (suc n) (top_called (script_to es (idles c)) callee args q)) (entered-is files c.places callee))
    (top-settle files n c es (omega (arith, h)) e)
top-settle files zero c (entry.OkNode y ∷ es) h e = absurd (omega (arith, h))
top-settle files (suc n) c (entry.OkNode y ∷ es) h e =
    skip files (suc n) c es (script_to (entry.OkNode y ∷ es) (idles c)) (turned files (rest_of (fitting files c.places es)) (idles c) (top_turn (stage_from files c) (fitting files c.places es)))
    (top_move files (suc n) c (entry.OkNode y ∷ es) e) (top-settle files n c es (omega (arith, h)) e)
top-settle files zero c (entry.Num y ∷ es) h e = absurd (omega (arith, h))
top-settle files (suc n) c (entry.Num y ∷ es) h e =
    skip files (suc n) c es (script_to (entry.Num y ∷ es) (idles c)) (turned files (rest_of (fitting files c.places es)) (idles c) (top_turn (stage_from files c) (fitting files c.places es)))
    (top_move files (suc n) c (entry.Num y ∷ es) e) (top-settle files n c es (omega (arith, h)) e)
top-settle files zero c (entry.Raise y ∷ es) h e = absurd (omega (arith, h))
top-settle files (suc n) c (entry.Raise y ∷ es) h e =
    skip files (suc n) c es (script_to (entry.Raise y ∷ es) (idles c)) (turned files (rest_of (fitting files c.places es)) (idles c) (top_turn (stage_from files c) (fitting files c.places es)))
    (top_move files (suc n) c (entry.Raise y ∷ es) e) (top-settle files n c es (omega (arith, h)) e)
top-settle files zero c (entry.Missing ∷ es) h e = absurd (omega (arith, h))
top-settle files (suc n) c (entry.Missing ∷ es) h e =
    skip files (suc n) c es (script_to (entry.Missing ∷ es) (idles c)) (turned files (rest_of (fitting files c.places es)) (idles c) (top_turn (stage_from files c) (fitting files c.places es)))
    (top_move files (suc n) c (entry.Missing ∷ es) e) (top-settle files n c es (omega (arith, h)) e)
top-settle files zero c (entry.Made ∷ es) h e = absurd (omega (arith, h))
top-settle files (suc n) c (entry.Made ∷ es) h e =
    skip files (suc n) c es (script_to (entry.Made ∷ es) (idles c)) (turned files (rest_of (fitting files c.places es)) (idles c) (top_turn (stage_from files c) (fitting files c.places es)))
    (top_move files (suc n) c (entry.Made ∷ es) e) (top-settle files n c es (omega (arith, h)) e)
top-settle files zero c (entry.View y ∷ es) h e = absurd (omega (arith, h))
top-settle files (suc n) c (entry.View y ∷ es) h e =
    skip files (suc n) c es (script_to (entry.View y ∷ es) (idles c)) (turned files (rest_of (fitting files c.places es)) (idles c) (top_turn (stage_from files c) (fitting files c.places es)))
    (top_move files (suc n) c (entry.View y ∷ es) e) (top-settle files n c es (omega (arith, h)) e)
top-settle files zero c (entry.New y z ∷ es) h e = absurd (omega (arith, h))
top-settle files (suc n) c (entry.New y z ∷ es) h e =
    skip files (suc n) c es (script_to (entry.New y z ∷ es) (idles c)) (turned files (rest_of (fitting files c.places es)) (idles c) (top_turn (stage_from files c) (fitting files c.places es)))
    (top_move files (suc n) c (entry.New y z ∷ es) e) (top-settle files n c es (omega (arith, h)) e)
top-settle files zero c (entry.Get y z ∷ es) h e = absurd (omega (arith, h))
top-settle files (suc n) c (entry.Get y z ∷ es) h e =
    skip files (suc n) c es (script_to (entry.Get y z ∷ es) (idles c)) (turned files (rest_of (fitting files c.places es)) (idles c) (top_turn (stage_from files c) (fitting files c.places es)))
    (top_move files (suc n) c (entry.Get y z ∷ es) e) (top-settle files n c es (omega (arith, h)) e)
top-settle files zero c (entry.Set y z w ∷ es) h e = absurd (omega (arith, h))
top-settle files (suc n) c (entry.Set y z w ∷ es) h e =
    skip files (suc n) c es (script_to (entry.Set y z w ∷ es) (idles c)) (turned files (rest_of (fitting files c.places es)) (idles c) (top_turn (stage_from files c) (fitting files c.places es)))
    (top_move files (suc n) c (entry.Set y z w ∷ es) e) (top-settle files n c es (omega (arith, h)) e)
top-settle files zero c (entry.Unset y z ∷ es) h e = absurd (omega (arith, h))
top-settle files (suc n) c (entry.Unset y z ∷ es) h e =
    skip files (suc n) c es (script_to (entry.Unset y z ∷ es) (idles c)) (turned files (rest_of (fitting files c.places es)) (idles c) (top_turn (stage_from files c) (fitting files c.places es)))
    (top_move files (suc n) c (entry.Unset y z ∷ es) e) (top-settle files n c es (omega (arith, h)) e)
top-settle files zero c (entry.Die y ∷ es) h e = absurd (omega (arith, h))
top-settle files (suc n) c (entry.Die y ∷ es) h e =
    skip files (suc n) c es (script_to (entry.Die y ∷ es) (idles c)) (turned files (rest_of (fitting files c.places es)) (idles c) (top_turn (stage_from files c) (fitting files c.places es)))
    (top_move files (suc n) c (entry.Die y ∷ es) e) (top-settle files n c es (omega (arith, h)) e)

-- an initialisation that begins
begin_there-settle : (files : List CFile) (n : ℕ) (c : CState) (es : List Entry) (at : Standing) (q : Option CFunction) → length es ≤ n
    → function_there files at.file at.item ≡ q → initializer_from c.begun files ≡ found_with at.file q
    → settle_for files (suc n) (script_to es (idles c))
    ≡ turned files (begin_there (stage_from files c) es at q).rest (script_to es (idles c)) (begin_there (stage_from files c) es at q).turn
begin_there-settle files n c es at None h e w = top-settle files n (script_to es c) es h w
begin_there-settle files n c es at (Some fn) h e w =
    once files n (script_to es (idles c)) (begin files (script_to es (idles c)) (FoundFunction at.file fn))
    (turned files es (script_to es (idles c)) (begin_there (stage_from files c) es at (Some fn)).turn)
    (ap (λ q. settle_for files n (begin files (script_to es (idles c)) q)) w)
    (ap (λ f. tell (event.Init (initializer_name fn.head)) (on (record (script_to es (idles c)) { begun = suc at.file }) f []))
    (sym (view-activated files at.file at.item fn [] [] entered.ForInitialisation c.lock e)))
    refl

begin_at-settle : (files : List CFile) (n : ℕ) (c : CState) (es : List Entry) (q : Option Standing) → length es ≤ n
    → initializer_from c.begun files ≡ found_at files q
    → settle_for files (suc n) (script_to es (idles c))
    ≡ turned files (begin_at (stage_from files c) es q).rest (script_to es (idles c)) (begin_at (stage_from files c) es q).turn
begin_at-settle files n c es None h w = top-settle files n (script_to es c) es h w
begin_at-settle files n c es (Some at) h w = begin_there-settle files n c es at (function_there files at.file at.item) h refl w

-- settling, from the parts of any state

abbrev pub Settles : List CFile → CState → Go → Type 0
Settles files d g = settle files d ≡ turned files g.rest d g.turn

pub idle-settled : (files : List CFile) (d : CState) → d.frames ≡ [] → d.course ≡ course.Goes → Settles files d (idle_go (stage_from files d) d.world.script)
idle-settled files d e k =
    let s : d ≡ idles d = ap (λ fs. record d { frames = fs }) e ∙ ap (λ q. record d { frames = []; course = q }) k in
    let g = idle_go (stage_from files d) d.world.script in
    ap (settle files) s
    ∙ (begin_at-settle files (suc (length d.world.script)) d d.world.script (standing_next files d.begun) (omega arith) (next-is files d.begun)
    ∙ ap (λ x. turned files g.rest x g.turn) (sym s))

pub asks-settled : (files : List CFile) (d : CState) (f : Frame) (fs : List Frame) (o : Op) (r : ApiRow) (x : Option Variable)
    → d.frames ≡ f ∷ fs → f.doing ≡ doing.Asks o r x → d.course ≡ course.Goes → Settles files d (ask_go (stage_from files d) o r x f.own d.world.script)
asks-settled files d f fs o r x e q k =
    let s : d ≡ asks d f fs o r x =
    ap (λ fs. record d { frames = fs }) e ∙ (ap (λ y. record d { frames = record f { doing = y } ∷ fs }) q ∙ ap (λ y. record d { frames = record f { doing = doing.Asks o r x } ∷ fs; course = y }) k) in
    let g = ask_go (stage_from files d) o r x f.own d.world.script in
    ap (settle files) s
    ∙ (asks-settle files (suc (length d.world.script)) d f fs o r x d.world.script (omega arith)
    ∙ ap (λ y. turned files g.rest y g.turn) (sym s))

pub calm-settled : (files : List CFile) (d : CState) → outside d ≡ false → Settles files d (go turn.Nothing d.world.script)
calm-settled files d o = calm files (suc (suc (length d.world.script))) d o

pub failed-settled : (files : List CFile) (d : CState) → d.course ≡ course.Failed → Settles files d (go turn.End d.world.script)
failed-settled files d k =
    let s : d ≡ record d { course = course.Failed } = ap (λ q. record d { course = q }) k in
    ap (settle files) s
    ∙ once files (suc (length d.world.script)) (record d { course = course.Failed }) (turned files d.world.script d turn.End) (turned files d.world.script d turn.End) refl refl refl

-- over the newest frame
pub runs-calm : (d : CState) (f : Frame) (fs : List Frame) → d.frames ≡ f ∷ fs → d.course ≡ course.Goes → is_asking f.doing ≡ false → outside d ≡ false
runs-calm d f fs e k q = ap (outside_by d) k ∙ (ap none_runs e ∙ q)

doing-settled : (files : List CFile) (d : CState) (f : Frame) (fs : List Frame) (q : Doing) → d.frames ≡ f ∷ fs → f.doing ≡ q → d.course ≡ course.Goes
    → Settles files d (doing_go (stage_from files d) f.own d.world.script q)
doing-settled files d f fs (doing.Asks o r x) e q k = asks-settled files d f fs o r x e q k
doing-settled files d f fs doing.Runs e q k = calm-settled files d (runs-calm d f fs e k (ap is_asking q))
doing-settled files d f fs (doing.Waits x) e q k = calm-settled files d (runs-calm d f fs e k (ap is_asking q))

pub newest-settled : (files : List CFile) (d : CState) (caller : Option Activation) → IsBelow files caller d.frames → d.course ≡ course.Goes
    → Settles files d (newest_go (stage_from files d) caller d.world.script)
newest-settled files d None b k = idle-settled files d b k
newest-settled files d (Some g) b k = doing-settled files d (frame_view files g) b.0 g.doing b.1 refl k

-- after an effect
went_is : (c d s : CState) (m : Moved) → m ≡ Went d → m ≡ Went s → s ≡ d
went_is c d s m p q = ap (λ x. went_or x c) (sym q ∙ p)

along : (files : List CFile) (d s : CState) (g : Go) → s ≡ d → Settles files s g → Settles files d g
along files d s g e h = sym (ap (settle files) e) ∙ (h ∙ ap (λ x. turned files g.rest x g.turn) e)

-- the frame goes on
on-settled : (files : List CFile) (c d : CState) (f : Frame) (fs : List Frame) → d ≡ c → c.frames ≡ f ∷ fs → c.course ≡ course.Goes → f.doing ≡ doing.Runs
    → Settles files d (go turn.Nothing c.world.script)
on-settled files c d f fs s e k q =
    along files d c (go turn.Nothing c.world.script) (sym s) (calm-settled files c (runs-calm c f fs e k (ap is_asking q)))

failed-or : (files : List CFile) (d : CState) (failed : Bool) (k : Course) (caller : Option Activation) → k ≡ course.Goes → d.course ≡ course_after failed k → IsBelow files caller d.frames
    → Settles files d (failed_go failed (stage_from files d) caller d.world.script)
failed-or files d true k caller g e b = failed-settled files d e
failed-or files d false k caller g e b = newest-settled files d caller b (e ∙ g)

hand-settled : (files : List CFile) (c d : CState) (fs : List Frame) (x : Option Variable) (v : Value) (own : List Obj) → c.course ≡ course.Goes
    → handed c fs x v own ≡ Went d → Settles files d (go turn.Nothing c.world.script)
hand-settled files c d [] x v own k p = cc
hand-settled files c d (g ∷ gs) x v own k p =
    let s = on c (record g { doing = doing.Runs; own = own; variables = put_to g.variables x v }) gs in
    on-settled files s d (record g { doing = doing.Runs; own = own; variables = put_to g.variables x v }) gs (sym (went_is c d s (Went s) p refl)) refl k refl

pub effect-settled : (files : List CFile) (c d : CState) (f : Frame) (fs : List Frame) (caller : Option Activation) (e : Effect)
    → c.course ≡ course.Goes → f.doing ≡ doing.Runs → IsBelow files caller fs → effected files c f fs e ≡ Went d
    → Settles files d (effect_go (stage_from files c) f.own caller c.world.script e)
effect-settled files c d f fs caller (effect.Fault j) k q b p = cc
effect-settled files c d f fs caller (effect.Write x v l) k q b p =
    let s = on (lend l c) (record f { variables = put f.variables x v }) fs in
    on-settled files s d (record f { variables = put f.variables x v }) fs (sym (went_is c d s (Went s) p refl)) refl k q
effect-settled files c d f fs caller (effect.Store y v own l) k q b p =
    let s = on (store (lend l c) f.file y v) (record f { own = own }) fs in
    on-settled files s d (record f { own = own }) fs (sym (went_is c d s (Went s) p refl)) refl k q
effect-settled files c d f fs caller (effect.Ask o r x y) k q b p =
    let s = tell y (on (record c { loans = [] }) (record f { doing = doing.Asks o r x }) fs) in
    along files d s (effect_go (stage_from files c) f.own caller c.world.script (effect.Ask o r x y)) (went_is c d s (Went s) p refl)
    (asks-settled files s (record f { doing = doing.Asks o r x }) fs o r x refl refl k)
effect-settled files c d f fs caller (effect.Call a x l) k q b p =
    let s = on (lend l c) (record (frame_view files a) { doing = doing.Runs }) (record f { doing = doing.Waits x } ∷ fs) in
    on-settled files s d (record (frame_view files a) { doing = doing.Runs }) (record f { doing = doing.Waits x } ∷ fs) (sym (went_is c d s (Went s) p refl)) refl k refl
effect-settled files c d f fs caller (effect.Gain own l) k q b p =
    let s = on (lend l c) (record f { own = own }) fs in
    on-settled files s d (record f { own = own }) fs (sym (went_is c d s (Went s) p refl)) refl k q
effect-settled files c d f fs caller (effect.Lose o) k q b p =
    let s = on (record c { loans = [] }) (record f { own = lose f.own o }) fs in
    on-settled files s d (record f { own = lose f.own o }) fs (sym (went_is c d s (Went s) p refl)) refl k q
effect-settled files c d f fs caller (effect.Jump None l) k q b p =
    let s = on (lend l c) f fs in
    on-settled files s d f fs (sym (went_is c d s (Went s) p refl)) refl k q
effect-settled files c d f fs caller (effect.Jump (Some i) l) k q b p =
    let s = on (lend l c) (record f { code = drop i f.function.lines }) fs in
    on-settled files s d (record f { code = drop i f.function.lines }) fs (sym (went_is c d s (Went s) p refl)) refl k q
effect-settled files c d f fs caller (effect.Hand x v own l) k q b p = hand-settled files (lend l c) d fs x v own k p
effect-settled files c d f fs caller (effect.Leave o l) k q b p =
    let s = tell (event.Leave o) (off (lend l c) fs) in
    along files d s (effect_go (stage_from files c) f.own caller c.world.script (effect.Leave o l)) (went_is c d s (Went s) p refl)
    (newest-settled files s caller b k)
effect-settled files c d f fs caller (effect.LeaveRaise o failed l) k q b p =
    let s = tell (event.LeaveRaise o) (off (record (lend l c) { error = None; course = course_after failed c.course }) fs) in
    along files d s (effect_go (stage_from files c) f.own caller c.world.script (effect.LeaveRaise o failed l)) (went_is c d s (Went s) p refl)
    (failed-or files s failed c.course caller k refl b)
