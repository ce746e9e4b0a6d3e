-- A move only adds events at the end, and `end` or `stop` only as the last one.
use Rattle.std.proofs.Common.{◌≡◌, ◌⊎◌, inl, inr, Bool, true, false, not, ◌&&◌, List, [], ◌∷◌, ◌++◌, Option, Some, None, refl, sym, ap, ◌∙◌, subst}
use Rattle.std.proofs.lemmas.List.{append-nil}
use Rattle.thin_state.specs.declared.space.Obj.{Obj}
use Rattle.thin_state.specs.declared.space.Callee.{Callee}
use Rattle.thin_state.specs.declared.space.Entry.{Entry}
use Rattle.thin_state.specs.declared.space.Entry.TheVariants as entry
use Rattle.thin_state.specs.declared.space.Op.{Op}
use Rattle.thin_state.specs.declared.space.Answer.{Answer}
use Rattle.thin_state.specs.declared.space.Event.{Event}
use Rattle.thin_state.specs.declared.space.Event.TheVariants as event
use Rattle.thin_state.specs.declared.tree.Variable.{Variable}
use Rattle.thin_state.specs.declared.tree.Place.{Place}
use Rattle.thin_state.specs.declared.tree.FunctionName.{FunctionName}
use Rattle.thin_state.specs.declared.tree.ApiRow.{ApiRow}
use Rattle.thin_state.specs.declared.tree.CValue.{CValue}
use Rattle.thin_state.specs.declared.tree.Comparison.{Comparison}
use Rattle.thin_state.specs.declared.tree.Target.{Target}
use Rattle.thin_state.specs.declared.tree.Target.TheVariants as target
use Rattle.thin_state.specs.declared.tree.CStmt.{CStmt}
use Rattle.thin_state.specs.declared.tree.CStmt.TheVariants as stmt
use Rattle.thin_state.specs.declared.tree.Line.{Line}
use Rattle.thin_state.specs.declared.tree.Line.TheVariants as line
use Rattle.thin_state.specs.declared.tree.CFile.{CFile}
use Rattle.thin_state.specs.declared.state.FaultKind.{FaultKind}
use Rattle.thin_state.specs.declared.state.FaultKind.TheVariants as fault
use Rattle.thin_state.specs.declared.state.Value.{Value}
use Rattle.thin_state.specs.declared.state.Value.TheVariants as value
use Rattle.thin_state.specs.declared.state.Reading.{Reading}
use Rattle.thin_state.specs.declared.state.Cell.{Cell}
use Rattle.thin_state.specs.declared.state.Spot.{Spot}
use Rattle.thin_state.specs.declared.state.Entered.{Entered}
use Rattle.thin_state.specs.declared.state.Entered.TheVariants as entered
use Rattle.thin_state.specs.declared.state.Doing.{Doing}
use Rattle.thin_state.specs.declared.state.Doing.TheVariants as doing
use Rattle.thin_state.specs.declared.state.Course.{Course}
use Rattle.thin_state.specs.declared.state.Course.TheVariants as course
use Rattle.thin_state.specs.Objects.{NewResult, Gave, Raises, new_result}
use Rattle.thin_state.specs.World.{answer_in, read_in}
use Rattle.thin_state.specs.State.{converts, Frame, CState}
use Rattle.thin_state.specs.Reads.{after_label, read, lends, is_set, result_kind, Found, FoundFunction, NotFound, entered_by, initializer_from, initializer_name}
use Rattle.thin_state.specs.Statements.{Moved, Went, Over, Faulted, need, need_some, on, off, tell, script_to, lend, may_read, may_store, may_write, same_lock, assign_variable, store_value, assign_place, assign, ask, api, call_found, call, owned_more, owned_less, counted, incref, decref, branch, goto_if, to_waiting, to_caller, hand_object, hand_null, return_value, return_it, act, run_line}
use Rattle.thin_state.specs.Outside.{How, NewReference, Borrowed, SetsError, how, deliver_new, deliver_by, answered, called, await, top_called, top, begin}
use Rattle.thin_state.specs.Machine.{by_frame, by_frames, by_course, move}
use Rattle.cy_mean.specs.Sound.{Prefix}
use Rattle.cy_mean.specs.Laws.{is_last}
use Rattle.cy_mean.proofs.Same.{and_true}
use Rattle.cy_mean.proofs.Endings.{is_open, Closed}

abbrev pub GrowsBy : List Event → Course → Moved → Type 0
GrowsBy es k (Went d) =
    (more : List Event) × (d.world.events ≡ es ++ more) × (is_open more ≡ true) × ((d.course ≡ k) ⊎ (d.course ≡ course.Failed))
GrowsBy es k Over = Unit {0}
GrowsBy es k (Faulted f) = Unit {0}

-- what a statement makes stands after these events, and the run goes on or an initialisation failed; a record, so that its arguments are found
pub record Grows (es : List Event) (k : Course) (m : Moved) : Type 0 where
  pub by : GrowsBy es k m

stays : (es : List Event) (k : Course) (d : CState) → es ≡ d.world.events → d.course ≡ k → Grows es k (Went d)
stays es k d e g = record { by = ([], sym (append-nil es ∙ e), refl, inl g) }

says : (es : List Event) (k : Course) (d : CState) (e : Event) → d.world.events ≡ es ++ e ∷ [] → is_last e ≡ false → d.course ≡ k → Grows es k (Went d)
says es k d e h l g = record { by = (e ∷ [], h, and_true (not (is_last e)) true (ap not l) refl, inl g) }

fails : (es : List Event) (k : Course) (f : FaultKind) → Grows es k (Faulted f)
fails es k f = record { by = tt }

need_grows : (es : List Event) (k : Course) (t : Bool) (f : FaultKind) (m : Moved) → Grows es k m → Grows es k (need t f m)
need_grows es k true f m h = h
need_grows es k false f m h = fails es k f

some_grows : {A : Type 0} (es : List Event) (k : Course) (o : Option A) (f : FaultKind) (m : A → Moved) → ((x : A) → Grows es k (m x)) → Grows es k (need_some o f m)
some_grows es k None f m h = fails es k f
some_grows es k (Some x) f m h = h x

ruleset grow_rules = (need_grows, some_grows, fails, stays)

store_grows : (c : CState) (f : Frame) (fs : List Frame) (p : Place) (old v : Value) → Grows c.world.events c.course (store_value c f fs p old v)
store_grows c f fs p old (value.Object o) = search grow_rules depth 20
store_grows c f fs p old v = stays c.world.events c.course _ refl refl

variable_grows : (c : CState) (f : Frame) (fs : List Frame) (x : Variable) (k : CValue) (v : Reading) (cell : Cell) → Grows c.world.events c.course (assign_variable c f fs x k v cell)
variable_grows c f fs x k v cell = search grow_rules depth 20

place_grows : (c : CState) (f : Frame) (fs : List Frame) (p : Place) (k : CValue) (v : Reading) (s : Spot) → Grows c.world.events c.course (assign_place c f fs p k v s)
place_grows c f fs p k v s =
    let h : Grows c.world.events c.course (store_value (lend (lends k v) c) f fs p s.value v.value) = store_grows (lend (lends k v) c) f fs p s.value v.value in
    let es = c.world.events in
    need_grows es c.course (converts v.kind s.kind) fault.Stuck _
    (need_grows es c.course (may_store s) fault.Stuck _
    (need_grows es c.course (is_set v.value) fault.Undefined _ (need_grows es c.course (may_read c k v && may_write c s) fault.Unlocked _ h)))

assign_grows : (c : CState) (f : Frame) (fs : List Frame) (t : Target) (k : CValue) (v : Reading) → Grows c.world.events c.course (assign c f fs t k v)
assign_grows c f fs (target.Variable x) k v = some_grows _ _ _ _ _ (variable_grows c f fs x k v)
assign_grows c f fs (target.Place p) k v = some_grows _ _ _ _ _ (place_grows c f fs p k v)

asked_grows : (c : CState) (f : Frame) (fs : List Frame) (x : Option Variable) (r : ApiRow) (o : Op) → Grows c.world.events c.course (Went (tell (event.Ask o) (on (record c { loans = [] }) (record f { doing = doing.Asks o r x }) fs)))
asked_grows c f fs x r o = says c.world.events c.course _ (event.Ask o) refl refl refl

ask_grows : (c : CState) (f : Frame) (fs : List Frame) (x : Option Variable) (r : ApiRow) (vs : List Reading) (o : Op) → Grows c.world.events c.course (ask c f fs x r vs o)
ask_grows c f fs x r vs o = search (need_grows, asked_grows) depth 20

api_grows : (c : CState) (f : Frame) (fs : List Frame) (x : Option Variable) (r : ApiRow) (vs : List Reading) → Grows c.world.events c.course (api c f fs x r vs)
api_grows c f fs x r vs = search (grow_rules, ask_grows) depth 20

found_grows : (c : CState) (f : Frame) (fs : List Frame) (x : Option Variable) (ks : List CValue) (vs : List Reading) (found : Found) → Grows c.world.events c.course (call_found c f fs x ks vs found)
found_grows c f fs x ks vs NotFound = fails _ _ _
found_grows c f fs x ks vs (FoundFunction k fn) = search grow_rules depth 20

call_grows : (files : List CFile) (c : CState) (f : Frame) (fs : List Frame) (x : Option Variable) (n : FunctionName) (ks : List CValue) (vs : List Reading) → Grows c.world.events c.course (call files c f fs x n ks vs)
call_grows files c f fs x n ks vs = found_grows c f fs x ks vs _

more_grows : (c : CState) (f : Frame) (fs : List Frame) (v : Value) → Grows c.world.events c.course (owned_more c f fs v)
more_grows c f fs (value.Object o) = search grow_rules depth 20
more_grows c f fs v = fails _ _ _

less_grows : (c : CState) (f : Frame) (fs : List Frame) (v : Value) → Grows c.world.events c.course (owned_less c f fs v)
less_grows c f fs (value.Object o) = search grow_rules depth 20
less_grows c f fs v = fails _ _ _

counted_grows : (es : List Event) (k : Course) (c : CState) (v : Reading) (m : Moved) → Grows es k m → Grows es k (counted c v m)
counted_grows es k c v m h = search grow_rules depth 20

incref_grows : (c : CState) (f : Frame) (fs : List Frame) (k : CValue) (v : Reading) → Grows c.world.events c.course (incref c f fs k v)
incref_grows c f fs k v = counted_grows _ _ c v _ (more_grows (lend _ c) f fs v.value)

decref_grows : (c : CState) (f : Frame) (fs : List Frame) (v : Reading) → Grows c.world.events c.course (decref c f fs v)
decref_grows c f fs v = counted_grows _ _ c v _ (less_grows c f fs v.value)

branch_grows : (c : CState) (f : Frame) (fs : List Frame) (ls : List Line) (q : Bool) → Grows c.world.events c.course (branch c f fs ls q)
branch_grows c f fs ls true = stays c.world.events c.course _ refl refl
branch_grows c f fs ls false = stays c.world.events c.course _ refl refl

goto_grows : (c : CState) (f : Frame) (fs : List Frame) (a : CValue) (v : Reading) (r : Comparison) (b : CValue) (w : Reading) (ls : List Line) → Grows c.world.events c.course (goto_if c f fs a v r b w ls)
goto_grows c f fs a v r b w ls =
    let h : (q : Bool) → Grows c.world.events c.course (branch (lend (lends b w) (lend (lends a v) c)) f fs ls q) = branch_grows (lend (lends b w) (lend (lends a v) c)) f fs ls in
    search (need_grows, h) depth 20

waiting_grows : (c : CState) (g : Frame) (gs : List Frame) (v : Value) (refs : List Obj) (d : Doing) → Grows c.world.events c.course (to_waiting c g gs v refs d)
waiting_grows c g gs v refs (doing.Waits x) = stays c.world.events c.course _ refl refl
waiting_grows c g gs v refs d = fails _ _ _

caller_grows : (c : CState) (fs : List Frame) (v : Value) (refs : List Obj) → Grows c.world.events c.course (to_caller c fs v refs)
caller_grows c [] v refs = fails _ _ _
caller_grows c (g ∷ gs) v refs = waiting_grows c g gs v refs g.doing

object_grows : (c : CState) (by : Entered) (fs : List Frame) (o : Obj) → Grows c.world.events c.course (hand_object c by fs o)
object_grows c entered.FromC fs o = caller_grows c fs (value.Object o) (o ∷ [])
object_grows c entered.FromOutside fs o = says _ _ _ (event.Leave o) refl refl refl
object_grows c entered.ForInitialisation fs o = says _ _ _ (event.Leave o) refl refl refl

null_grows : (c : CState) (by : Entered) (fs : List Frame) (e : Obj) → Grows c.world.events c.course (hand_null c by fs e)
null_grows c entered.FromC fs e = caller_grows c fs value.Null []
null_grows c entered.FromOutside fs e = says _ _ _ (event.LeaveRaise e) refl refl refl
null_grows c entered.ForInitialisation fs e = record { by = (event.LeaveRaise e ∷ [], refl, refl, inr refl) }

value_grows : (c : CState) (f : Frame) (fs : List Frame) (v : Value) → Grows c.world.events c.course (return_value c f fs v)
value_grows c f fs (value.Object o) = search (grow_rules, object_grows) depth 20
value_grows c f fs value.Null = search (grow_rules, null_grows) depth 20
value_grows c f fs v = search (grow_rules, caller_grows) depth 20

return_grows : (c : CState) (f : Frame) (fs : List Frame) (k : CValue) (v : Reading) → Grows c.world.events c.course (return_it c f fs k v)
return_grows c f fs k v =
    let h : Grows c.world.events c.course (return_value (lend (lends k v) c) f fs v.value) = value_grows (lend (lends k v) c) f fs v.value in
    let es = c.world.events in
    need_grows es c.course (converts v.kind (result_kind f.function.head)) fault.Stuck _
    (need_grows es c.course (is_set v.value) fault.Undefined _
    (need_grows es c.course (may_read c k v && same_lock c.lock f.lock) fault.Unlocked _ h))

act_grows : (files : List CFile) (c : CState) (f : Frame) (fs : List Frame) (s : CStmt) → Grows c.world.events c.course (act files c f fs s)
act_grows files c f fs (stmt.Assign t k) = some_grows _ _ _ _ _ (assign_grows c f fs t k)
act_grows files c f fs (stmt.Api x r ks) = some_grows _ _ _ _ _ (api_grows c f fs x r)
act_grows files c f fs (stmt.Call x n ks) = some_grows _ _ _ _ _ (call_grows files c f fs x n ks)
act_grows files c f fs (stmt.Incref k) = some_grows _ _ _ _ _ (incref_grows c f fs k)
act_grows files c f fs (stmt.Decref k) = some_grows _ _ _ _ _ (decref_grows c f fs)
act_grows files c f fs (stmt.GotoIf a r b l) =
    some_grows c.world.events c.course (read files c f a) fault.Stuck _
    (λ v. some_grows c.world.events c.course (read files c f b) fault.Stuck _
    (λ w. some_grows c.world.events c.course (after_label f.function.lines l) fault.Stuck _ (goto_grows c f fs a v r b w)))
act_grows files c f fs (stmt.Goto l) = search grow_rules depth 20
act_grows files c f fs (stmt.Return k) = some_grows _ _ _ _ _ (return_grows c f fs k)

line_grows : (files : List CFile) (c : CState) (f : Frame) (fs : List Frame) (ls : List Line) → Grows c.world.events c.course (run_line files c f fs ls)
line_grows files c f fs [] = fails _ _ _
line_grows files c f fs (line.Label l ∷ ls) = line_grows files c f fs ls
line_grows files c f fs (line.Statement s ∷ ls) = act_grows files c (record f { code = ls }) fs s

-- how the events end that a move adds, by where it leads
abbrev pub Ending : List Event → Course → Type 0
Ending more course.Goes = is_open more ≡ true
Ending more course.Failed = is_open more ≡ true
Ending more course.Ended = Closed more
Ending more course.Stopped = Closed more

abbrev pub After : CState → CState → Type 0
After c d = (more : List Event) × (d.world.events ≡ c.world.events ++ more) × Ending more d.course

opens : (c d : CState) (more : List Event) → d.world.events ≡ c.world.events ++ more → is_open more ≡ true → d.course ≡ course.Goes → After c d
opens c d more e o g = (more, e, subst (λ q. Ending more q) (sym g) o)

silent : (c d : CState) → c.world.events ≡ d.world.events → d.course ≡ course.Goes → After c d
silent c d e g = opens c d [] (sym (append-nil c.world.events ∙ e)) refl g

closes : (c d : CState) (e : Event) → d.world.events ≡ c.world.events ++ e ∷ [] → Ending (e ∷ []) d.course → After c d
closes c d e h x = (e ∷ [], h, x)

alone : (e : Event) → Closed (e ∷ [])
alone e = record { front = []; last = e; is = refl; opened = refl }

new_grows : (c b : CState) (f : Frame) (fs : List Frame) (r : NewResult) (x : Option Variable) → After c b → After c (deliver_new r x b f fs)
new_grows c b f fs (Gave o) x h = h
new_grows c b f fs (Raises e) x h = h

deliver_grows : (c b : CState) (f : Frame) (fs : List Frame) (h : How) (x : Option Variable) (a : Answer) → After c b → After c (deliver_by h x a b f fs)
deliver_grows c b f fs NewReference x a h = new_grows c b f fs (new_result a) x h
deliver_grows c b f fs Borrowed x a h = h
deliver_grows c b f fs SetsError x a h = h

answered_grows : (c : CState) (f : Frame) (fs : List Frame) (o : Op) (r : ApiRow) (x : Option Variable) (e : Entry) → c.course ≡ course.Goes → After c (answered c f fs o r x e)
answered_grows c f fs o r x e g =
    let told = tell (event.Answer (answer_in c.world o e)) c in
    deliver_grows c told f fs (how r) x (answer_in c.world o e) (opens c told (event.Answer (answer_in c.world o e) ∷ []) refl refl g)

called_grows : (c : CState) (f : Frame) (fs : List Frame) (o : Op) (r : ApiRow) (x : Option Variable) (callee : Callee) (args : List Obj) (found : Found) → c.course ≡ course.Goes → After c (called c f fs o r x callee args found)
called_grows c f fs o r x callee args (FoundFunction k fn) g =
    opens c (called c f fs o r x callee args (FoundFunction k fn)) (event.Enter callee (read_in c.world args) ∷ []) refl refl g
called_grows c f fs o r x callee args NotFound g = answered_grows c f fs o r x (entry.Enter callee args) g

await_grows : (files : List CFile) (c : CState) (f : Frame) (fs : List Frame) (o : Op) (r : ApiRow) (x : Option Variable) (es : List Entry) → c.course ≡ course.Goes → After c (await files c f fs o r x es)
await_grows files c f fs o r x [] g = closes c (await files c f fs o r x []) event.Stop refl (alone event.Stop)
await_grows files c f fs o r x (entry.Die k ∷ es) g = silent c (script_to es (on c f fs)) refl g
await_grows files c f fs o r x (entry.Enter callee args ∷ es) g =
    called_grows (script_to es c) f fs o r x callee args (entered_by files c.places callee) g
await_grows files c f fs o r x (e ∷ es) g = answered_grows (script_to es c) f fs o r x e g

top_called_grows : (c : CState) (callee : Callee) (args : List Obj) (found : Found) → c.course ≡ course.Goes → After c (top_called c callee args found)
top_called_grows c callee args (FoundFunction k fn) g =
    opens c (top_called c callee args (FoundFunction k fn)) (event.Enter callee (read_in c.world args) ∷ []) refl refl g
top_called_grows c callee args NotFound g = silent c c refl g

top_grows : (files : List CFile) (c : CState) (es : List Entry) → c.course ≡ course.Goes → After c (top files c es)
top_grows files c [] g = closes c (top files c []) event.End refl (alone event.End)
top_grows files c (entry.Enter callee args ∷ es) g =
    top_called_grows (script_to es c) callee args (entered_by files c.places callee) g
top_grows files c (e ∷ es) g = silent c (script_to es c) refl g

begin_grows : (files : List CFile) (c : CState) (found : Found) → c.course ≡ course.Goes → After c (begin files c found)
begin_grows files c (FoundFunction k fn) g =
    opens c (begin files c (FoundFunction k fn)) (event.Init (initializer_name fn.head) ∷ []) refl refl g
begin_grows files c NotFound g = top_grows files c c.world.script g

abbrev pub AfterMove : CState → Moved → Type 0
AfterMove c (Went d) = After c d
AfterMove c Over = Unit {0}
AfterMove c (Faulted f) = Unit {0}

by_statement : (c : CState) (m : Moved) → c.course ≡ course.Goes → GrowsBy c.world.events c.course m → AfterMove c m
by_statement c (Went d) g h = by_course_of h.3
  where
    by_course_of : ((d.course ≡ c.course) ⊎ (d.course ≡ course.Failed)) → After c d
    by_course_of (inl k) = opens c d h.0 h.1 h.2 (k ∙ g)
    by_course_of (inr k) = (h.0, h.1, subst (λ q. Ending h.0 q) (sym k) h.2)
by_statement c Over g h = tt
by_statement c (Faulted f) g h = tt

frame_grows : (files : List CFile) (c : CState) (f : Frame) (fs : List Frame) (d : Doing) → c.course ≡ course.Goes → AfterMove c (by_frame files c f fs d)
frame_grows files c f fs doing.Runs g =
    by_statement c (by_frame files c f fs doing.Runs) g (line_grows files c f fs f.code).by
frame_grows files c f fs (doing.Asks o r x) g = await_grows files c f fs o r x c.world.script g
frame_grows files c f fs (doing.Waits x) g = tt

-- a move counts no frames
framed : (c : CState) (fs : List Frame) (m : Moved) → AfterMove (off c fs) m → AfterMove c m
framed c fs (Went d) h = h
framed c fs Over h = tt
framed c fs (Faulted f) h = tt

frames_grow : (files : List CFile) (c : CState) (fs : List Frame) → c.course ≡ course.Goes → AfterMove c (by_frames files c fs)
frames_grow files c [] g = begin_grows files c (initializer_from c.begun files) g
frames_grow files c (f ∷ fs) g =
    framed c fs (by_frame files (off c fs) f fs f.doing) (frame_grows files (off c fs) f fs f.doing g)

course_grows : (files : List CFile) (c : CState) (k : Course) → c.course ≡ k → AfterMove c (by_course files c k)
course_grows files c course.Goes g = frames_grow files c c.frames g
course_grows files c course.Failed g =
    closes c (tell event.End (record c { course = course.Ended })) event.End refl (alone event.End)
course_grows files c course.Ended g = tt
course_grows files c course.Stopped g = tt

pub move_ends : (files : List CFile) (c : CState) → AfterMove c (move files c)
move_ends files c = course_grows files c c.course refl

-- the events after a move go on where those before it end
pub move_grows : (files : List CFile) (c d : CState) → move files c ≡ Went d → Prefix c.world.events d.world.events
move_grows files c d e =
    let h : AfterMove c (Went d) = subst (λ (m : Moved). AfterMove c m) e (move_ends files c) in
    (h.0, h.1)
