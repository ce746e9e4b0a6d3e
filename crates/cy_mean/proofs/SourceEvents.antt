-- The meaning only adds events at the end, and `end` or `stop` only as the last one.
use Rattle.std.proofs.Common.{◌≡◌, ℕ, zero, suc, Bool, true, false, not, ◌&&◌, List, [], ◌∷◌, ◌++◌, length, Option, Some, None, refl, sym, ap, ◌∙◌, subst, append_assoc}
use Rattle.std.specs.Prelude.{nat_eq, if◌then◌else◌, codes}
use Rattle.std.proofs.lemmas.List.{append-nil}
use Rattle.c_token.specs.declared.exception.Exception.{Exception}
use Rattle.c_token.specs.declared.exception.Exception.TheVariants as exception
use Rattle.thin_state.specs.declared.space.Obj.{Obj}
use Rattle.thin_state.specs.declared.space.Obj.TheVariants as obj
use Rattle.thin_state.specs.declared.space.Callee.{Callee}
use Rattle.thin_state.specs.declared.space.Entry.{Entry}
use Rattle.thin_state.specs.declared.space.Entry.TheVariants as entry
use Rattle.thin_state.specs.declared.space.Op.{Op}
use Rattle.thin_state.specs.declared.space.Op.TheVariants as op
use Rattle.thin_state.specs.declared.space.Answer.{Answer}
use Rattle.thin_state.specs.declared.space.Event.{Event}
use Rattle.thin_state.specs.declared.space.Event.TheVariants as event
use Rattle.thin_state.specs.Objects.{NewResult, Gave, Raises, new_result}
use Rattle.thin_state.specs.World.{answer_in}
use Rattle.cy_mean.specs.Texts.{arity_text}
use Rattle.cy_mean.specs.Source.{Expression, Named, Binary, Statement, Return, Function, Module, Sources}
use Rattle.cy_mean.specs.Meaning.{SourceState, tell, script_to, add_ready, Outcome, Value, Raised, Stopped, Out, then_do, either_do, unit_then, Awaiter, ask, give, give_new, give_sure, raise_it, operate, operate_sure, raising, Local, local_of, bind_all, local_value, eval, Exit, Normal, Returns, returning, exec, after_statement, suite, results, call_of, Back, leaves, leaves_raise, leave, enter, Next, Nothing, Calls, Gives, called_by, calls_or_gives, next_inside, by_next, await_within, calls_or_skips, next_top, by_next_top, top_within, with_builtins, with_import, with_dictionary, with_module, initialise, initialised, not_initialised, after_initialise, initialise_all, first_state, state_of, run_within}
use Rattle.cy_mean.specs.Laws.{is_last, EndsOnce, SourceEventsEndOnce}
use Rattle.cy_mean.proofs.Quiet.{IsQuiet, enter_quiet}
use Rattle.cy_mean.proofs.Endings.{is_open, open-append, Closed, closed-append, open-ends_once, closed-ends_once}

-- the second state has more events, none of them `end` or `stop`
abbrev pub Opens : SourceState → SourceState → Type 0
Opens s t = (more : List Event) × (t.world.events ≡ s.world.events ++ more) × (is_open more ≡ true)

-- the second state has more events, of which the last one ends the run
abbrev pub Closes : SourceState → SourceState → Type 0
Closes s t = (more : List Event) × (t.world.events ≡ s.world.events ++ more) × Closed more

-- a part of a run goes on from the state, and stops nowhere but at its end
abbrev pub GoesOn : {A : Type 0} → SourceState → Outcome A → Type 0
GoesOn s (Value v t b) = Opens s t
GoesOn s (Raised e t b) = Opens s t
GoesOn s (Stopped t) = Closes s t
GoesOn s (Out t) = Opens s t

-- a run goes on from the state to its end
abbrev pub GoesToEnd : {A : Type 0} → SourceState → Outcome A → Type 0
GoesToEnd s (Value v t b) = Closes s t
GoesToEnd s (Raised e t b) = ⊥
GoesToEnd s (Stopped t) = Closes s t
GoesToEnd s (Out t) = Opens s t

pub no_more : (s t : SourceState) → s.world.events ≡ t.world.events → Opens s t
no_more s t e = ([], sym (append-nil s.world.events ∙ e), refl)

pub one_open : (s : SourceState) (e : Event) → is_last e ≡ false → Opens s (tell e s)
one_open s e l = (e ∷ [], refl, ap (λ q. not q && true) l)

one_last : (s : SourceState) (e : Event) → Closes s (tell e s)
one_last s e = (e ∷ [], refl, record { front = []; last = e; is = refl; opened = refl })

pub opens_on : (s t u : SourceState) → Opens s t → Opens t u → Opens s u
opens_on s t u p q =
    (p.0 ++ q.0, q.1 ∙ ap (λ l. l ++ q.0) p.1 ∙ append_assoc s.world.events p.0 q.0, open-append p.0 q.0 p.2 q.2)

closes_on : (s t u : SourceState) → Opens s t → Closes t u → Closes s u
closes_on s t u p q =
    (p.0 ++ q.0, q.1 ∙ ap (λ l. l ++ q.0) p.1 ∙ append_assoc s.world.events p.0 q.0, closed-append p.0 q.0 p.2 q.2)

pub goes_after : {A : Type 0} (s t : SourceState) (r : Outcome A) → Opens s t → GoesOn t r → GoesOn s r
goes_after s t (Value v u b) p q = opens_on s t u p q
goes_after s t (Raised e u b) p q = opens_on s t u p q
goes_after s t (Stopped u) p q = closes_on s t u p q
goes_after s t (Out u) p q = opens_on s t u p q

ends_after : {A : Type 0} (s t : SourceState) (r : Outcome A) → Opens s t → GoesToEnd t r → GoesToEnd s r
ends_after s t (Value v u b) p q = closes_on s t u p q
ends_after s t (Raised e u b) p q = q
ends_after s t (Stopped u) p q = closes_on s t u p q
ends_after s t (Out u) p q = opens_on s t u p q

pub then_goes : {A B : Type 0} (s : SourceState) (r : Outcome A) (k : A → SourceState → ℕ → Outcome B) → GoesOn s r → ((v : A) (t : SourceState) (b : ℕ) → GoesOn t (k v t b)) → GoesOn s (then_do r k)
then_goes s (Value v t b) k h f = goes_after s t (k v t b) h (f v t b)
then_goes s (Raised e t b) k h f = h
then_goes s (Stopped t) k h f = h
then_goes s (Out t) k h f = h

pub either_goes : {A B : Type 0} (s : SourceState) (r : Outcome A) (k : A → SourceState → ℕ → Outcome B) (g : Obj → SourceState → ℕ → Outcome B) → GoesOn s r → ((v : A) (t : SourceState) (b : ℕ) → GoesOn t (k v t b)) → ((e : Obj) (t : SourceState) (b : ℕ) → GoesOn t (g e t b)) → GoesOn s (either_do r k g)
either_goes s (Value v t b) k g h f x = goes_after s t (k v t b) h (f v t b)
either_goes s (Raised e t b) k g h f x = goes_after s t (g e t b) h (x e t b)
either_goes s (Stopped t) k g h f x = h
either_goes s (Out t) k g h f x = h

pub then_ends : {A B : Type 0} (s : SourceState) (r : Outcome A) (k : A → SourceState → ℕ → Outcome B) → GoesOn s r → ((v : A) (t : SourceState) (b : ℕ) → GoesToEnd t (k v t b)) → IsQuiet r → GoesToEnd s (then_do r k)
then_ends s (Value v t b) k h f q = ends_after s t (k v t b) h (f v t b)
then_ends s (Raised e t b) k h f q = absurd q
then_ends s (Stopped t) k h f q = h
then_ends s (Out t) k h f q = h

pub either_ends : {A B : Type 0} (s : SourceState) (r : Outcome A) (k : A → SourceState → ℕ → Outcome B) (g : Obj → SourceState → ℕ → Outcome B) → GoesOn s r → ((v : A) (t : SourceState) (b : ℕ) → GoesToEnd t (k v t b)) → ((e : Obj) (t : SourceState) (b : ℕ) → GoesToEnd t (g e t b)) → GoesToEnd s (either_do r k g)
either_ends s (Value v t b) k g h f x = ends_after s t (k v t b) h (f v t b)
either_ends s (Raised e t b) k g h f x = ends_after s t (g e t b) h (x e t b)
either_ends s (Stopped t) k g h f x = h
either_ends s (Out t) k g h f x = h

pub unit_goes : {A : Type 0} (s : SourceState) (b : ℕ) (k : ℕ → Outcome A) → ((b1 : ℕ) → GoesOn s (k b1)) → GoesOn s (unit_then b s k)
unit_goes s zero k f = no_more s s refl
unit_goes s (suc b) k f = f b

abbrev pub AwaitGoes : Awaiter → Type 0
AwaitGoes await = (o : Op) (s : SourceState) (b : ℕ) → GoesOn s (await o s b)

module _ (await : Awaiter) (goes : AwaitGoes await) where
  pub ask_goes : (o : Op) (s : SourceState) (b : ℕ) → GoesOn s (ask await o s b)
  ask_goes o s b =
      goes_after s (tell (event.Ask o) s) (ask await o s b) (one_open s (event.Ask o) refl) (goes o (tell (event.Ask o) s) b)

  give_goes : (a : NewResult) (s : SourceState) (b : ℕ) → GoesOn s (give a s b)
  give_goes (Gave x) s b = no_more s s refl
  give_goes (Raises e) s b = no_more s s refl

  pub operate_goes : (o : Op) (s : SourceState) (b : ℕ) → GoesOn s (operate await o s b)
  operate_goes o s b =
      then_goes s (ask await o s b) give_new (ask_goes o s b) (λ a t b2. give_goes (new_result a) t b2)

  pub sure_goes : (o : Op) (s : SourceState) (b : ℕ) → GoesOn s (operate_sure await o s b)
  sure_goes o s b = then_goes s (ask await o s b) give_sure (ask_goes o s b) (λ a t b2. no_more t t refl)

  pub raising_goes : (type : Exception) (text : List ℕ) (s : SourceState) (b : ℕ) → GoesOn s (raising {A = Obj} await type text s b)
  raising_goes type text s b =
      then_goes {B = Obj} s (ask await (op.Fail (obj.ExceptionType type) text) s b) raise_it (ask_goes (op.Fail (obj.ExceptionType type) text) s b) (λ a t b2. no_more t t refl)

  pub local_goes : (x : List ℕ) (found : Option Obj) (s : SourceState) (b : ℕ) → GoesOn s (local_value await x found s b)
  local_goes x (Some o) s b = no_more s s refl
  local_goes x None s b = raising_goes exception.UnboundLocalError x s b

  pub eval_goes : (locals : List Local) (e : Expression) (s : SourceState) (b : ℕ) → GoesOn s (eval await locals e s b)
  eval_goes locals (Named x) s b =
      unit_goes s b (λ b1. local_value await x (local_of locals x) s b1) (λ b1. local_goes x (local_of locals x) s b1)
  eval_goes locals (Binary o left right) s b =
      unit_goes s b (λ b1. then_do (eval await locals left s b1) (λ x s2 b2. then_do (eval await locals right s2 b2) (λ y s3 b3. operate await (op.Binary o x y) s3 b3)))
      (λ b1. then_goes s (eval await locals left s b1) (λ x s2 b2. then_do (eval await locals right s2 b2) (λ y s3 b3. operate await (op.Binary o x y) s3 b3)) (eval_goes locals left s b1)
      (λ x s2 b2. then_goes s2 (eval await locals right s2 b2) (λ y s3 b3. operate await (op.Binary o x y) s3 b3) (eval_goes locals right s2 b2)
      (λ y s3 b3. operate_goes (op.Binary o x y) s3 b3)))

  pub exec_goes : (locals : List Local) (t : Statement) (s : SourceState) (b : ℕ) → GoesOn s (exec await locals t s b)
  exec_goes locals (Return e) s b =
      unit_goes s b (λ b1. then_do (eval await locals e s b1) returning)
      (λ b1. then_goes s (eval await locals e s b1) returning (eval_goes locals e s b1) (λ v t b2. no_more t t refl))

  pub suite_goes : (locals : List Local) (ts : List Statement) (s : SourceState) (b : ℕ) → GoesOn s (suite await locals ts s b)
  suite_goes locals [] s b = no_more s s refl
  suite_goes locals (t ∷ ts) s b =
      then_goes s (exec await locals t s b) (after_statement (λ s1 b1. suite await locals ts s1 b1)) (exec_goes locals t s b)
      (λ x s1 b1. exit_goes x s1 b1 (suite_goes locals ts s1 b1))
    where
      exit_goes : (x : Exit) (s1 : SourceState) (b1 : ℕ) → GoesOn s1 (suite await locals ts s1 b1) → GoesOn s1 (after_statement (λ s2 b2. suite await locals ts s2 b2) x s1 b1)
      exit_goes Normal s1 b1 h = h
      exit_goes (Returns v) s1 b1 h = no_more s1 s1 refl

  pub call_goes : (f : Function) (args : List Obj) (s : SourceState) (b : ℕ) → GoesOn s (call_of await f args s b)
  call_goes f args s b = by_count (nat_eq (length args) (length f.parameters))
    where
      by_count : (q : Bool) → GoesOn s (if q then then_do (suite await (bind_all f.parameters args) f.body s b) results else raising await exception.TypeError (arity_text f.name (length f.parameters)) s b)
      by_count true =
          then_goes s (suite await (bind_all f.parameters args) f.body s b) results (suite_goes (bind_all f.parameters args) f.body s b) (λ x t b2. no_more t t refl)
      by_count false = raising_goes exception.TypeError (arity_text f.name (length f.parameters)) s b

  pub leave_goes : (s : SourceState) (r : Outcome Obj) → GoesOn s r → GoesOn s (leave r)
  leave_goes s r h =
      either_goes s r leaves leaves_raise h (λ v t b. one_open t (event.Leave v) refl) (λ e t b. one_open t (event.LeaveRaise e) refl)

  pub enter_goes : (callee : Callee) (f : Function) (args : List Obj) (s : SourceState) (b : ℕ) → GoesOn s (enter await callee f args s b)
  enter_goes callee f args s b =
      let s1 = tell (event.Enter callee args) s in
      unit_goes s b (λ b1. leave (call_of await f args s1 b1))
      (λ b1. goes_after s s1 (leave (call_of await f args s1 b1)) (one_open s (event.Enter callee args) refl) (leave_goes s1 (call_of await f args s1 b1) (call_goes f args s1 b1)))

  pub initialise_goes : (m : Module) (s : SourceState) (b : ℕ) → GoesOn s (initialise await m s b)
  initialise_goes m s b =
      then_goes s (operate await (op.Module m.name) s b) (with_module await) (operate_goes (op.Module m.name) s b)
      (λ o s1 b1. then_goes s1 (operate_sure await (op.Dict o) s1 b1) (with_dictionary await o) (sure_goes (op.Dict o) s1 b1)
      (λ d s2 b2. then_goes s2 (operate await (op.Import (codes "builtins")) s2 b2) (with_import await o d) (operate_goes (op.Import (codes "builtins")) s2 b2)
      (λ i s3 b3. then_goes s3 (operate_sure await (op.Dict i) s3 b3) (with_builtins o d) (sure_goes (op.Dict i) s3 b3)
      (λ c s4 b4. no_more s4 s4 refl))))

-- what comes next was only taken from the script
abbrev pub IsTaken : SourceState → Next → Type 0
IsTaken s Nothing = Unit {0}
IsTaken s (Calls callee f args t) = s.world.events ≡ t.world.events
IsTaken s (Gives e t) = s.world.events ≡ t.world.events

-- at top level nothing is an answer
abbrev pub IsTop : Next → Type 0
IsTop Nothing = Unit {0}
IsTop (Calls callee f args t) = Unit {0}
IsTop (Gives e t) = ⊥

-- a run that ends with an initialisation that raised
pub failed_ends : (e : Obj) (t : SourceState) (b : ℕ) → GoesToEnd t (not_initialised e t b)
failed_ends e t b =
    (event.LeaveRaise e ∷ event.End ∷ [], append_assoc t.world.events (event.LeaveRaise e ∷ []) (event.End ∷ []), record { front = event.LeaveRaise e ∷ []; last = event.End; is = refl; opened = refl })

module _ (set : Sources) where
  or_gives_taken : (f : Option Function) (callee : Callee) (args : List Obj) (s : SourceState) → IsTaken s (calls_or_gives f callee args s)
  or_gives_taken (Some f) callee args s = refl
  or_gives_taken None callee args s = refl

  pub inside_taken : (es : List Entry) (s : SourceState) → IsTaken s (next_inside set es s)
  inside_taken [] s = tt
  inside_taken (entry.Die k ∷ es) s = inside_taken es s
  inside_taken (entry.Enter callee args ∷ es) s =
      or_gives_taken (called_by set s.ready callee) callee args (script_to es s)
  inside_taken (e ∷ es) s = refl

  or_skips_taken : (f : Option Function) (callee : Callee) (args : List Obj) (s t : SourceState) (rest : Next) → s.world.events ≡ t.world.events → IsTaken s rest → IsTaken s (calls_or_skips f callee args t rest)
  or_skips_taken (Some f) callee args s t rest e h = e
  or_skips_taken None callee args s t rest e h = h

  pub top_taken : (es : List Entry) (s : SourceState) → IsTaken s (next_top set es s)
  top_taken [] s = tt
  top_taken (entry.Enter callee args ∷ es) s =
      or_skips_taken (called_by set s.ready callee) callee args s (script_to es s) (next_top set es s) refl (top_taken es s)
  top_taken (e ∷ es) s = top_taken es s

  or_skips_is : (f : Option Function) (callee : Callee) (args : List Obj) (t : SourceState) (rest : Next) → IsTop rest → IsTop (calls_or_skips f callee args t rest)
  or_skips_is (Some f) callee args t rest h = tt
  or_skips_is None callee args t rest h = h

  pub top_is : (es : List Entry) (s : SourceState) → IsTop (next_top set es s)
  top_is [] s = tt
  top_is (entry.Enter callee args ∷ es) s =
      or_skips_is (called_by set s.ready callee) callee args (script_to es s) (next_top set es s) (top_is es s)
  top_is (e ∷ es) s = top_is es s

  by_next_goes : (next : Next) (o : Op) (s : SourceState) (b : ℕ) (go : Callee → Function → List Obj → SourceState → Outcome Answer) → IsTaken s next → ((callee : Callee) (f : Function) (args : List Obj) (t : SourceState) → GoesOn t (go callee f args t)) → GoesOn s (by_next next o s b go)
  by_next_goes Nothing o s b go h f = one_last s event.Stop
  by_next_goes (Calls callee g args t) o s b go h f = goes_after s t (go callee g args t) (no_more s t h) (f callee g args t)
  by_next_goes (Gives e t) o s b go h f =
      opens_on s t (tell (event.Answer (answer_in t.world o e)) t) (no_more s t h) (one_open t (event.Answer (answer_in t.world o e)) refl)

  pub await_goes : (n : ℕ) → AwaitGoes (await_within set n)
  await_goes zero o s b =
      by_next_goes (next_inside set s.world.script s) o s b (λ callee f args t. Out t) (inside_taken s.world.script s) (λ callee f args t. no_more t t refl)
  await_goes (suc n) o s b =
      by_next_goes (next_inside set s.world.script s) o s b (λ callee f args t. then_do (enter (await_within set n) callee f args t b) (λ g s2 b2. await_within set n o s2 b2)) (inside_taken s.world.script s)
      (λ callee f args t. then_goes t (enter (await_within set n) callee f args t b) (λ g s2 b2. await_within set n o s2 b2) (enter_goes (await_within set n) (await_goes n) callee f args t b) (λ g s2 b2. await_goes n o s2 b2))

  by_next_ends : (next : Next) (s : SourceState) (b : ℕ) (go : Callee → Function → List Obj → SourceState → Outcome Back) → IsTaken s next → IsTop next → ((callee : Callee) (f : Function) (args : List Obj) (t : SourceState) → GoesToEnd t (go callee f args t)) → GoesToEnd s (by_next_top next s b go)
  by_next_ends Nothing s b go h top f = one_last s event.End
  by_next_ends (Calls callee g args t) s b go h top f =
      ends_after s t (go callee g args t) (no_more s t h) (f callee g args t)
  by_next_ends (Gives e t) s b go h top f = absurd top

  pub top_ends : (n : ℕ) (s : SourceState) (b : ℕ) → GoesToEnd s (top_within set n s b)
  top_ends zero s b =
      by_next_ends (next_top set s.world.script s) s b (λ callee f args t. Out t) (top_taken s.world.script s) (top_is s.world.script s) (λ callee f args t. no_more t t refl)
  top_ends (suc n) s b =
      by_next_ends (next_top set s.world.script s) s b (λ callee f args t. then_do (enter (await_within set n) callee f args t b) (λ g s2 b2. top_within set n s2 b2)) (top_taken s.world.script s) (top_is s.world.script s)
      (λ callee f args t. then_ends t (enter (await_within set n) callee f args t b) (λ g s2 b2. top_within set n s2 b2) (enter_goes (await_within set n) (await_goes n) callee f args t b) (λ g s2 b2. top_ends n s2 b2) (enter_quiet (await_within set n) callee f args t b))

  pub all_ends : (n : ℕ) (ms : Sources) (s : SourceState) (b : ℕ) → GoesToEnd s (initialise_all set n ms s b)
  all_ends n [] s b = top_ends n s b
  all_ends n (m ∷ ms) s b =
      let s1 = tell (event.Init m.name) s in
      let k = λ (s2 : SourceState) (b2 : ℕ). initialise_all set n ms s2 b2 in
      let run = initialise (await_within set n) m s1 b in
      ends_after s s1 (after_initialise run k) (one_open s (event.Init m.name) refl)
      (either_ends s1 run (initialised k) not_initialised (initialise_goes (await_within set n) (await_goes n) m s1 b)
      (λ r t b2. ends_after t (tell (event.Leave r.object) (add_ready r t)) (initialised k r t b2) (event.Leave r.object ∷ [], refl, refl) (all_ends n ms (tell (event.Leave r.object) (add_ready r t)) b2))
      failed_ends)

-- a run that began with no events
end_of : (r : Outcome Back) (script : List Entry) → GoesToEnd (first_state script) r → EndsOnce (state_of r).world.events
end_of (Value v t b) script h = subst EndsOnce (sym h.1) (closed-ends_once h.0 h.2)
end_of (Raised e t b) script h = absurd h
end_of (Stopped t) script h = subst EndsOnce (sym h.1) (closed-ends_once h.0 h.2)
end_of (Out t) script h = subst EndsOnce (sym h.1) (open-ends_once h.0 h.2)

pub source_events_end_once : SourceEventsEndOnce
source_events_end_once set script m = end_of (run_within set script m) script (all_ends set m set (first_state script) m)
