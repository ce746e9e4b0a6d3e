-- More budget only adds events at the end.
use Rattle.std.proofs.Common.{◌≡◌, ℕ, zero, suc, ◌+◌, ◌≤◌, Bool, true, false, List, [], ◌∷◌, length, Option, Some, None, refl, sym, ap, subst, arith}
use Rattle.std.specs.Prelude.{nat_eq, if◌then◌else◌, codes}
use Rattle.c_token.specs.declared.exception.Exception.{Exception}
use Rattle.c_token.specs.declared.exception.Exception.TheVariants as exception
use Rattle.thin_state.specs.declared.space.Obj.{Obj}
use Rattle.thin_state.specs.declared.space.Obj.TheVariants as obj
use Rattle.thin_state.specs.declared.space.Callee.{Callee}
use Rattle.thin_state.specs.declared.space.Op.{Op}
use Rattle.thin_state.specs.declared.space.Op.TheVariants as op
use Rattle.thin_state.specs.declared.space.Answer.{Answer}
use Rattle.thin_state.specs.declared.space.Event.{Event}
use Rattle.thin_state.specs.declared.space.Event.TheVariants as event
use Rattle.thin_state.specs.Objects.{NewResult, Gave, Raises, new_result, sure_result}
use Rattle.cy_mean.specs.Texts.{arity_text}
use Rattle.cy_mean.specs.Source.{Expression, Named, Binary, Statement, Return, Function, Module, Sources}
use Rattle.cy_mean.specs.Meaning.{SourceState, tell, add_ready, Outcome, Value, Raised, Stopped, Out, then_do, either_do, unit_then, Awaiter, ask, give, give_new, give_sure, raise_it, operate, operate_sure, raising, Local, local_of, bind_all, local_value, eval, Exit, Normal, Returns, returning, exec, after_statement, suite, results, call_of, Back, leaves, leaves_raise, leave, enter, Next, Nothing, Calls, Gives, next_inside, by_next, await_within, next_top, by_next_top, top_within, with_builtins, with_import, with_dictionary, with_module, initialise, initialised, not_initialised, initialise_all, first_state, state_of, run_within}
use Rattle.cy_mean.specs.Sound.{Prefix}
use Rattle.cy_mean.specs.Laws.{SourceEventsGrow}
use Rattle.cy_mean.proofs.Endings.{same_prefix, prefix_trans}
use Rattle.cy_mean.proofs.SourceEvents.{GoesOn, GoesToEnd, AwaitGoes, then_goes, operate_goes, sure_goes, local_goes, eval_goes, suite_goes, enter_goes, await_goes, top_ends, all_ends, failed_ends}

-- the outcome has the state's events, and perhaps more
abbrev pub Grows : {A : Type 0} → SourceState → Outcome A → Type 0
Grows s r = Prefix s.world.events (state_of r).world.events

-- with k units more a part ends as before, with as many units more left; or it was out, and may now go further
abbrev pub Extends : {A : Type 0} → (k b : ℕ) → Outcome A → Outcome A → Type 0
Extends k b (Value v s left) r = (left ≤ b) × (r ≡ Value v s (left + k))
Extends k b (Raised e s left) r = (left ≤ b) × (r ≡ Raised e s (left + k))
Extends k b (Stopped s) r = r ≡ Stopped s
Extends k b (Out s) r = Grows s r

grows_on : {A : Type 0} (s t : SourceState) (r : Outcome A) → Prefix s.world.events t.world.events → Grows t r → Grows s r
grows_on s t r p q = prefix_trans s.world.events t.world.events (state_of r).world.events p q

grows : {A : Type 0} (s : SourceState) (r : Outcome A) → GoesOn s r → Grows s r
grows s (Value v t b) h = (h.0, h.1)
grows s (Raised e t b) h = (h.0, h.1)
grows s (Stopped t) h = (h.0, h.1)
grows s (Out t) h = (h.0, h.1)

grows_to_end : {A : Type 0} (s : SourceState) (r : Outcome A) → GoesToEnd s r → Grows s r
grows_to_end s (Value v t b) h = (h.0, h.1)
grows_to_end s (Raised e t b) h = absurd h
grows_to_end s (Stopped t) h = (h.0, h.1)
grows_to_end s (Out t) h = (h.0, h.1)

then_grows : {A B : Type 0} (s : SourceState) (r : Outcome A) (f : A → SourceState → ℕ → Outcome B) → Grows s r → ((v : A) (t : SourceState) (b : ℕ) → Grows t (f v t b)) → Grows s (then_do r f)
then_grows s (Value v t b) f h g = grows_on s t (f v t b) h (g v t b)
then_grows s (Raised e t b) f h g = h
then_grows s (Stopped t) f h g = h
then_grows s (Out t) f h g = h

either_grows : {A B : Type 0} (s : SourceState) (r : Outcome A) (f : A → SourceState → ℕ → Outcome B) (x : Obj → SourceState → ℕ → Outcome B) → Grows s r → ((v : A) (t : SourceState) (b : ℕ) → Grows t (f v t b)) → ((e : Obj) (t : SourceState) (b : ℕ) → Grows t (x e t b)) → Grows s (either_do r f x)
either_grows s (Value v t b) f x h g y = grows_on s t (f v t b) h (g v t b)
either_grows s (Raised e t b) f x h g y = grows_on s t (x e t b) h (y e t b)
either_grows s (Stopped t) f x h g y = h
either_grows s (Out t) f x h g y = h

unit_grows : {A : Type 0} (s : SourceState) (b : ℕ) (f : ℕ → Outcome A) → ((b1 : ℕ) → Grows s (f b1)) → Grows s (unit_then b s f)
unit_grows s zero f g = same_prefix s.world.events
unit_grows s (suc b) f g = g b

-- a larger bound
extends_less : {A : Type 0} (k b b2 : ℕ) (r1 r2 : Outcome A) → b ≤ b2 → Extends k b r1 r2 → Extends k b2 r1 r2
extends_less k b b2 (Value v s left) r2 le h = (omega (arith, le, h.0), h.1)
extends_less k b b2 (Raised e s left) r2 le h = (omega (arith, le, h.0), h.1)
extends_less k b b2 (Stopped s) r2 le h = h
extends_less k b b2 (Out s) r2 le h = h

then_extends : {A B : Type 0} (k b : ℕ) (r1 r2 : Outcome A) (f1 f2 : A → SourceState → ℕ → Outcome B) → Extends k b r1 r2 → ((v : A) (t : SourceState) (left : ℕ) → left ≤ b → Extends k left (f1 v t left) (f2 v t (left + k))) → ((v : A) (t : SourceState) (left : ℕ) → Grows t (f2 v t left)) → Extends k b (then_do r1 f1) (then_do r2 f2)
then_extends {A} {B} k b (Value v t left) r2 f1 f2 h f g =
    subst (λ (r : Outcome B). Extends k b (f1 v t left) r) (sym (ap (λ (r : Outcome A). then_do r f2) h.1)) (extends_less k left b (f1 v t left) (f2 v t (left + k)) h.0 (f v t left h.0))
then_extends {A} {B} k b (Raised e t left) r2 f1 f2 h f g = (h.0, ap (λ (r : Outcome A). then_do r f2) h.1)
then_extends {A} {B} k b (Stopped t) r2 f1 f2 h f g = ap (λ (r : Outcome A). then_do r f2) h
then_extends {A} {B} k b (Out t) r2 f1 f2 h f g = then_grows t r2 f2 h g

either_extends : {A B : Type 0} (k b : ℕ) (r1 r2 : Outcome A) (f1 f2 : A → SourceState → ℕ → Outcome B) (x1 x2 : Obj → SourceState → ℕ → Outcome B) → Extends k b r1 r2 → ((v : A) (t : SourceState) (left : ℕ) → left ≤ b → Extends k left (f1 v t left) (f2 v t (left + k))) → ((e : Obj) (t : SourceState) (left : ℕ) → left ≤ b → Extends k left (x1 e t left) (x2 e t (left + k))) → ((v : A) (t : SourceState) (left : ℕ) → Grows t (f2 v t left)) → ((e : Obj) (t : SourceState) (left : ℕ) → Grows t (x2 e t left)) → Extends k b (either_do r1 f1 x1) (either_do r2 f2 x2)
either_extends {A} {B} k b (Value v t left) r2 f1 f2 x1 x2 h f x g y =
    subst (λ (r : Outcome B). Extends k b (f1 v t left) r) (sym (ap (λ (r : Outcome A). either_do r f2 x2) h.1)) (extends_less k left b (f1 v t left) (f2 v t (left + k)) h.0 (f v t left h.0))
either_extends {A} {B} k b (Raised e t left) r2 f1 f2 x1 x2 h f x g y =
    subst (λ (r : Outcome B). Extends k b (x1 e t left) r) (sym (ap (λ (r : Outcome A). either_do r f2 x2) h.1)) (extends_less k left b (x1 e t left) (x2 e t (left + k)) h.0 (x e t left h.0))
either_extends {A} {B} k b (Stopped t) r2 f1 f2 x1 x2 h f x g y = ap (λ (r : Outcome A). either_do r f2 x2) h
either_extends {A} {B} k b (Out t) r2 f1 f2 x1 x2 h f x g y = either_grows t r2 f2 x2 h g y

unit_extends : {A : Type 0} (k b : ℕ) (s : SourceState) (f1 f2 : ℕ → Outcome A) → ((b1 : ℕ) → suc b1 ≤ b → Extends k b1 (f1 b1) (f2 (b1 + k))) → ((b1 : ℕ) → Grows s (f2 b1)) → Extends k b (unit_then b s f1) (unit_then (b + k) s f2)
unit_extends k zero s f1 f2 f g = unit_grows s (0 + k) f2 g
unit_extends {A} k (suc b) s f1 f2 f g =
    let shape : suc b + k ≡ suc (b + k) = omega arith in
    subst (λ (n : ℕ). Extends k (suc b) (f1 b) (unit_then n s f2)) (sym shape) (extends_less k b (suc b) (f1 b) (f2 (b + k)) (omega arith) (f b (omega arith)))

-- the same value with as many units more
done : {A : Type 0} (k b : ℕ) (v : A) (s : SourceState) → Extends k b (Value v s b) (Value v s (b + k))
done k b v s = (omega arith, refl)

abbrev pub AwaitExtends : (k m : ℕ) → Awaiter → Awaiter → Type 0
AwaitExtends k m a1 a2 = (o : Op) (s : SourceState) (b : ℕ) → b ≤ m → Extends k b (a1 o s b) (a2 o s (b + k))

module _ (k m : ℕ) (a1 a2 : Awaiter) (ext : AwaitExtends k m a1 a2) (goes : AwaitGoes a2) where
  ask_extends : (o : Op) (s : SourceState) (b : ℕ) → b ≤ m → Extends k b (ask a1 o s b) (ask a2 o s (b + k))
  ask_extends o s b le = ext o (tell (event.Ask o) s) b le

  give_extends : (a : NewResult) (s : SourceState) (b : ℕ) → Extends k b (give a s b) (give a s (b + k))
  give_extends (Gave x) s b = (omega arith, refl)
  give_extends (Raises e) s b = (omega arith, refl)

  give_grows : (a : NewResult) (s : SourceState) (b : ℕ) → Grows s (give a s b)
  give_grows (Gave x) s b = same_prefix s.world.events
  give_grows (Raises e) s b = same_prefix s.world.events

  operate_extends : (o : Op) (s : SourceState) (b : ℕ) → b ≤ m → Extends k b (operate a1 o s b) (operate a2 o s (b + k))
  operate_extends o s b le =
      then_extends k b (ask a1 o s b) (ask a2 o s (b + k)) give_new give_new (ask_extends o s b le) (λ a t left le2. give_extends (new_result a) t left) (λ a t left. give_grows (new_result a) t left)

  sure_extends : (o : Op) (s : SourceState) (b : ℕ) → b ≤ m → Extends k b (operate_sure a1 o s b) (operate_sure a2 o s (b + k))
  sure_extends o s b le =
      then_extends k b (ask a1 o s b) (ask a2 o s (b + k)) give_sure give_sure (ask_extends o s b le) (λ a t left le2. done k left (sure_result a) t) (λ a t left. same_prefix t.world.events)

  raising_extends : (type : Exception) (text : List ℕ) (s : SourceState) (b : ℕ) → b ≤ m → Extends {A = Obj} k b (raising a1 type text s b) (raising a2 type text s (b + k))
  raising_extends type text s b le =
      let o = op.Fail (obj.ExceptionType type) text in
      then_extends {B = Obj} k b (ask a1 o s b) (ask a2 o s (b + k)) raise_it raise_it (ask_extends o s b le) (λ a t left le2. (omega arith, refl)) (λ a t left. same_prefix t.world.events)

  local_extends : (x : List ℕ) (found : Option Obj) (s : SourceState) (b : ℕ) → b ≤ m → Extends k b (local_value a1 x found s b) (local_value a2 x found s (b + k))
  local_extends x (Some o) s b le = done k b o s
  local_extends x None s b le = raising_extends exception.UnboundLocalError x s b le

  eval_extends : (locals : List Local) (e : Expression) (s : SourceState) (b : ℕ) → b ≤ m → Extends k b (eval a1 locals e s b) (eval a2 locals e s (b + k))
  eval_extends locals (Named x) s b le =
      unit_extends k b s (λ b1. local_value a1 x (local_of locals x) s b1) (λ b1. local_value a2 x (local_of locals x) s b1) (λ b1 le1. local_extends x (local_of locals x) s b1 (omega (arith, le, le1))) (λ b1. grows s (local_value a2 x (local_of locals x) s b1) (local_goes a2 goes x (local_of locals x) s b1))
  eval_extends locals (Binary o left right) s b le =
      let last1 = λ (x y : Obj) (s3 : SourceState) (b3 : ℕ). operate a1 (op.Binary o x y) s3 b3 in
      let last2 = λ (x y : Obj) (s3 : SourceState) (b3 : ℕ). operate a2 (op.Binary o x y) s3 b3 in
      let next1 = λ (x : Obj) (s2 : SourceState) (b2 : ℕ). then_do (eval a1 locals right s2 b2) (last1 x) in
      let next2 = λ (x : Obj) (s2 : SourceState) (b2 : ℕ). then_do (eval a2 locals right s2 b2) (last2 x) in
      let last_grows = λ (x y : Obj) (s3 : SourceState) (b3 : ℕ). grows s3 (last2 x y s3 b3) (operate_goes a2 goes (op.Binary o x y) s3 b3) in
      let next_grows = λ (x : Obj) (s2 : SourceState) (b2 : ℕ). then_grows s2 (eval a2 locals right s2 b2) (last2 x) (grows s2 (eval a2 locals right s2 b2) (eval_goes a2 goes locals right s2 b2)) (last_grows x) in
      unit_extends k b s (λ b1. then_do (eval a1 locals left s b1) next1) (λ b1. then_do (eval a2 locals left s b1) next2)
      (λ b1 le1. then_extends k b1 (eval a1 locals left s b1) (eval a2 locals left s (b1 + k)) next1 next2 (eval_extends locals left s b1 (omega (arith, le, le1))) (λ x s2 b2 le2. then_extends k b2 (eval a1 locals right s2 b2) (eval a2 locals right s2 (b2 + k)) (last1 x) (last2 x) (eval_extends locals right s2 b2 (omega (arith, le, le1, le2))) (λ y s3 b3 le3. operate_extends (op.Binary o x y) s3 b3 (omega (arith, le, le1, le2, le3))) (last_grows x)) next_grows)
      (λ b1. then_grows s (eval a2 locals left s b1) next2 (grows s (eval a2 locals left s b1) (eval_goes a2 goes locals left s b1)) next_grows)

  exec_extends : (locals : List Local) (t : Statement) (s : SourceState) (b : ℕ) → b ≤ m → Extends k b (exec a1 locals t s b) (exec a2 locals t s (b + k))
  exec_extends locals (Return e) s b le =
      unit_extends k b s (λ b1. then_do (eval a1 locals e s b1) returning) (λ b1. then_do (eval a2 locals e s b1) returning)
      (λ b1 le1. then_extends k b1 (eval a1 locals e s b1) (eval a2 locals e s (b1 + k)) returning returning (eval_extends locals e s b1 (omega (arith, le, le1))) (λ v t2 left le2. done k left (Returns v) t2) (λ v t2 left. same_prefix t2.world.events))
      (λ b1. then_grows s (eval a2 locals e s b1) returning (grows s (eval a2 locals e s b1) (eval_goes a2 goes locals e s b1)) (λ v t2 left. same_prefix t2.world.events))

  after_extends : (locals : List Local) (ts : List Statement) (x : Exit) (s : SourceState) (b : ℕ) → Extends k b (suite a1 locals ts s b) (suite a2 locals ts s (b + k)) → Extends k b (after_statement (λ s1 b1. suite a1 locals ts s1 b1) x s b) (after_statement (λ s1 b1. suite a2 locals ts s1 b1) x s (b + k))
  after_extends locals ts Normal s b h = h
  after_extends locals ts (Returns v) s b h = done k b (Returns v) s

  after_grows : (locals : List Local) (ts : List Statement) (x : Exit) (s : SourceState) (b : ℕ) → Grows s (after_statement (λ s1 b1. suite a2 locals ts s1 b1) x s b)
  after_grows locals ts Normal s b = grows s (suite a2 locals ts s b) (suite_goes a2 goes locals ts s b)
  after_grows locals ts (Returns v) s b = same_prefix s.world.events

  suite_extends : (locals : List Local) (ts : List Statement) (s : SourceState) (b : ℕ) → b ≤ m → Extends k b (suite a1 locals ts s b) (suite a2 locals ts s (b + k))
  suite_extends locals [] s b le = done k b Normal s
  suite_extends locals (t ∷ ts) s b le =
      then_extends k b (exec a1 locals t s b) (exec a2 locals t s (b + k)) (after_statement (λ s1 b1. suite a1 locals ts s1 b1)) (after_statement (λ s1 b1. suite a2 locals ts s1 b1)) (exec_extends locals t s b le)
      (λ x s1 b1 le1. after_extends locals ts x s1 b1 (suite_extends locals ts s1 b1 (omega (arith, le, le1))))
      (after_grows locals ts)

  call_extends : (f : Function) (args : List Obj) (s : SourceState) (b : ℕ) → b ≤ m → Extends k b (call_of a1 f args s b) (call_of a2 f args s (b + k))
  call_extends f args s b le = by_count (nat_eq (length args) (length f.parameters))
    where
      locals : List Local
      locals = bind_all f.parameters args

      by_count : (q : Bool) → Extends k b (if q then then_do (suite a1 locals f.body s b) results else raising a1 exception.TypeError (arity_text f.name (length f.parameters)) s b) (if q then then_do (suite a2 locals f.body s (b + k)) results else raising a2 exception.TypeError (arity_text f.name (length f.parameters)) s (b + k))
      by_count true =
          then_extends k b (suite a1 locals f.body s b) (suite a2 locals f.body s (b + k)) results results (suite_extends locals f.body s b le) (λ x t left le2. (omega arith, refl)) (λ x t left. same_prefix t.world.events)
      by_count false = raising_extends exception.TypeError (arity_text f.name (length f.parameters)) s b le

  told : (s : SourceState) (e : Event) → Prefix s.world.events (tell e s).world.events
  told s e = (e ∷ [], refl)

  leave_extends : (b : ℕ) (r1 r2 : Outcome Obj) → Extends k b r1 r2 → Extends k b (leave r1) (leave r2)
  leave_extends b r1 r2 h =
      either_extends k b r1 r2 leaves leaves leaves_raise leaves_raise h (λ v t left le. (omega arith, refl)) (λ e t left le. (omega arith, refl)) (λ v t left. told t (event.Leave v)) (λ e t left. told t (event.LeaveRaise e))

  -- what a call does once its unit is taken
  pub entered_extends : (callee : Callee) (f : Function) (args : List Obj) (s : SourceState) (b : ℕ) → b ≤ m → Extends k b (leave (call_of a1 f args (tell (event.Enter callee args) s) b)) (leave (call_of a2 f args (tell (event.Enter callee args) s) (b + k)))
  entered_extends callee f args s b le =
      let s1 = tell (event.Enter callee args) s in
      leave_extends b (call_of a1 f args s1 b) (call_of a2 f args s1 (b + k)) (call_extends f args s1 b le)

  pub initialise_extends : (x : Module) (s : SourceState) (b : ℕ) → b ≤ m → Extends k b (initialise a1 x s b) (initialise a2 x s (b + k))
  initialise_extends x s b le =
      let ends_grow = λ (o d : Obj) (i : Obj) (t : SourceState) (u : ℕ). then_grows t (operate_sure a2 (op.Dict i) t u) (with_builtins o d) (grows t (operate_sure a2 (op.Dict i) t u) (sure_goes a2 goes (op.Dict i) t u)) (λ c t2 u2. same_prefix t2.world.events) in
      let imports_grow = λ (o d : Obj) (t : SourceState) (u : ℕ). then_grows t (operate a2 (op.Import (codes "builtins")) t u) (with_import a2 o d) (grows t (operate a2 (op.Import (codes "builtins")) t u) (operate_goes a2 goes (op.Import (codes "builtins")) t u)) (ends_grow o d) in
      let modules_grow = λ (o : Obj) (t : SourceState) (u : ℕ). then_grows t (operate_sure a2 (op.Dict o) t u) (with_dictionary a2 o) (grows t (operate_sure a2 (op.Dict o) t u) (sure_goes a2 goes (op.Dict o) t u)) (imports_grow o) in
      then_extends k b (operate a1 (op.Module x.name) s b) (operate a2 (op.Module x.name) s (b + k)) (with_module a1) (with_module a2) (operate_extends (op.Module x.name) s b le)
      (λ o s1 b1 le1. then_extends k b1 (operate_sure a1 (op.Dict o) s1 b1) (operate_sure a2 (op.Dict o) s1 (b1 + k)) (with_dictionary a1 o) (with_dictionary a2 o) (sure_extends (op.Dict o) s1 b1 (omega (arith, le, le1)))
      (λ d s2 b2 le2. then_extends k b2 (operate a1 (op.Import (codes "builtins")) s2 b2) (operate a2 (op.Import (codes "builtins")) s2 (b2 + k)) (with_import a1 o d) (with_import a2 o d) (operate_extends (op.Import (codes "builtins")) s2 b2 (omega (arith, le, le1, le2)))
      (λ i s3 b3 le3. then_extends k b3 (operate_sure a1 (op.Dict i) s3 b3) (operate_sure a2 (op.Dict i) s3 (b3 + k)) (with_builtins o d) (with_builtins o d) (sure_extends (op.Dict i) s3 b3 (omega (arith, le, le1, le2, le3))) (λ c s4 b4 le4. (omega arith, refl)) (λ c t2 u2. same_prefix t2.world.events))
      (ends_grow o d))
      (imports_grow o))
      modules_grow

next_extends : (k : ℕ) (next : Next) (o : Op) (s : SourceState) (b : ℕ) (go1 go2 : Callee → Function → List Obj → SourceState → Outcome Answer) → ((callee : Callee) (f : Function) (args : List Obj) (t : SourceState) → Extends k b (go1 callee f args t) (go2 callee f args t)) → Extends k b (by_next next o s b go1) (by_next next o s (b + k) go2)
next_extends k Nothing o s b go1 go2 f = refl
next_extends k (Calls callee g args t) o s b go1 go2 f = f callee g args t
next_extends k (Gives e t) o s b go1 go2 f = (omega arith, refl)

next_top_extends : (k : ℕ) (next : Next) (s : SourceState) (b : ℕ) (go1 go2 : Callee → Function → List Obj → SourceState → Outcome Back) → ((callee : Callee) (f : Function) (args : List Obj) (t : SourceState) → Extends k b (go1 callee f args t) (go2 callee f args t)) → Extends k b (by_next_top next s b go1) (by_next_top next s (b + k) go2)
next_top_extends k Nothing s b go1 go2 f = (omega arith, refl)
next_top_extends k (Calls callee g args t) s b go1 go2 f = f callee g args t
next_top_extends k (Gives e t) s b go1 go2 f = refl

module _ (set : Sources) where
  -- a call inside an operation, and the operation again
  abbrev again : ℕ → Op → ℕ → Callee → Function → List Obj → SourceState → Outcome Answer
  again n o b callee f args t =
      then_do (enter (await_within set n) callee f args t b) (λ (g : Back) t2 b2. await_within set n o t2 b2)

  again_grows : (n : ℕ) (o : Op) (b : ℕ) (callee : Callee) (f : Function) (args : List Obj) (t : SourceState) → Grows t (again n o b callee f args t)
  again_grows n o b callee f args t =
      grows t (again n o b callee f args t) (then_goes t (enter (await_within set n) callee f args t b) (λ (g : Back) t2 b2. await_within set n o t2 b2) (enter_goes (await_within set n) (await_goes set n) callee f args t b) (λ g t2 b2. await_goes set n o t2 b2))

  again_extends : (k n n2 : ℕ) → ((o : Op) (s : SourceState) (b : ℕ) → b ≤ n → b + k ≤ n2 → Extends k b (await_within set n o s b) (await_within set n2 o s (b + k))) → (o : Op) (b : ℕ) → b ≤ suc n → b + k ≤ suc n2 → (callee : Callee) (f : Function) (args : List Obj) (t : SourceState) → Extends k b (again n o b callee f args t) (again n2 o (b + k) callee f args t)
  again_extends k n n2 go o zero le le2 callee f args t = again_grows n2 o (0 + k) callee f args t
  again_extends k n n2 go o (suc b) le le2 callee f args t =
      let ext : AwaitExtends k b (await_within set n) (await_within set n2) = λ o2 s b2 less. go o2 s b2 (omega (arith, le, less)) (omega (arith, le2, less)) in
      let s1 = tell (event.Enter callee args) t in
      let left1 = leave (call_of (await_within set n) f args s1 b) in
      let left2 = leave (call_of (await_within set n2) f args s1 (b + k)) in
      let rest1 = λ (g : Back) (t2 : SourceState) (b2 : ℕ). await_within set n o t2 b2 in
      let rest2 = λ (g : Back) (t2 : SourceState) (b2 : ℕ). await_within set n2 o t2 b2 in
      let shape : suc b + k ≡ suc (b + k) = omega arith in
      let one_less = then_extends k b left1 left2 rest1 rest2 (entered_extends k b (await_within set n) (await_within set n2) ext (await_goes set n2) callee f args t b (omega arith)) (λ g t2 left less. go o t2 left (omega (arith, le, less)) (omega (arith, le2, less))) (λ g t2 left. grows t2 (await_within set n2 o t2 left) (await_goes set n2 o t2 left)) in
      subst (λ (u : ℕ). Extends k (suc b) (again n o (suc b) callee f args t) (again n2 o u callee f args t)) (sym shape) (extends_less k b (suc b) (then_do left1 rest1) (then_do left2 rest2) (omega arith) one_less)

  await_extends : (k n n2 : ℕ) (o : Op) (s : SourceState) (b : ℕ) → b ≤ n → b + k ≤ n2 → Extends k b (await_within set n o s b) (await_within set n2 o s (b + k))
  await_extends k zero zero o s b le le2 =
      next_extends k (next_inside set s.world.script s) o s b (λ callee f args t. Out t) (λ callee f args t. Out t) (λ callee f args t. same_prefix t.world.events)
  await_extends k zero (suc n2) o s b le le2 =
      next_extends k (next_inside set s.world.script s) o s b (λ callee f args t. Out t) (again n2 o (b + k)) (again_grows n2 o (b + k))
  await_extends k (suc n) zero o s zero le le2 =
      next_extends k (next_inside set s.world.script s) o s 0 (again n o 0) (λ callee f args t. Out t) (λ callee f args t. same_prefix t.world.events)
  await_extends k (suc n) zero o s (suc b) le le2 = absurd (omega (arith, le2))
  await_extends k (suc n) (suc n2) o s b le le2 =
      next_extends k (next_inside set s.world.script s) o s b (again n o b) (again n2 o (b + k)) (again_extends k n n2 (await_extends k n n2) o b le le2)

  -- the same at top level
  abbrev then_top : ℕ → ℕ → Callee → Function → List Obj → SourceState → Outcome Back
  then_top n b callee f args t =
      then_do (enter (await_within set n) callee f args t b) (λ (g : Back) t2 b2. top_within set n t2 b2)

  then_top_grows : (n : ℕ) (b : ℕ) (callee : Callee) (f : Function) (args : List Obj) (t : SourceState) → Grows t (then_top n b callee f args t)
  then_top_grows n b callee f args t =
      then_grows t (enter (await_within set n) callee f args t b) (λ (g : Back) t2 b2. top_within set n t2 b2) (grows t (enter (await_within set n) callee f args t b) (enter_goes (await_within set n) (await_goes set n) callee f args t b)) (λ g t2 b2. grows_to_end t2 (top_within set n t2 b2) (top_ends set n t2 b2))

  then_top_extends : (k n n2 : ℕ) → ((s : SourceState) (b : ℕ) → b ≤ n → b + k ≤ n2 → Extends k b (top_within set n s b) (top_within set n2 s (b + k))) → (b : ℕ) → b ≤ suc n → b + k ≤ suc n2 → (callee : Callee) (f : Function) (args : List Obj) (t : SourceState) → Extends k b (then_top n b callee f args t) (then_top n2 (b + k) callee f args t)
  then_top_extends k n n2 go zero le le2 callee f args t = then_top_grows n2 (0 + k) callee f args t
  then_top_extends k n n2 go (suc b) le le2 callee f args t =
      let ext : AwaitExtends k b (await_within set n) (await_within set n2) = λ o2 s b2 less. await_extends k n n2 o2 s b2 (omega (arith, le, less)) (omega (arith, le2, less)) in
      let s1 = tell (event.Enter callee args) t in
      let left1 = leave (call_of (await_within set n) f args s1 b) in
      let left2 = leave (call_of (await_within set n2) f args s1 (b + k)) in
      let rest1 = λ (g : Back) (t2 : SourceState) (b2 : ℕ). top_within set n t2 b2 in
      let rest2 = λ (g : Back) (t2 : SourceState) (b2 : ℕ). top_within set n2 t2 b2 in
      let shape : suc b + k ≡ suc (b + k) = omega arith in
      let one_less = then_extends k b left1 left2 rest1 rest2 (entered_extends k b (await_within set n) (await_within set n2) ext (await_goes set n2) callee f args t b (omega arith)) (λ g t2 left less. go t2 left (omega (arith, le, less)) (omega (arith, le2, less))) (λ g t2 left. grows_to_end t2 (top_within set n2 t2 left) (top_ends set n2 t2 left)) in
      subst (λ (u : ℕ). Extends k (suc b) (then_top n (suc b) callee f args t) (then_top n2 u callee f args t)) (sym shape) (extends_less k b (suc b) (then_do left1 rest1) (then_do left2 rest2) (omega arith) one_less)

  top_extends : (k n n2 : ℕ) (s : SourceState) (b : ℕ) → b ≤ n → b + k ≤ n2 → Extends k b (top_within set n s b) (top_within set n2 s (b + k))
  top_extends k zero zero s b le le2 =
      next_top_extends k (next_top set s.world.script s) s b (λ callee f args t. Out t) (λ callee f args t. Out t) (λ callee f args t. same_prefix t.world.events)
  top_extends k zero (suc n2) s b le le2 =
      next_top_extends k (next_top set s.world.script s) s b (λ callee f args t. Out t) (then_top n2 (b + k)) (then_top_grows n2 (b + k))
  top_extends k (suc n) zero s zero le le2 =
      next_top_extends k (next_top set s.world.script s) s 0 (then_top n 0) (λ callee f args t. Out t) (λ callee f args t. same_prefix t.world.events)
  top_extends k (suc n) zero s (suc b) le le2 = absurd (omega (arith, le2))
  top_extends k (suc n) (suc n2) s b le le2 =
      next_top_extends k (next_top set s.world.script s) s b (then_top n b) (then_top n2 (b + k)) (then_top_extends k n n2 (top_extends k n n2) b le le2)

  all_extends : (k n n2 : ℕ) (ms : Sources) (s : SourceState) (b : ℕ) → b ≤ n → b + k ≤ n2 → Extends k b (initialise_all set n ms s b) (initialise_all set n2 ms s (b + k))
  all_extends k n n2 [] s b le le2 = top_extends k n n2 s b le le2
  all_extends k n n2 (x ∷ ms) s b le le2 =
      let s1 = tell (event.Init x.name) s in
      let k1 = λ (t : SourceState) (u : ℕ). initialise_all set n ms t u in
      let k2 = λ (t : SourceState) (u : ℕ). initialise_all set n2 ms t u in
      let ext : AwaitExtends k b (await_within set n) (await_within set n2) = λ o2 t b2 less. await_extends k n n2 o2 t b2 (omega (arith, le, less)) (omega (arith, le2, less)) in
      either_extends k b (initialise (await_within set n) x s1 b) (initialise (await_within set n2) x s1 (b + k)) (initialised k1) (initialised k2) not_initialised not_initialised (initialise_extends k b (await_within set n) (await_within set n2) ext (await_goes set n2) x s1 b (omega arith))
      (λ r t left less. all_extends k n n2 ms (tell (event.Leave r.object) (add_ready r t)) left (omega (arith, le, less)) (omega (arith, le2, less)))
      (λ e t left less. (omega arith, refl))
      (λ r t left. grows_on t (tell (event.Leave r.object) (add_ready r t)) (k2 (tell (event.Leave r.object) (add_ready r t)) left) (event.Leave r.object ∷ [], refl) (grows_to_end (tell (event.Leave r.object) (add_ready r t)) (k2 (tell (event.Leave r.object) (add_ready r t)) left) (all_ends set n2 ms (tell (event.Leave r.object) (add_ready r t)) left)))
      (λ e t left. grows_to_end t (not_initialised e t left) (failed_ends e t left))

-- the events of the longer run go on where those of the shorter one end
from_extends : {A : Type 0} (k b : ℕ) (r1 r2 : Outcome A) → Extends k b r1 r2 → Prefix (state_of r1).world.events (state_of r2).world.events
from_extends {A} k b (Value v s left) r2 h =
    subst (λ (r : Outcome A). Prefix s.world.events (state_of r).world.events) (sym h.1) (same_prefix s.world.events)
from_extends {A} k b (Raised e s left) r2 h =
    subst (λ (r : Outcome A). Prefix s.world.events (state_of r).world.events) (sym h.1) (same_prefix s.world.events)
from_extends {A} k b (Stopped s) r2 h =
    subst (λ (r : Outcome A). Prefix s.world.events (state_of r).world.events) (sym h) (same_prefix s.world.events)
from_extends {A} k b (Out s) r2 h = h

pub source_events_grow : SourceEventsGrow
source_events_grow set script m k =
    from_extends k m (run_within set script m) (run_within set script (m + k)) (all_extends set k m (m + k) set (first_state script) m (omega arith) (omega arith))
