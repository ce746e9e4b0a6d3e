-- At top level nothing is raised: the outside takes results and raises.
use Rattle.std.proofs.Common.{ℕ, zero, suc, List, [], ◌∷◌}
use Rattle.thin_state.specs.declared.space.Obj.{Obj}
use Rattle.thin_state.specs.declared.space.Callee.{Callee}
use Rattle.cy_mean.specs.Source.{Function, Sources}
use Rattle.cy_mean.specs.Meaning.{SourceState, Outcome, Value, Raised, Stopped, Out, then_do, either_do, unit_then, Awaiter, Back, leave, leaves, leaves_raise, enter, Next, Nothing, Calls, Gives, next_top, by_next_top, await_within, top_within, initialised, not_initialised, initialise_all}

-- a part that doesn't end by a raise
abbrev pub IsQuiet : {A : Type 0} → Outcome A → Type 0
IsQuiet (Value v p b) = Unit {0}
IsQuiet (Raised e p b) = ⊥
IsQuiet (Stopped p) = Unit {0}
IsQuiet (Out p) = Unit {0}

either_quiet : {A B : Type 0} (r : Outcome A) (k : A → SourceState → ℕ → Outcome B) (h : Obj → SourceState → ℕ → Outcome B) → ((v : A) (p : SourceState) (b : ℕ) → IsQuiet (k v p b)) → ((e : Obj) (p : SourceState) (b : ℕ) → IsQuiet (h e p b)) → IsQuiet (either_do r k h)
either_quiet (Value v p b) k h qk qh = qk v p b
either_quiet (Raised e p b) k h qk qh = qh e p b
either_quiet (Stopped p) k h qk qh = tt
either_quiet (Out p) k h qk qh = tt

then_quiet : {A B : Type 0} (r : Outcome A) (k : A → SourceState → ℕ → Outcome B) → IsQuiet r → ((v : A) (p : SourceState) (b : ℕ) → IsQuiet (k v p b)) → IsQuiet (then_do r k)
then_quiet (Value v p b) k q qk = qk v p b
then_quiet (Raised e p b) k q qk = q
then_quiet (Stopped p) k q qk = tt
then_quiet (Out p) k q qk = tt

unit_quiet : {A : Type 0} (b : ℕ) (p : SourceState) (k : ℕ → Outcome A) → ((b1 : ℕ) → IsQuiet (k b1)) → IsQuiet (unit_then b p k)
unit_quiet zero p k q = tt
unit_quiet (suc b) p k q = q b

leave_quiet : (r : Outcome Obj) → IsQuiet (leave r)
leave_quiet r = either_quiet r leaves leaves_raise (λ v p b. tt) (λ e p b. tt)

pub enter_quiet : (await : Awaiter) (callee : Callee) (g : Function) (args : List Obj) (p : SourceState) (b : ℕ) → IsQuiet (enter await callee g args p b)
enter_quiet await callee g args p b = unit_quiet b p _ (λ b1. leave_quiet _)

next_quiet : (n : Next) (p : SourceState) (b : ℕ) (go : Callee → Function → List Obj → SourceState → Outcome Back) → ((c : Callee) (g : Function) (a : List Obj) (s : SourceState) → IsQuiet (go c g a s)) → IsQuiet (by_next_top n p b go)
next_quiet Nothing p b go q = tt
next_quiet (Calls c g a s) p b go q = q c g a s
next_quiet (Gives e s) p b go q = tt

top_quiet : (set : Sources) (n : ℕ) (p : SourceState) (b : ℕ) → IsQuiet (top_within set n p b)
top_quiet set zero p b = next_quiet (next_top set p.world.script p) p b _ (λ c g a s. tt)
top_quiet set (suc n) p b =
    next_quiet (next_top set p.world.script p) p b (λ callee g args s1. then_do (enter (await_within set n) callee g args s1 b) (λ e s2 b2. top_within set n s2 b2))
    (λ c g a s. then_quiet (enter (await_within set n) c g a s b) (λ e s2 b2. top_within set n s2 b2) (enter_quiet (await_within set n) c g a s b) (λ e s2 b2. top_quiet set n s2 b2))

pub all_quiet : (set : Sources) (n : ℕ) (ms : Sources) (p : SourceState) (b : ℕ) → IsQuiet (initialise_all set n ms p b)
all_quiet set n [] p b = top_quiet set n p b
all_quiet set n (m ∷ ms) p b =
    either_quiet _ (initialised (λ s1 b1. initialise_all set n ms s1 b1)) not_initialised (λ r s b1. all_quiet set n ms _ b1) (λ e s b1. tt)
