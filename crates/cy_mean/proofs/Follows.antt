-- How the machine follows the meaning of a part.
use Rattle.std.proofs.Common.{◌≡◌, ℕ, ◌+◌, ◌≤◌, refl, sym, subst, arith}
use Rattle.thin_state.specs.declared.space.Obj.{Obj}
use Rattle.thin_state.specs.State.{CState}
use Rattle.thin_state.specs.Statements.{Went, Over}
use Rattle.thin_state.specs.Machine.{move}
use Rattle.cy_mean.specs.Meaning.{SourceState, Outcome, Value, Raised, Stopped, Out, then_do, either_do}
use Rattle.cy_mean.proofs.Moves.{Pace, Comes, here, one, comes_on, less}

-- the joint states that both sides come to: what the meaning sees of one, and where the C stands after a raise
pub record Joint (J : Type 0) : Type 0 where
  pub state : J → SourceState
  pub raised : Obj → J → CState

-- from c and budget b the machine follows what the meaning of a part gives. After a value v and at a joint state j it stands at `at v j`, where `ok v j` holds;
-- at the end and where the budget is out it has made the same events. Up to `slack` units may be used for which no move pays.
abbrev pub Follows : Pace → {A J : Type 0} → Joint J → (A → J → CState) → (A → J → Type 0) → CState → (b slack : ℕ) → Outcome A → Type 0
Follows pace {A} {J} joint at ok c b slack (Value v s left) =
    (u : ℕ) × (left ≤ b) × (b ≤ left + u + slack) × (j : J) × (s ≡ joint.state j) × ok v j × Comes pace u c (at v j)
Follows pace {A} {J} joint at ok c b slack (Raised e s left) =
    (u : ℕ) × (left ≤ b) × (b ≤ left + u + slack) × (j : J) × (s ≡ joint.state j) × Comes pace u c (joint.raised e j)
Follows pace {A} {J} joint at ok c b slack (Stopped s) =
    (d : CState) × Comes pace 0 c d × (move pace.files d ≡ Over) × (d.world.events ≡ s.world.events)
Follows pace {A} {J} joint at ok c b slack (Out s) =
    (u : ℕ) × (b ≤ u + slack) × (d : CState) × Comes pace u c d × (d.world.events ≡ s.world.events)

-- nothing is known of a value
abbrev pub any_value : {A J : Type 0} → A → J → Type 0
any_value v j = Unit {0}

-- there is no value
abbrev pub no_value : {A J : Type 0} → A → J → Type 0
no_value v j = ⊥

module _ (pace : Pace) {A J : Type 0} (joint : Joint J) (at : A → J → CState) (ok : A → J → Type 0) where
  -- what follows some moves, which pay for u units
  pub after : (c d : CState) (u b left s2 s : ℕ) (r : Outcome A) → Comes pace u c d → left ≤ b → b + s2 ≤ left + u + s → Follows pace joint at ok d left s2 r → Follows pace joint at ok c b s r
  after c d u b left s2 s (Value v p l) co le paid h =
      (u + h.0, omega (arith, h.1), omega (arith, h.2), h.3, h.4, h.5, comes_on pace u h.0 c d (at v h.3) co h.6)
  after c d u b left s2 s (Raised e p l) co le paid h =
      (u + h.0, omega (arith, h.1), omega (arith, h.2), h.3, h.4, comes_on pace u h.0 c d (joint.raised e h.3) co h.5)
  after c d u b left s2 s (Stopped p) co le paid h =
      (h.0, comes_on pace 0 0 c d h.0 (less pace u 0 c d (omega arith) co) h.1, h.2, h.3)
  after c d u b left s2 s (Out p) co le paid h =
      (u + h.0, omega (arith, h.1), h.2, comes_on pace u h.0 c d h.2 co h.3, h.4)

  -- a move, which pays for `weight` units
  pub moved : (c d : CState) (b left s2 s : ℕ) (r : Outcome A) → move pace.files c ≡ Went d → left ≤ b → b + s2 ≤ left + pace.weight + s → Follows pace joint at ok d left s2 r → Follows pace joint at ok c b s r
  moved c d b left s2 s r e le paid h = after c d pace.weight b left s2 s r (one pace c d e) le paid h

  -- a move that no unit needs
  pub moved_on : (c d : CState) (b s : ℕ) (r : Outcome A) → move pace.files c ≡ Went d → Follows pace joint at ok d b s r → Follows pace joint at ok c b s r
  moved_on c d b s r e h = moved c d b b s s r e (omega arith) (omega arith) h

  -- units that no move pays for
  pub spent : (c : CState) (b left s2 s : ℕ) (r : Outcome A) → left ≤ b → b + s2 ≤ left + s → Follows pace joint at ok c left s2 r → Follows pace joint at ok c b s r
  spent c b left s2 s r le paid h = after c c 0 b left s2 s r (here pace c) le (omega arith) h

-- one part, what is done with its value, and what is done after a raise; the joint states may be others from then on
module _ (pace : Pace) {A B J K : Type 0} (joint : Joint J) (at : A → J → CState) (ok : A → J → Type 0) (joint2 : Joint K) (at2 : B → K → CState) (ok2 : B → K → Type 0) where
  pub either_follows : (c : CState) (b s1 s2 s : ℕ) (r : Outcome A) (k : A → SourceState → ℕ → Outcome B) (h : Obj → SourceState → ℕ → Outcome B) → s1 + s2 ≤ s → Follows pace joint at ok c b s1 r → ((v : A) (j : J) (left : ℕ) → ok v j → left ≤ b → Follows pace joint2 at2 ok2 (at v j) left s2 (k v (joint.state j) left)) → ((e : Obj) (j : J) (left : ℕ) → left ≤ b → Follows pace joint2 at2 ok2 (joint.raised e j) left s2 (h e (joint.state j) left)) → Follows pace joint2 at2 ok2 c b s (either_do r k h)
  either_follows c b s1 s2 s (Value v p left) k h fits g fv fr =
      let e = subst (λ (q : SourceState). Follows pace joint2 at2 ok2 (at v g.3) left s2 (k v q left)) (sym g.4) (fv v g.3 left g.5 g.1) in
      after pace joint2 at2 ok2 c (at v g.3) g.0 b left s2 s (k v p left) g.6 g.1 (omega (arith, g.2)) e
  either_follows c b s1 s2 s (Raised x p left) k h fits g fv fr =
      let e = subst (λ (q : SourceState). Follows pace joint2 at2 ok2 (joint.raised x g.3) left s2 (h x q left)) (sym g.4) (fr x g.3 left g.1) in
      after pace joint2 at2 ok2 c (joint.raised x g.3) g.0 b left s2 s (h x p left) g.5 g.1 (omega (arith, g.2)) e
  either_follows c b s1 s2 s (Stopped p) k h fits g fv fr = g
  either_follows c b s1 s2 s (Out p) k h fits g fv fr = (g.0, omega (arith, g.1), g.2, g.3, g.4)

  -- the same where a raise goes on as it is
  pub then_into : (c : CState) (b s1 s2 s : ℕ) (r : Outcome A) (k : A → SourceState → ℕ → Outcome B) → s1 + s2 ≤ s → Follows pace joint at ok c b s1 r → ((v : A) (j : J) (left : ℕ) → ok v j → left ≤ b → Follows pace joint2 at2 ok2 (at v j) left s2 (k v (joint.state j) left)) → ((e : Obj) (j : J) (left : ℕ) → left ≤ b → Follows pace joint2 at2 ok2 (joint.raised e j) left s2 (Raised e (joint.state j) left)) → Follows pace joint2 at2 ok2 c b s (then_do r k)
  then_into c b s1 s2 s (Value v p left) k fits g fv fr =
      either_follows c b s1 s2 s (Value v p left) k (λ e q l. Raised e q l) fits g fv fr
  then_into c b s1 s2 s (Raised x p left) k fits g fv fr =
      either_follows c b s1 s2 s (Raised x p left) k (λ e q l. Raised e q l) fits g fv fr
  then_into c b s1 s2 s (Stopped p) k fits g fv fr = g
  then_into c b s1 s2 s (Out p) k fits g fv fr = (g.0, omega (arith, g.1), g.2, g.3, g.4)

-- one part, and what is done with its value, over the same joint states
module _ (pace : Pace) {A B J : Type 0} (joint : Joint J) (at : A → J → CState) (ok : A → J → Type 0) (at2 : B → J → CState) (ok2 : B → J → Type 0) where
  pub then_follows : (c : CState) (b s1 s2 s : ℕ) (r : Outcome A) (k : A → SourceState → ℕ → Outcome B) → s1 + s2 ≤ s → Follows pace joint at ok c b s1 r → ((v : A) (j : J) (left : ℕ) → ok v j → left ≤ b → Follows pace joint at2 ok2 (at v j) left s2 (k v (joint.state j) left)) → Follows pace joint at2 ok2 c b s (then_do r k)
  then_follows c b s1 s2 s r k fits g f =
      then_into pace joint at ok joint at2 ok2 c b s1 s2 s r k fits g f
      (λ e j left le. (0, omega arith, omega arith, j, refl, here pace (joint.raised e j)))
