-- Facts on lists, sets, outcomes and marks.
use Rattle.std.proofs.Common.{◌≡◌, ℕ, suc, Bool, true, false, cond, ◌&&◌, ◌||◌, ◌⊎◌, inl, inr, List, [], ◌∷◌, ◌++◌, length, refl, sym, ◌∙◌, ap, subst, append_assoc, length-append, arith}
use Rattle.std.proofs.lemmas.List.{append_cancel_right}
use Rattle.std.specs.Prelude.{Option, Some, None}
use Rattle.forms.specs.Forms.{Mark, plain, IsClean, Form, Set, none, either, kept}
use Rattle.forms.specs.Readers.{Fault, unexpected, limit, Outcome, did, bad, Reader, and_then, sees, rest_of, read_or}
use Rattle.forms.specs.Exact.{marked, expected, Goes, Exact}

-- ---- tests

pub cases : (b : Bool) → (b ≡ true) ⊎ (b ≡ false)
cases true = inl refl
cases false = inr refl

pub or_false : (a b : Bool) → (a || b) ≡ false → (a ≡ false) × (b ≡ false)
or_false true b h = cc
or_false false b h = (refl, h)

pub and_true : (a b : Bool) → (a && b) ≡ true → (a ≡ true) × (b ≡ true)
and_true true b h = (refl, h)
and_true false b h = cc

pub right_true : (a b : Bool) → b ≡ true → (a || b) ≡ true
right_true true b h = refl
right_true false b h = h

pub sees_either : {T : Type 0} (a b : Set T) (ts : List T) → sees (either a b) ts ≡ false → (sees a ts ≡ false) × (sees b ts ≡ false)
sees_either a b [] h = (refl, refl)
sees_either a b (x ∷ ts) h = or_false (a x) (b x) h

pub sees_kept : {T : Type 0} (e : Bool) (a : Set T) (ts : List T) → e ≡ true → sees (kept e a) ts ≡ false → sees a ts ≡ false
sees_kept e a [] h k = refl
sees_kept e a (x ∷ ts) h k = sym (ap (λ c. c && a x) h) ∙ k

pub sees_same : {T : Type 0} (b : Set T) (front mid r s : List T) (x : T) → sees b (front ++ (mid ++ x ∷ r)) ≡ sees b (front ++ (mid ++ x ∷ s))
sees_same b [] [] r s x = refl
sees_same b [] (y ∷ mid) r s x = refl
sees_same b (y ∷ front) mid r s x = refl

pub sees_none : {T : Type 0} (ts : List T) → sees none ts ≡ false
sees_none [] = refl
sees_none (x ∷ ts) = refl

-- ---- lists

pub longer : {A : Type 0} (x : A) (front r : List A) → (x ∷ front) ++ r ≡ r → ⊥
longer x front r h = omega (arith, length-append front r, ap length h)

pub no_front : {A : Type 0} (front r : List A) → front ++ r ≡ r → front ≡ []
no_front front r h = append_cancel_right front [] r h

pub plain_append : {T : Type 0} (a b : List (Mark T)) → plain (a ++ b) ≡ plain a ++ plain b
plain_append [] b = refl
plain_append (x ∷ a) b = ap (λ z. x.0 ∷ z) (plain_append a b)

pub plain_length : {T : Type 0} (a : List (Mark T)) → length (plain a) ≡ length a
plain_length [] = refl
plain_length (x ∷ a) = ap suc (plain_length a)

pub clean_append : {T : Type 0} (a b : List (Mark T)) → IsClean a → IsClean b → IsClean (a ++ b)
clean_append [] b h g = g
clean_append (x ∷ a) b h g = (h.0, clean_append a b h.1 g)

-- ---- outcomes

pub did_value : {T A : Type 0} {a b : A} {r s : List T} → ◌≡◌ {A = Outcome T A} (did a r) (did b s) → a ≡ b
did_value h = cc

pub did_rest : {T A : Type 0} {a b : A} {r s : List T} → ◌≡◌ {A = Outcome T A} (did a r) (did b s) → r ≡ s
did_rest h = cc

pub did_bad : {T A : Type 0} {a : A} {e : Fault} {r s : List T} → ◌≡◌ {A = Outcome T A} (did a r) (bad e s) → ⊥
did_bad h = cc

pub bad_limit : {T A : Type 0} {n : ℕ} {r s : List T} → ◌≡◌ {A = Outcome T A} (bad (limit n) r) (bad unexpected s) → ⊥
bad_limit h = cc

-- ---- what is expected of a sentence

pub expected_clean : {T A : Type 0} (front : List (Mark T)) (a : A) (rest : List T) → IsClean front → expected front a rest ≡ did a rest
expected_clean [] a rest h = refl
expected_clean {T} {A} (x ∷ front) a rest h = ap (λ o. marked {T = T} {A = A} o (expected front a rest) (x.0 ∷ (plain front ++ rest))) h.0 ∙ expected_clean front a rest h.1

marked_map : {T A B : Type 0} (o : Option ℕ) (w : Outcome T A) (v : Outcome T B) (k : A → Reader T B) (ts : List T) → and_then w k ≡ v → and_then (marked o w ts) k ≡ marked o v ts
marked_map None w v k ts h = h
marked_map (Some f) w v k ts h = refl

pub expected_map : {T A B : Type 0} (g : A → B) (front : List (Mark T)) (a : A) (rest : List T) → and_then (expected front a rest) (λ b t. did (g b) t) ≡ expected front (g a) rest
expected_map g [] a rest = refl
expected_map g (x ∷ front) a rest = marked_map x.1 (expected front a rest) (expected front (g a) rest) (λ b t. did (g b) t) (x.0 ∷ (plain front ++ rest)) (expected_map g front a rest)

pub expected_both : {T A B C : Type 0} (f : A → B → C) (q : Reader T B) (front back : List (Mark T)) (a : A) (b : B) (rest : List T) → q (plain back ++ rest) ≡ expected back b rest
    → and_then (expected front a (plain back ++ rest)) (λ a r. and_then (q r) (λ b t. did (f a b) t)) ≡ expected (front ++ back) (f a b) rest
expected_both f q [] back a b rest h = ap (λ o. and_then o (λ b t. did (f a b) t)) h ∙ expected_map (f a) back b rest
expected_both {T} {A} {B} {C} f q (x ∷ front) back a b rest h =
    marked_map x.1 (expected front a (plain back ++ rest)) (expected (front ++ back) (f a b) rest) (λ a r. and_then (q r) (λ b t. did (f a b) t)) (x.0 ∷ (plain front ++ (plain back ++ rest))) (expected_both f q front back a b rest h)
    ∙ ap (λ ts. marked {T = T} {A = C} x.1 (expected (front ++ back) (f a b) rest) (x.0 ∷ ts)) (sym (append_assoc (plain front) (plain back) rest) ∙ ap (λ z. z ++ rest) (sym (plain_append front back)))

-- ---- what a reader leaves is an end of what it was given

pub keeps : {T A : Type 0} {L : Form T A} {p : Reader T A} {e : Bool} {b m : Set T} → Exact T A L p e b m → (ts : List T) → (o : Outcome T A) → p ts ≡ o → (front : List (Mark T)) × (ts ≡ plain front ++ rest_of o) × IsClean front
keeps X ts (did a rest) h = let s = X.sound ts rest a h in (s.0, s.1, s.3)
keeps X ts (bad e rest) h = let s = X.viable ts rest e h in (s.0, s.1, s.2)

-- ---- a part that goes on is a whole that does

pub goes_on : {T A C : Type 0} (L : Form T A) (K : Form T C) (e : Fault) (front : List (Mark T)) (rest : List T)
    → ((us : List (Mark T)) (a : A) → L us a → (vs : List (Mark T)) × (c : C) × K (us ++ vs) c) → Goes L e front rest → Goes K e front rest
goes_on {T} {A} {C} L K unexpected front rest grow g = let n = grow (front ++ g.0) g.1 g.2 in
    let P : List (Mark T) → Type 0 = λ us. K us n.1 in (g.0 ++ n.0, n.1, subst P (append_assoc front g.0 n.0) n.2)
goes_on L K (limit k) front [] grow g = absurd g
goes_on {T} {A} {C} L K (limit k) front (x ∷ rest) grow g = let n = grow (front ++ (x, Some k) ∷ g.0) g.1 g.2 in
    let P : List (Mark T) → Type 0 = λ us. K us n.1 in (g.0 ++ n.0, n.1, subst P (append_assoc front ((x, Some k) ∷ g.0) n.0) n.2)

pub goes_after : {T B C : Type 0} (M : Form T B) (K : Form T C) (e : Fault) (before front : List (Mark T)) (rest : List T)
    → ((us : List (Mark T)) (b : B) → M us b → (c : C) × K (before ++ us) c) → Goes M e front rest → Goes K e (before ++ front) rest
goes_after {T} {B} {C} M K unexpected before front rest grow g = let n = grow (front ++ g.0) g.1 g.2 in
    let P : List (Mark T) → Type 0 = λ us. K us n.0 in (g.0, n.0, subst P (sym (append_assoc before front g.0)) n.1)
goes_after M K (limit k) before front [] grow g = absurd g
goes_after {T} {B} {C} M K (limit k) before front (x ∷ rest) grow g = let n = grow (front ++ (x, Some k) ∷ g.0) g.1 g.2 in
    let P : List (Mark T) → Type 0 = λ us. K us n.0 in (g.0, n.0, subst P (sym (append_assoc before front ((x, Some k) ∷ g.0))) n.1)

-- Of two forms with the same sentences, what goes on in one does in the other.
pub goes_as : {T A C : Type 0} (L : Form T A) (K : Form T C) (e : Fault) (front : List (Mark T)) (rest : List T)
    → ((us : List (Mark T)) (a : A) → L us a → (c : C) × K us c) → Goes L e front rest → Goes K e front rest
goes_as L K unexpected front rest turn g = let n = turn (front ++ g.0) g.1 g.2 in (g.0, n.0, n.1)
goes_as L K (limit k) front [] turn g = absurd g
goes_as L K (limit k) front (x ∷ rest) turn g = let n = turn (front ++ (x, Some k) ∷ g.0) g.1 g.2 in (g.0, n.0, n.1)

-- ---- what a choice reads

pub or_this : {T A : Type 0} (b : Set T) (p q : Reader T A) (ts : List T) → sees b ts ≡ true → read_or b p q ts ≡ p ts
unfolding read_or
or_this b p q ts h = ap (λ c. cond c (p ts) (q ts)) h

pub or_that : {T A : Type 0} (b : Set T) (p q : Reader T A) (ts : List T) → sees b ts ≡ false → read_or b p q ts ≡ q ts
unfolding read_or
or_that b p q ts h = ap (λ c. cond c (p ts) (q ts)) h
