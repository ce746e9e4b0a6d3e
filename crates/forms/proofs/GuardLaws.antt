-- A form for which there may be no room, a form with its first token at hand, and a form said in another way.
use Rattle.std.proofs.Common.{◌≡◌, ℕ, Bool, true, false, cond, ◌⊎◌, inl, inr, List, [], ◌∷◌, ◌++◌, refl, sym, ◌∙◌, ap, subst}
use Rattle.std.specs.Prelude.{Option, Some, None}
use Rattle.forms.specs.Forms.{Mark, plain, IsClean, Form, Set, Over, over, guard, placed, Begins, Sentence, Sentences}
use Rattle.forms.specs.Readers.{Fault, unexpected, limit, Outcome, did, bad, Reader, sees, rest_of, put, limit_at, refuse, read_guard, read_placed}
use Rattle.forms.specs.Exact.{marked, expected, Goes, Exact}
use Rattle.forms.proofs.Facts.{cases, sees_same, no_front, did_value, did_rest, did_bad, goes_as}
use Rattle.forms.proofs.Beginnings.{sentences_over, sentences_placed, sentences_as, sentences_set}

abbrev placed_outcome : {T A B : Type 0} → (T → A → B) → List T → Outcome T A → Outcome T B
placed_outcome f ts (bad e rest) = bad e rest
placed_outcome f [] (did a rest) = bad unexpected rest
placed_outcome f (x ∷ ts) (did a rest) = did (f x a) rest

-- ---- no room

module _ (T A : Type 0) (number : T → ℕ) (L : Form T A) (b m : Set T) (X : Sentences T A L false b) where
  passed : (ts : List T) → sees b ts ≡ true → refuse {A = A} b number ts ≡ limit_at number ts
  unfolding refuse
  passed ts h = ap (λ c. cond c (limit_at {A = A} number ts) (bad unexpected ts)) h

  missed : (ts : List T) → sees b ts ≡ false → refuse {A = A} b number ts ≡ bad unexpected ts
  unfolding refuse
  missed ts h = ap (λ c. cond c (limit_at {A = A} number ts) (bad unexpected ts)) h

  over_takes : (front : List (Mark T)) (rest : List T) (a : A) → Over T A number L front a → sees m rest ≡ false → refuse {A = A} b number (plain front ++ rest) ≡ expected front a rest
  over_takes front rest a s h = rw s.is (passed (s.token.0 ∷ (plain s.later ++ rest)) (X.first (s.token ∷ s.later) a s.inside))

  at_is_bad : (ts : List T) → (e : Fault) × (limit_at {A = A} number ts ≡ bad e ts)
  at_is_bad [] = (unexpected, refl)
  at_is_bad (x ∷ ts) = (limit (number x), refl)

  refuse_bad : (ts : List T) → (e : Fault) × (refuse {A = A} b number ts ≡ bad e ts)
  refuse_bad ts = go (cases (sees b ts))
    where
      go : (sees b ts ≡ true) ⊎ (sees b ts ≡ false) → (e : Fault) × (refuse {A = A} b number ts ≡ bad e ts)
      go (inl t) = let u = at_is_bad ts in (u.0, passed ts t ∙ u.1)
      go (inr f) = (unexpected, missed ts f)

  Goal : List T → List T → Fault → Type 0
  Goal ts rest e = (front : List (Mark T)) × (ts ≡ plain front ++ rest) × IsClean front × Goes (over number L) e front rest

  over_viable : (ts rest : List T) (e : Fault) → refuse {A = A} b number ts ≡ bad e rest → Goal ts rest e
  unfolding Goal
  over_viable ts rest e h = go (cases (sees b ts))
    where
      by : (e' : Fault) → ◌≡◌ {A = Outcome T A} (bad e' ts) (bad e rest) → Goes (over number L) e' [] ts → Goal ts rest e
      by e' g n = let P : Outcome T A → Type 0 = elim [ did a w ↦ ⊥ | bad z w ↦ (front : List (Mark T)) × (ts ≡ plain front ++ w) × IsClean front × Goes (over number L) z front w ] in subst P g ([], refl, tt, n)

      begun : (us : List T) → sees b us ≡ true → (e' : Fault) × (limit_at {A = A} number us ≡ bad e' us) × Goes (over number L) e' [] us
      begun [] t = cc
      begun (x ∷ us) t = let u = X.starts x t in (limit (number x), refl, (u.1, u.2, record { token = (x, u.0); later = u.1; inside = u.3; is = refl }))

      some : Sentence T A (over number L)
      some = (sentences_over T A number L b X).some

      go : (sees b ts ≡ true) ⊎ (sees b ts ≡ false) → Goal ts rest e
      go (inl t) = let u = begun ts t in by u.0 (sym u.1 ∙ sym (passed ts t) ∙ h) u.2
      go (inr f) = by unexpected (sym (missed ts f) ∙ h) (some.tokens, some.value, some.spelled)

  refuse_rest : (ts : List T) → rest_of (refuse {A = A} b number ts) ≡ ts
  refuse_rest ts = ap rest_of (refuse_bad ts).1

  same_at : (mid r s : List T) (x : T) → limit_at {A = A} number (mid ++ x ∷ s) ≡ put (mid ++ x ∷ s) (limit_at {A = A} number (mid ++ x ∷ r))
  same_at [] r s x = refl
  same_at (y ∷ mid) r s x = refl

  over_near : (front mid r s : List T) (x : T) → rest_of (refuse {A = A} b number (front ++ (mid ++ x ∷ r))) ≡ mid ++ x ∷ r
      → refuse {A = A} b number (front ++ (mid ++ x ∷ s)) ≡ put (mid ++ x ∷ s) (refuse b number (front ++ (mid ++ x ∷ r)))
  over_near front mid r s x h = rw (no_front front (mid ++ x ∷ r) (sym (refuse_rest (front ++ (mid ++ x ∷ r))) ∙ h)) (go (cases (sees b (mid ++ x ∷ r))))
    where
      go : (sees b (mid ++ x ∷ r) ≡ true) ⊎ (sees b (mid ++ x ∷ r) ≡ false) → refuse {A = A} b number (mid ++ x ∷ s) ≡ put (mid ++ x ∷ s) (refuse b number (mid ++ x ∷ r))
      go (inl t) = passed (mid ++ x ∷ s) (sym (sees_same b [] mid r s x) ∙ t) ∙ same_at mid r s x ∙ sym (ap (λ z. put (mid ++ x ∷ s) z) (passed (mid ++ x ∷ r) t))
      go (inr f) = missed (mid ++ x ∷ s) (sym (sees_same b [] mid r s x) ∙ f) ∙ sym (ap (λ z. put (mid ++ x ∷ s) z) (missed (mid ++ x ∷ r) f))

  over_ends : (front r : List T) (x : T) → refuse {A = A} b number (front ++ x ∷ r) ≡ bad unexpected (x ∷ r) → refuse {A = A} b number front ≡ bad unexpected []
  over_ends front r x h = rw (no_front front (x ∷ r) (sym (refuse_rest (front ++ x ∷ r)) ∙ ap rest_of h)) (missed [] refl)

  pub over_exact : Exact T A (over number L) (refuse b number) false b m
  unfolding Goal
  over_exact = record {
    sentences = sentences_over T A number L b X;
    sound = λ ts rest a h. absurd (did_bad (sym h ∙ (refuse_bad ts).1));
    takes = over_takes;
    viable = over_viable;
    near = over_near;
    ends = over_ends;
  }

pub guard_exact : (T A : Type 0) (number : T → ℕ) (r : Bool) (L : Form T A) (p : Reader T A) (b m : Set T) → Sentences T A L false b → (r ≡ true → Exact T A L p false b m)
    → Exact T A (guard r number L) (read_guard r b number p) false b m
unfolding read_guard
guard_exact T A number true L p b m S X = X refl
guard_exact T A number false L p b m S X = over_exact T A number L b m S

-- ---- the first token at hand

module _ (T A B : Type 0) (f : T → A → B) (L : Form T A) (p : Reader T A) (b m : Set T) (X : Exact T A L p false b m) where
  placed_fault : (ts : List T) (e : Fault) (rest : List T) → placed_outcome f ts (bad e rest) ≡ bad e rest
  placed_fault [] e rest = refl
  placed_fault (x ∷ ts) e rest = refl

  -- a token is read before anything is
  none_read : (a : A) (rest : List T) → p [] ≡ did a rest → ⊥
  none_read a rest h = let u = X.sound [] rest a h in go u.0 u.1 (X.sentences.first u.0 a u.2)
    where
      go : (us : List (Mark T)) → [] ≡ plain us ++ rest → Begins false b (plain us) → ⊥
      go [] e n = cc
      go (x ∷ us) e n = cc

  -- at the end a token is missing
  at_end : (o : Outcome T A) → p [] ≡ o → o ≡ bad unexpected []
  at_end (did a rest) h = absurd (none_read a rest h)
  at_end (bad e rest) h = let u = X.viable [] rest e h in go e u.0 rest u.1 u.3
    where
      go : (e : Fault) (us : List (Mark T)) (rest : List T) → [] ≡ plain us ++ rest → Goes L e us rest → ◌≡◌ {A = Outcome T A} (bad e rest) (bad unexpected [])
      go unexpected [] rest q g = ap (λ w. bad unexpected w) (sym q)
      go unexpected (y ∷ us) rest q g = cc
      go (limit n) us [] q g = absurd g
      go (limit n) [] (y ∷ rest) q g = cc
      go (limit n) (z ∷ us) (y ∷ rest) q g = cc

  on : (ts : List T) (o : Outcome T A) → p ts ≡ o → read_placed f p ts ≡ placed_outcome f ts o
  unfolding read_placed
  on [] o h = sym (ap (placed_outcome f []) (at_end o h))
  on (x ∷ ts) (did a rest) h = rw h refl
  on (x ∷ ts) (bad e rest) h = rw h refl

  Read : List T → List T → B → Type 0
  Read ts rest c = (front : List (Mark T)) × (ts ≡ plain front ++ rest) × placed f L front c × IsClean front

  placed_sound : (ts rest : List T) (c : B) → read_placed f p ts ≡ did c rest → Read ts rest c
  unfolding Read
  placed_sound ts rest c h = go ts (p ts) refl (sym (on ts (p ts) refl) ∙ h)
    where
      made : (x : T) (ts r : List T) (a : A) (front : List (Mark T)) → x ∷ ts ≡ plain front ++ r → L front a → IsClean front → Begins false b (plain front) → did (f x a) r ≡ did c rest → Read (x ∷ ts) rest c
      made x ts r a [] e l k n g = cc
      made x ts r a (y ∷ front) e l k n g = let first : x ≡ y.0 = cc in
          (y ∷ front, e ∙ ap (λ w. plain (y ∷ front) ++ w) (did_rest g), record { token = y; later = front; a = a; is = refl; inside = l; made = sym (did_value g) ∙ ap (λ z. f z a) first }, k)

      go : (ts : List T) (o : Outcome T A) → p ts ≡ o → placed_outcome f ts o ≡ did c rest → Read ts rest c
      go ts (bad e r) k g = absurd (did_bad (sym g ∙ placed_fault ts e r))
      go [] (did a r) k g = absurd (none_read a r k)
      go (x ∷ ts) (did a r) k g = let u = X.sound (x ∷ ts) r a k in made x ts r a u.0 u.1 u.2 u.3 (X.sentences.first u.0 a u.2) g

  placed_marked : (o : Option ℕ) (w : Outcome T A) (v : Outcome T B) (ts us : List T) → placed_outcome f us w ≡ v → placed_outcome f us (marked o w ts) ≡ marked o v ts
  placed_marked None w v ts us h = h
  placed_marked (Some n) w v ts us h = placed_fault us (limit n) ts

  placed_expected : (x : T) (us : List T) (front : List (Mark T)) (a : A) (rest : List T) → placed_outcome f (x ∷ us) (expected front a rest) ≡ expected front (f x a) rest
  placed_expected x us [] a rest = refl
  placed_expected x us (y ∷ front) a rest = placed_marked y.1 (expected front a rest) (expected front (f x a) rest) (y.0 ∷ (plain front ++ rest)) (x ∷ us) (placed_expected x us front a rest)

  placed_takes : (front : List (Mark T)) (rest : List T) (c : B) → placed f L front c → sees m rest ≡ false → read_placed f p (plain front ++ rest) ≡ expected front c rest
  placed_takes front rest c s h = on (plain front ++ rest) (expected front s.a rest) (X.takes front rest s.a s.inside h)
      ∙ ap (λ w. placed_outcome f (plain w ++ rest) (expected front s.a rest)) s.is ∙ placed_expected s.token.0 (plain s.later ++ rest) front s.a rest ∙ ap (λ z. expected front z rest) (sym s.made)

  Fails : List T → List T → Fault → Type 0
  Fails ts rest e = (front : List (Mark T)) × (ts ≡ plain front ++ rest) × IsClean front × Goes (placed f L) e front rest

  placed_viable : (ts rest : List T) (e : Fault) → read_placed f p ts ≡ bad e rest → Fails ts rest e
  unfolding Fails
  placed_viable ts rest e h = go ts (p ts) refl (sym (on ts (p ts) refl) ∙ h)
    where
      turn : (us : List (Mark T)) (a : A) → L us a → Begins false b (plain us) → (c : B) × placed f L us c
      turn [] a l n = cc
      turn (y ∷ us) a l n = (f y.0 a, record { token = y; later = us; a = a; is = refl; inside = l; made = refl })

      by : (ts : List T) (e' : Fault) (r : List T) → ◌≡◌ {A = Outcome T B} (bad e' r) (bad e rest) → Fails ts r e' → Fails ts rest e
      by ts e' r g n = let P : Outcome T B → Type 0 = elim [ did a w ↦ ⊥ | bad z w ↦ Fails ts w z ] in subst P g n

      go : (ts : List T) (o : Outcome T A) → p ts ≡ o → placed_outcome f ts o ≡ bad e rest → Fails ts rest e
      go ts (bad e' r) k g = let u = X.viable ts r e' k in by ts e' r (sym (placed_fault ts e' r) ∙ g) (u.0, u.1, u.2, goes_as L (placed f L) e' u.0 r (λ us a l. turn us a l (X.sentences.first us a l)) u.3)
      go [] (did a r) k g = absurd (none_read a r k)
      go (x ∷ ts) (did a r) k g = absurd (did_bad g)

  -- the outcome for tokens that begin alike
  placed_put : (ts us vs : List T) (o : Outcome T A) → (p ts ≡ o) → (p us ≡ put vs o) → ((x : T) (ws : List T) → ts ≡ x ∷ ws → (zs : List T) × (us ≡ x ∷ zs)) → placed_outcome f us (put vs o) ≡ put vs (placed_outcome f ts o)
  placed_put ts us vs (bad e r) h g k = placed_fault us e vs ∙ sym (ap (put vs) (placed_fault ts e r))
  placed_put [] us vs (did a r) h g k = absurd (none_read a r h)
  placed_put (x ∷ ts) us vs (did a r) h g k = let u = k x ts refl in ap (λ w. placed_outcome f w (did a vs)) u.1

  rest_same : (ts : List T) (o : Outcome T A) → p ts ≡ o → rest_of (placed_outcome f ts o) ≡ rest_of o
  rest_same ts (bad e r) h = ap rest_of (placed_fault ts e r)
  rest_same [] (did a r) h = absurd (none_read a r h)
  rest_same (x ∷ ts) (did a r) h = refl

  placed_near : (front mid r s : List T) (x : T) → rest_of (read_placed f p (front ++ (mid ++ x ∷ r))) ≡ mid ++ x ∷ r
      → read_placed f p (front ++ (mid ++ x ∷ s)) ≡ put (mid ++ x ∷ s) (read_placed f p (front ++ (mid ++ x ∷ r)))
  placed_near front mid r s x h =
      let old = front ++ (mid ++ x ∷ r) in
      let new = front ++ (mid ++ x ∷ s) in
      let n = X.near front mid r s x (sym (rest_same old (p old) refl) ∙ sym (ap rest_of (on old (p old) refl)) ∙ h) in
      on new (put (mid ++ x ∷ s) (p old)) n ∙ placed_put old new (mid ++ x ∷ s) (p old) refl n (alike front mid) ∙ sym (ap (put (mid ++ x ∷ s)) (on old (p old) refl))
    where
      alike : (front mid : List T) (y : T) (ws : List T) → front ++ (mid ++ x ∷ r) ≡ y ∷ ws → (zs : List T) × (front ++ (mid ++ x ∷ s) ≡ y ∷ zs)
      alike [] [] y ws e = let k : x ≡ y = cc in (s, ap (λ z. z ∷ s) k)
      alike [] (z ∷ mid) y ws e = let k : z ≡ y = cc in (mid ++ x ∷ s, ap (λ z. z ∷ (mid ++ x ∷ s)) k)
      alike (z ∷ front) mid y ws e = let k : z ≡ y = cc in (front ++ (mid ++ x ∷ s), ap (λ z. z ∷ (front ++ (mid ++ x ∷ s))) k)

  placed_ends : (front r : List T) (x : T) → read_placed f p (front ++ x ∷ r) ≡ bad unexpected (x ∷ r) → read_placed f p front ≡ bad unexpected []
  placed_ends front r x h = go (front ++ x ∷ r) (p (front ++ x ∷ r)) refl refl (sym (on (front ++ x ∷ r) (p (front ++ x ∷ r)) refl) ∙ h)
    where
      by : (e : Fault) (w : List T) → ◌≡◌ {A = Outcome T B} (bad e w) (bad unexpected (x ∷ r)) → ◌≡◌ {A = Outcome T A} (bad e w) (bad unexpected (x ∷ r))
      by e w g = cc

      go : (ts : List T) (o : Outcome T A) → p ts ≡ o → ts ≡ front ++ x ∷ r → placed_outcome f ts o ≡ bad unexpected (x ∷ r) → read_placed f p front ≡ bad unexpected []
      go ts (bad e w) k q g = on front (bad unexpected []) (X.ends front r x (ap p (sym q) ∙ k ∙ by e w (sym (placed_fault ts e w) ∙ g))) ∙ placed_fault front unexpected []
      go [] (did a w) k q g = absurd (none_read a w k)
      go (y ∷ ts) (did a w) k q g = absurd (did_bad g)

  pub placed_exact : Exact T B (placed f L) (read_placed f p) false b m
  unfolding Read Fails
  placed_exact = record {
    sentences = sentences_placed T A B f L b X.sentences;
    sound = placed_sound;
    takes = placed_takes;
    viable = placed_viable;
    near = placed_near;
    ends = placed_ends;
  }

-- ---- the same form, said in another way

module _ (T A : Type 0) (L M : Form T A) (p : Reader T A) (e : Bool) (b m : Set T) (there : (us : List (Mark T)) (a : A) → L us a → M us a) (back : (us : List (Mark T)) (a : A) → M us a → L us a) where
  pub exact_as : Exact T A L p e b m → Exact T A M p e b m
  exact_as X = record {
    sentences = sentences_as T A L M e b there back X.sentences;
    sound = λ ts rest a h. let u = X.sound ts rest a h in (u.0, u.1, there u.0 a u.2, u.3);
    takes = λ front rest a s h. X.takes front rest a (back front a s) h;
    viable = λ ts rest f h. let u = X.viable ts rest f h in (u.0, u.1, u.2, goes_as L M f u.0 rest (λ us a l. (a, there us a l)) u.3);
    near = X.near;
    ends = X.ends;
  }

-- The same reader, with sets that say as much.
module _ (T A : Type 0) (L : Form T A) (p : Reader T A) (e : Bool) (b m c n : Set T) (same : (x : T) → b x ≡ c x) (less : (x : T) → n x ≡ false → m x ≡ false) where
  pub exact_sets : Exact T A L p e b m → Exact T A L p e c n
  exact_sets X = record {
    sentences = sentences_set T A L e b c same X.sentences;
    sound = X.sound;
    takes = λ front rest a l h. X.takes front rest a l (go rest h);
    viable = X.viable;
    near = X.near;
    ends = X.ends;
  }
    where
      go : (ts : List T) → sees n ts ≡ false → sees m ts ≡ false
      go [] h = refl
      go (x ∷ ts) h = less x h
