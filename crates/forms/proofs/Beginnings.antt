-- What the sentences of each combination begin with.
use Rattle.std.proofs.Common.{◌≡◌, ℕ, Bool, true, false, ◌&&◌, ◌||◌, List, [], ◌∷◌, ◌++◌, refl, sym, ◌∙◌, ap, subst}
use Rattle.std.specs.Prelude.{Option, Some, None}
use Rattle.forms.specs.Forms.{Mark, plain, Form, Set, none, either, kept, One, one, both, nothing, this, that, or, many, placed, Over, over, guard, Begins, Sentence, Sentences}
use Rattle.forms.proofs.Facts.{and_true, right_true, plain_append}

-- ---- one sentence

module _ {T : Type 0} where
  pub some_one : {A : Type 0} (b : Set T) (value : T → A) (x : T) → b x ≡ true → Sentence T A (one b value)
  some_one b value x h = record { tokens = (x, None) ∷ []; value = value x; spelled = record { token = x; is = refl; fits = h; made = refl } }

  pub some_both : {A B C : Type 0} {L : Form T A} {M : Form T B} (f : A → B → C) → Sentence T A L → Sentence T B M → Sentence T C (both f L M)
  some_both f s t = record { tokens = s.tokens ++ t.tokens; value = f s.value t.value; spelled = record { a = s.value; b = t.value; front = s.tokens; back = t.tokens; cut = refl; left = s.spelled; right = t.spelled; made = refl } }

  pub some_nothing : {A : Type 0} (v : A) → Sentence T A (nothing v)
  some_nothing v = record { tokens = []; value = v; spelled = (refl, refl) }

  pub some_this : {A : Type 0} {L : Form T A} (M : Form T A) → Sentence T A L → Sentence T A (or L M)
  some_this M s = record { tokens = s.tokens; value = s.value; spelled = this s.spelled }

  pub some_that : {A : Type 0} (L : Form T A) {M : Form T A} → Sentence T A M → Sentence T A (or L M)
  some_that L s = record { tokens = s.tokens; value = s.value; spelled = that s.spelled }

  pub some_many : {A : Type 0} (L : Form T A) → Sentence T (List A) (many L)
  some_many L = record { tokens = []; value = []; spelled = refl }

-- ---- beginnings

module _ (T A : Type 0) (b : Set T) (value : T → A) where
  one_first : (front : List (Mark T)) (a : A) → One T A b value front a → Begins false b (plain front)
  one_first front a s = rw s.is s.fits

  pub sentences_one : (x : T) → b x ≡ true → Sentences T A (one b value) false b
  sentences_one x h = record {
    first = one_first;
    some = some_one b value x h;
    blank = λ k. cc;
    starts = λ y k. (None, [], value y, record { token = y; is = refl; fits = k; made = refl });
  }

module _ (T A : Type 0) (v : A) where
  nothing_first : (front : List (Mark T)) (a : A) → nothing {T = T} v front a → Begins {T = T} true none (plain front)
  nothing_first front a s = rw s.0 refl

  pub sentences_nothing : Sentences T A (nothing v) true none
  sentences_nothing = record { first = nothing_first; some = some_nothing v; blank = λ h. (v, (refl, refl)); starts = λ x h. cc }

module _ (T A B C : Type 0) (f : A → B → C) (L : Form T A) (M : Form T B) (e1 e2 : Bool) (b1 b2 : Set T) (X : Sentences T A L e1 b1) (Y : Sentences T B M e2 b2) where
  abbrev spelled : (us vs : List (Mark T)) (a : A) (b : B) → L us a → M vs b → both f L M (us ++ vs) (f a b)
  spelled us vs a b l m = record { a = a; b = b; front = us; back = vs; cut = refl; left = l; right = m; made = refl }

  both_first : (front : List (Mark T)) (c : C) → both f L M front c → Begins (e1 && e2) (either b1 (kept e1 b2)) (plain front)
  both_first front c s = let P : List T → Type 0 = λ us. Begins (e1 && e2) (either b1 (kept e1 b2)) us in
      subst P (sym (ap plain s.cut ∙ plain_append s.front s.back)) (go (plain s.front) (plain s.back) (X.first _ _ s.left) (Y.first _ _ s.right))
    where
      go : (us vs : List T) → Begins e1 b1 us → Begins e2 b2 vs → Begins (e1 && e2) (either b1 (kept e1 b2)) (us ++ vs)
      go [] [] h g = rw (h, g)
      go [] (y ∷ vs) h g = right_true (b1 y) (e1 && b2 y) (rw (h, g))
      go (x ∷ us) vs h g = rw h refl

  both_blank : (e1 && e2) ≡ true → (c : C) × both f L M [] c
  both_blank h = let w = and_true e1 e2 h in
      let u = X.blank w.0 in
      let v = Y.blank w.1 in
      (f u.0 v.0, spelled [] [] u.0 v.0 u.1 v.1)

  both_starts : (x : T) → either b1 (kept e1 b2) x ≡ true → (o : Option ℕ) × (later : List (Mark T)) × (c : C) × both f L M ((x, o) ∷ later) c
  both_starts x h = go (b1 x) refl h
    where
      go : (t : Bool) → b1 x ≡ t → (t || (e1 && b2 x)) ≡ true → (o : Option ℕ) × (later : List (Mark T)) × (c : C) × both f L M ((x, o) ∷ later) c
      go true t h = let u = X.starts x t in (u.0, u.1 ++ Y.some.tokens, f u.2 Y.some.value, spelled ((x, u.0) ∷ u.1) Y.some.tokens u.2 Y.some.value u.3 Y.some.spelled)
      go false t h = let w = and_true e1 (b2 x) h in
          let u = X.blank w.0 in
          let v = Y.starts x w.1 in
          (v.0, v.1, f u.0 v.2, spelled [] ((x, v.0) ∷ v.1) u.0 v.2 u.1 v.3)

  pub sentences_both : Sentences T C (both f L M) (e1 && e2) (either b1 (kept e1 b2))
  sentences_both = record { first = both_first; some = some_both f X.some Y.some; blank = both_blank; starts = both_starts }

-- Where the first form is never empty, one sentence of the second is enough.
module _ (T A B C : Type 0) (f : A → B → C) (L : Form T A) (M : Form T B) (b1 : Set T) (X : Sentences T A L false b1) (some : Sentence T B M) where
  opened_first : (front : List (Mark T)) (c : C) → both f L M front c → Begins false b1 (plain front)
  opened_first front c s = let P : List T → Type 0 = λ us. Begins false b1 us in
      subst P (sym (ap plain s.cut ∙ plain_append s.front s.back)) (go (plain s.front) (plain s.back) (X.first _ _ s.left))
    where
      go : (us vs : List T) → Begins false b1 us → Begins false b1 (us ++ vs)
      go [] vs h = cc
      go (x ∷ us) vs h = h

  opened_starts : (x : T) → b1 x ≡ true → (o : Option ℕ) × (later : List (Mark T)) × (c : C) × both f L M ((x, o) ∷ later) c
  opened_starts x h = let u = X.starts x h in (
    u.0,
    u.1 ++ some.tokens,
    f u.2 some.value,
    record { a = u.2; b = some.value; front = (x, u.0) ∷ u.1; back = some.tokens; cut = refl; left = u.3; right = some.spelled; made = refl },
  )

  pub sentences_opened : Sentences T C (both f L M) false b1
  sentences_opened = record { first = opened_first; some = some_both f X.some some; blank = λ h. cc; starts = opened_starts }

module _ (T A : Type 0) (L M : Form T A) (e1 e2 : Bool) (b1 b2 : Set T) (X : Sentences T A L e1 b1) (Y : Sentences T A M e2 b2) where
  or_first : (front : List (Mark T)) (a : A) → or L M front a → Begins (e1 || e2) (either b1 b2) (plain front)
  or_first front a (this l) = go (plain front) (X.first front a l)
    where
      go : (us : List T) → Begins e1 b1 us → Begins (e1 || e2) (either b1 b2) us
      go [] n = rw n refl
      go (y ∷ us) n = rw n refl
  or_first front a (that l) = go (plain front) (Y.first front a l)
    where
      go : (us : List T) → Begins e2 b2 us → Begins (e1 || e2) (either b1 b2) us
      go [] n = right_true e1 e2 n
      go (y ∷ us) n = right_true (b1 y) (b2 y) n

  or_blank : (e1 || e2) ≡ true → (a : A) × or L M [] a
  or_blank h = go e1 refl h
    where
      go : (t : Bool) → e1 ≡ t → (t || e2) ≡ true → (a : A) × or L M [] a
      go true t h = let u = X.blank t in (u.0, this u.1)
      go false t h = let u = Y.blank h in (u.0, that u.1)

  or_starts : (x : T) → either b1 b2 x ≡ true → (o : Option ℕ) × (later : List (Mark T)) × (a : A) × or L M ((x, o) ∷ later) a
  or_starts x h = go (b1 x) refl h
    where
      go : (t : Bool) → b1 x ≡ t → (t || b2 x) ≡ true → (o : Option ℕ) × (later : List (Mark T)) × (a : A) × or L M ((x, o) ∷ later) a
      go true t h = let u = X.starts x t in (u.0, u.1, u.2, this u.3)
      go false t h = let u = Y.starts x h in (u.0, u.1, u.2, that u.3)

  pub sentences_or : Sentences T A (or L M) (e1 || e2) (either b1 b2)
  sentences_or = record { first = or_first; some = some_this M X.some; blank = or_blank; starts = or_starts }

module _ (T A : Type 0) (number : T → ℕ) (L : Form T A) (b : Set T) (X : Sentences T A L false b) where
  over_first : (front : List (Mark T)) (a : A) → Over T A number L front a → Begins false b (plain front)
  over_first front a s = rw s.is (X.first (s.token ∷ s.later) a s.inside)

  over_starts : (x : T) → b x ≡ true → (o : Option ℕ) × (later : List (Mark T)) × (a : A) × Over T A number L ((x, o) ∷ later) a
  over_starts x h = let u = X.starts x h in (Some (number x), u.1, u.2, record { token = (x, u.0); later = u.1; inside = u.3; is = refl })

  over_some : (front : List (Mark T)) (a : A) → L front a → Begins false b (plain front) → Sentence T A (over number L)
  over_some [] a l n = cc
  over_some (x ∷ front) a l n = record { tokens = (x.0, Some (number x.0)) ∷ front; value = a; spelled = record { token = x; later = front; inside = l; is = refl } }

  pub sentences_over : Sentences T A (over number L) false b
  sentences_over = record {
    first = over_first;
    some = over_some X.some.tokens X.some.value X.some.spelled (X.first X.some.tokens X.some.value X.some.spelled);
    blank = λ h. cc;
    starts = over_starts;
  }

module _ (T A : Type 0) (number : T → ℕ) (L : Form T A) (b : Set T) where
  pub sentences_guard : (r : Bool) → Sentences T A L false b → Sentences T A (guard r number L) false b
  sentences_guard true X = X
  sentences_guard false X = sentences_over T A number L b X

module _ (T A B : Type 0) (f : T → A → B) (L : Form T A) (b : Set T) (X : Sentences T A L false b) where
  placed_some : (front : List (Mark T)) (a : A) → L front a → Begins false b (plain front) → Sentence T B (placed f L)
  placed_some [] a l n = cc
  placed_some (x ∷ front) a l n = record { tokens = x ∷ front; value = f x.0 a; spelled = record { token = x; later = front; a = a; is = refl; inside = l; made = refl } }

  pub sentences_placed : Sentences T B (placed f L) false b
  sentences_placed = record {
    first = λ front c s. X.first front s.a s.inside;
    some = placed_some X.some.tokens X.some.value X.some.spelled (X.first X.some.tokens X.some.value X.some.spelled);
    blank = λ h. cc;
    starts = λ x h. let u = X.starts x h in (u.0, u.1, f x u.2, record { token = (x, u.0); later = u.1; a = u.2; is = refl; inside = u.3; made = refl });
  }

-- The same sentences, said in another way.
module _ (T A : Type 0) (L M : Form T A) (e : Bool) (b : Set T) (there : (us : List (Mark T)) (a : A) → L us a → M us a) (back : (us : List (Mark T)) (a : A) → M us a → L us a) where
  pub sentences_as : Sentences T A L e b → Sentences T A M e b
  sentences_as X = record {
    first = λ front a s. X.first front a (back front a s);
    some = record { tokens = X.some.tokens; value = X.some.value; spelled = there X.some.tokens X.some.value X.some.spelled };
    blank = λ h. let u = X.blank h in (u.0, there [] u.0 u.1);
    starts = λ x h. let u = X.starts x h in (u.0, u.1, u.2, there ((x, u.0) ∷ u.1) u.2 u.3);
  }

-- The same set, said in another way.
module _ (T A : Type 0) (L : Form T A) (e : Bool) (b c : Set T) (same : (x : T) → b x ≡ c x) where
  pub sentences_set : Sentences T A L e b → Sentences T A L e c
  sentences_set X = record {
    first = λ front a l. turn (plain front) (X.first front a l);
    some = X.some;
    blank = X.blank;
    starts = λ x h. X.starts x (same x ∙ h);
  }
    where
      turn : (us : List T) → Begins e b us → Begins e c us
      turn [] h = h
      turn (x ∷ us) h = sym (same x) ∙ h
