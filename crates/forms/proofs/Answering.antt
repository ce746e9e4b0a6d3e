-- An exact reader answers the one value of the longest run, or the first token that is wrong or passes a limit.
use Rattle.std.proofs.Common.{◌≡◌, ℕ, ◌≤◌, Bool, ◌⊎◌, inl, inr, List, [], ◌∷◌, ◌++◌, length, refl, sym, ◌∙◌, ap, subst, append_assoc, append-nil, length-append, arith}
use Rattle.std.specs.Prelude.{Option, Some, None}
use Rattle.forms.specs.Forms.{Mark, plain, IsClean, Form, Set}
use Rattle.forms.specs.Readers.{unexpected, limit, Outcome, did, bad, Reader, rest_of, put}
use Rattle.forms.specs.Exact.{marked, expected, Goes, Exact, Starts, Stops, Keeps, Found, Wrong, Passed, Answers, ExactReadersAnswer}
use Rattle.forms.proofs.Facts.{did_value, did_bad, plain_append, expected_clean}

abbrev IsLimit : {T A : Type 0} → Outcome T A → Type 0
IsLimit (did a rest) = ⊥
IsLimit (bad unexpected rest) = ⊥
IsLimit (bad (limit n) rest) = Unit {0}

-- ---- marks

-- the first limit that is passed, if any
pub record FirstMark (T : Type 0) (front : List (Mark T)) : Type 0 where
  pub before : List (Mark T)
  pub token : T
  pub number : ℕ
  pub after : List (Mark T)
  pub cut : front ≡ before ++ (token, Some number) ∷ after
  pub clean : IsClean before

first_mark : {T : Type 0} (front : List (Mark T)) → IsClean front ⊎ FirstMark T front
first_mark [] = inl tt
first_mark {T} (x ∷ front) = go x.1 refl (first_mark front)
  where
    go : (o : Option ℕ) → x.1 ≡ o → IsClean front ⊎ FirstMark T front → IsClean (x ∷ front) ⊎ FirstMark T (x ∷ front)
    go (Some n) e h = inr (record { before = []; token = x.0; number = n; after = front; cut = ap (λ o. (x.0, o) ∷ front) e; clean = tt })
    go None e (inl c) = inl (e, c)
    go None e (inr m) = inr (record { before = x ∷ m.before; token = m.token; number = m.number; after = m.after; cut = ap (λ w. x ∷ w) m.cut; clean = (e, m.clean) })

expected_passed : {T A : Type 0} (before : List (Mark T)) (x : T) (n : ℕ) (after : List (Mark T)) (a : A) (rest : List T) → IsClean before
    → expected (before ++ (x, Some n) ∷ after) a rest ≡ bad (limit n) (x ∷ (plain after ++ rest))
expected_passed [] x n after a rest h = refl
expected_passed {T} {A} (y ∷ before) x n after a rest h =
    let all = before ++ (x, Some n) ∷ after in
    ap (λ o. marked {T = T} {A = A} o (expected all a rest) (y.0 ∷ (plain all ++ rest))) h.0 ∙ expected_passed before x n after a rest h.1

expected_cases : {T A : Type 0} (front : List (Mark T)) (a : A) → (◌≡◌ {A = Outcome T A} (expected front a []) (did a [])) ⊎ IsLimit (expected front a [])
expected_cases {T} {A} front a = go (first_mark front)
  where
    go : IsClean front ⊎ FirstMark T front → (◌≡◌ {A = Outcome T A} (expected front a []) (did a [])) ⊎ IsLimit (expected front a [])
    go (inl c) = inl (expected_clean front a [] c)
    go (inr m) = let P : Outcome T A → Type 0 = λ o. IsLimit o in
        inr (subst P (sym (ap (λ w. expected w a []) m.cut ∙ expected_passed m.before m.token m.number m.after a [] m.clean)) tt)

short_marked : {T A : Type 0} (o : Option ℕ) (w : Outcome T A) (ts : List T) (n : ℕ) → length (rest_of w) ≤ n → length ts ≤ n → length (rest_of (marked o w ts)) ≤ n
short_marked None w ts n h g = h
short_marked (Some f) w ts n h g = g

short : {T A : Type 0} (front : List (Mark T)) (a : A) (rest : List T) → length (rest_of (expected front a rest)) ≤ length (plain front ++ rest)
short [] a rest = omega arith
short (x ∷ front) a rest = let h = short front a rest in short_marked x.1 (expected front a rest) (x.0 ∷ (plain front ++ rest)) (length (x.0 ∷ (plain front ++ rest))) (omega arith) (omega arith)

-- what is expected of a sentence that passes a limit at y, and none before
over_at : {T A : Type 0} (front : List (Mark T)) (y : Mark T) (later : List (Mark T)) (a : A) (n : ℕ) → expected (front ++ y ∷ later) a [] ≡ bad (limit n) (y.0 ∷ (plain later ++ [])) → IsClean front × (y.1 ≡ Some n)
over_at {T} {A} [] y later a n h = (tt, go y.1 h)
  where
    go : (o : Option ℕ) → marked {T = T} {A = A} o (expected later a []) (y.0 ∷ (plain later ++ [])) ≡ bad (limit n) (y.0 ∷ (plain later ++ [])) → o ≡ Some n
    go None h = absurd (omega (arith, short later a [], ap (λ o. length (rest_of o)) h))
    go (Some f) h = cc
over_at {T} {A} (x ∷ front) y later a n h = go x.1 refl h (over_at front y later a n)
  where
    go : (o : Option ℕ) → x.1 ≡ o → marked {T = T} {A = A} o (expected (front ++ y ∷ later) a []) (x.0 ∷ (plain (front ++ y ∷ later) ++ [])) ≡ bad (limit n) (y.0 ∷ (plain later ++ []))
        → (expected (front ++ y ∷ later) a [] ≡ bad (limit n) (y.0 ∷ (plain later ++ [])) → IsClean front × (y.1 ≡ Some n)) → IsClean (x ∷ front) × (y.1 ≡ Some n)
    go None e h ih = let u = ih h in ((e, u.0), u.1)
    go (Some f) e h ih = absurd (omega (arith, ap (λ o. length (rest_of o)) h, ap (λ w. length (w ++ [])) (plain_append front (y ∷ later)), length-append (plain front) ((y.0 ∷ plain later) ++ []), ap length (append_assoc (plain front) (y.0 ∷ plain later) [])))

-- ---- answers

module _ (T A : Type 0) (L : Form T A) (p : Reader T A) (e : Bool) (b m : Set T) (X : Exact T A L p e b m) where
  -- read to the end
  whole : (front : List (Mark T)) (a : A) → L front a → p (plain front) ≡ expected front a []
  whole front a l = ap p (sym (append-nil (plain front))) ∙ X.takes front [] a l refl

  -- a sentence whose tokens are read as a value spells that value
  value_of : (front : List (Mark T)) (a : A) (o : Outcome T A) → L front a → p (plain front) ≡ o → (IsLimit o → ⊥) → o ≡ did a []
  value_of front a o l h n = go (expected_cases front a)
    where
      go : (◌≡◌ {A = Outcome T A} (expected front a []) (did a [])) ⊎ IsLimit (expected front a []) → o ≡ did a []
      go (inl k) = sym h ∙ whole front a l ∙ k
      go (inr k) = absurd (n (let P : Outcome T A → Type 0 = λ w. IsLimit w in subst P (sym (whole front a l) ∙ h) k))

  -- where a reader stopped, for whatever reason but a limit, no sentence goes on with the next token
  stops : (front r : List T) (x : T) (o : Outcome T A) → p (front ++ x ∷ r) ≡ o → rest_of o ≡ x ∷ r → (IsLimit o → ⊥) → Starts L (front ++ x ∷ []) → ⊥
  stops front r x o h g n s = nil (sym (ap rest_of (value_of (s.0 ++ s.1) s.2 (put (x ∷ plain s.1) o) s.4 (ap p tokens ∙ now) (λ d. n (undo o d)))) ∙ put_rest o)
    where
      nil : {y : T} {ys : List T} → [] ≡ y ∷ ys → ⊥
      nil h = cc

      put_rest : (w : Outcome T A) → rest_of (put (x ∷ plain s.1) w) ≡ x ∷ plain s.1
      put_rest (did a t) = refl
      put_rest (bad f t) = refl

      undo : (w : Outcome T A) → IsLimit (put (x ∷ plain s.1) w) → IsLimit w
      undo (did a t) d = d
      undo (bad unexpected t) d = d
      undo (bad (limit k) t) d = d

      now : p (front ++ x ∷ plain s.1) ≡ put (x ∷ plain s.1) o
      now = X.near front [] r (plain s.1) x (ap rest_of h ∙ g) ∙ ap (λ z. put (x ∷ plain s.1) z) h

      tokens : plain (s.0 ++ s.1) ≡ front ++ x ∷ plain s.1
      tokens = plain_append s.0 s.1 ∙ ap (λ w. w ++ plain s.1) s.3 ∙ append_assoc front (x ∷ []) (plain s.1)

  longest : (front rest : List T) (o : Outcome T A) → p (front ++ rest) ≡ o → rest_of o ≡ rest → (IsLimit o → ⊥) → Stops L front rest
  longest front [] o h g n = tt
  longest front (x ∷ r) o h g n = λ s. stops front r x o h g n s

  -- what is read without a limit passes none
  keeps_within : (run : List (Mark T)) (rest : List T) (o : Outcome T A) → p (plain run ++ rest) ≡ o → (IsLimit o → ⊥) → Keeps L run
  keeps_within run rest o h n front later a e l = go (first_mark front)
    where
      go : IsClean front ⊎ FirstMark T front → IsClean front
      go (inl c) = c
      go (inr k) =
          let us = plain k.before in
          let vs = plain k.after in
          let cut : front ++ later ≡ k.before ++ (k.token, Some k.number) ∷ (k.after ++ later) = ap (λ w. w ++ later) k.cut ∙ append_assoc k.before ((k.token, Some k.number) ∷ k.after) later in
          let tokens : plain (front ++ later) ≡ us ++ k.token ∷ plain (k.after ++ later) = ap plain cut ∙ plain_append k.before ((k.token, Some k.number) ∷ (k.after ++ later)) in
          let there : p (us ++ k.token ∷ plain (k.after ++ later)) ≡ bad (limit k.number) (k.token ∷ (plain (k.after ++ later) ++ [])) =
          ap p (sym tokens) ∙ whole (front ++ later) a l ∙ ap (λ w. expected w a []) cut ∙ expected_passed k.before k.token k.number (k.after ++ later) a [] k.clean in
          let here : p (us ++ k.token ∷ (vs ++ rest)) ≡ bad (limit k.number) (k.token ∷ (vs ++ rest)) =
          X.near us [] (plain (k.after ++ later)) (vs ++ rest) k.token (ap rest_of there ∙ ap (λ w. k.token ∷ w) (append-nil (plain (k.after ++ later)))) ∙ ap (λ z. put (k.token ∷ (vs ++ rest)) z) there in
          let same : plain run ++ rest ≡ us ++ k.token ∷ (vs ++ rest) = ap (λ w. w ++ rest) (sym e ∙ ap plain k.cut ∙ plain_append k.before ((k.token, Some k.number) ∷ k.after)) ∙ append_assoc us (k.token ∷ vs) rest in
          absurd (n (let P : Outcome T A → Type 0 = λ w. IsLimit w in subst P (sym (ap p same ∙ here) ∙ h) tt))

  found : (ts rest : List T) (a : A) → p ts ≡ did a rest → Found T A L ts rest a
  found ts rest a h = let u = X.sound ts rest a h in
      let here : p (plain u.0 ++ rest) ≡ did a rest = ap p (sym u.1) ∙ h in
      record {
        run = u.0;
        cut = u.1;
        spelled = u.2;
        clean = keeps_within u.0 rest (did a rest) here (λ d. d);
        only = λ other b e l. sym (did_value (value_of other b (did a []) l (ap p e ∙ whole u.0 a u.2 ∙ expected_clean u.0 a [] u.3) (λ d. d)));
        longest = longest (plain u.0) rest (did a rest) here refl (λ d. d);
      }

  to_end : (front rest : List T) → p (front ++ rest) ≡ bad unexpected rest → p front ≡ bad unexpected []
  to_end front [] h = ap p (sym (append-nil front)) ∙ h
  to_end front (x ∷ r) h = X.ends front r x h

  wrong : (ts rest : List T) → p ts ≡ bad unexpected rest → Wrong T A L ts rest
  wrong ts rest h = let u = X.viable ts rest unexpected h in
      let here : p (plain u.0 ++ rest) ≡ bad unexpected rest = ap p (sym u.1) ∙ h in
      record {
        run = u.0;
        cut = u.1;
        goes = u.3;
        clean = keeps_within u.0 rest (bad unexpected rest) here (λ d. d);
        none = λ other a e l. did_bad (sym (value_of other a (bad unexpected []) l (ap p e ∙ to_end (plain u.0) rest here) (λ d. d)));
        longest = longest (plain u.0) rest (bad unexpected rest) here refl (λ d. d);
      }

  passes : (n : ℕ) (before after : List T) (x : T) → p (before ++ x ∷ after) ≡ bad (limit n) (x ∷ after)
      → (front : List (Mark T)) (y : Mark T) (later : List (Mark T)) (a : A) → plain front ≡ before → y.0 ≡ x → L (front ++ y ∷ later) a → IsClean front × (y.1 ≡ Some n)
  passes n before after x h front y later a hb hy l =
      let t = X.takes (front ++ y ∷ later) [] a l refl in
      let cut : plain (front ++ y ∷ later) ++ [] ≡ before ++ x ∷ (plain later ++ []) =
      ap (λ w. w ++ []) (plain_append front (y ∷ later)) ∙ append_assoc (plain front) (y.0 ∷ plain later) [] ∙ ap (λ w. w ++ y.0 ∷ (plain later ++ [])) hb ∙ ap (λ w. before ++ w ∷ (plain later ++ [])) hy in
      let k = X.near before [] after (plain later ++ []) x (ap rest_of h) ∙ ap (λ z. put (x ∷ (plain later ++ [])) z) h in
      over_at front y later a n (sym t ∙ ap p cut ∙ k ∙ ap (λ w. bad (limit n) (w ∷ (plain later ++ []))) (sym hy))

  over : (n : ℕ) (ts rest : List T) → p ts ≡ bad (limit n) rest → Passed T A L n ts rest
  over n ts rest h = let u = X.viable ts rest (limit n) h in go u.0 rest u.1 u.3 h
    where
      go : (front : List (Mark T)) (rest : List T) → ts ≡ plain front ++ rest → Goes L (limit n) front rest → p ts ≡ bad (limit n) rest → Passed T A L n ts rest
      go front [] q g h = absurd g
      go front (x ∷ r) q g h = record {
        before = plain front;
        token = x;
        after = r;
        cut = q;
        here = refl;
        goes = (front ++ (x, Some n) ∷ [], g.0, g.1, plain_append front ((x, Some n) ∷ []), let P : List (Mark T) → Type 0 = λ w. L w g.1 in subst P (sym (append_assoc front ((x, Some n) ∷ []) g.0)) g.2);
        passes = passes n (plain front) r x (ap p (sym q) ∙ h);
      }

  -- The tokens of a sentence within the limits spell its value alone.
  pub one_value : (us vs : List (Mark T)) (a c : A) → L us a → IsClean us → L vs c → plain vs ≡ plain us → c ≡ a
  one_value us vs a c l k r h = sym (did_value (value_of vs c (did a []) r (ap p h ∙ whole us a l ∙ expected_clean us a [] k) (λ d. d)))

  pub answers : (ts : List T) → Answers L ts (p ts)
  answers ts = go (p ts) refl
    where
      go : (o : Outcome T A) → p ts ≡ o → Answers L ts o
      go (did a rest) h = found ts rest a h
      go (bad unexpected rest) h = wrong ts rest h
      go (bad (limit n) rest) h = over n ts rest h

pub exact_readers_answer : ExactReadersAnswer
exact_readers_answer = answers
