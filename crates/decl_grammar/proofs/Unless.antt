-- A form without the sentences that begin with some tokens.
use Rattle.std.proofs.Common.{◌≡◌, Bool, true, false, not, cond, ◌&&◌, ◌⊎◌, inl, inr, List, [], ◌∷◌, ◌++◌, refl, sym, ◌∙◌, ap, subst}
use Rattle.pyx_lex.specs.declared.token.Token.{Token}
use Rattle.token_class.specs.declared.class.TokenClass.{TokenClass}
use Rattle.token_class.specs.Sets.{Classes, of}
use Rattle.token_class.proofs.Laws.{ExactFor}
use Rattle.token_class.proofs.Samples.{class_for, sample}
use Rattle.forms.specs.Forms.{Mark, plain, IsClean, Form, Set, Begins, Sentence, Sentences}
use Rattle.forms.specs.Readers.{Fault, unexpected, limit, Outcome, did, bad, Reader, sees, rest_of, put}
use Rattle.forms.specs.Exact.{expected, Goes, Exact}
use Rattle.forms.proofs.Facts.{cases, and_true, no_front, sees_same, did_bad}
use Rattle.decl_grammar.specs.Grammar.{Unless, unless}
use Rattle.decl_grammar.specs.Reading.{read_unless}

not_true : (c : Bool) → not c ≡ true → c ≡ false
not_true true h = sym h
not_true false h = refl

module _ (A : Type 0) (x : Set Token) (L : Form Token A) (p : Reader Token A) (b m : Set Token) (X : Exact Token A L p false b m) (y : Token) (here : b y ≡ true) (other : x y ≡ false) where
  abbrev begins : Set Token
  begins t = b t && not (x t)

  -- ---- its sentences

  unless_first : (front : List (Mark Token)) (a : A) → Unless A x L front a → Begins false begins (plain front)
  unless_first front a s = go (plain front) (X.sentences.first front a s.inside) s.other
    where
      go : (us : List Token) → Begins false b us → sees x us ≡ false → Begins false begins us
      go [] n k = n
      go (z ∷ us) n k = rw (n, k) refl

  unless_some : Sentence Token A (unless x L)
  unless_some = let u = X.sentences.starts y here in record { tokens = (y, u.0) ∷ u.1; value = u.2; spelled = record { inside = u.3; other = other } }

  sentences_unless : Sentences Token A (unless x L) false begins
  sentences_unless = record {
    first = unless_first;
    some = unless_some;
    blank = λ h. cc;
    starts = λ t h. let k = and_true (b t) (not (x t)) h in let u = X.sentences.starts t k.0 in (u.0, u.1, u.2, record { inside = u.3; other = not_true (x t) k.1 });
  }

  -- ---- what is read

  blocked : (ts : List Token) → sees x ts ≡ true → read_unless x p ts ≡ bad unexpected ts
  unfolding read_unless
  blocked ts h = ap (λ c. cond c (bad unexpected ts) (p ts)) h

  passed : (ts : List Token) → sees x ts ≡ false → read_unless x p ts ≡ p ts
  unfolding read_unless
  passed ts h = ap (λ c. cond c (bad unexpected ts) (p ts)) h

  -- the first token is one of the front
  sees_front : (us vs : List Token) → Begins false b us → sees x (us ++ vs) ≡ sees x us
  sees_front [] vs n = cc
  sees_front (z ∷ us) vs n = refl

  unless_sound : (ts rest : List Token) (a : A) → read_unless x p ts ≡ did a rest → (front : List (Mark Token)) × (ts ≡ plain front ++ rest) × unless x L front a × IsClean front
  unless_sound ts rest a h = go (cases (sees x ts))
    where
      go : (sees x ts ≡ true) ⊎ (sees x ts ≡ false) → (front : List (Mark Token)) × (ts ≡ plain front ++ rest) × unless x L front a × IsClean front
      go (inl t) = absurd (did_bad (sym h ∙ blocked ts t))
      go (inr f) = let u = X.sound ts rest a (sym (passed ts f) ∙ h) in
          (u.0, u.1, record { inside = u.2; other = sym (sees_front (plain u.0) rest (X.sentences.first u.0 a u.2)) ∙ sym (ap (sees x) u.1) ∙ f }, u.3)

  unless_takes : (front : List (Mark Token)) (rest : List Token) (a : A) → unless x L front a → sees m rest ≡ false → read_unless x p (plain front ++ rest) ≡ expected front a rest
  unless_takes front rest a s h = passed (plain front ++ rest) (sees_front (plain front) rest (X.sentences.first front a s.inside) ∙ s.other) ∙ X.takes front rest a s.inside h

  Fails : List Token → List Token → Fault → Type 0
  Fails ts rest e = (front : List (Mark Token)) × (ts ≡ plain front ++ rest) × IsClean front × Goes (unless x L) e front rest

  unless_goes : (e : Fault) (front : List (Mark Token)) (rest : List Token) → sees x (plain front ++ rest) ≡ false → Goes L e front rest → Goes (unless x L) e front rest
  unless_goes unexpected [] rest f g = (unless_some.tokens, unless_some.value, unless_some.spelled)
  unless_goes unexpected (z ∷ front) rest f g = (g.0, g.1, record { inside = g.2; other = f })
  unless_goes (limit n) [] [] f g = absurd g
  unless_goes (limit n) (z ∷ front) [] f g = absurd g
  unless_goes (limit n) [] (w ∷ rest) f g = (g.0, g.1, record { inside = g.2; other = f })
  unless_goes (limit n) (z ∷ front) (w ∷ rest) f g = (g.0, g.1, record { inside = g.2; other = f })

  unless_viable : (ts rest : List Token) (e : Fault) → read_unless x p ts ≡ bad e rest → Fails ts rest e
  unfolding Fails
  unless_viable ts rest e h = go (cases (sees x ts))
    where
      go : (sees x ts ≡ true) ⊎ (sees x ts ≡ false) → Fails ts rest e
      go (inl t) = let P : Outcome Token A → Type 0 = elim [ did a w ↦ ⊥ | bad z w ↦ (front : List (Mark Token)) × (ts ≡ plain front ++ w) × IsClean front × Goes (unless x L) z front w ] in
          subst P (sym (blocked ts t) ∙ h) ([], refl, tt, (unless_some.tokens, unless_some.value, unless_some.spelled))
      go (inr f) = let u = X.viable ts rest e (sym (passed ts f) ∙ h) in (u.0, u.1, u.2, unless_goes e u.0 rest (sym (ap (sees x) u.1) ∙ f) u.3)

  unless_near : (front mid r s : List Token) (z : Token) → rest_of (read_unless x p (front ++ (mid ++ z ∷ r))) ≡ mid ++ z ∷ r
      → read_unless x p (front ++ (mid ++ z ∷ s)) ≡ put (mid ++ z ∷ s) (read_unless x p (front ++ (mid ++ z ∷ r)))
  unless_near front mid r s z h = go (cases (sees x (front ++ (mid ++ z ∷ r))))
    where
      go : (sees x (front ++ (mid ++ z ∷ r)) ≡ true) ⊎ (sees x (front ++ (mid ++ z ∷ r)) ≡ false) → read_unless x p (front ++ (mid ++ z ∷ s)) ≡ put (mid ++ z ∷ s) (read_unless x p (front ++ (mid ++ z ∷ r)))
      go (inl t) =
          let none : front ≡ [] = no_front front (mid ++ z ∷ r) (sym (ap rest_of (blocked (front ++ (mid ++ z ∷ r)) t)) ∙ h) in
          blocked (front ++ (mid ++ z ∷ s)) (sym (sees_same x front mid r s z) ∙ t) ∙ ap (λ w. bad unexpected (w ++ (mid ++ z ∷ s))) none ∙ sym (ap (put (mid ++ z ∷ s)) (blocked (front ++ (mid ++ z ∷ r)) t))
      go (inr f) =
          let old = passed (front ++ (mid ++ z ∷ r)) f in
          passed (front ++ (mid ++ z ∷ s)) (sym (sees_same x front mid r s z) ∙ f) ∙ X.near front mid r s z (sym (ap rest_of old) ∙ h) ∙ sym (ap (put (mid ++ z ∷ s)) old)

  -- at the end a token is missing
  at_end : (o : Outcome Token A) → p [] ≡ o → o ≡ bad unexpected []
  at_end (did a rest) h = let u = X.sound [] rest a h in absurd (go u.0 u.1 (X.sentences.first u.0 a u.2))
    where
      go : (us : List (Mark Token)) → [] ≡ plain us ++ rest → Begins false b (plain us) → ⊥
      go [] e n = cc
      go (z ∷ us) e n = cc
  at_end (bad e rest) h = let u = X.viable [] rest e h in go e u.0 rest u.1 u.3
    where
      go : (e : Fault) (us : List (Mark Token)) (rest : List Token) → [] ≡ plain us ++ rest → Goes L e us rest → ◌≡◌ {A = Outcome Token A} (bad e rest) (bad unexpected [])
      go unexpected [] rest q g = ap (λ w. bad unexpected w) (sym q)
      go unexpected (z ∷ us) rest q g = cc
      go (limit n) us [] q g = absurd g
      go (limit n) [] (z ∷ rest) q g = cc
      go (limit n) (w ∷ us) (z ∷ rest) q g = cc

  unless_ends : (front r : List Token) (z : Token) → read_unless x p (front ++ z ∷ r) ≡ bad unexpected (z ∷ r) → read_unless x p front ≡ bad unexpected []
  unless_ends front r z h = go (cases (sees x (front ++ z ∷ r)))
    where
      before : (front : List Token) → sees x (front ++ z ∷ r) ≡ false → sees x front ≡ false
      before [] f = refl
      before (w ∷ front) f = f

      go : (sees x (front ++ z ∷ r) ≡ true) ⊎ (sees x (front ++ z ∷ r) ≡ false) → read_unless x p front ≡ bad unexpected []
      go (inl t) =
          let none : front ≡ [] = no_front front (z ∷ r) (ap rest_of (sym (blocked (front ++ z ∷ r) t) ∙ h)) in
          ap (read_unless x p) none ∙ passed [] refl ∙ at_end (p []) refl
      go (inr f) = passed front (before front f) ∙ X.ends front r z (sym (passed (front ++ z ∷ r) f) ∙ h)

  pub unless_exact : Exact Token A (unless x L) (read_unless x p) false begins m
  unfolding Fails
  unless_exact = record {
    sentences = sentences_unless;
    sound = unless_sound;
    takes = unless_takes;
    viable = unless_viable;
    near = unless_near;
    ends = unless_ends;
  }

-- the form, where it begins with no token of the set; some token with which it begins isn't one
pub but_not : {A : Type 0} {L : Form Token A} {p : Reader Token A} {b m : Classes} (x : Classes) (y : TokenClass) → b y ≡ true → x y ≡ false → ExactFor A L p false b m
    → ExactFor A (unless (of x) L) (read_unless (of x) p) false (λ c. b c && not (x c)) m
but_not {A} {L} {p} {b} {m} x y h k X = record { exact = unless_exact A (of x) L p (of b) (of m) X.exact (sample y) (ap b (class_for y) ∙ h) (ap x (class_for y) ∙ k) }
