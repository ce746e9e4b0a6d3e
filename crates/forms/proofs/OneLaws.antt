-- One token, and none.
use Rattle.std.proofs.Common.{◌≡◌, true, false, cond, ◌⊎◌, inl, inr, List, [], ◌∷◌, ◌++◌, refl, sym, ◌∙◌, ap}
use Rattle.std.specs.Prelude.{None}
use Rattle.forms.specs.Forms.{Mark, plain, IsClean, Set, none, one, nothing}
use Rattle.forms.specs.Readers.{Fault, unexpected, limit, Outcome, did, bad, rest_of, put, sees, read_one, read_nothing}
use Rattle.forms.specs.Exact.{expected, Goes, Exact}
use Rattle.forms.proofs.Facts.{cases, longer, no_front, did_value, did_rest, did_bad}
use Rattle.forms.proofs.Beginnings.{sentences_one, sentences_nothing}

module _ (T A : Type 0) (b : Set T) (value : T → A) where
  hit : (x : T) (ts : List T) → b x ≡ true → read_one b value (x ∷ ts) ≡ did (value x) ts
  unfolding read_one
  hit x ts h = ap (λ c. cond c (did (value x) ts) (bad unexpected (x ∷ ts))) h

  miss : (x : T) (ts : List T) → b x ≡ false → read_one b value (x ∷ ts) ≡ bad unexpected (x ∷ ts)
  unfolding read_one
  miss x ts h = ap (λ c. cond c (did (value x) ts) (bad unexpected (x ∷ ts))) h

  empty : read_one b value [] ≡ bad unexpected []
  unfolding read_one
  empty = refl

  spelled : (x : T) → b x ≡ true → one b value ((x, None) ∷ []) (value x)
  spelled x h = record { token = x; is = refl; fits = h; made = refl }

  sound : (ts rest : List T) (a : A) → read_one b value ts ≡ did a rest → (front : List (Mark T)) × (ts ≡ plain front ++ rest) × one b value front a × IsClean front
  sound [] rest a h = absurd (did_bad (sym h ∙ empty))
  sound (x ∷ ts) rest a h = go (cases (b x))
    where
      go : (b x ≡ true) ⊎ (b x ≡ false) → (front : List (Mark T)) × (x ∷ ts ≡ plain front ++ rest) × one b value front a × IsClean front
      go (inl t) = let e : did (value x) ts ≡ did a rest = sym (hit x ts t) ∙ h in
          ((x, None) ∷ [], ap (λ r. x ∷ r) (did_rest e), record { token = x; is = refl; fits = t; made = sym (did_value e) }, (refl, tt))
      go (inr f) = absurd (did_bad (sym h ∙ miss x ts f))

  takes : (front : List (Mark T)) (rest : List T) (a : A) → one b value front a → sees none rest ≡ false → read_one b value (plain front ++ rest) ≡ expected front a rest
  takes front rest a s h = rw (s.is, s.made) (hit s.token rest s.fits)

  module _ (sample : T) (fits : b sample ≡ true) where
    bare : (e : Fault) (ts rest : List T) → ◌≡◌ {A = Outcome T A} (bad unexpected ts) (bad e rest) → (front : List (Mark T)) × (ts ≡ plain front ++ rest) × IsClean front × Goes (one b value) e front rest
    bare unexpected ts rest h = ([], cc, tt, ((sample, None) ∷ [], value sample, spelled sample fits))
    bare (limit n) ts rest h = cc

    viable : (ts rest : List T) (e : Fault) → read_one b value ts ≡ bad e rest → (front : List (Mark T)) × (ts ≡ plain front ++ rest) × IsClean front × Goes (one b value) e front rest
    viable [] rest e h = bare e [] rest (sym empty ∙ h)
    viable (x ∷ ts) rest e h = go (cases (b x))
      where
        go : (b x ≡ true) ⊎ (b x ≡ false) → (front : List (Mark T)) × (x ∷ ts ≡ plain front ++ rest) × IsClean front × Goes (one b value) e front rest
        go (inl t) = absurd (did_bad (sym (hit x ts t) ∙ h))
        go (inr f) = bare e (x ∷ ts) rest (sym (miss x ts f) ∙ h)

  near : (front mid r s : List T) (x : T) → rest_of (read_one b value (front ++ (mid ++ x ∷ r))) ≡ mid ++ x ∷ r
      → read_one b value (front ++ (mid ++ x ∷ s)) ≡ put (mid ++ x ∷ s) (read_one b value (front ++ (mid ++ x ∷ r)))
  near [] [] r s x h = go (cases (b x))
    where
      go : (b x ≡ true) ⊎ (b x ≡ false) → read_one b value (x ∷ s) ≡ put (x ∷ s) (read_one b value (x ∷ r))
      go (inl t) = absurd (longer x [] r (sym (sym (ap rest_of (hit x r t)) ∙ h)))
      go (inr f) = rw (miss x r f, miss x s f)
  near [] (y ∷ mid) r s x h = go (cases (b y))
    where
      go : (b y ≡ true) ⊎ (b y ≡ false) → read_one b value (y ∷ (mid ++ x ∷ s)) ≡ put (y ∷ (mid ++ x ∷ s)) (read_one b value (y ∷ (mid ++ x ∷ r)))
      go (inl t) = absurd (longer y [] (mid ++ x ∷ r) (sym (sym (ap rest_of (hit y (mid ++ x ∷ r) t)) ∙ h)))
      go (inr f) = rw (miss y (mid ++ x ∷ r) f, miss y (mid ++ x ∷ s) f)
  near (y ∷ front) mid r s x h = go (cases (b y))
    where
      go : (b y ≡ true) ⊎ (b y ≡ false) → read_one b value (y ∷ (front ++ (mid ++ x ∷ s))) ≡ put (mid ++ x ∷ s) (read_one b value (y ∷ (front ++ (mid ++ x ∷ r))))
      go (inl t) = let e : front ≡ [] = no_front front (mid ++ x ∷ r) (sym (ap rest_of (hit y (front ++ (mid ++ x ∷ r)) t)) ∙ h) in
          rw (hit y (front ++ (mid ++ x ∷ r)) t, hit y (front ++ (mid ++ x ∷ s)) t, e)
      go (inr f) = absurd (longer y front (mid ++ x ∷ r) (sym (ap rest_of (miss y (front ++ (mid ++ x ∷ r)) f)) ∙ h))

  ends : (front r : List T) (x : T) → read_one b value (front ++ x ∷ r) ≡ bad unexpected (x ∷ r) → read_one b value front ≡ bad unexpected []
  ends [] r x h = empty
  ends (y ∷ front) r x h = go (cases (b y))
    where
      go : (b y ≡ true) ⊎ (b y ≡ false) → read_one b value (y ∷ front) ≡ bad unexpected []
      go (inl t) = absurd (did_bad (sym (hit y (front ++ x ∷ r) t) ∙ h))
      go (inr f) = absurd (longer y front (x ∷ r) (ap rest_of (sym (miss y (front ++ x ∷ r) f) ∙ h)))

  pub one_exact : (sample : T) → b sample ≡ true → Exact T A (one b value) (read_one b value) false b none
  one_exact sample fits = record {
    sentences = sentences_one T A b value sample fits;
    sound = sound;
    takes = takes;
    viable = viable sample fits;
    near = near;
    ends = ends;
  }

module _ (T A : Type 0) (v : A) where
  none_takes : (front : List (Mark T)) (rest : List T) (a : A) → nothing {T = T} v front a → sees none rest ≡ false → read_nothing v (plain front ++ rest) ≡ expected front a rest
  unfolding read_nothing
  none_takes front rest a s h = rw (s.0, s.1) refl

  pub nothing_exact : Exact T A (nothing v) (read_nothing v) true none none
  unfolding read_nothing
  nothing_exact = record {
    sentences = sentences_nothing T A v;
    sound = λ ts rest a h. ([], did_rest h, (refl, sym (did_value h)), tt);
    takes = none_takes;
    viable = λ ts rest e h. absurd (did_bad h);
    near = λ front mid r s x h. ap (λ z. did v (z ++ (mid ++ x ∷ s))) (no_front front (mid ++ x ∷ r) h);
    ends = λ front r x h. absurd (did_bad h);
  }
