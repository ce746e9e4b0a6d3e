-- One of two forms.
use Rattle.std.proofs.Common.{◌≡◌, ℕ, Bool, true, false, ◌⊎◌, inl, inr, List, [], ◌∷◌, ◌++◌, refl, sym, ◌∙◌, ap, append-nil}
use Rattle.std.specs.Prelude.{Option, Some, None}
use Rattle.forms.specs.Forms.{Mark, plain, IsClean, Form, Set, either, kept, Apart, this, that, or, Begins}
use Rattle.forms.specs.Readers.{Fault, unexpected, Outcome, did, bad, Reader, sees, rest_of, put, read_or}
use Rattle.forms.specs.Exact.{marked, expected, Goes, Exact}
use Rattle.forms.proofs.Facts.{cases, sees_either, sees_kept, sees_same, did_bad, bad_limit, or_this, or_that, goes_as}
use Rattle.forms.proofs.Beginnings.{sentences_or}

-- A token with which the form may begin is not unexpected at its start.
module _ (T A : Type 0) (L : Form T A) (p : Reader T A) (e : Bool) (b m : Set T) (X : Exact T A L p e b m) where
  not_unexpected : (o : Option ℕ) (w : Outcome T A) (ts us : List T) → (w ≡ bad unexpected us → ⊥) → marked o w ts ≡ bad unexpected us → ⊥
  not_unexpected None w ts us n h = n h
  not_unexpected (Some k) w ts us n h = bad_limit h

  never : (front : List (Mark T)) (a : A) (rest us : List T) → expected front a rest ≡ bad unexpected us → ⊥
  never [] a rest us h = did_bad h
  never (x ∷ front) a rest us h = not_unexpected x.1 (expected front a rest) (x.0 ∷ (plain front ++ rest)) us (never front a rest us) h

  pub welcome : (r : List T) (x : T) → b x ≡ true → p (x ∷ r) ≡ bad unexpected (x ∷ r) → ⊥
  welcome r x t h = let u = X.sentences.starts x t in
      let n : p (x ∷ plain u.1) ≡ bad unexpected (x ∷ plain u.1) = X.near [] [] r (plain u.1) x (ap rest_of h) ∙ ap (λ z. put (x ∷ plain u.1) z) h in
      never ((x, u.0) ∷ u.1) u.2 [] (x ∷ plain u.1) (sym (X.takes ((x, u.0) ∷ u.1) [] u.2 u.3 refl) ∙ ap p (append-nil (x ∷ plain u.1)) ∙ n)

module _ (T A : Type 0) (L M : Form T A) (p q : Reader T A) (e2 : Bool) (b1 b2 m1 m2 : Set T)
    (X : Exact T A L p false b1 m1) (Y : Exact T A M q e2 b2 m2) (apart : Apart b2 b1) where
  sound : (ts rest : List T) (a : A) → read_or b1 p q ts ≡ did a rest → (front : List (Mark T)) × (ts ≡ plain front ++ rest) × or L M front a × IsClean front
  sound ts rest a h = go (cases (sees b1 ts))
    where
      go : (sees b1 ts ≡ true) ⊎ (sees b1 ts ≡ false) → (front : List (Mark T)) × (ts ≡ plain front ++ rest) × or L M front a × IsClean front
      go (inl t) = let u = X.sound ts rest a (sym (or_this b1 p q ts t) ∙ h) in (u.0, u.1, this u.2, u.3)
      go (inr f) = let u = Y.sound ts rest a (sym (or_that b1 p q ts f) ∙ h) in (u.0, u.1, that u.2, u.3)

  takes : (front : List (Mark T)) (rest : List T) (a : A) → or L M front a → sees (either (either m1 m2) (kept e2 b1)) rest ≡ false → read_or b1 p q (plain front ++ rest) ≡ expected front a rest
  takes front rest a (this l) h = or_this b1 p q (plain front ++ rest) (here (plain front) (X.sentences.first front a l))
      ∙ X.takes front rest a l (sees_either m1 m2 rest (sees_either (either m1 m2) (kept e2 b1) rest h).0).0
    where
      here : (us : List T) → Begins false b1 us → sees b1 (us ++ rest) ≡ true
      here [] n = cc
      here (y ∷ us) n = n
  takes front rest a (that l) h = or_that b1 p q (plain front ++ rest) (here (plain front) (Y.sentences.first front a l))
      ∙ Y.takes front rest a l (sees_either m1 m2 rest (sees_either (either m1 m2) (kept e2 b1) rest h).0).1
    where
      here : (us : List T) → Begins e2 b2 us → sees b1 (us ++ rest) ≡ false
      here [] n = sees_kept e2 b1 rest n (sees_either (either m1 m2) (kept e2 b1) rest h).1
      here (y ∷ us) n = apart y n

  viable : (ts rest : List T) (e : Fault) → read_or b1 p q ts ≡ bad e rest → (front : List (Mark T)) × (ts ≡ plain front ++ rest) × IsClean front × Goes (or L M) e front rest
  viable ts rest e h = go (cases (sees b1 ts))
    where
      go : (sees b1 ts ≡ true) ⊎ (sees b1 ts ≡ false) → (front : List (Mark T)) × (ts ≡ plain front ++ rest) × IsClean front × Goes (or L M) e front rest
      go (inl t) = let u = X.viable ts rest e (sym (or_this b1 p q ts t) ∙ h) in (u.0, u.1, u.2, goes_as L (or L M) e u.0 rest (λ us a l. (a, this l)) u.3)
      go (inr f) = let u = Y.viable ts rest e (sym (or_that b1 p q ts f) ∙ h) in (u.0, u.1, u.2, goes_as M (or L M) e u.0 rest (λ us a l. (a, that l)) u.3)

  near : (front mid r s : List T) (x : T) → rest_of (read_or b1 p q (front ++ (mid ++ x ∷ r))) ≡ mid ++ x ∷ r
      → read_or b1 p q (front ++ (mid ++ x ∷ s)) ≡ put (mid ++ x ∷ s) (read_or b1 p q (front ++ (mid ++ x ∷ r)))
  near front mid r s x h = go (cases (sees b1 (front ++ (mid ++ x ∷ r))))
    where
      go : (sees b1 (front ++ (mid ++ x ∷ r)) ≡ true) ⊎ (sees b1 (front ++ (mid ++ x ∷ r)) ≡ false) → read_or b1 p q (front ++ (mid ++ x ∷ s)) ≡ put (mid ++ x ∷ s) (read_or b1 p q (front ++ (mid ++ x ∷ r)))
      go (inl t) = let e = or_this b1 p q (front ++ (mid ++ x ∷ r)) t in
          or_this b1 p q (front ++ (mid ++ x ∷ s)) (sym (sees_same b1 front mid r s x) ∙ t) ∙ X.near front mid r s x (sym (ap rest_of e) ∙ h) ∙ sym (ap (λ z. put (mid ++ x ∷ s) z) e)
      go (inr f) = let e = or_that b1 p q (front ++ (mid ++ x ∷ r)) f in
          or_that b1 p q (front ++ (mid ++ x ∷ s)) (sym (sees_same b1 front mid r s x) ∙ f) ∙ Y.near front mid r s x (sym (ap rest_of e) ∙ h) ∙ sym (ap (λ z. put (mid ++ x ∷ s) z) e)

  ends : (front r : List T) (x : T) → read_or b1 p q (front ++ x ∷ r) ≡ bad unexpected (x ∷ r) → read_or b1 p q front ≡ bad unexpected []
  ends [] r x h = go (cases (b1 x))
    where
      go : (b1 x ≡ true) ⊎ (b1 x ≡ false) → read_or b1 p q [] ≡ bad unexpected []
      go (inl t) = absurd (welcome T A L p false b1 m1 X r x t (sym (or_this b1 p q (x ∷ r) t) ∙ h))
      go (inr f) = or_that b1 p q [] refl ∙ Y.ends [] r x (sym (or_that b1 p q (x ∷ r) f) ∙ h)
  ends (y ∷ front) r x h = go (cases (b1 y))
    where
      go : (b1 y ≡ true) ⊎ (b1 y ≡ false) → read_or b1 p q (y ∷ front) ≡ bad unexpected []
      go (inl t) = or_this b1 p q (y ∷ front) t ∙ X.ends (y ∷ front) r x (sym (or_this b1 p q (y ∷ (front ++ x ∷ r)) t) ∙ h)
      go (inr f) = or_that b1 p q (y ∷ front) f ∙ Y.ends (y ∷ front) r x (sym (or_that b1 p q (y ∷ (front ++ x ∷ r)) f) ∙ h)

  pub or_exact : Exact T A (or L M) (read_or b1 p q) e2 (either b1 b2) (either (either m1 m2) (kept e2 b1))
  or_exact = record {
    sentences = sentences_or T A L M false e2 b1 b2 X.sentences Y.sentences;
    sound = sound;
    takes = takes;
    viable = viable;
    near = near;
    ends = ends;
  }
