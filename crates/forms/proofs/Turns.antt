-- A form that may take any number of turns: each turn takes a token, so there are no more of them than tokens.
use Rattle.std.proofs.Common.{◌≡◌, ℕ, zero, suc, ◌<◌, ◌≤◌, max, true, false, List, [], ◌∷◌, ◌++◌, length, refl, sym, ◌∙◌, ap, length-append, arith}
use Rattle.forms.specs.Forms.{Mark, plain, Form, Set, nothing, Sentences}
use Rattle.forms.specs.Readers.{did, unexpected, bad, Reader, sees, rest_of, put, read_nothing, read_turns, read_turned}
use Rattle.forms.specs.Exact.{expected, Exact}
use Rattle.forms.proofs.Facts.{plain_length, goes_as}

-- what a turn is, over what may come after it
abbrev pub Within : {T A : Type 0} → Form T A → Form T A → Type 0
Within {T} {A} L M = (us : List (Mark T)) (a : A) → L us a → M us a

abbrev pub Turn : Type 0 → Type 0 → Type 1
Turn T A = Form T A → Form T A

-- at most n turns
abbrev pub turns : {T A : Type 0} → ℕ → Turn T A → A → List (Mark T) → A → Type 0
turns zero F v = nothing v
turns (suc n) F v = F (turns n F v)

abbrev pub turned : {T A : Type 0} → Turn T A → A → Form T A
turned F v ts a = (n : ℕ) × turns n F v ts a

abbrev pub shorter : {T A : Type 0} → ℕ → Form T A → Form T A
shorter n L us a = (length us < n) × L us a

module _ (T A : Type 0) (F : Turn T A) (G : Reader T A → Reader T A) (v : A) (b m : Set T)
    (mono : (L M : Form T A) → Within L M → Within (F L) (F M))
    (least : (L : Form T A) → Within (nothing v) (F L))
    (shrinks : (L : Form T A) (front : List (Mark T)) (a : A) → F L front a → F (shorter (length front) L) front a)
    (local : (p q : Reader T A) (ts : List T) → ((us : List T) → length us < length ts → p us ≡ q us) → G p ts ≡ G q ts)
    (at_end : (p : Reader T A) → G p [] ≡ did v [])
    (exact_first : Exact T A (F (nothing v)) (G (read_nothing v)) true b m)
    (exact_next : (L : Form T A) (p : Reader T A) → Exact T A L p true b m → Exact T A (F L) (G p) true b m) where
  pub up : (n k : ℕ) → n ≤ k → Within (turns n F v) (turns k F v)
  up zero zero h us a l = l
  up zero (suc k) h us a l = least (turns k F v) us a l
  up (suc n) zero h us a l = absurd (omega arith)
  up (suc n) (suc k) h us a l = mono (turns n F v) (turns k F v) (λ us a l. up n k (omega arith) us a l) us a l

  fits : (n : ℕ) (front : List (Mark T)) (a : A) → turns n F v front a → turns (suc (length front)) F v front a
  fits zero front a l = least (turns (length front) F v) front a l
  fits (suc n) front a l = mono (shorter (length front) (turns n F v)) (turns (length front) F v) (λ us a s. up (suc (length us)) (length front) (omega (arith, s.0)) us a (fits n us a s.1)) front a
      (shrinks (turns n F v) front a l)

  enough : (n k : ℕ) (ts : List T) → length ts ≤ n → length ts ≤ k → read_turns n G v ts ≡ read_turns k G v ts
  unfolding read_turns read_nothing
  enough zero zero ts h g = refl
  enough zero (suc k) [] h g = sym (at_end (read_turns k G v))
  enough zero (suc k) (x ∷ ts) h g = absurd (omega arith)
  enough (suc n) zero [] h g = at_end (read_turns n G v)
  enough (suc n) zero (x ∷ ts) h g = absurd (omega arith)
  enough (suc n) (suc k) ts h g = local (read_turns n G v) (read_turns k G v) ts (λ us l. enough n k us (omega arith) (omega arith))

  exact_at : (n : ℕ) → Exact T A (turns (suc n) F v) (read_turns (suc n) G v) true b m
  unfolding read_turns
  exact_at zero = exact_first
  exact_at (suc n) = exact_next (turns (suc n) F v) (read_turns (suc n) G v) (exact_at n)

  -- with any number of turns that is enough
  at : (n : ℕ) (ts : List T) → length ts ≤ n → read_turned G v ts ≡ read_turns (suc n) G v ts
  unfolding read_turned
  at n ts h = enough (length ts) (suc n) ts (omega arith) (omega arith)

  turned_takes : (front : List (Mark T)) (rest : List T) (a : A) → turned F v front a → sees m rest ≡ false → read_turned G v (plain front ++ rest) ≡ expected front a rest
  turned_takes front rest a l h = at (length (plain front ++ rest)) (plain front ++ rest) (omega arith) ∙ (exact_at (length (plain front ++ rest))).takes front rest a
      (up (suc (length front)) (suc (length (plain front ++ rest))) (omega (arith, length-append (plain front) rest, plain_length front)) front a (fits l.0 front a l.1)) h

  turned_near : (front mid r s : List T) (x : T) → rest_of (read_turned G v (front ++ (mid ++ x ∷ r))) ≡ mid ++ x ∷ r
      → read_turned G v (front ++ (mid ++ x ∷ s)) ≡ put (mid ++ x ∷ s) (read_turned G v (front ++ (mid ++ x ∷ r)))
  turned_near front mid r s x h =
      let n = max (length (front ++ (mid ++ x ∷ r))) (length (front ++ (mid ++ x ∷ s))) in
      let f = at n (front ++ (mid ++ x ∷ r)) (omega arith) in
      at n (front ++ (mid ++ x ∷ s)) (omega arith) ∙ (exact_at n).near front mid r s x (sym (ap rest_of f) ∙ h) ∙ sym (ap (λ z. put (mid ++ x ∷ s) z) f)

  turned_ends : (front r : List T) (x : T) → read_turned G v (front ++ x ∷ r) ≡ bad unexpected (x ∷ r) → read_turned G v front ≡ bad unexpected []
  turned_ends front r x h =
      let n = length (front ++ x ∷ r) in
      at n front (omega (arith, length-append front (x ∷ r))) ∙ (exact_at n).ends front r x (sym (at n (front ++ x ∷ r) (omega arith)) ∙ h)

  pub sentences_turned : Sentences T A (turned F v) true b
  sentences_turned = record {
    first = λ front a l. (exact_at l.0).sentences.first front a (up l.0 (suc l.0) (omega arith) front a l.1);
    some = record { tokens = []; value = v; spelled = (0, (refl, refl)) };
    blank = λ h. (v, (0, (refl, refl)));
    starts = λ x h. let u = (exact_at 0).sentences.starts x h in (u.0, u.1, u.2, (1, u.3));
  }

  pub turned_exact : Exact T A (turned F v) (read_turned G v) true b m
  turned_exact = record {
    sentences = sentences_turned;
    sound = λ ts rest a h. let u = (exact_at (length ts)).sound ts rest a (sym (at (length ts) ts (omega arith)) ∙ h) in (u.0, u.1, (suc (length ts), u.2), u.3);
    takes = turned_takes;
    viable = λ ts rest f h. let u = (exact_at (length ts)).viable ts rest f (sym (at (length ts) ts (omega arith)) ∙ h) in
        (u.0, u.1, u.2, goes_as (turns (suc (length ts)) F v) (turned F v) f u.0 rest (λ us a l. (a, (suc (length ts), l))) u.3);
    near = turned_near;
    ends = turned_ends;
  }
