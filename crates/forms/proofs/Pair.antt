-- One form after another: what is said of the readers alone.
use Rattle.std.proofs.Common.{◌≡◌, List, [], ◌∷◌, ◌++◌, refl, sym, ◌∙◌, ap, append_assoc, append-nil}
use Rattle.std.proofs.lemmas.List.{append_cancel_right}
use Rattle.forms.specs.Readers.{Fault, unexpected, Outcome, did, bad, Reader, and_then, rest_of, put, read_both}
use Rattle.forms.proofs.Facts.{did_bad}

-- ---- what happens

pub data Went (T A B C : Type 0) (f : A → B → C) (p : Reader T A) (q : Reader T B) (ts : List T) : Type 0 where
  whole : (a : A) (r : List T) (b : B) (s : List T) → p ts ≡ did a r → q r ≡ did b s → read_both f p q ts ≡ did (f a b) s → Went T A B C f p q ts
  at_first : (e : Fault) (r : List T) → p ts ≡ bad e r → read_both f p q ts ≡ bad e r → Went T A B C f p q ts
  at_second : (a : A) (r : List T) (e : Fault) (s : List T) → p ts ≡ did a r → q r ≡ bad e s → read_both f p q ts ≡ bad e s → Went T A B C f p q ts

pub both_at_first : {T A B C : Type 0} (f : A → B → C) (p : Reader T A) (q : Reader T B) (ts r : List T) (e : Fault) → p ts ≡ bad e r → read_both f p q ts ≡ bad e r
unfolding read_both
both_at_first f p q ts r e h = rw h refl

pub both_then : {T A B C : Type 0} (f : A → B → C) (p : Reader T A) (q : Reader T B) (ts r : List T) (a : A) (o : Outcome T B) → p ts ≡ did a r → q r ≡ o → read_both f p q ts ≡ and_then o (λ b s. did (f a b) s)
unfolding read_both
both_then f p q ts r a o h g = rw (h, g) refl

pub went : {T A B C : Type 0} (f : A → B → C) (p : Reader T A) (q : Reader T B) (ts : List T) → Went T A B C f p q ts
went {T} {A} {B} {C} f p q ts = go (p ts) refl
  where
    next : (a : A) (r : List T) → p ts ≡ did a r → (o : Outcome T B) → q r ≡ o → Went T A B C f p q ts
    next a r h (did b s) g = whole a r b s h g (both_then f p q ts r a (did b s) h g)
    next a r h (bad e s) g = at_second a r e s h g (both_then f p q ts r a (bad e s) h g)

    go : (o : Outcome T A) → p ts ≡ o → Went T A B C f p q ts
    go (did a r) h = next a r h (q r) refl
    go (bad e r) h = at_first e r h (both_at_first f p q ts r e h)

-- ---- the laws of nearness and of ends

module _ (T A B C : Type 0) (f : A → B → C) (p : Reader T A) (q : Reader T B)
    (kp : (ts w : List T) (a : A) → p ts ≡ did a w → (u : List T) × (ts ≡ u ++ w))
    (np : (front mid r s : List T) (x : T) → rest_of (p (front ++ (mid ++ x ∷ r))) ≡ mid ++ x ∷ r → p (front ++ (mid ++ x ∷ s)) ≡ put (mid ++ x ∷ s) (p (front ++ (mid ++ x ∷ r))))
    (ep : (front r : List T) (x : T) → p (front ++ x ∷ r) ≡ bad unexpected (x ∷ r) → p front ≡ bad unexpected [])
    (dp : (front r : List T) (x : T) (a : A) → p (front ++ x ∷ r) ≡ did a (x ∷ r) → p front ≡ did a []) where
  pub pair_near : (front mid r s : List T) (x : T)
      → ((a : A) (w : List T) → p (front ++ (mid ++ x ∷ r)) ≡ did a w → (v : List T) × (w ≡ v ++ rest_of (q w)))
      → ((a : A) (v : List T) → p (front ++ (mid ++ x ∷ r)) ≡ did a (v ++ (mid ++ x ∷ r)) → rest_of (q (v ++ (mid ++ x ∷ r))) ≡ mid ++ x ∷ r
      → q (v ++ (mid ++ x ∷ s)) ≡ put (mid ++ x ∷ s) (q (v ++ (mid ++ x ∷ r))))
      → rest_of (read_both f p q (front ++ (mid ++ x ∷ r))) ≡ mid ++ x ∷ r
      → read_both f p q (front ++ (mid ++ x ∷ s)) ≡ put (mid ++ x ∷ s) (read_both f p q (front ++ (mid ++ x ∷ r)))
  pair_near front mid r s x kq nq h = go (went f p q (front ++ (mid ++ x ∷ r)))
    where
      inner : (a : A) (w : List T) → p (front ++ (mid ++ x ∷ r)) ≡ did a w → (o : Outcome T B) → q w ≡ o → rest_of o ≡ mid ++ x ∷ r → read_both f p q (front ++ (mid ++ x ∷ s)) ≡ and_then (put (mid ++ x ∷ s) o) (λ b t. did (f a b) t)
      inner a w hp o hq ho =
          let u = kp (front ++ (mid ++ x ∷ r)) w a hp in
          let v = kq a w hp in
          let we : w ≡ v.0 ++ (mid ++ x ∷ r) = v.1 ∙ ap (λ z. v.0 ++ z) (ap rest_of hq ∙ ho) in
          let split : front ≡ u.0 ++ v.0 = append_cancel_right front (u.0 ++ v.0) (mid ++ x ∷ r) (u.1 ∙ ap (λ z. u.0 ++ z) we ∙ sym (append_assoc u.0 v.0 (mid ++ x ∷ r))) in
          let at : (t : List T) → front ++ (mid ++ x ∷ t) ≡ u.0 ++ ((v.0 ++ mid) ++ x ∷ t) = λ t. ap (λ z. z ++ (mid ++ x ∷ t)) split ∙ append_assoc u.0 v.0 (mid ++ x ∷ t) ∙ ap (λ z. u.0 ++ z) (sym (append_assoc v.0 mid (x ∷ t))) in
          let hp2 : p (u.0 ++ ((v.0 ++ mid) ++ x ∷ r)) ≡ did a ((v.0 ++ mid) ++ x ∷ r) = ap p (sym (at r)) ∙ hp ∙ ap (λ z. did a z) (we ∙ sym (append_assoc v.0 mid (x ∷ r))) in
          let n1 = np u.0 (v.0 ++ mid) r s x (ap rest_of hp2) in
          let p3 : p (front ++ (mid ++ x ∷ s)) ≡ did a (v.0 ++ (mid ++ x ∷ s)) = ap p (at s) ∙ n1 ∙ ap (λ z. put ((v.0 ++ mid) ++ x ∷ s) z) hp2 ∙ ap (λ z. did a z) (append_assoc v.0 mid (x ∷ s)) in
          let hq2 : q (v.0 ++ (mid ++ x ∷ r)) ≡ o = ap q (sym we) ∙ hq in
          let n2 = nq a v.0 (hp ∙ ap (λ z. did a z) we) (ap rest_of hq2 ∙ ho) in
          both_then f p q _ _ a (put (mid ++ x ∷ s) o) p3 (n2 ∙ ap (λ z. put (mid ++ x ∷ s) z) hq2)

      go : Went T A B C f p q (front ++ (mid ++ x ∷ r)) → read_both f p q (front ++ (mid ++ x ∷ s)) ≡ put (mid ++ x ∷ s) (read_both f p q (front ++ (mid ++ x ∷ r)))
      go (whole a w b t hp hq hr) = inner a w hp (did b t) hq (sym (ap rest_of hr) ∙ h) ∙ sym (ap (λ z. put (mid ++ x ∷ s) z) hr)
      go (at_first e w hp hr) = let n = np front mid r s x (ap rest_of hp ∙ sym (ap rest_of hr) ∙ h) in
          both_at_first f p q _ _ e (n ∙ ap (λ z. put (mid ++ x ∷ s) z) hp) ∙ sym (ap (λ z. put (mid ++ x ∷ s) z) hr)
      go (at_second a w e t hp hq hr) = inner a w hp (bad e t) hq (sym (ap rest_of hr) ∙ h) ∙ sym (ap (λ z. put (mid ++ x ∷ s) z) hr)

  pub pair_ends : (front r : List T) (x : T)
      → ((a : A) (w : List T) → p (front ++ x ∷ r) ≡ did a w → (v : List T) × (w ≡ v ++ rest_of (q w)))
      → ((a : A) (v : List T) → p (front ++ x ∷ r) ≡ did a (v ++ x ∷ r) → q (v ++ x ∷ r) ≡ bad unexpected (x ∷ r) → q v ≡ bad unexpected [])
      → read_both f p q (front ++ x ∷ r) ≡ bad unexpected (x ∷ r) → read_both f p q front ≡ bad unexpected []
  pair_ends front r x kq eq h = go (went f p q (front ++ x ∷ r))
    where
      by : (e : Fault) (s : List T) → ◌≡◌ {A = Outcome T C} (bad e s) (bad unexpected (x ∷ r)) → (e ≡ unexpected) × (s ≡ x ∷ r)
      by e s g = (cc, cc)

      short : (us vs : List T) (a : A) → p (us ++ (vs ++ x ∷ r)) ≡ did a (vs ++ x ∷ r) → p (us ++ vs) ≡ did a vs
      short us [] a h = ap p (append-nil us) ∙ dp us r x a h
      short us (y ∷ vs) a h = np us [] (vs ++ x ∷ r) vs y (ap rest_of h) ∙ ap (λ z. put (y ∷ vs) z) h

      go : Went T A B C f p q (front ++ x ∷ r) → read_both f p q front ≡ bad unexpected []
      go (whole a w b t hp hq hr) = absurd (did_bad (sym hr ∙ h))
      go (at_first e w hp hr) = let g = by e w (sym hr ∙ h) in
          both_at_first f p q front [] unexpected (ep front r x (hp ∙ ap (λ z. bad z w) g.0 ∙ ap (λ z. bad unexpected z) g.1))
      go (at_second a w e t hp hq hr) =
          let g = by e t (sym hr ∙ h) in
          let u = kp (front ++ x ∷ r) w a hp in
          let hq1 : q w ≡ bad unexpected (x ∷ r) = hq ∙ ap (λ z. bad z t) g.0 ∙ ap (λ z. bad unexpected z) g.1 in
          let v = kq a w hp in
          let we : w ≡ v.0 ++ x ∷ r = v.1 ∙ ap (λ z. v.0 ++ z) (ap rest_of hq1) in
          let split : front ≡ u.0 ++ v.0 = append_cancel_right front (u.0 ++ v.0) (x ∷ r) (u.1 ∙ ap (λ z. u.0 ++ z) we ∙ sym (append_assoc u.0 v.0 (x ∷ r))) in
          let n : q v.0 ≡ bad unexpected [] = eq a v.0 (hp ∙ ap (λ z. did a z) we) (ap q (sym we) ∙ hq1) in
          both_then f p q front v.0 a (bad unexpected []) (ap p split ∙ short u.0 v.0 a (ap p (sym (append_assoc u.0 v.0 (x ∷ r)) ∙ ap (λ z. z ++ x ∷ r) (sym split)) ∙ hp ∙ ap (λ z. did a z) we)) n
