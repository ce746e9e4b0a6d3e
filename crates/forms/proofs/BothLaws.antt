-- One form after another.
use Rattle.std.proofs.Common.{◌≡◌, Bool, false, ◌&&◌, List, [], ◌∷◌, ◌++◌, refl, sym, ◌∙◌, ap, subst, append_assoc, append-nil}
use Rattle.std.proofs.lemmas.List.{append_cancel_right}
use Rattle.forms.specs.Forms.{Mark, plain, IsClean, Form, Set, either, kept, Apart, both, Begins}
use Rattle.forms.specs.Readers.{Fault, Outcome, did, bad, Reader, and_then, sees, rest_of, read_both}
use Rattle.forms.specs.Exact.{expected, Goes, Exact}
use Rattle.forms.proofs.Facts.{sees_either, sees_kept, did_value, did_rest, did_bad, plain_append, clean_append, expected_clean, expected_both, keeps, goes_on, goes_after}
use Rattle.forms.proofs.Beginnings.{sentences_both}
use Rattle.forms.proofs.Pair.{Went, whole, at_first, at_second, went, pair_near, pair_ends}

module _ (T A B C : Type 0) (f : A → B → C) (L : Form T A) (M : Form T B) (p : Reader T A) (q : Reader T B) (e1 e2 : Bool) (b1 b2 m1 m2 : Set T)
    (X : Exact T A L p e1 b1 m1) (Y : Exact T B M q e2 b2 m2) (apart : Apart b2 m1) where
  abbrev joined : (us vs : List (Mark T)) (a : A) (b : B) → L us a → M vs b → both f L M (us ++ vs) (f a b)
  joined us vs a b l m = record { a = a; b = b; front = us; back = vs; cut = refl; left = l; right = m; made = refl }

  follows : (back rest : List T) → Begins e2 b2 back → sees (either m2 (kept e2 m1)) rest ≡ false → sees m1 (back ++ rest) ≡ false
  follows [] rest h k = sees_kept e2 m1 rest h (sees_either m2 (kept e2 m1) rest k).1
  follows (y ∷ back) rest h k = apart y h

  takes : (front : List (Mark T)) (rest : List T) (c : C) → both f L M front c → sees (either m2 (kept e2 m1)) rest ≡ false → read_both f p q (plain front ++ rest) ≡ expected front c rest
  unfolding read_both
  takes front rest c s h =
      let e : plain front ++ rest ≡ plain s.front ++ (plain s.back ++ rest) = ap (λ w. plain w ++ rest) s.cut ∙ ap (λ w. w ++ rest) (plain_append s.front s.back) ∙ append_assoc (plain s.front) (plain s.back) rest in
      let one = X.takes s.front (plain s.back ++ rest) s.a s.left (follows (plain s.back) rest (Y.sentences.first s.back s.b s.right) h) in
      let two = Y.takes s.back rest s.b s.right (sees_either m2 (kept e2 m1) rest h).0 in
      ap (λ w. read_both f p q w) e ∙ ap (λ o. and_then o (λ a r. and_then (q r) (λ b t. did (f a b) t))) one ∙ expected_both f q s.front s.back s.a s.b rest two
      ∙ ap (λ w. expected w (f s.a s.b) rest) (sym s.cut) ∙ ap (λ z. expected front z rest) (sym s.made)

  sound : (ts rest : List T) (c : C) → read_both f p q ts ≡ did c rest → (front : List (Mark T)) × (ts ≡ plain front ++ rest) × both f L M front c × IsClean front
  sound ts rest c h = go (went f p q ts)
    where
      go : Went T A B C f p q ts → (front : List (Mark T)) × (ts ≡ plain front ++ rest) × both f L M front c × IsClean front
      go (whole a r b s hp hq hr) =
          let u = X.sound ts r a hp in
          let v = Y.sound r s b hq in
          let e : did (f a b) s ≡ did c rest = sym hr ∙ h in
          let cut : ts ≡ plain (u.0 ++ v.0) ++ rest = u.1 ∙ ap (λ w. plain u.0 ++ w) (v.1 ∙ ap (λ w. plain v.0 ++ w) (did_rest e)) ∙ sym (append_assoc (plain u.0) (plain v.0) rest) ∙ ap (λ w. w ++ rest) (sym (plain_append u.0 v.0)) in
          (u.0 ++ v.0, cut, record { a = a; b = b; front = u.0; back = v.0; cut = refl; left = u.2; right = v.2; made = sym (did_value e) }, clean_append u.0 v.0 u.3 v.3)
      go (at_first e r hp hr) = absurd (did_bad (sym h ∙ hr))
      go (at_second a r e s hp hq hr) = absurd (did_bad (sym h ∙ hr))

  viable : (ts rest : List T) (e : Fault) → read_both f p q ts ≡ bad e rest → (front : List (Mark T)) × (ts ≡ plain front ++ rest) × IsClean front × Goes (both f L M) e front rest
  viable ts rest e h = go (went f p q ts)
    where
      by : (e' : Fault) (r : List T) → ◌≡◌ {A = Outcome T C} (bad e' r) (bad e rest) → (front : List (Mark T)) × (ts ≡ plain front ++ r) × IsClean front × Goes (both f L M) e' front r → (front : List (Mark T)) × (ts ≡ plain front ++ rest) × IsClean front × Goes (both f L M) e front rest
      by e' r g n = let P : Outcome T C → Type 0 = elim [ did a w ↦ ⊥ | bad z w ↦ (front : List (Mark T)) × (ts ≡ plain front ++ w) × IsClean front × Goes (both f L M) z front w ] in subst P g n

      go : Went T A B C f p q ts → (front : List (Mark T)) × (ts ≡ plain front ++ rest) × IsClean front × Goes (both f L M) e front rest
      go (whole a r b s hp hq hr) = absurd (did_bad (sym hr ∙ h))
      go (at_first e' r hp hr) = let u = X.viable ts r e' hp in
          let t = Y.sentences.some in
          by e' r (sym hr ∙ h) (u.0, u.1, u.2, goes_on L (both f L M) e' u.0 r (λ us a l. (t.tokens, f a t.value, joined us t.tokens a t.value l t.spelled)) u.3)
      go (at_second a r e' s hp hq hr) =
          let u = X.sound ts r a hp in
          let v = Y.viable r s e' hq in
          by e' s (sym hr ∙ h) (
            u.0 ++ v.0,
            u.1 ∙ ap (λ w. plain u.0 ++ w) v.1 ∙ sym (append_assoc (plain u.0) (plain v.0) s) ∙ ap (λ w. w ++ s) (sym (plain_append u.0 v.0)),
            clean_append u.0 v.0 u.3 v.2,
            goes_after M (both f L M) e' u.0 v.0 s (λ us b m. (f a b, joined u.0 us a b u.2 m)) v.3,
          )

  -- read to the end
  done : (front r : List T) (x : T) (a : A) → p (front ++ x ∷ r) ≡ did a (x ∷ r) → p front ≡ did a []
  done front r x a h = let u = X.sound (front ++ x ∷ r) (x ∷ r) a h in
      let e : front ≡ plain u.0 = append_cancel_right front (plain u.0) (x ∷ r) u.1 in
      ap p (e ∙ sym (append-nil (plain u.0))) ∙ X.takes u.0 [] a u.2 refl ∙ expected_clean u.0 a [] u.3

  kept_by : (ts w : List T) (a : A) → p ts ≡ did a w → (u : List T) × (ts ≡ u ++ w)
  kept_by ts w a k = let u = X.sound ts w a k in (plain u.0, u.1)

  left_by : (w : List T) → (v : List T) × (w ≡ v ++ rest_of (q w))
  left_by w = let v = keeps Y w (q w) refl in (plain v.0, v.1)

  pub both_exact : Exact T C (both f L M) (read_both f p q) (e1 && e2) (either b1 (kept e1 b2)) (either m2 (kept e2 m1))
  both_exact = record {
    sentences = sentences_both T A B C f L M e1 e2 b1 b2 X.sentences Y.sentences;
    sound = sound;
    takes = takes;
    viable = viable;
    near = λ front mid r s x h. pair_near T A B C f p q kept_by X.near X.ends done front mid r s x (λ a w hp. left_by w) (λ a v hp g. Y.near v mid r s x g) h;
    ends = λ front r x h. pair_ends T A B C f p q kept_by X.near X.ends done front r x (λ a w hp. left_by w) (λ a v hp g. Y.ends v r x g) h;
  }
