-- Any number of a form, with and without a separator.
use Rattle.std.proofs.Common.{◌≡◌, ℕ, zero, suc, ◌<◌, Bool, true, false, ◌||◌, ◌⊎◌, inl, inr, List, [], ◌∷◌, ◌++◌, length, refl, sym, ◌∙◌, ap, subst, length-append, arith}
use Rattle.forms.specs.Forms.{Mark, plain, Form, Set, none, either, kept, Apart, both, nothing, this, that, many, Begins}
use Rattle.forms.specs.Readers.{Outcome, did, bad, Reader, sees, read_both, read_or, read_nothing, read_one_more, read_many, cons}
use Rattle.forms.specs.Exact.{Exact}
use Rattle.forms.specs.Lists.{one_more, many_upto, read_many_upto}
use Rattle.forms.proofs.Facts.{cases, or_false, or_this, or_that}
use Rattle.forms.proofs.OneLaws.{nothing_exact}
use Rattle.forms.proofs.Pair.{both_at_first, both_then}
use Rattle.forms.proofs.BothLaws.{both_exact}
use Rattle.forms.proofs.OrLaws.{or_exact}
use Rattle.forms.proofs.GuardLaws.{exact_as, exact_sets}
use Rattle.forms.proofs.Turns.{Within, turns, turned, shorter, turned_exact}

-- ---- sets

pub or_no : (a : Bool) → (a || false) ≡ a
or_no true = refl
or_no false = refl

pub or_off : (a b : Bool) → a ≡ false → b ≡ false → (a || b) ≡ false
or_off a b h g = rw h g

-- ---- readers that agree on what is shorter

pub same_second : {T A B C : Type 0} (f : A → B → C) (p : Reader T A) (q w : Reader T B) (ts : List T) → ((a : A) (r : List T) → p ts ≡ did a r → q r ≡ w r) → read_both f p q ts ≡ read_both f p w ts
same_second {T} {A} {B} {C} f p q w ts h = go (p ts) refl
  where
    go : (o : Outcome T A) → p ts ≡ o → read_both f p q ts ≡ read_both f p w ts
    go (did a r) e = both_then f p q ts r a (w r) e (h a r e) ∙ sym (both_then f p w ts r a (w r) e refl)
    go (bad z r) e = both_at_first f p q ts r z e ∙ sym (both_at_first f p w ts r z e)

pub same_that : {T A : Type 0} (b : Set T) (p q w : Reader T A) (ts : List T) → p ts ≡ q ts → read_or b p w ts ≡ read_or b q w ts
same_that b p q w ts h = go (cases (sees b ts))
  where
    go : (sees b ts ≡ true) ⊎ (sees b ts ≡ false) → read_or b p w ts ≡ read_or b q w ts
    go (inl t) = or_this b p w ts t ∙ h ∙ sym (or_this b q w ts t)
    go (inr f) = or_that b p w ts f ∙ sym (or_that b q w ts f)

-- ---- what is read takes tokens

module _ (T A : Type 0) (L : Form T A) (p : Reader T A) (b m : Set T) (X : Exact T A L p false b m) where
  pub takes_one : (us : List (Mark T)) (a : A) → L us a → 0 < length us
  takes_one us a l = go us (X.sentences.first us a l)
    where
      go : (us : List (Mark T)) → Begins false b (plain us) → 0 < length us
      go [] n = cc
      go (x ∷ us) n = omega arith

  pub less_left : (ts r : List T) (a : A) → p ts ≡ did a r → length r < length ts
  less_left ts r a h = let u = X.sound ts r a h in go u.0 u.1 (X.sentences.first u.0 a u.2)
    where
      go : (us : List (Mark T)) → ts ≡ plain us ++ r → Begins false b (plain us) → length r < length ts
      go [] e n = cc
      go (y ∷ us) e n = omega (arith, ap length e, length-append (plain us) r)

  -- ---- {x}

  more_mono : (K M : Form T (List A)) → Within K M → Within (one_more L K) (one_more L M)
  more_mono K M h us a (this s) = this (record { a = s.a; b = s.b; front = s.front; back = s.back; cut = s.cut; left = s.left; right = h s.back s.b s.right; made = s.made })
  more_mono K M h us a (that l) = that l

  more_shrinks : (K : Form T (List A)) (front : List (Mark T)) (a : List A) → one_more L K front a → one_more L (shorter (length front) K) front a
  more_shrinks K front a (that l) = that l
  more_shrinks K front a (this s) =
      let n = takes_one s.front s.a s.left in
      let k : length s.back < length front = omega (arith, ap length s.cut, length-append s.front s.back, n) in
      this (record { a = s.a; b = s.b; front = s.front; back = s.back; cut = s.cut; left = s.left; right = (k, s.right); made = s.made })

  more_local : (q w : Reader T (List A)) (ts : List T) → ((us : List T) → length us < length ts → q us ≡ w us) → read_one_more b p q ts ≡ read_one_more b p w ts
  more_local q w ts h = same_that b _ _ _ ts (same_second cons p q w ts (λ a r e. h r (less_left ts r a e)))

  more_end : (q : Reader T (List A)) → read_one_more b p q [] ≡ did [] []
  unfolding read_nothing
  more_end q = or_that b (read_both cons p q) (read_nothing []) [] refl

  module _ (c : Set T) (apart : Apart c m) (K : Form T (List A)) (q : Reader T (List A)) where
    -- the item is one of another form where a limit is passed
    more_next_with : (M : Form T A) (r : Reader T A) → Exact T A M r false b m → (n : Set T) → Exact T (List A) K q true c n → ((x : T) → n x ≡ false → m x ≡ false) → ((x : T) → n x ≡ false → b x ≡ false)
        → Exact T (List A) (one_more M K) (read_one_more b r q) true b n
    more_next_with M r Z n Y h g =
        let w = exact_sets T (List A) (both cons M K) (read_both cons r q) false _ _ b (either n (kept true m)) (λ x. or_no (b x)) (λ x k. k)
        (both_exact T A (List A) (List A) cons M K r q false true b c m n Z Y apart) in
        let z = or_exact T (List A) (both cons M K) (nothing []) (read_both cons r q) (read_nothing []) true b none (either n (kept true m)) none w (nothing_exact T (List A) []) (λ x k. cc) in
        exact_sets T (List A) (one_more M K) (read_one_more b r q) true _ _ b n (λ x. or_no (b x))
        (λ x k. or_off (either (either n (kept true m)) none x) (kept true b x)
        (or_off (either n (kept true m) x) false (or_off (n x) (m x) k (h x k)) refl) (g x k)) z

    pub more_next : (n : Set T) → Exact T (List A) K q true c n → ((x : T) → n x ≡ false → m x ≡ false) → ((x : T) → n x ≡ false → b x ≡ false) → Exact T (List A) (one_more L K) (read_one_more b p q) true b n
    more_next n = more_next_with L p X n

  module _ (apart : Apart b m) where
    abbrev goes : Set T
    goes = either m b

    more_m : (x : T) → goes x ≡ false → m x ≡ false
    more_m x h = (or_false (m x) (b x) h).0

    more_b : (x : T) → goes x ≡ false → b x ≡ false
    more_b x h = (or_false (m x) (b x) h).1

    many_turned : Exact T (List A) (turned (one_more L) []) (read_many b p) true b goes
    unfolding read_many
    many_turned = turned_exact T (List A) (one_more L) (read_one_more b p) [] b goes more_mono (λ K us a l. that l) more_shrinks more_local more_end
        (more_next none (λ x k. cc) (nothing []) (read_nothing []) goes start more_m more_b)
        (λ K q Y. more_next b apart K q goes Y more_m more_b)
      where
        start : Exact T (List A) (nothing []) (read_nothing []) true none goes
        start = exact_sets T (List A) (nothing []) (read_nothing []) true none none none goes (λ x. refl) (λ x k. refl) (nothing_exact T (List A) [])

    there : (us : List (Mark T)) (all : List A) → turned (one_more L) [] us all → many L us all
    there us all l = go l.0 us all l.1
      where
        go : (n : ℕ) (us : List (Mark T)) (all : List A) → turns n (one_more L) [] us all → many L us all
        go zero us all l = rw l.1 l.0
        go (suc n) us all (that l) = rw l.1 l.0
        go (suc n) us all (this s) = let P : List A → Type 0 = λ xs. many L us xs in subst P (sym s.made) (record { front = s.front; back = s.back; cut = s.cut; left = s.left; right = go n s.back s.b s.right })

    back : (us : List (Mark T)) (all : List A) → many L us all → turned (one_more L) [] us all
    back us [] l = (0, (l, refl))
    back us (a ∷ more) l = let u = back l.back more l.right in (suc u.0, this (record { a = a; b = more; front = l.front; back = l.back; cut = l.cut; left = l.left; right = u.1; made = refl }))

    pub many_exact : Exact T (List A) (many L) (read_many b p) true b goes
    many_exact = exact_as T (List A) (turned (one_more L) []) (many L) (read_many b p) true b goes there back many_turned

    -- with so many of the one form, and then of another
    pub many_upto_exact : (n : ℕ) (M : Form T A) (r : Reader T A) → Exact T A M r false b m → Exact T (List A) (many_upto n L M) (read_many_upto n b p r) true b goes
    unfolding read_many_upto many_upto
    many_upto_exact zero M r Z = more_next_with b apart (many L) (read_many b p) M r Z goes many_exact more_m more_b
    many_upto_exact (suc n) M r Z = more_next b apart (many_upto n L M) (read_many_upto n b p r) goes (many_upto_exact n M r Z) more_m more_b
