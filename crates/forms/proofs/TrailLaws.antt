-- Lists with a separator between their items, that may also stand behind the last.
use Rattle.std.proofs.Common.{◌≡◌, ℕ, zero, suc, ◌<◌, ◌≤◌, Bool, true, false, ◌||◌, List, [], ◌∷◌, ◌++◌, length, refl, sym, ◌∙◌, ap, append_assoc, length-append, arith}
use Rattle.std.specs.Prelude.{None}
use Rattle.forms.specs.Forms.{Mark, Form, Set, none, either, kept, Apart, one, both, nothing, this, that, or, many, over, Sentence}
use Rattle.forms.specs.Readers.{did, Reader, read_one, read_both, read_or, read_nothing, refuse}
use Rattle.forms.specs.Exact.{Exact}
use Rattle.forms.specs.Lists.{pair, second, itself, Row, push, yes, trail, trailed, trail_upto, read_trailed, read_trail, read_trail_upto}
use Rattle.forms.proofs.Facts.{or_that, or_false}
use Rattle.forms.proofs.Beginnings.{some_both, some_many, some_that, some_nothing}
use Rattle.forms.proofs.OneLaws.{one_exact, nothing_exact}
use Rattle.forms.proofs.BothLaws.{both_exact}
use Rattle.forms.proofs.OrLaws.{or_exact}
use Rattle.forms.proofs.GuardLaws.{exact_as, exact_sets, over_exact}
use Rattle.forms.proofs.Turns.{Within, turns, turned, shorter, turned_exact}
use Rattle.forms.proofs.ListLaws.{or_no, or_off, same_second, same_that, takes_one, less_left}

-- ---- the form by turns is the form by its parts

module _ (T A : Type 0) (sep : Set T) (L : Form T A) where
  abbrev item : Form T A
  item = both second (one sep itself) L

  abbrev tail : Form T Bool
  tail = or (one sep yes) (nothing false)

  abbrev after : Form T (Row A) → Form T (Row A)
  after K = or (both push L K) (nothing ([], true))

  trail_none : (us : List (Mark T)) (row : Row A) → nothing ([], false) us row → trail sep L us row
  unfolding trail
  trail_none us row l = record { a = []; b = false; front = []; back = []; cut = l.0; left = refl; right = that (refl, refl); made = l.1 }

  trail_last : (x : T) → sep x ≡ true → trail sep L ((x, None) ∷ []) ([], true)
  unfolding trail
  trail_last x h = record { a = []; b = true; front = []; back = (x, None) ∷ []; cut = refl; left = refl; right = this (record { token = x; is = refl; fits = h; made = refl }); made = refl }

  trail_next : (x : T) → sep x ≡ true → (us vs : List (Mark T)) (a : A) (row : Row A) → L us a → trail sep L vs row → trail sep L ((x, None) ∷ (us ++ vs)) (push a row)
  unfolding trail
  trail_next x h us vs a row l t =
      let here : item ((x, None) ∷ us) a = record { a = x; b = a; front = (x, None) ∷ []; back = us; cut = refl; left = record { token = x; is = refl; fits = h; made = refl }; right = l; made = refl } in
      record {
        a = a ∷ t.a;
        b = t.b;
        front = ((x, None) ∷ us) ++ t.front;
        back = t.back;
        cut = ap (λ w. (x, None) ∷ (us ++ w)) t.cut ∙ sym (append_assoc ((x, None) ∷ us) t.front t.back);
        left = record { front = (x, None) ∷ us; back = t.front; cut = refl; left = here; right = t.left };
        right = t.right;
        made = ap (push a) t.made;
      }

  behind : (x : T) → sep x ≡ true → (K : Form T (Row A)) → Within K (trail sep L) → (us : List (Mark T)) (row : Row A) → after K us row → trail sep L ((x, None) ∷ us) row
  behind x h K ih us row (that l) = rw (l.0, l.1) (trail_last x h)
  behind x h K ih us row (this s) = rw (s.cut, s.made) (trail_next x h s.front s.back s.a s.b s.left (ih s.back s.b s.right))

  by_turns : (n : ℕ) (us : List (Mark T)) (row : Row A) → turns n (trailed sep L) ([], false) us row → trail sep L us row
  by_turns zero us row l = trail_none us row l
  by_turns (suc n) us row (that l) = trail_none us row l
  by_turns (suc n) us row (this s) =
      let e : us ≡ (s.left.token, None) ∷ s.back = s.cut ∙ ap (λ w. w ++ s.back) s.left.is in
      rw (e, s.made) (behind s.left.token s.left.fits (turns n (trailed sep L) ([], false)) (λ vs f l. by_turns n vs f l) s.back s.b s.right)

  pub there : (us : List (Mark T)) (row : Row A) → turned (trailed sep L) ([], false) us row → trail sep L us row
  there us row l = by_turns l.0 us row l.1

  ended : (vs : List (Mark T)) (last : Bool) → tail vs last → turned (trailed sep L) ([], false) vs ([], last)
  ended vs last (that l) = (0, (l.0, ap (λ z. ([], z)) l.1))
  ended vs last (this o) = (1, this (record { a = o.token; b = ([], true); front = (o.token, None) ∷ []; back = []; cut = o.is; left = record { token = o.token; is = refl; fits = o.fits; made = refl }; right = that (refl, refl); made = ap (λ z. ([], z)) o.made }))

  built : (all : List A) (us vs : List (Mark T)) (last : Bool) → many item us all → tail vs last → turned (trailed sep L) ([], false) (us ++ vs) (all, last)
  built [] us vs last l r = rw l (ended vs last r)
  built (a ∷ more) us vs last l r =
      let ih = built more l.back vs last l.right r in
      let x = l.left.left.token in
      let e : us ++ vs ≡ (x, None) ∷ (l.left.back ++ (l.back ++ vs)) =
      ap (λ w. w ++ vs) (l.cut ∙ ap (λ w. w ++ l.back) (l.left.cut ∙ ap (λ w. w ++ l.left.back) l.left.left.is)) ∙ append_assoc ((x, None) ∷ l.left.back) l.back vs in (
        suc ih.0,
        this (record {
          a = x;
          b = (a ∷ more, last);
          front = (x, None) ∷ [];
          back = l.left.back ++ (l.back ++ vs);
          cut = e;
          left = record { token = x; is = refl; fits = l.left.left.fits; made = refl };
          right = this (record { a = l.left.b; b = (more, last); front = l.left.back; back = l.back ++ vs; cut = refl; left = l.left.right; right = ih.1; made = ap (λ z. (z ∷ more, last)) l.left.made });
          made = refl;
        }),
      )

  pub back : (us : List (Mark T)) (row : Row A) → trail sep L us row → turned (trailed sep L) ([], false) us row
  unfolding trail
  back us row t = let u = built t.a t.front t.back t.b t.left t.right in (u.0, let P : List (Mark T) → Row A → Type 0 = λ w v. turns u.0 (trailed sep L) ([], false) w v in rw (t.cut, t.made) u.1)

-- ---- the laws

module _ (T A : Type 0) (sep : Set T) (sample : T) (fits : sep sample ≡ true) (L : Form T A) (p : Reader T A) (b m : Set T) (X : Exact T A L p false b m) where
  abbrev mark_exact : Exact T T (one sep itself) (read_one sep itself) false sep none
  mark_exact = one_exact T T sep itself sample fits

  abbrev inner : Form T (Row A) → Form T (Row A)
  inner K = or (both push L K) (nothing ([], true))

  inner_mono : (K M : Form T (Row A)) → Within K M → Within (inner K) (inner M)
  inner_mono K M h us a (this s) = this (record { a = s.a; b = s.b; front = s.front; back = s.back; cut = s.cut; left = s.left; right = h s.back s.b s.right; made = s.made })
  inner_mono K M h us a (that l) = that l

  mono : (K M : Form T (Row A)) → Within K M → Within (trailed sep L K) (trailed sep L M)
  mono K M h us a (this s) = this (record { a = s.a; b = s.b; front = s.front; back = s.back; cut = s.cut; left = s.left; right = inner_mono K M h s.back s.b s.right; made = s.made })
  mono K M h us a (that l) = that l

  inner_shrinks : (K : Form T (Row A)) (n : ℕ) (us : List (Mark T)) (a : Row A) → length us ≤ n → inner K us a → inner (shorter n K) us a
  inner_shrinks K n us a h (that l) = that l
  inner_shrinks K n us a h (this s) =
      let k = takes_one T A L p b m X s.front s.a s.left in
      let l : length s.back < n = omega (arith, ap length s.cut, length-append s.front s.back, k, h) in
      this (record { a = s.a; b = s.b; front = s.front; back = s.back; cut = s.cut; left = s.left; right = (l, s.right); made = s.made })

  shrinks : (K : Form T (Row A)) (front : List (Mark T)) (a : Row A) → trailed sep L K front a → trailed sep L (shorter (length front) K) front a
  shrinks K front a (that l) = that l
  shrinks K front a (this s) =
      let k : length s.back ≤ length front = omega (arith, ap length s.cut, length-append s.front s.back) in
      this (record { a = s.a; b = s.b; front = s.front; back = s.back; cut = s.cut; left = s.left; right = inner_shrinks K (length front) s.back s.b k s.right; made = s.made })

  local : (q w : Reader T (Row A)) (ts : List T) → ((us : List T) → length us < length ts → q us ≡ w us) → read_trailed sep b p q ts ≡ read_trailed sep b p w ts
  local q w ts h = same_that sep _ _ _ ts (same_second second _ _ _ ts (λ c r e. let l = less_left T T (one sep itself) (read_one sep itself) sep none mark_exact ts r c e in
      same_that b _ _ _ r (same_second push p q w r (λ a u z. let k = less_left T A L p b m X r u a z in h u (omega (arith, l, k))))))

  finish : (q : Reader T (Row A)) → read_trailed sep b p q [] ≡ did ([], false) []
  unfolding read_nothing
  finish q = or_that sep (read_both second (read_one sep itself) (read_or b (read_both push p q) (read_nothing ([], true)))) (read_nothing ([], false)) [] refl

  -- one more turn, where the item may be one of another form that passes a limit
  module _ (c : Set T) (apart : Apart c m) (K : Form T (Row A)) (q : Reader T (Row A)) (n : Set T) (Y : Exact T (Row A) K q true c n)
      (more_m : (x : T) → n x ≡ false → m x ≡ false) (more_b : (x : T) → n x ≡ false → b x ≡ false) (more_sep : (x : T) → n x ≡ false → sep x ≡ false) where
    pub next_with : (M : Form T A) (r : Reader T A) → Exact T A M r false b m → Exact T (Row A) (trailed sep M K) (read_trailed sep b r q) true sep n
    next_with M r Z =
        let item = exact_sets T (Row A) (both push M K) (read_both push r q) false _ _ b n (λ x. or_no (b x)) (λ x k. or_off (n x) (m x) k (more_m x k))
        (both_exact T A (Row A) (Row A) push M K r q false true b c m n Z Y apart) in
        let choice = exact_sets T (Row A) (or (both push M K) (nothing ([], true))) (read_or b (read_both push r q) (read_nothing ([], true))) true _ _ b n (λ x. or_no (b x))
        (λ x k. or_off (either n none x) (kept true b x) (or_off (n x) false k refl) (more_b x k))
        (or_exact T (Row A) (both push M K) (nothing ([], true)) (read_both push r q) (read_nothing ([], true)) true b none n none item (nothing_exact T (Row A) ([], true)) (λ x k. cc)) in
        let rest = exact_sets T (Row A) (both second (one sep itself) (or (both push M K) (nothing ([], true)))) (read_both second (read_one sep itself) (read_or b (read_both push r q) (read_nothing ([], true)))) false _ _ sep n
        (λ x. or_no (sep x)) (λ x k. or_off (n x) false k refl)
        (both_exact T T (Row A) (Row A) second (one sep itself) (or (both push M K) (nothing ([], true))) (read_one sep itself) (read_or b (read_both push r q) (read_nothing ([], true))) false true sep b none n mark_exact choice (λ x k. refl)) in
        exact_sets T (Row A) (trailed sep M K) (read_trailed sep b r q) true _ _ sep n (λ x. or_no (sep x))
        (λ x k. or_off (either n none x) (kept true sep x) (or_off (n x) false k refl) (more_sep x k))
        (or_exact T (Row A) (both second (one sep itself) (or (both push M K) (nothing ([], true)))) (nothing ([], false)) (read_both second (read_one sep itself) (read_or b (read_both push r q) (read_nothing ([], true)))) (read_nothing ([], false))
        true sep none n none rest (nothing_exact T (Row A) ([], false)) (λ x k. cc))

  module _ (apart : Apart sep m) where
    abbrev goes : Set T
    goes = either sep (either b m)

    more_sep : (x : T) → goes x ≡ false → sep x ≡ false
    more_sep x h = (or_false (sep x) (b x || m x) h).0

    more_b : (x : T) → goes x ≡ false → b x ≡ false
    more_b x h = (or_false (b x) (m x) (or_false (sep x) (b x || m x) h).1).0

    more_m : (x : T) → goes x ≡ false → m x ≡ false
    more_m x h = (or_false (b x) (m x) (or_false (sep x) (b x || m x) h).1).1

    trail_turned : Exact T (Row A) (turned (trailed sep L) ([], false)) (read_trail sep b p) true sep goes
    unfolding read_trail
    trail_turned = turned_exact T (Row A) (trailed sep L) (read_trailed sep b p) ([], false) sep goes mono (λ K us a l. that l) shrinks local finish
        (next_with none (λ x k. cc) (nothing ([], false)) (read_nothing ([], false)) goes start more_m more_b more_sep L p X)
        (λ K q Y. next_with sep apart K q goes Y more_m more_b more_sep L p X)
      where
        start : Exact T (Row A) (nothing ([], false)) (read_nothing ([], false)) true none goes
        start = exact_sets T (Row A) (nothing ([], false)) (read_nothing ([], false)) true none none none goes (λ x. refl) (λ x k. refl) (nothing_exact T (Row A) ([], false))

    pub trail_exact : Exact T (Row A) (trail sep L) (read_trail sep b p) true sep goes
    trail_exact = exact_as T (Row A) (turned (trailed sep L) ([], false)) (trail sep L) (read_trail sep b p) true sep goes (there T A sep L) (back T A sep L) trail_turned

    -- with at most so many items; a further one passes the limit
    pub trail_upto_exact : (n : ℕ) (number : T → ℕ) → Exact T (Row A) (trail_upto n sep number L) (read_trail_upto n sep b number p) true sep goes
    unfolding read_trail_upto trail_upto
    trail_upto_exact zero number = next_with sep apart (trail sep L) (read_trail sep b p) goes trail_exact more_m more_b more_sep (over number L) (refuse b number) (over_exact T A number L b m X.sentences)
    trail_upto_exact (suc n) number = next_with sep apart (trail_upto n sep number L) (read_trail_upto n sep b number p) goes (trail_upto_exact n number) more_m more_b more_sep L p X

-- no item, and no separator
pub some_trail : {T A : Type 0} (sep : Set T) (L : Form T A) → Sentence T (Row A) (trail sep L)
unfolding trail
some_trail sep L = some_both pair (some_many (both second (one sep itself) L)) (some_that (one sep yes) (some_nothing false))
