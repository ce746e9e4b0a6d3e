-- A form has one answer for any tokens: what is said of the answer leaves no second one.
use Rattle.std.proofs.Common.{◌≡◌, ℕ, List, [], ◌∷◌, ◌++◌, refl, sym, ◌∙◌, ap, subst, append_assoc, append-nil}
use Rattle.std.specs.Prelude.{Some, None}
use Rattle.forms.specs.Forms.{Mark, plain, IsClean, Form}
use Rattle.forms.specs.Readers.{unexpected, limit, Outcome, did, bad}
use Rattle.forms.specs.Exact.{Starts, Stops, Found, Wrong, Passed, Answers}

-- ---- fronts of a list

-- the one front is a part of the other
pub record Longer (A : Type 0) (us rest vs more : List A) : Type 0 where
  pub next : A
  pub between : List A
  pub front : vs ≡ us ++ next ∷ between
  pub back : rest ≡ next ∷ (between ++ more)

pub data Fronts (A : Type 0) (us rest vs more : List A) : Type 0 where
  same : us ≡ vs → rest ≡ more → Fronts A us rest vs more
  short : Longer A us rest vs more → Fronts A us rest vs more
  long : Longer A vs more us rest → Fronts A us rest vs more

fronts : {A : Type 0} (us rest vs more : List A) → us ++ rest ≡ vs ++ more → Fronts A us rest vs more
fronts [] rest [] more h = same refl h
fronts [] rest (y ∷ vs) more h = short (record { next = y; between = vs; front = refl; back = h })
fronts (x ∷ us) rest [] more h = long (record { next = x; between = us; front = refl; back = sym h })
fronts {A} (x ∷ us) rest (y ∷ vs) more h = let e : x ≡ y = cc in let t : us ++ rest ≡ vs ++ more = cc in go e (fronts us rest vs more t)
  where
    go : x ≡ y → Fronts A us rest vs more → Fronts A (x ∷ us) rest (y ∷ vs) more
    go e (same f g) = same (cc) g
    go e (short l) = short (record { next = l.next; between = l.between; front = let f = l.front in cc; back = l.back })
    go e (long l) = long (record { next = l.next; between = l.between; front = let f = l.front in cc; back = l.back })

-- marks over a front and over what is behind it
pub record Split (T : Type 0) (all : List (Mark T)) (us vs : List T) : Type 0 where
  pub front : List (Mark T)
  pub back : List (Mark T)
  pub cut : all ≡ front ++ back
  pub before : plain front ≡ us
  pub behind : plain back ≡ vs

split : {T : Type 0} (all : List (Mark T)) (us vs : List T) → plain all ≡ us ++ vs → Split T all us vs
split all [] vs h = record { front = []; back = all; cut = refl; before = refl; behind = h }
split [] (u ∷ us) vs h = cc
split (x ∷ all) (u ∷ us) vs h =
    let t : plain all ≡ us ++ vs = cc in
    let s = split all us vs t in
    let first : x.0 ≡ u = cc in
    record { front = x ∷ s.front; back = s.back; cut = ap (λ z. x ∷ z) s.cut; before = let b = s.before in cc; behind = s.behind }

clean_behind : {T : Type 0} (front back : List (Mark T)) → IsClean (front ++ back) → IsClean back
clean_behind [] back h = h
clean_behind (x ∷ front) back h = clean_behind front back h.1

-- ---- answers

module _ (T A : Type 0) (L : Form T A) where
  -- the longest run, with a sentence that begins with it, which passes no limit in it
  pub record Run (ts rest : List T) : Type 0 where
    pub run : List (Mark T)
    pub cut : ts ≡ plain run ++ rest
    pub later : List (Mark T)
    pub value : A
    pub spelled : L (run ++ later) value
    pub clean : IsClean run
    pub longest : Stops L (plain run) rest

  abbrev pub of_found : (ts rest : List T) (a : A) → Found T A L ts rest a → Run ts rest
  of_found ts rest a f =
      let all : L (f.run ++ []) a = let P : List (Mark T) → Type 0 = λ z. L z a in subst P (sym (append-nil f.run)) f.spelled in
      record { run = f.run; cut = f.cut; later = []; value = a; spelled = all; clean = f.clean f.run [] a refl all; longest = f.longest }

  abbrev pub of_wrong : (ts rest : List T) → Wrong T A L ts rest → Run ts rest
  of_wrong ts rest w = record { run = w.run; cut = w.cut; later = w.goes.0; value = w.goes.1; spelled = w.goes.2; clean = w.clean w.run w.goes.0 w.goes.1 refl w.goes.2; longest = w.longest }

  -- what begins with more begins with less
  starts_less : (us vs : List T) → Starts L (us ++ vs) → Starts L us
  starts_less us vs s = let k = split s.0 us vs s.3 in
      (k.front, k.back ++ s.1, s.2, k.before, let P : List (Mark T) → Type 0 = λ z. L z s.2 in subst P (ap (λ z. z ++ s.1) k.cut ∙ append_assoc k.front k.back s.1) s.4)

  no_longer : (us rest vs more : List T) → Longer T us rest vs more → Stops L us rest → Starts L vs → ⊥
  no_longer us rest vs more l stops starts =
      let there : Stops L us (l.next ∷ (l.between ++ more)) = let P : List T → Type 0 = λ z. Stops L us z in subst P l.back stops in
      let here : vs ≡ (us ++ l.next ∷ []) ++ l.between = l.front ∙ sym (append_assoc us (l.next ∷ []) l.between) in
      there (starts_less (us ++ l.next ∷ []) l.between (let P : List T → Type 0 = λ z. Starts L z in subst P here starts))

  run_starts : (ts rest : List T) (r : Run ts rest) → Starts L (plain r.run)
  run_starts ts rest r = (r.run, r.later, r.value, refl, r.spelled)

  pub same_run : (ts rest more : List T) (r : Run ts rest) (s : Run ts more) → (plain r.run ≡ plain s.run) × (rest ≡ more)
  same_run ts rest more r s = go (fronts (plain r.run) rest (plain s.run) more (sym r.cut ∙ s.cut))
    where
      go : Fronts T (plain r.run) rest (plain s.run) more → (plain r.run ≡ plain s.run) × (rest ≡ more)
      go (same e f) = (e, f)
      go (short l) = absurd (no_longer (plain r.run) rest (plain s.run) more l r.longest (run_starts ts more s))
      go (long l) = absurd (no_longer (plain s.run) more (plain r.run) rest l s.longest (run_starts ts rest r))

  -- a sentence, of which the marks up to a token are over the tokens up to it
  marked_there : (n : ℕ) (ts rest : List T) (x : Passed T A L n ts rest) (us vs : List T) (front later : List (Mark T)) (a : A) → L (front ++ later) a
      → plain front ≡ (x.before ++ x.token ∷ []) ++ vs → IsClean front → ⊥
  marked_there n ts rest x us vs front later a l h clean =
      let k = split front (x.before ++ x.token ∷ []) vs h in
      let m = split k.front x.before (x.token ∷ []) k.before in
      go m.back m.behind k.back (m.front) m.before (k.cut ∙ ap (λ z. z ++ k.back) m.cut ∙ append_assoc m.front m.back k.back)
    where
      go : (there : List (Mark T)) → plain there ≡ x.token ∷ [] → (more : List (Mark T)) (before : List (Mark T)) → plain before ≡ x.before → front ≡ before ++ (there ++ more) → ⊥
      go [] e more before f g = cc
      go (y ∷ []) e more before f g =
          let e0 : y.0 ≡ x.token = cc in
          let all : L (before ++ y ∷ (more ++ later)) a = let P : List (Mark T) → Type 0 = λ z. L z a in subst P (ap (λ z. z ++ later) g ∙ append_assoc before (y ∷ more) later) l in
          let p = x.passes before y (more ++ later) a f e0 all in
          let c : IsClean (before ++ y ∷ more) = let P : List (Mark T) → Type 0 = λ z. IsClean z in subst P g clean in
          let d = clean_behind before (y ∷ more) c in
          let q : y.1 ≡ None = d.0 in
          let r : y.1 ≡ Some n = p.1 in cc
      go (y ∷ z ∷ there) e more before f g = cc

  pub run_or_passed : (n : ℕ) (ts rest more : List T) → Run ts rest → Passed T A L n ts more → ⊥
  run_or_passed n ts rest more r x = go (fronts (plain r.run) rest (x.before ++ x.token ∷ []) x.after (sym r.cut ∙ x.cut ∙ sym (append_assoc x.before (x.token ∷ []) x.after)))
    where
      go : Fronts T (plain r.run) rest (x.before ++ x.token ∷ []) x.after → ⊥
      go (same e f) = marked_there n ts more x [] [] r.run r.later r.value r.spelled (e ∙ sym (append-nil (x.before ++ x.token ∷ []))) r.clean
      go (short l) = no_longer (plain r.run) rest (x.before ++ x.token ∷ []) x.after l r.longest x.goes
      go (long l) = marked_there n ts more x [] (l.next ∷ l.between) r.run r.later r.value r.spelled l.front r.clean

  later_passed : (n m : ℕ) (ts rest more : List T) (x : Passed T A L n ts rest) (y : Passed T A L m ts more) → Longer T x.before (x.token ∷ x.after) y.before (y.token ∷ y.after) → ⊥
  later_passed n m ts rest more x y l =
      let token : x.token ≡ l.next = let b = l.back in cc in
      let s = y.goes in
      let k = split s.0 y.before (y.token ∷ []) s.3 in
      go token k.back k.behind k.front k.before (let P : List (Mark T) → Type 0 = λ z. L z s.2 in subst P (ap (λ z. z ++ s.1) k.cut ∙ append_assoc k.front k.back s.1) s.4)
    where
      go : x.token ≡ l.next → (there : List (Mark T)) → plain there ≡ y.token ∷ [] → (front : List (Mark T)) → plain front ≡ y.before → L (front ++ (there ++ y.goes.1)) y.goes.2 → ⊥
      go t [] e front f g = cc
      go t (v ∷ []) e front f g =
          let e0 : v.0 ≡ y.token = cc in
          let p = y.passes front v y.goes.1 y.goes.2 f e0 g in
          let h : plain front ≡ (x.before ++ x.token ∷ []) ++ l.between = f ∙ l.front ∙ ap (λ z. x.before ++ z ∷ l.between) (sym t) ∙ sym (append_assoc x.before (x.token ∷ []) l.between) in
          marked_there n ts rest x [] l.between front (v ∷ y.goes.1) y.goes.2 g h p.0
      go t (v ∷ w ∷ there) e front f g = cc

  same_passed : (n m : ℕ) (ts rest more : List T) (x : Passed T A L n ts rest) (y : Passed T A L m ts more) → (n ≡ m) × (rest ≡ more)
  same_passed n m ts rest more x y = go (fronts x.before (x.token ∷ x.after) y.before (y.token ∷ y.after) (sym x.cut ∙ y.cut))
    where
      number : x.before ≡ y.before → x.token ≡ y.token → (there : List (Mark T)) → plain there ≡ y.token ∷ [] → (front : List (Mark T)) → plain front ≡ y.before → L (front ++ (there ++ y.goes.1)) y.goes.2 → n ≡ m
      number b t [] e front f g = cc
      number b t (v ∷ []) e front f g =
          let e0 : v.0 ≡ y.token = cc in
          let p = y.passes front v y.goes.1 y.goes.2 f e0 g in
          let q = x.passes front v y.goes.1 y.goes.2 (f ∙ sym b) (e0 ∙ sym t) g in
          let i : v.1 ≡ Some m = p.1 in
          let j : v.1 ≡ Some n = q.1 in cc
      number b t (v ∷ w ∷ there) e front f g = cc

      go : Fronts T x.before (x.token ∷ x.after) y.before (y.token ∷ y.after) → (n ≡ m) × (rest ≡ more)
      go (same e f) =
          let s = y.goes in
          let k = split s.0 y.before (y.token ∷ []) s.3 in
          let t : x.token ≡ y.token = cc in
          (number e t k.back k.behind k.front k.before (let P : List (Mark T) → Type 0 = λ z. L z s.2 in subst P (ap (λ z. z ++ s.1) k.cut ∙ append_assoc k.front k.back s.1) s.4), x.here ∙ f ∙ sym y.here)
      go (short l) = absurd (later_passed n m ts rest more x y l)
      go (long l) = absurd (later_passed m n ts more rest y x l)

  found_or_wrong : (ts rest more : List T) (a : A) → Found T A L ts rest a → Wrong T A L ts more → ⊥
  found_or_wrong ts rest more a f w = let s = same_run ts rest more (of_found ts rest a f) (of_wrong ts more w) in w.none f.run a s.0 f.spelled

  pub one_answer : (ts : List T) (o w : Outcome T A) → Answers L ts o → Answers L ts w → o ≡ w
  one_answer ts (did a rest) (did b more) f g =
      let s = same_run ts rest more (of_found ts rest a f) (of_found ts more b g) in
      let v = f.only g.run b (sym s.0) g.spelled in
      let r = s.1 in cc
  one_answer ts (did a rest) (bad unexpected more) f g = absurd (found_or_wrong ts rest more a f g)
  one_answer ts (did a rest) (bad (limit m) more) f g = absurd (run_or_passed m ts rest more (of_found ts rest a f) g)
  one_answer ts (bad unexpected rest) (did b more) f g = absurd (found_or_wrong ts more rest b g f)
  one_answer ts (bad unexpected rest) (bad unexpected more) f g = let s = same_run ts rest more (of_wrong ts rest f) (of_wrong ts more g) in ap (λ z. bad unexpected z) s.1
  one_answer ts (bad unexpected rest) (bad (limit m) more) f g = absurd (run_or_passed m ts rest more (of_wrong ts rest f) g)
  one_answer ts (bad (limit n) rest) (did b more) f g = absurd (run_or_passed n ts more rest (of_found ts more b g) f)
  one_answer ts (bad (limit n) rest) (bad unexpected more) f g = absurd (run_or_passed n ts more rest (of_wrong ts more g) f)
  one_answer ts (bad (limit n) rest) (bad (limit m) more) f g = let s = same_passed n m ts rest more f g in let e = s.0 in let r = s.1 in cc
