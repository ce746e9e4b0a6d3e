-- A loop that collects items with a separator between them, beside `read_trail` and `read_trail_upto`.
use Rattle.std.proofs.Common.{◌≡◌, ℕ, suc, ◌+◌, ◌-◌, ◌<◌, ◌≤◌, Bool, true, false, cond, List, [], ◌∷◌, ◌++◌, length, refl, sym, ◌∙◌, ap, append_assoc, append-nil, arith}
use Rattle.forms.specs.Forms.{Set}
use Rattle.forms.specs.Readers.{Fault, unexpected, Outcome, did, bad, Reader, and_then, sees, read_one, read_both, read_or, read_nothing, read_turns, read_turned}
use Rattle.forms.specs.Lists.{Row, push, second, itself, yes, read_trailed, read_trail, read_trail_upto}
use Rattle.forms.proofs.Facts.{or_this, or_that}
use Rattle.forms.proofs.Pair.{both_then, both_at_first}

-- what was collected, and then what the rest gives
abbrev pub with_row : {T A : Type 0} → List A → Outcome T (Row A) → Outcome T (Row A)
with_row found o = and_then o (λ row r. did (found ++ row.0, row.1) r)

-- what a loop reads from now on, with so many turns left
abbrev pub left_row : {T A : Type 0} → ℕ → Set T → Set T → Reader T A → Reader T (Row A)
left_row n sep b p = read_turns n (read_trailed sep b p) ([], false)

-- whether a separator stands there
abbrev pub mark : {T : Type 0} → Set T → Reader T Bool
mark sep = read_or sep (read_one sep yes) (read_nothing false)

pub record Marked (T : Type 0) (sep : Set T) (ts us : List T) : Type 0 where
  pub token : T
  pub cut : ts ≡ token ∷ us
  pub fits : sep token ≡ true

unmarked : {T : Type 0} (sep : Set T) (ts us : List T) → mark sep ts ≡ did false us → (sees sep ts ≡ false) × (us ≡ ts)
unfolding read_or read_one read_nothing
unmarked sep [] us h = (refl, cc)
unmarked {T} sep (x ∷ ts) us h = go (sep x) refl h
  where
    go : (c : Bool) → sep x ≡ c → ◌≡◌ {A = Outcome T Bool} (cond c (cond c (did true ts) (bad unexpected (x ∷ ts))) (did false (x ∷ ts))) (did false us) → (sep x ≡ false) × (us ≡ x ∷ ts)
    go true e k = cc
    go false e k = (e, cc)

marked : {T : Type 0} (sep : Set T) (ts us : List T) → mark sep ts ≡ did true us → Marked T sep ts us
unfolding read_or read_one read_nothing
marked sep [] us h = cc
marked {T} sep (x ∷ ts) us h = go (sep x) refl h
  where
    go : (c : Bool) → sep x ≡ c → ◌≡◌ {A = Outcome T Bool} (cond c (cond c (did true ts) (bad unexpected (x ∷ ts))) (did false (x ∷ ts))) (did true us) → Marked T sep (x ∷ ts) us
    go true e k = record { token = x; cut = cc; fits = e }
    go false e k = cc

take_one : {T : Type 0} (sep : Set T) (ts us : List T) (m : Marked T sep ts us) → read_one sep itself ts ≡ did m.token us
unfolding read_one
take_one sep ts us m = rw m.cut (ap (λ c. cond c (did m.token us) (bad unexpected (m.token ∷ us))) m.fits)

sees_mark : {T : Type 0} (sep : Set T) (ts us : List T) → Marked T sep ts us → sees sep ts ≡ true
sees_mark sep ts us m = rw m.cut m.fits

shift : {T A : Type 0} (found : List A) (a : A) (o : Outcome T (Row A)) → with_row found (and_then o (λ row r. did (push a row) r)) ≡ with_row (found ++ a ∷ []) o
shift found a (did row r) = ap (λ z. did (z, row.1) r) (sym (append_assoc found (a ∷ []) row.0))
shift found a (bad e r) = refl

-- ---- one turn, behind which the reader k goes on

module _ (T A : Type 0) (sep b : Set T) (p : Reader T A) (k : Reader T (Row A)) (all : Outcome T (Row A)) (found : List A) (ts us : List T) (e : all ≡ with_row found (read_trailed sep b p k ts)) where
  pub row_stops : mark sep ts ≡ did false us → all ≡ did (found, false) us
  unfolding read_nothing
  row_stops h =
      let u = unmarked sep ts us h in
      e ∙ ap (with_row found) (or_that sep _ _ ts u.0) ∙ ap (λ z. did (z, false) ts) (append-nil found) ∙ ap (λ z. did (found, false) z) (sym u.1)

  behind : Marked T sep ts us → (o : Outcome T (Row A)) → read_or b (read_both push p k) (read_nothing ([], true)) us ≡ o → all ≡ with_row found o
  behind m o h = e ∙ ap (with_row found) (or_this sep _ _ ts (sees_mark sep ts us m) ∙ both_then second (read_one sep itself) _ ts us m.token o (take_one sep ts us m) h ∙ again o)
    where
      again : (o : Outcome T (Row A)) → and_then o (λ row r. did row r) ≡ o
      again (did row r) = refl
      again (bad f r) = refl

  pub row_is_last : mark sep ts ≡ did true us → sees b us ≡ false → all ≡ did (found, true) us
  unfolding read_nothing
  row_is_last h g = behind (marked sep ts us h) (did ([], true) us) (or_that b _ _ us g) ∙ ap (λ z. did (z, true) us) (append-nil found)

  pub row_fails : (f : Fault) (r : List T) → mark sep ts ≡ did true us → sees b us ≡ true → p us ≡ bad f r → all ≡ bad f r
  row_fails f r h g q = behind (marked sep ts us h) (bad f r) (or_this b _ _ us g ∙ both_at_first push p k us r f q)

  pub row_goes_on : (a : A) (r : List T) → mark sep ts ≡ did true us → sees b us ≡ true → p us ≡ did a r → all ≡ with_row (found ++ a ∷ []) (k r)
  row_goes_on a r h g q = behind (marked sep ts us h) (and_then (k r) (λ row s. did (push a row) s)) (or_this b _ _ us g ∙ both_then push p k us r a (k r) q refl) ∙ shift found a (k r)

-- ---- any number of turns

row_again : {T A : Type 0} (o : Outcome T (Row A)) → o ≡ with_row [] o
row_again (did row r) = refl
row_again (bad e r) = refl

pub row_begins : {T A : Type 0} (sep b : Set T) (p : Reader T A) (ts : List T) (n : ℕ) → n ≡ length ts → read_trail sep b p ts ≡ with_row [] (left_row (n - 0) sep b p ts)
unfolding read_trail read_turned
row_begins sep b p ts n h = let e : n - 0 ≡ length ts = omega arith in row_again (left_row (length ts) sep b p ts) ∙ ap (λ k. with_row [] (left_row k sep b p ts)) (sym e)

pub row_turn : {T A : Type 0} (sep b : Set T) (p : Reader T A) (all : Outcome T (Row A)) (found : List A) (n at : ℕ) (ts : List T) → at < n
    → all ≡ with_row found (left_row (n - at) sep b p ts) → all ≡ with_row found (read_trailed sep b p (left_row (n - (at + 1)) sep b p) ts)
unfolding read_turns
row_turn sep b p all found n at ts h e = let k : n - at ≡ suc (n - (at + 1)) = omega arith in e ∙ ap (λ z. with_row found (left_row z sep b p ts)) k

pub row_ends : {T A : Type 0} (sep b : Set T) (p : Reader T A) (all : Outcome T (Row A)) (found : List A) (n at : ℕ) (ts : List T) → n ≤ at
    → all ≡ with_row found (left_row (n - at) sep b p ts) → all ≡ did (found, false) ts
unfolding read_turns read_nothing
row_ends sep b p all found n at ts h e = let k : n - at ≡ 0 = omega arith in e ∙ ap (λ z. with_row found (left_row z sep b p ts)) k ∙ ap (λ z. did (z, false) ts) (append-nil found)

-- ---- at most n turns

pub upto_begins : {T A : Type 0} (sep b : Set T) (number : T → ℕ) (p : Reader T A) (ts : List T) (n : ℕ) → read_trail_upto n sep b number p ts ≡ with_row [] (read_trail_upto (n - 0) sep b number p ts)
upto_begins sep b number p ts n = let e : n - 0 ≡ n = omega arith in row_again (read_trail_upto n sep b number p ts) ∙ ap (λ k. with_row [] (read_trail_upto k sep b number p ts)) (sym e)

pub upto_turn : {T A : Type 0} (sep b : Set T) (number : T → ℕ) (p : Reader T A) (all : Outcome T (Row A)) (found : List A) (n at : ℕ) (ts : List T) → at < n
    → all ≡ with_row found (read_trail_upto (n - at) sep b number p ts) → all ≡ with_row found (read_trailed sep b p (read_trail_upto (n - (at + 1)) sep b number p) ts)
unfolding read_trail_upto
upto_turn sep b number p all found n at ts h e = let k : n - at ≡ suc (n - (at + 1)) = omega arith in e ∙ ap (λ z. with_row found (read_trail_upto z sep b number p ts)) k

pub upto_ends : {T A : Type 0} (sep b : Set T) (number : T → ℕ) (p : Reader T A) (all : Outcome T (Row A)) (found : List A) (n at : ℕ) (ts : List T) → n ≤ at
    → all ≡ with_row found (read_trail_upto (n - at) sep b number p ts) → all ≡ with_row found (read_trail_upto 0 sep b number p ts)
upto_ends sep b number p all found n at ts h e = let k : n - at ≡ 0 = omega arith in e ∙ ap (λ z. with_row found (read_trail_upto z sep b number p ts)) k
