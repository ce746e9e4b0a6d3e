-- Open widths, looked back for and listed.
use Rattle.std.proofs.Common.{◌≡◌, ℕ, zero, suc, ◌⊎◌, inl, inr, ◌+◌, ◌-◌, ◌<◌, ◌≤◌, Bool, true, false, cond, ◌&&◌, ◌||◌, eqb, ltb, ltb-true, eq-eqb, lt-ltb, le-ltb, Ok, Err, List, [], ◌∷◌, ◌++◌, length, get_or, refl, sym, ap, ◌∙◌, arith, length-append, replicate}
use Rattle.std.specs.List.{filter, list_any}
use Rattle.std.proofs.lemmas.Bool.{cases_eq, cases_lt, ne_eqb}
use Rattle.std.proofs.lemmas.List.{get_or_push, get_or_append_left}
use Rattle.std.proofs.lemmas.List.Kept.{IsStrictlyIncreasing-filter}
use Rattle.std.specs.List.Sorted.{IsStrictlyIncreasing}
use Rattle.std.proofs.lemmas.Bool.Decides.{nat_tests}
use Rattle.pyx_lex.specs.declared.token.Token.{Token}
use Rattle.pyx_lex.specs.declared.token.TokenKind.TheVariants.{Indent, Dedent}
use Rattle.pyx_lex.specs.Breaches.{breach}
use Rattle.pyx_lex.specs.Laid.{with_front, read}
use Rattle.pyx_lex.specs.Layout.{Comes, level_items}
use Rattle.pyx_lex.specs.Levels.{is_open, open_widths, width_before, is_wider, open_above, last_of}

any_append : (w : ℕ) (xs ys : List ℕ) → list_any (λ v. eqb v w) (xs ++ ys) ≡ (list_any (λ v. eqb v w) xs || list_any (λ v. eqb v w) ys)
any_append w [] ys = refl
any_append w (x ∷ xs) ys = go (eqb x w) (any_append w xs ys)
  where
    go : (t : Bool) → list_any (λ v. eqb v w) (xs ++ ys) ≡ (list_any (λ v. eqb v w) xs || list_any (λ v. eqb v w) ys)
        → (t || list_any (λ v. eqb v w) (xs ++ ys)) ≡ ((t || list_any (λ v. eqb v w) xs) || list_any (λ v. eqb v w) ys)
    go true e = refl
    go false e = e

any_filter : (w u : ℕ) (xs : List ℕ) → list_any (λ v. eqb v w) (filter (λ v. ltb v u) xs) ≡ (ltb w u && list_any (λ v. eqb v w) xs)
any_filter w u [] = go (ltb w u)
  where
    go : (t : Bool) → false ≡ (t && false)
    go true = refl
    go false = refl
any_filter w u (x ∷ xs) = go (ltb x u) (eqb x w) refl refl (any_filter w u xs)
  where
    same : eqb x w ≡ true → ltb x u ≡ ltb w u
    same h = let e : x ≡ w = grind (arith, nat_tests) in ap (λ v. ltb v u) e

    go : (t e : Bool) → ltb x u ≡ t → eqb x w ≡ e → list_any (λ v. eqb v w) (filter (λ v. ltb v u) xs) ≡ (ltb w u && list_any (λ v. eqb v w) xs)
        → list_any (λ v. eqb v w) (cond t (x ∷ filter (λ v. ltb v u) xs) (filter (λ v. ltb v u) xs)) ≡ (ltb w u && (e || list_any (λ v. eqb v w) xs))
    go true true ht he h = rw he (let less : ltb w u ≡ true = sym (same he) ∙ ht in rw less refl)
    go true false ht he h = rw he h
    go false true ht he h =
        let less : ltb w u ≡ false = sym (same he) ∙ ht in
        h ∙ (ap (λ t. t && list_any (λ v. eqb v w) xs) less ∙ sym (ap (λ t. t && true) less))
    go false false ht he h = h

eqb_swap : (a b : ℕ) → eqb a b ≡ eqb b a
eqb_swap a b = go (cases_eq a b)
  where
    go : (a ≡ b) ⊎ (a ≡ b → ⊥) → eqb a b ≡ eqb b a
    go (inl e) = eq-eqb a b e ∙ sym (eq-eqb b a (sym e))
    go (inr n) = ne_eqb a b n ∙ sym (ne_eqb b a (λ e. n (sym e)))

or_false : (b : Bool) → (b || false) ≡ b
or_false true = refl
or_false false = refl

or_swap : (a b : Bool) → (a || b) ≡ (b || a)
or_swap true true = refl
or_swap true false = refl
or_swap false true = refl
or_swap false false = refl

-- a width is among the open widths exactly where it is open
pub open_listed : (w : ℕ) (before : List ℕ) → list_any (λ v. eqb v w) (open_widths before) ≡ is_open w before
unfolding open_widths
open_listed w [] = or_false (eqb 0 w) ∙ eqb_swap 0 w
open_listed w (u ∷ before) =
    any_append w (filter (λ v. ltb v u) (open_widths before)) (u ∷ [])
    ∙ (ap (λ t. t || (eqb u w || false)) (any_filter w u (open_widths before))
    ∙ (ap (λ t. (ltb w u && list_any (λ v. eqb v w) (open_widths before)) || t) (or_false (eqb u w) ∙ eqb_swap u w)
    ∙ (or_swap (ltb w u && list_any (λ v. eqb v w) (open_widths before)) (eqb w u) ∙ ap (λ t. eqb w u || (ltb w u && t)) (open_listed w before))))

-- the width of the line before is the last
pub last_listed : (before : List ℕ) → last_of (open_widths before) ≡ width_before before
unfolding open_widths
last_listed [] = refl
last_listed (u ∷ before) =
    let front : List ℕ = filter (λ v. ltb v u) (open_widths before) in
    let place : length (front ++ u ∷ []) - 1 ≡ length front = omega (arith, length-append front (u ∷ [])) in
    ap (λ i. get_or (front ++ u ∷ []) i 0) place ∙ get_or_push front u 0 (length front) refl

-- the open widths rise
behind_last : (w : ℕ) (xs : List ℕ) → IsStrictlyIncreasing xs → ((i : ℕ) → i < length xs → get_or xs i 0 < w) → IsStrictlyIncreasing (xs ++ w ∷ [])
behind_last w xs rise below = λ k lt. go k (cases_lt (k + 1) (length xs)) (omega (arith, length-append xs (w ∷ [])))
  where
    go : (k : ℕ) → (k + 1 < length xs) ⊎ (length xs ≤ k + 1) → k + 1 ≤ length xs → get_or (xs ++ w ∷ []) k 0 < get_or (xs ++ w ∷ []) (k + 1) 0
    go k (inl lt) le = omega (arith, rise k lt, get_or_append_left xs (w ∷ []) 0 k (omega arith), get_or_append_left xs (w ∷ []) 0 (k + 1) lt)
    go k (inr ge) le = omega (arith, below k (omega arith), get_or_append_left xs (w ∷ []) 0 k (omega arith), get_or_push xs w 0 (k + 1) (omega arith))

filter_below : (w : ℕ) (xs : List ℕ) (i : ℕ) → i < length (filter (λ v. ltb v w) xs) → get_or (filter (λ v. ltb v w) xs) i 0 < w
filter_below w [] i lt = absurd (omega arith)
filter_below w (x ∷ xs) i lt = go (ltb x w) refl i lt (filter_below w xs)
  where
    go : (t : Bool) → ltb x w ≡ t → (i : ℕ) → i < length (cond t (x ∷ filter (λ v. ltb v w) xs) (filter (λ v. ltb v w) xs))
        → ((j : ℕ) → j < length (filter (λ v. ltb v w) xs) → get_or (filter (λ v. ltb v w) xs) j 0 < w)
        → get_or (cond t (x ∷ filter (λ v. ltb v w) xs) (filter (λ v. ltb v w) xs)) i 0 < w
    go true e zero lt more = ltb-true x w e
    go true e (suc j) lt more = more j (omega arith)
    go false e i lt more = more i lt

pub open_rise : (before : List ℕ) → IsStrictlyIncreasing (open_widths before)
unfolding open_widths
open_rise [] = λ k lt. absurd (omega arith)
open_rise (w ∷ before) =
    behind_last w (filter (λ v. ltb v w) (open_widths before)) (IsStrictlyIncreasing-filter (λ v. ltb v w) (open_widths before) (open_rise before)) (filter_below w (open_widths before))

-- ---- items of levels

pub read_replicate : (n : ℕ) (t : Token) → read (replicate n (Comes t)) ≡ Ok (replicate n t)
read_replicate zero t = refl
read_replicate (suc n) t = ap (with_front (t ∷ [])) (read_replicate n t)

-- the items of a level, where it is wider, where it is open, and where it isn't
module _ (width at : ℕ) (widths levels : List ℕ) (here : levels ≡ open_widths widths) where
  wider : (t : Bool) → ltb (last_of levels) width ≡ t → is_wider width widths ≡ t
  wider t h = ap (λ w. ltb w width) (sym (last_listed widths) ∙ ap last_of (sym here)) ∙ h

  listed : (t : Bool) → list_any (λ v. eqb v width) levels ≡ t → is_open width widths ≡ t
  listed t h = sym (open_listed width widths) ∙ (ap (list_any (λ v. eqb v width)) (sym here) ∙ h)

  pub puts_wider : (old : List Token) → last_of levels < width
      → with_front old (read (level_items width widths at)) ≡ Ok (old ++ record { kind = Indent; span = record { start = at; end = at } } ∷ [])
  puts_wider old h = let e = wider true (lt-ltb _ _ h) in rw e refl

  pub puts_off : width ≤ last_of levels → list_any (λ v. eqb v width) levels ≡ false → read (level_items width widths at) ≡ Err (breach 3 at)
  puts_off h none =
      let e = wider false (le-ltb _ _ h) in
      let o = listed false none in
      rw (e, o) refl

  pub puts_dedents : (old : List Token) → width ≤ last_of levels → list_any (λ v. eqb v width) levels ≡ true
      → with_front old (read (level_items width widths at)) ≡ Ok (old ++ replicate (length (filter (ltb width) levels)) (record { kind = Dedent; span = record { start = at; end = at } }))
  puts_dedents old h some =
      let e = wider false (le-ltb _ _ h) in
      let o = listed true some in
      let n : open_above width widths ≡ length (filter (ltb width) levels) = ap (λ ls. length (filter (ltb width) ls)) (sym here) in
      rw (e, o) (ap (with_front old) (read_replicate (open_above width widths) _) ∙ ap (λ k. Ok (old ++ replicate k (record { kind = Dedent; span = record { start = at; end = at } }))) n)
