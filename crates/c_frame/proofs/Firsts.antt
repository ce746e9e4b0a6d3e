-- What a table of numbers says of the first item that passes a test.
use Rattle.std.proofs.Common.{◌≡◌, ℕ, zero, suc, ◌<◌, ◌≤◌, ◌+◌, Bool, true, false, List, [], ◌∷◌, Option, Some, None, refl, ap, sym, ◌∙◌, length, drop, slice_get, slice_set, if◌then◌else◌, arith, subst}
use Rattle.std.proofs.Math.ListN.{drop_of_length-le}
use Rattle.std.proofs.lemmas.Option.{slice_get_within}
use Rattle.c_tree.specs.declared.name.Place.{Place}
use Rattle.c_tree.specs.declared.name.Variable.{Variable}
use Rattle.c_value.specs.declared.frame.Cell.{Cell}
use Rattle.c_value.specs.declared.space.Spot.{Spot}
use Rattle.c_value.specs.declared.value.Value.{Value}
use Rattle.c_value.specs.Names.{same_place, same_variable}
use Rattle.c_frame.specs.Cells.{lookup, put}
use Rattle.c_frame.specs.Firsts.{first, first_from, with_first}
use Rattle.c_frame.specs.Spots.{put_spot, spot}
use Rattle.c_frame.specs.Tables.{cell_with, is_cell, is_spot, spot_with}

if-true : {A : Type 0} (b : Bool) (x y : A) → b ≡ true → (if b then x else y) ≡ x
if-true true x y e = refl
if-true false x y e = cc

if-false : {A : Type 0} (b : Bool) (x y : A) → b ≡ false → (if b then x else y) ≡ y
if-false true x y e = cc
if-false false x y e = refl

some_same : (a b : ℕ) → Some a ≡ Some b → a ≡ b
some_same a b h = cc

-- the item of a number, and what changing the first does
pub record FirstAt (A : Type 0) (test : A → Bool) (xs : List A) (k : ℕ) : Type 0 where
  pub item : A
  pub there : slice_get xs k ≡ Some item
  pub looked : first test xs ≡ Some item
  pub puts : (change : A → A) → with_first test change xs ≡ slice_set xs k (change item)

later : (b : Bool) (i n : ℕ) (rest : Option ℕ) → (rest ≡ Some n → suc i ≤ n) → (if b then Some i else rest) ≡ Some n → i ≤ n
later true i n rest r e = omega (arith, some_same i n e)
later false i n rest r e = omega (arith, r e)

not_before : {A : Type 0} (test : A → Bool) (i : ℕ) (xs : List A) (n : ℕ) → first_from test i xs ≡ Some n → i ≤ n
not_before test i [] n e = cc
not_before test i (x ∷ xs) n e = later (test x) i n (first_from test (suc i) xs) (λ h. not_before test (suc i) xs n h) e

at_first : {A : Type 0} (test : A → Bool) (i : ℕ) (x : A) (xs : List A) (b : Bool) → test x ≡ b
    → (if b then Some i else first_from test (suc i) xs) ≡ Some (i + 0) → FirstAt A test (x ∷ xs) 0
at_first test i x xs true t e = record {
  item = x;
  there = refl;
  looked = if-true (test x) (Some x) (first test xs) t;
  puts = λ change. if-true (test x) (change x ∷ xs) (x ∷ with_first test change xs) t;
}
at_first test i x xs false t e = absurd (omega (arith, not_before test (suc i) xs (i + 0) e))

at_later : {A : Type 0} (test : A → Bool) (i k : ℕ) (x : A) (xs : List A) (b : Bool) → test x ≡ b
    → (if b then Some i else first_from test (suc i) xs) ≡ Some (i + suc k)
    → (first_from test (suc i) xs ≡ Some (suc i + k) → FirstAt A test xs k) → FirstAt A test (x ∷ xs) (suc k)
at_later test i k x xs true t e r = absurd (omega (arith, some_same i (i + suc k) e))
at_later {A = A} test i k x xs false t e r =
    let more : i + suc k ≡ suc i + k = omega arith in
    let below = r (e ∙ ap (λ (n : ℕ). Some n) more) in
    record {
      item = below.item;
      there = below.there;
      looked = if-false (test x) (Some x) (first test xs) t ∙ below.looked;
      puts = λ change. if-false (test x) (change x ∷ xs) (x ∷ with_first test change xs) t ∙ ap (λ (ys : List A). x ∷ ys) (below.puts change);
    }

from_number : {A : Type 0} (test : A → Bool) (i k : ℕ) (xs : List A) → first_from test i xs ≡ Some (i + k) → FirstAt A test xs k
from_number test i k [] e = cc
from_number test i zero (x ∷ xs) e = at_first test i x xs (test x) refl e
from_number test i (suc k) (x ∷ xs) e = at_later test i k x xs (test x) refl e (λ h. from_number test (suc i) k xs h)

pub first-at : {A : Type 0} (test : A → Bool) (xs : List A) (k : ℕ) → first_from test 0 xs ≡ Some k → FirstAt A test xs k
first-at test xs k e = from_number test 0 k xs (e ∙ ap (λ (n : ℕ). Some n) (omega arith))

pub within : {A : Type 0} (test : A → Bool) (xs : List A) (k : ℕ) → first_from test 0 xs ≡ Some k → k < length xs
within test xs k e = slice_get_within xs k (first-at test xs k e).item (first-at test xs k e).there

-- no item passes the test
pub record NoFirst (A : Type 0) (test : A → Bool) (xs : List A) : Type 0 where
  pub looked : first test xs ≡ None
  pub puts : (change : A → A) → with_first test change xs ≡ xs

no_first : {A : Type 0} (test : A → Bool) (i : ℕ) (x : A) (xs : List A) (b : Bool) → test x ≡ b
    → (if b then Some i else first_from test (suc i) xs) ≡ None → (first_from test (suc i) xs ≡ None → NoFirst A test xs) → NoFirst A test (x ∷ xs)
no_first test i x xs true t e r = cc
no_first {A = A} test i x xs false t e r =
    let below = r e in
    record {
      looked = if-false (test x) (Some x) (first test xs) t ∙ below.looked;
      puts = λ change. if-false (test x) (change x ∷ xs) (x ∷ with_first test change xs) t ∙ ap (λ (ys : List A). x ∷ ys) (below.puts change);
    }

pub no-first : {A : Type 0} (test : A → Bool) (i : ℕ) (xs : List A) → first_from test i xs ≡ None → NoFirst A test xs
no-first test i [] e = record { looked = refl; puts = λ change. refl }
no-first test i (x ∷ xs) e = no_first test i x xs (test x) refl e (λ h. no-first test (suc i) xs h)

same_numbers : {A : Type 0} (test other : A → Bool) (change : A → A) (i : ℕ) (x : A) (xs : List A) (b : Bool) → other (change x) ≡ other x
    → first_from other (suc i) (with_first test change xs) ≡ first_from other (suc i) xs
    → first_from other i (if b then change x ∷ xs else x ∷ with_first test change xs) ≡ first_from other i (x ∷ xs)
same_numbers test other change i x xs true e r = ap (λ (c : Bool). if c then Some i else first_from other (suc i) xs) e
same_numbers test other change i x xs false e r = ap (λ (n : Option ℕ). if other x then Some i else n) r

-- a change that no test sees changes no number
pub first_from-with_first : {A : Type 0} (test other : A → Bool) (change : A → A) (i : ℕ) (xs : List A) → ((x : A) → other (change x) ≡ other x)
    → first_from other i (with_first test change xs) ≡ first_from other i xs
first_from-with_first test other change i [] e = refl
first_from-with_first test other change i (x ∷ xs) e =
    same_numbers test other change i x xs (test x) (e x) (first_from-with_first test other change (suc i) xs e)

pub drop-at : {A : Type 0} (xs : List A) (i : ℕ) (x : A) → slice_get xs i ≡ Some x → drop i xs ≡ x ∷ drop (suc i) xs
drop-at [] zero x e = cc
drop-at [] (suc i) x e = cc
drop-at (y ∷ xs) zero x e = same y x xs e
  where
    same : {A : Type 0} (y x : A) (xs : List A) → Some y ≡ Some x → y ∷ xs ≡ x ∷ xs
    same y x xs e = cc
drop-at (y ∷ xs) (suc i) x e = drop-at xs i x e

-- the number behind all items is none's
pub first_from-end : {A : Type 0} (test : A → Bool) (xs : List A) → None ≡ first_from test (length xs) (drop (length xs) xs)
first_from-end {A = A} test xs = ap (λ (ys : List A). first_from test (length xs) ys) (sym (drop_of_length-le xs (omega arith)))

-- the number of one item more
pub first_from-noted : {A : Type 0} (test : A → Bool) (xs : List A) (j k : ℕ) (x : A) (old : Option ℕ) → k ≡ suc j → slice_get xs j ≡ Some x
    → old ≡ first_from test k (drop k xs) → (if test x then Some j else old) ≡ first_from test j (drop j xs)
first_from-noted {A = A} test xs j k x old next at is =
    let more : old ≡ first_from test (suc j) (drop (suc j) xs) = subst (λ (n : ℕ). old ≡ first_from test n (drop n xs)) next is in
    ap (λ (o : Option ℕ). if test x then Some j else o) more
    ∙ ap (λ (ys : List A). first_from test j ys) (sym (drop-at xs j x at))

-- ---- cells and spots

pub lookup-first : (cs : List Cell) (x : Variable) → lookup cs x ≡ first (is_cell x) cs
lookup-first [] x = refl
lookup-first (c ∷ cs) x = ap (λ (o : Option Cell). if same_variable c.variable x then Some c else o) (lookup-first cs x)

pub put-first : (cs : List Cell) (x : Variable) (v : Value) → put cs x v ≡ with_first (is_cell x) (cell_with v) cs
put-first [] x v = refl
put-first (c ∷ cs) x v = ap (λ (ds : List Cell). if same_variable c.variable x then cell_with v c ∷ cs else c ∷ ds) (put-first cs x v)

pub spot-first : (ss : List Spot) (p : Place) → spot ss p ≡ first (is_spot p) ss
spot-first [] p = refl
spot-first (s ∷ ss) p = ap (λ (o : Option Spot). if same_place s.place p then Some s else o) (spot-first ss p)

pub put_spot-first : (ss : List Spot) (p : Place) (v : Value) → put_spot ss p v ≡ with_first (is_spot p) (spot_with v) ss
put_spot-first [] p v = refl
put_spot-first (s ∷ ss) p v = ap (λ (ts : List Spot). if same_place s.place p then spot_with v s ∷ ss else s ∷ ts) (put_spot-first ss p v)

pub found-cell : (cs : List Cell) (x : Variable) (k : ℕ) → first_from (is_cell x) 0 cs ≡ Some k → slice_get cs k ≡ lookup cs x
found-cell cs x k e = let at = first-at (is_cell x) cs k e in at.there ∙ sym at.looked ∙ sym (lookup-first cs x)

pub no-cell : (cs : List Cell) (x : Variable) → first_from (is_cell x) 0 cs ≡ None → None ≡ lookup cs x
no-cell cs x e = sym (no-first (is_cell x) 0 cs e).looked ∙ sym (lookup-first cs x)

-- what a cell becomes that is given a value
abbrev pub IsCellSet : List Cell → ℕ → Value → List Cell → Type 0
IsCellSet cs k v new = (c : Cell) → slice_get cs k ≡ Some c → new ≡ slice_set cs k (cell_with v c)

pub set-cell : (cs new : List Cell) (x : Variable) (v : Value) (k : ℕ) → first_from (is_cell x) 0 cs ≡ Some k → IsCellSet cs k v new → new ≡ put cs x v
set-cell cs new x v k e is =
    let at = first-at (is_cell x) cs k e in
    is at.item at.there ∙ sym (at.puts (cell_with v)) ∙ sym (put-first cs x v)

pub no-cell-put : (cs : List Cell) (x : Variable) (v : Value) → first_from (is_cell x) 0 cs ≡ None → cs ≡ put cs x v
no-cell-put cs x v e = sym ((no-first (is_cell x) 0 cs e).puts (cell_with v)) ∙ sym (put-first cs x v)

pub cells-kept : (cs new : List Cell) (x : Variable) (v : Value) (k : ℕ) (y : Variable) → first_from (is_cell x) 0 cs ≡ Some k → IsCellSet cs k v new
    → first_from (is_cell y) 0 cs ≡ first_from (is_cell y) 0 new
cells-kept cs new x v k y e is =
    sym (first_from-with_first (is_cell x) (is_cell y) (cell_with v) 0 cs (λ c. refl))
    ∙ ap (λ (ds : List Cell). first_from (is_cell y) 0 ds) (sym (put-first cs x v) ∙ sym (set-cell cs new x v k e is))

pub found-spot : (ss : List Spot) (p : Place) (k : ℕ) → first_from (is_spot p) 0 ss ≡ Some k → slice_get ss k ≡ spot ss p
found-spot ss p k e = let at = first-at (is_spot p) ss k e in at.there ∙ sym at.looked ∙ sym (spot-first ss p)

pub no-spot : (ss : List Spot) (p : Place) → first_from (is_spot p) 0 ss ≡ None → None ≡ spot ss p
no-spot ss p e = sym (no-first (is_spot p) 0 ss e).looked ∙ sym (spot-first ss p)

-- what a place becomes that is stored into
abbrev pub IsSpotSet : List Spot → ℕ → Value → List Spot → Type 0
IsSpotSet ss k v new = (s : Spot) → slice_get ss k ≡ Some s → new ≡ slice_set ss k (spot_with v s)

pub set-spot : (ss new : List Spot) (p : Place) (v : Value) (k : ℕ) → first_from (is_spot p) 0 ss ≡ Some k → IsSpotSet ss k v new → new ≡ put_spot ss p v
set-spot ss new p v k e is =
    let at = first-at (is_spot p) ss k e in
    is at.item at.there ∙ sym (at.puts (spot_with v)) ∙ sym (put_spot-first ss p v)

pub no-spot-put : (ss : List Spot) (p : Place) (v : Value) → first_from (is_spot p) 0 ss ≡ None → ss ≡ put_spot ss p v
no-spot-put ss p v e = sym ((no-first (is_spot p) 0 ss e).puts (spot_with v)) ∙ sym (put_spot-first ss p v)

pub spots-kept : (ss new : List Spot) (p : Place) (v : Value) (k : ℕ) (q : Place) → first_from (is_spot p) 0 ss ≡ Some k → IsSpotSet ss k v new
    → first_from (is_spot q) 0 ss ≡ first_from (is_spot q) 0 new
spots-kept ss new p v k q e is =
    sym (first_from-with_first (is_spot p) (is_spot q) (spot_with v) 0 ss (λ s. refl))
    ∙ ap (λ (ts : List Spot). first_from (is_spot q) 0 ts) (sym (put_spot-first ss p v) ∙ sym (set-spot ss new p v k e is))
