-- What the tables say of lines and cells.
use Rattle.std.proofs.Common.{◌≡◌, ℕ, zero, suc, ◌<◌, ◌≤◌, ◌+◌, Bool, true, false, List, [], ◌∷◌, Option, Some, None, refl, ap, sym, ◌∙◌, length, drop, slice_get, slice_set, if◌then◌else◌, arith, subst}
use Rattle.thin_state.specs.declared.state.Cell.{Cell}
use Rattle.thin_state.specs.declared.state.Value.{Value}
use Rattle.thin_state.specs.declared.tree.Line.{Line}
use Rattle.thin_state.specs.declared.tree.Line.TheVariants as line
use Rattle.thin_state.specs.declared.tree.CStmt.{CStmt}
use Rattle.thin_state.specs.declared.tree.Variable.{Variable}
use Rattle.thin_state.specs.State.{lookup, put, same_variable}
use Rattle.std.specs.Prelude.{MatchOption}
use Rattle.thin_tables.specs.declared.item.Following.{Following}
use Rattle.std.proofs.Math.ListN.{drop_of_length-le}
use Rattle.std.proofs.lemmas.Option.{slice_get_within}
use Rattle.thin_tables.specs.declared.numbers.Numbers.{Numbers}
use Rattle.thin_tables.specs.Tables.{AreNumbersFrom, IsNoted, knows_none}
use Rattle.thin_tables.specs.Cells.{cell_from, with_value}
use Rattle.thin_tables.specs.Lines.{Next, Lines, NoLine, NoStatement, next_line, statement_from, statements_from}

first_of : {A : Type 0} (all : List A) (i : ℕ) (x : A) (xs : List A) → x ∷ xs ≡ drop i all → slice_get all i ≡ Some x
first_of [] zero x xs e = cc
first_of [] (suc i) x xs e = cc
first_of (y ∷ all) zero x xs e = same y all x xs e
  where
    same : {A : Type 0} (y : A) (all : List A) (x : A) (xs : List A) → x ∷ xs ≡ y ∷ all → Some y ≡ Some x
    same y all x xs e = cc
first_of (y ∷ all) (suc i) x xs e = first_of all i x xs e

rest_of : {A : Type 0} (all : List A) (i : ℕ) (x : A) (xs : List A) → x ∷ xs ≡ drop i all → xs ≡ drop (suc i) all
rest_of [] zero x xs e = cc
rest_of [] (suc i) x xs e = cc
rest_of (y ∷ all) zero x xs e = same y all x xs e
  where
    same : {A : Type 0} (y : A) (all : List A) (x : A) (xs : List A) → x ∷ xs ≡ y ∷ all → xs ≡ all
    same y all x xs e = cc
rest_of (y ∷ all) (suc i) x xs e = rest_of all i x xs e

none_left : {A : Type 0} (all : List A) (i : ℕ) → [] ≡ drop i all → slice_get all i ≡ None
none_left [] zero e = refl
none_left [] (suc i) e = refl
none_left (y ∷ all) zero e = cc
none_left (y ∷ all) (suc i) e = none_left all i e

-- lines

-- where the next statement stands
abbrev NextIs : List Line → ℕ → Next → Type 0
NextIs all here (Lines s rest) = (slice_get all here ≡ Some (line.Statement s)) × (rest ≡ drop (suc here) all)
NextIs all here NoLine = slice_get all here ≡ None

next_is : (all : List Line) (i : ℕ) (ls : List Line) → ls ≡ drop i all → NextIs all (statement_from i ls) (next_line ls)
next_is all i [] e = none_left all i e
next_is all i (line.Label l ∷ ls) e = next_is all (suc i) ls (rest_of all i (line.Label l) ls e)
next_is all i (line.Statement s ∷ ls) e = (first_of all i (line.Statement s) ls e, rest_of all i (line.Statement s) ls e)

pub table-at : (i : ℕ) (ls : List Line) (k here : ℕ) → slice_get (statements_from i ls) k ≡ Some here → here ≡ statement_from (i + k) (drop k ls)
table-at i [] zero here e = cc
table-at i [] (suc k) here e = cc
table-at i (l ∷ ls) zero here e = same (statement_from i (l ∷ ls)) here e ∙ ap (λ (n : ℕ). statement_from n (l ∷ ls)) (omega arith)
  where
    same : (n here : ℕ) → Some n ≡ Some here → here ≡ n
    same n here e = cc
table-at i (l ∷ ls) (suc k) here e = table-at (suc i) ls k here e ∙ ap (λ (n : ℕ). statement_from n (drop k ls)) (omega arith)

pub table-end : (i : ℕ) (ls : List Line) (k : ℕ) → slice_get (statements_from i ls) k ≡ None → next_line (drop k ls) ≡ NoLine
table-end i [] zero e = refl
table-end i [] (suc k) e = refl
table-end i (l ∷ ls) zero e = cc
table-end i (l ∷ ls) (suc k) e = table-end (suc i) ls k e

statement_is : (all : List Line) (here : ℕ) (next : Next) (s : CStmt) → NextIs all here next → slice_get all here ≡ Some (line.Statement s)
    → next ≡ Lines s (drop (suc here) all)
statement_is all here (Lines t rest) s is e = same t s is.0 rest is.1 e
  where
    same : (t s : CStmt) → slice_get all here ≡ Some (line.Statement t) → (rest : List Line) → rest ≡ drop (suc here) all
        → slice_get all here ≡ Some (line.Statement s) → Lines t rest ≡ Lines s (drop (suc here) all)
    same t s a rest b e = cc
statement_is all here NoLine s is e = cc

no_statement : (all : List Line) (here : ℕ) (next : Next) (found : Option Line) → NextIs all here next → slice_get all here ≡ found → NoStatement found → next ≡ NoLine
no_statement all here (Lines t rest) None is e isnt = cc
no_statement all here (Lines t rest) (Some (line.Label l)) is e isnt = cc
no_statement all here (Lines t rest) (Some (line.Statement s)) is e isnt = absurd isnt
no_statement all here NoLine found is e isnt = refl

pub found-statement : (all : List Line) (from here : ℕ) (s : CStmt) → slice_get (statements_from 0 all) from ≡ Some here
    → slice_get all here ≡ Some (line.Statement s) → next_line (drop from all) ≡ Lines s (drop (suc here) all)
found-statement all from here s e h =
    let at : here ≡ statement_from from (drop from all) = table-at 0 all from here e ∙ ap (λ (n : ℕ). statement_from n (drop from all)) (omega arith) in
    statement_is all here (next_line (drop from all)) s
    (subst (λ (n : ℕ). NextIs all n (next_line (drop from all))) (sym at) (next_is all from (drop from all) refl)) h

pub found-none : (all : List Line) (from here : ℕ) (found : Option Line) → slice_get (statements_from 0 all) from ≡ Some here
    → slice_get all here ≡ found → NoStatement found → next_line (drop from all) ≡ NoLine
found-none all from here found e h isnt =
    let at : here ≡ statement_from from (drop from all) = table-at 0 all from here e ∙ ap (λ (n : ℕ). statement_from n (drop from all)) (omega arith) in
    no_statement all here (next_line (drop from all)) found
    (subst (λ (n : ℕ). NextIs all n (next_line (drop from all))) (sym at) (next_is all from (drop from all) refl)) h isnt

pub found-after : (all : List Line) (from here : ℕ) (r : Option Following) → slice_get (statements_from 0 all) from ≡ Some here
    → MatchOption r (NoStatement (slice_get all here)) (λ f. (slice_get all here ≡ Some (line.Statement f.statement.now)) × (f.after ≡ here + 1))
    → MatchOption r (next_line (drop from all) ≡ NoLine) (λ f. next_line (drop from all) ≡ Lines f.statement.now (drop f.after all))
found-after all from here None e isnt = found-none all from here (slice_get all here) e refl isnt
found-after all from here (Some f) e is =
    let after : f.after ≡ suc here = is.1 ∙ omega arith in
    found-statement all from here f.statement.now e is.0 ∙ ap (λ (n : ℕ). Lines f.statement.now (drop n all)) (sym after)

-- cells

if-true : {A : Type 0} (b : Bool) (x y : A) → b ≡ true → (if b then x else y) ≡ x
if-true true x y e = refl
if-true false x y e = cc

if-false : {A : Type 0} (b : Bool) (x y : A) → b ≡ false → (if b then x else y) ≡ y
if-false true x y e = cc
if-false false x y e = refl

-- the cell of a number, and what giving its variable a value does
pub record CellAt (cs : List Cell) (x : Variable) (k : ℕ) : Type 0 where
  pub cell : Cell
  pub there : slice_get cs k ≡ Some cell
  pub looked : lookup cs x ≡ Some cell
  pub puts : (v : Value) → put cs x v ≡ slice_set cs k (with_value cell v)

some_same : (a b : ℕ) → Some a ≡ Some b → a ≡ b
some_same a b h = cc

later : (b : Bool) (i n : ℕ) (rest : Option ℕ) → (rest ≡ Some n → suc i ≤ n) → (if b then Some i else rest) ≡ Some n → i ≤ n
later true i n rest r e = omega (arith, some_same i n e)
later false i n rest r e = omega (arith, r e)

not_before : (i : ℕ) (cs : List Cell) (x : Variable) (n : ℕ) → cell_from i cs x ≡ Some n → i ≤ n
not_before i [] x n e = cc
not_before i (c ∷ cs) x n e = later (same_variable c.variable x) i n (cell_from (suc i) cs x) (λ h. not_before (suc i) cs x n h) e

at_first : (i : ℕ) (c : Cell) (cs : List Cell) (x : Variable) (b : Bool) → same_variable c.variable x ≡ b
    → (if b then Some i else cell_from (suc i) cs x) ≡ Some (i + 0) → CellAt (c ∷ cs) x 0
at_first i c cs x true t e = record {
  cell = c;
  there = refl;
  looked = if-true (same_variable c.variable x) (Some c) (lookup cs x) t;
  puts = λ v. if-true (same_variable c.variable x) (with_value c v ∷ cs) (c ∷ put cs x v) t;
}
at_first i c cs x false t e = absurd (omega (arith, not_before (suc i) cs x (i + 0) e))

at_later : (i k : ℕ) (c : Cell) (cs : List Cell) (x : Variable) (b : Bool) → same_variable c.variable x ≡ b
    → (if b then Some i else cell_from (suc i) cs x) ≡ Some (i + suc k) → (cell_from (suc i) cs x ≡ Some (suc i + k) → CellAt cs x k)
    → CellAt (c ∷ cs) x (suc k)
at_later i k c cs x true t e r = absurd (omega (arith, some_same i (i + suc k) e))
at_later i k c cs x false t e r =
    let more : i + suc k ≡ suc i + k = omega arith in
    let below = r (e ∙ ap (λ (n : ℕ). Some n) more) in
    record {
      cell = below.cell;
      there = below.there;
      looked = if-false (same_variable c.variable x) (Some c) (lookup cs x) t ∙ below.looked;
      puts = λ v. if-false (same_variable c.variable x) (with_value c v ∷ cs) (c ∷ put cs x v) t ∙ ap (λ (ds : List Cell). c ∷ ds) (below.puts v);
    }

cell-from : (i k : ℕ) (cs : List Cell) (x : Variable) → cell_from i cs x ≡ Some (i + k) → CellAt cs x k
cell-from i k [] x e = cc
cell-from i zero (c ∷ cs) x e = at_first i c cs x (same_variable c.variable x) refl e
cell-from i (suc k) (c ∷ cs) x e = at_later i k c cs x (same_variable c.variable x) refl e (λ h. cell-from (suc i) k cs x h)

pub cell-at : (cs : List Cell) (x : Variable) (k : ℕ) → cell_from 0 cs x ≡ Some k → CellAt cs x k
cell-at cs x k e = cell-from 0 k cs x (e ∙ ap (λ (n : ℕ). Some n) (omega arith))

-- a variable that has no cell
pub record NoCell (cs : List Cell) (x : Variable) : Type 0 where
  pub looked : lookup cs x ≡ None
  pub puts : (v : Value) → put cs x v ≡ cs

no_first : (i : ℕ) (c : Cell) (cs : List Cell) (x : Variable) (b : Bool) → same_variable c.variable x ≡ b
    → (if b then Some i else cell_from (suc i) cs x) ≡ None → (cell_from (suc i) cs x ≡ None → NoCell cs x) → NoCell (c ∷ cs) x
no_first i c cs x true t e r = cc
no_first i c cs x false t e r =
    let below = r e in
    record {
      looked = if-false (same_variable c.variable x) (Some c) (lookup cs x) t ∙ below.looked;
      puts = λ v. if-false (same_variable c.variable x) (with_value c v ∷ cs) (c ∷ put cs x v) t ∙ ap (λ (ds : List Cell). c ∷ ds) (below.puts v);
    }

pub no-cell : (i : ℕ) (cs : List Cell) (x : Variable) → cell_from i cs x ≡ None → NoCell cs x
no-cell i [] x e = record { looked = refl; puts = λ v. refl }
no-cell i (c ∷ cs) x e = no_first i c cs x (same_variable c.variable x) refl e (λ h. no-cell (suc i) cs x h)

same_numbers : (i : ℕ) (c : Cell) (cs : List Cell) (x : Variable) (v : Value) (y : Variable) (b : Bool)
    → cell_from (suc i) (put cs x v) y ≡ cell_from (suc i) cs y
    → cell_from i (if b then with_value c v ∷ cs else c ∷ put cs x v) y ≡ cell_from i (c ∷ cs) y
same_numbers i c cs x v y true r = refl
same_numbers i c cs x v y false r = ap (λ (n : Option ℕ). if same_variable c.variable y then Some i else n) r

-- a value changes no cell's number
pub cell_from-put : (i : ℕ) (cs : List Cell) (x : Variable) (v : Value) (y : Variable) → cell_from i (put cs x v) y ≡ cell_from i cs y
cell_from-put i [] x v y = refl
cell_from-put i (c ∷ cs) x v y = same_numbers i c cs x v y (same_variable c.variable x) (cell_from-put (suc i) cs x v y)

pub drop-at : {A : Type 0} (xs : List A) (i : ℕ) (x : A) → slice_get xs i ≡ Some x → drop i xs ≡ x ∷ drop (suc i) xs
drop-at [] zero x e = cc
drop-at [] (suc i) x e = cc
drop-at (y ∷ xs) zero x e = same y x xs e
  where
    same : {A : Type 0} (y x : A) (xs : List A) → Some y ≡ Some x → y ∷ xs ≡ x ∷ xs
    same y x xs e = cc
drop-at (y ∷ xs) (suc i) x e = drop-at xs i x e

pub within : (cs : List Cell) (x : Variable) (k : ℕ) → cell_from 0 cs x ≡ Some k → k < length cs
within cs x k e = slice_get_within cs k (cell-at cs x k e).cell (cell-at cs x k e).there

-- the table of no cells, and with one cell more
pub numbers-none : (cs : List Cell) (n : Numbers) → knows_none n → AreNumbersFrom (length cs) (drop (length cs) cs) n
numbers-none cs n none = λ y. none y ∙ ap (λ (ds : List Cell). cell_from (length cs) ds y) (sym (drop_of_length-le cs (omega arith)))

pub numbers-noted : (cs : List Cell) (j k : ℕ) (c : Cell) (old new : Numbers) → k ≡ suc j → slice_get cs j ≡ Some c
    → AreNumbersFrom k (drop k cs) old → IsNoted old c.variable j new → AreNumbersFrom j (drop j cs) new
numbers-noted cs j k c old new next at are noted = λ y.
    let more : AreNumbersFrom (suc j) (drop (suc j) cs) old = subst (λ (n : ℕ). AreNumbersFrom n (drop n cs) old) next are in
    noted y
    ∙ ap (λ (o : Option ℕ). if same_variable c.variable y then Some j else o) (more y)
    ∙ ap (λ (ds : List Cell). cell_from j ds y) (sym (drop-at cs j c at))
