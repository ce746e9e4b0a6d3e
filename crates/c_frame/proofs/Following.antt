-- What the tables of labels and statements say of the lines of a function.
use Rattle.std.proofs.Common.{◌≡◌, ℕ, zero, suc, ◌+◌, Bool, true, false, List, [], ◌∷◌, Option, Some, None, option_map, refl, ap, sym, ◌∙◌, drop, slice_get, nat_eq, if◌then◌else◌, arith, subst}
use Rattle.std.specs.Prelude.{MatchOption, is_some}
use Rattle.c_tree.specs.declared.item.Line.{Line}
use Rattle.c_tree.specs.declared.item.Line.TheVariants as line
use Rattle.c_tree.specs.declared.statement.CStmt.{CStmt}
use Rattle.c_frame.specs.declared.function.Following.{Following}
use Rattle.c_frame.specs.Lines.{Next, NoStatement, after_label, label_from, label_line, next_line, statement_from, statements_from}

first_of : {A : Type 0} (all : List A) (i : ℕ) (x : A) (xs : List A) → x ∷ xs ≡ drop i all → slice_get all i ≡ Some x
first_of [] zero x xs e = cc
first_of [] (suc i) x xs e = cc
first_of (y ∷ all) zero x xs e = same y all x xs e
  where
    same : {A : Type 0} (y : A) (all : List A) (x : A) (xs : List A) → x ∷ xs ≡ y ∷ all → Some y ≡ Some x
    same y all x xs e = cc
first_of (y ∷ all) (suc i) x xs e = first_of all i x xs e

rest_of : {A : Type 0} (all : List A) (i : ℕ) (x : A) (xs : List A) → x ∷ xs ≡ drop i all → xs ≡ drop (suc i) all
rest_of [] zero x xs e = cc
rest_of [] (suc i) x xs e = cc
rest_of (y ∷ all) zero x xs e = same y all x xs e
  where
    same : {A : Type 0} (y : A) (all : List A) (x : A) (xs : List A) → x ∷ xs ≡ y ∷ all → xs ≡ all
    same y all x xs e = cc
rest_of (y ∷ all) (suc i) x xs e = rest_of all i x xs e

none_left : {A : Type 0} (all : List A) (i : ℕ) → [] ≡ drop i all → slice_get all i ≡ None
none_left [] zero e = refl
none_left [] (suc i) e = refl
none_left (y ∷ all) zero e = cc
none_left (y ∷ all) (suc i) e = none_left all i e

-- ---- statements

-- where the next statement stands
abbrev NextIs : List Line → ℕ → Option Next → Type 0
NextIs all here (Some n) = (slice_get all here ≡ Some (line.Statement n.statement)) × (n.rest ≡ drop (suc here) all)
NextIs all here None = slice_get all here ≡ None

next_is : (all : List Line) (i : ℕ) (ls : List Line) → ls ≡ drop i all → NextIs all (statement_from i ls) (next_line ls)
next_is all i [] e = none_left all i e
next_is all i (line.Label l ∷ ls) e = next_is all (suc i) ls (rest_of all i (line.Label l) ls e)
next_is all i (line.Statement s ∷ ls) e = (first_of all i (line.Statement s) ls e, rest_of all i (line.Statement s) ls e)

pub table-at : (i : ℕ) (ls : List Line) (k here : ℕ) → slice_get (statements_from i ls) k ≡ Some here → here ≡ statement_from (i + k) (drop k ls)
table-at i [] zero here e = cc
table-at i [] (suc k) here e = cc
table-at i (l ∷ ls) zero here e = same (statement_from i (l ∷ ls)) here e ∙ ap (λ (n : ℕ). statement_from n (l ∷ ls)) (omega arith)
  where
    same : (n here : ℕ) → Some n ≡ Some here → here ≡ n
    same n here e = cc
table-at i (l ∷ ls) (suc k) here e = table-at (suc i) ls k here e ∙ ap (λ (n : ℕ). statement_from n (drop k ls)) (omega arith)

pub table-end : (i : ℕ) (ls : List Line) (k : ℕ) → slice_get (statements_from i ls) k ≡ None → next_line (drop k ls) ≡ None
table-end i [] zero e = refl
table-end i [] (suc k) e = refl
table-end i (l ∷ ls) zero e = cc
table-end i (l ∷ ls) (suc k) e = table-end (suc i) ls k e

abbrev next_of : CStmt → List Line → Option Next
next_of s rest = Some (record { statement = s; rest = rest })

statement_is : (all : List Line) (here : ℕ) (next : Option Next) (s : CStmt) → NextIs all here next → slice_get all here ≡ Some (line.Statement s)
    → next ≡ next_of s (drop (suc here) all)
statement_is all here (Some n) s is e = same n.statement s is.0 n.rest is.1 e
  where
    same : (t s : CStmt) → slice_get all here ≡ Some (line.Statement t) → (rest : List Line) → rest ≡ drop (suc here) all
        → slice_get all here ≡ Some (line.Statement s) → next_of t rest ≡ next_of s (drop (suc here) all)
    same t s a rest b e = cc
statement_is all here None s is e = cc

no_statement : (all : List Line) (here : ℕ) (next : Option Next) (found : Option Line) → NextIs all here next → slice_get all here ≡ found → NoStatement found
    → next ≡ None
no_statement all here (Some n) None is e isnt = absurd (some_none n.statement (sym is.0 ∙ e))
  where
    some_none : (s : CStmt) → Some (line.Statement s) ≡ None → ⊥
    some_none s h = cc
no_statement all here (Some n) (Some (line.Label l)) is e isnt = absurd (other n.statement l (sym is.0 ∙ e))
  where
    other : (s : CStmt) (l : ℕ) → Some (line.Statement s) ≡ Some (line.Label l) → ⊥
    other s l h = cc
no_statement all here (Some n) (Some (line.Statement s)) is e isnt = absurd isnt
no_statement all here None found is e isnt = refl

found-statement : (all : List Line) (from here : ℕ) (s : CStmt) → slice_get (statements_from 0 all) from ≡ Some here
    → slice_get all here ≡ Some (line.Statement s) → next_line (drop from all) ≡ next_of s (drop (suc here) all)
found-statement all from here s e h =
    let at : here ≡ statement_from from (drop from all) = table-at 0 all from here e ∙ ap (λ (n : ℕ). statement_from n (drop from all)) (omega arith) in
    statement_is all here (next_line (drop from all)) s
    (subst (λ (n : ℕ). NextIs all n (next_line (drop from all))) (sym at) (next_is all from (drop from all) refl)) h

found-none : (all : List Line) (from here : ℕ) (found : Option Line) → slice_get (statements_from 0 all) from ≡ Some here
    → slice_get all here ≡ found → NoStatement found → next_line (drop from all) ≡ None
found-none all from here found e h isnt =
    let at : here ≡ statement_from from (drop from all) = table-at 0 all from here e ∙ ap (λ (n : ℕ). statement_from n (drop from all)) (omega arith) in
    no_statement all here (next_line (drop from all)) found
    (subst (λ (n : ℕ). NextIs all n (next_line (drop from all))) (sym at) (next_is all from (drop from all) refl)) h isnt

pub found-after : (all : List Line) (from here : ℕ) (r : Option Following) → slice_get (statements_from 0 all) from ≡ Some here
    → MatchOption r (NoStatement (slice_get all here)) (λ f. (slice_get all here ≡ Some (line.Statement f.statement.now)) × (f.after ≡ here + 1))
    → MatchOption r (next_line (drop from all) ≡ None) (λ f. next_line (drop from all) ≡ next_of f.statement.now (drop f.after all))
found-after all from here None e isnt = found-none all from here (slice_get all here) e refl isnt
found-after all from here (Some f) e is =
    let after : f.after ≡ suc here = is.1 ∙ omega arith in
    found-statement all from here f.statement.now e is.0 ∙ ap (λ (n : ℕ). next_of f.statement.now (drop n all)) (sym after)

-- ---- labels

rest_after : {A : Type 0} → (xs : List A) (x : A) (ys : List A) (i : ℕ) → drop i xs ≡ x ∷ ys → drop (suc i) xs ≡ ys
rest_after [] x ys zero e = cc
rest_after [] x ys (suc i) e = cc
rest_after (y ∷ xs) x ys zero e = cc
rest_after (y ∷ xs) x ys (suc i) e = rest_after xs x ys i e

-- a label is the one that is looked for, or not
label_test : (b : Bool) (whole ls : List Line) (i l : ℕ) → drop i whole ≡ ls → option_map (λ j. drop j whole) (label_from i ls l) ≡ after_label ls l
    → option_map (λ j. drop j whole) (if b then Some i else label_from i ls l) ≡ (if b then Some ls else after_label ls l)
label_test true whole ls i l e h = ap Some e
label_test false whole ls i l e h = h

-- the lines after a label are those from its number on
label_more : (whole ls : List Line) (i l : ℕ) → drop i whole ≡ ls → option_map (λ j. drop j whole) (label_from i ls l) ≡ after_label ls l
label_more whole [] i l e = refl
label_more whole (line.Label k ∷ ls) i l e =
    label_test (nat_eq k l) whole ls (suc i) l (rest_after whole (line.Label k) ls i e)
    (label_more whole ls (suc i) l (rest_after whole (line.Label k) ls i e))
label_more whole (line.Statement s ∷ ls) i l e = label_more whole ls (suc i) l (rest_after whole (line.Statement s) ls i e)

pub label_line-is : (ls : List Line) (l : ℕ) → option_map (λ j. drop j ls) (label_line ls l) ≡ after_label ls l
label_line-is ls l = label_more ls ls 0 l refl

pub label_line-none : (ls : List Line) (l : ℕ) → label_line ls l ≡ None → None ≡ after_label ls l
label_line-none ls l e = sym (ap (option_map (λ j. drop j ls)) e) ∙ label_line-is ls l

pub label_line-some : (ls : List Line) (l i : ℕ) → label_line ls l ≡ Some i → Some (drop i ls) ≡ after_label ls l
label_line-some ls l i e = sym (ap (option_map (λ j. drop j ls)) e) ∙ label_line-is ls l

pub has-label : (ls : List Line) (l : ℕ) → is_some (label_line ls l) ≡ is_some (after_label ls l)
has-label ls l = by_line (label_line ls l) (after_label ls l) (label_line-is ls l)
  where
    by_line : (i : Option ℕ) (rest : Option (List Line)) → option_map (λ j. drop j ls) i ≡ rest → is_some i ≡ is_some rest
    by_line None None e = refl
    by_line (Some i) (Some rest) e = refl
    by_line None (Some rest) e = cc
    by_line (Some i) None e = cc
