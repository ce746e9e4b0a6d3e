-- What a test says of each line of the table it says of each name that has a row.
use Rattle.std.specs.Prelude.{ℕ, Bool, true, false, not, ◌&&◌, ◌||◌, List, [], ◌∷◌, Option, Some, None, IfSome, ◌≡◌, length, if◌then◌else◌}
use Rattle.std.specs.List.{list_all}
use Rattle.std.specs.Str.{bytes_eq}
use Rattle.std.proofs.Common.{refl, sym, subst}
use Rattle.std.proofs.lemmas.Bool.{false≢true}
use Rattle.std.proofs.lemmas.Slice.Eq.{bytes_eq-Decides}
use Rattle.api_model.specs.declared.rows.ApiRow.{ApiRow}
use Rattle.api_model.specs.Rows.{Function, row_in, row_of, api_table, made_rows, asked_rows, unasked_rows, sums, shifts, sums_in_place, shifts_in_place, protocols, numbers_and_texts, containers_and_modules, objects, changes, numbers, handlers, counts, errors, locks, reads}
use Rattle.api_model.specs.RowLaws.{may_have_error, may_lack_lock, are_distinct}

front : (a b : Bool) → (a && b) ≡ true → a ≡ true
front true b h = refl
front false b h = h

back : (a b : Bool) → (a && b) ≡ true → b ≡ true
back true b h = h
back false b h = absurd (false≢true h)

-- whether two tests say the same
abbrev same : Bool → Bool → Bool
same true b = b
same false b = not b

same-is : (a b : Bool) → same a b ≡ true → a ≡ b
same-is true b h = sym h
same-is false true h = absurd (false≢true h)
same-is false false h = refl

abbrev Says : (List ℕ → ApiRow → Bool) → List ℕ → Option ApiRow → Type 0
Says test name r = IfSome r (λ (row : ApiRow). test name row ≡ true)

says_by : (test : List ℕ → ApiRow → Bool) (f : Function) (other : Option ApiRow) (name : List ℕ) (b : Bool) → bytes_eq name f.name ≡ b
    → test f.name f.row ≡ true → Says test name other → Says test name (if b then Some f.row else other)
says_by test f other name true e h k = let P : List ℕ → Type 0 = λ n. test n f.row ≡ true in subst P (sym ((bytes_eq-Decides name f.name).0 e)) h
says_by test f other name false e h k = k

-- what a test says of each line
said : (test : List ℕ → ApiRow → Bool) (fs : List Function) → list_all (λ (f : Function). test f.name f.row) fs ≡ true → (name : List ℕ) → Says test name (row_in fs name)
said test [] h name = tt
said test (f ∷ fs) h name =
    says_by test f (row_in fs name) name (bytes_eq name f.name) refl (front (test f.name f.row) (list_all (λ (g : Function). test g.name g.row) fs) h)
    (said test fs (back (test f.name f.row) (list_all (λ (g : Function). test g.name g.row) fs) h) name)

of_row : (test : List ℕ → ApiRow → Bool) → list_all (λ (f : Function). test f.name f.row) api_table ≡ true → (name : List ℕ) → Says test name (row_of name)
unfolding row_of
of_row test h name = said test api_table h name

lift : (P Q : ApiRow → Type 0) → ((r : ApiRow) → P r → Q r) → (o : Option ApiRow) → IfSome o P → IfSome o Q
lift P Q f None h = tt
lift P Q f (Some r) h = f r h

abbrev lock_test : List ℕ → ApiRow → Bool
lock_test name r = same r.lock (not (may_lack_lock name))

abbrev clean_test : List ℕ → ApiRow → Bool
clean_test name r = same r.clean (not (may_have_error name))

lock_tested : list_all (λ (f : Function). lock_test f.name f.row) api_table ≡ true
unfolding api_table made_rows asked_rows unasked_rows sums shifts sums_in_place shifts_in_place protocols numbers_and_texts containers_and_modules objects changes numbers handlers counts errors locks reads may_lack_lock
lock_tested = refl

clean_tested : list_all (λ (f : Function). clean_test f.name f.row) api_table ≡ true
unfolding api_table made_rows asked_rows unasked_rows sums shifts sums_in_place shifts_in_place protocols numbers_and_texts containers_and_modules objects changes numbers handlers counts errors locks reads may_have_error
clean_tested = refl

pub lock_rows : (name : List ℕ) → IfSome (row_of name) (λ (r : ApiRow). r.lock ≡ not (may_lack_lock name))
lock_rows name =
    lift (λ (r : ApiRow). lock_test name r ≡ true) (λ (r : ApiRow). r.lock ≡ not (may_lack_lock name))
    (λ (r : ApiRow) (h : lock_test name r ≡ true). same-is r.lock (not (may_lack_lock name)) h) (row_of name) (of_row lock_test lock_tested name)

pub clean_rows : (name : List ℕ) → IfSome (row_of name) (λ (r : ApiRow). r.clean ≡ not (may_have_error name))
clean_rows name =
    lift (λ (r : ApiRow). clean_test name r ≡ true) (λ (r : ApiRow). r.clean ≡ not (may_have_error name))
    (λ (r : ApiRow) (h : clean_test name r ≡ true). same-is r.clean (not (may_have_error name)) h) (row_of name) (of_row clean_test clean_tested name)

-- a row with an entry needs the lock
abbrev entry_test : List ℕ → ApiRow → Bool
entry_test name r = not r.entry || r.lock

entry_tested : list_all (λ (f : Function). entry_test f.name f.row) api_table ≡ true
unfolding api_table made_rows asked_rows unasked_rows sums shifts sums_in_place shifts_in_place protocols numbers_and_texts containers_and_modules objects changes numbers handlers counts errors locks reads
entry_tested = refl

implied : (a b : Bool) → (not a || b) ≡ true → a ≡ true → b ≡ true
implied true b h e = h
implied false b h e = absurd (false≢true e)

pub entry_rows : (name : List ℕ) → IfSome (row_of name) (λ (r : ApiRow). r.entry ≡ true → r.lock ≡ true)
entry_rows name =
    lift (λ (r : ApiRow). entry_test name r ≡ true) (λ (r : ApiRow). r.entry ≡ true → r.lock ≡ true)
    (λ (r : ApiRow) (h : entry_test name r ≡ true). implied r.entry r.lock h) (row_of name) (of_row entry_test entry_tested name)

pub table_size : length api_table ≡ 77
unfolding api_table made_rows asked_rows unasked_rows sums shifts sums_in_place shifts_in_place protocols numbers_and_texts containers_and_modules objects changes numbers handlers counts errors locks reads
table_size = refl

pub table_distinct : are_distinct api_table ≡ true
unfolding api_table made_rows asked_rows unasked_rows sums shifts sums_in_place shifts_in_place protocols numbers_and_texts containers_and_modules objects changes numbers handlers counts errors locks reads
table_distinct = refl
