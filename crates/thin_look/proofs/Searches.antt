-- The searches by number find what the definitions find.
use Rattle.std.proofs.Common.{◌≡◌, ℕ, zero, suc, Bool, true, false, List, [], ◌∷◌, Option, Some, None, option_map, refl, sym, ap, ◌∙◌, drop, slice_get, length, ◌<◌, arith, slice_index_or, nat_eq, if◌then◌else◌}
use Rattle.thin_state.specs.declared.tree.Line.{Line}
use Rattle.thin_state.specs.declared.tree.Line.TheVariants as line
use Rattle.thin_state.specs.declared.tree.CFunction.{CFunction}
use Rattle.thin_state.specs.declared.tree.CItem.{CItem}
use Rattle.thin_state.specs.declared.tree.CItem.TheVariants as item
use Rattle.thin_state.specs.declared.tree.CFile.{CFile}
use Rattle.thin_state.specs.declared.tree.FunctionName.{FunctionName}
use Rattle.thin_state.specs.declared.tree.FunctionName.TheVariants as function
use Rattle.thin_state.specs.Reads.{after_label, items_at, no_file, Found, FoundFunction, NotFound, function_in, function_among, function_named, wrapper_at, wrapper_of, initializer_from, entered_in, entered_by, method_in, module_from, is_ready}
use Rattle.thin_look.specs.declared.parts.Standing.{Standing}
use Rattle.thin_look.specs.declared.parts.Wanted.{Wanted}
use Rattle.thin_look.specs.Views.{as_function, function_there, found_with, found_at}
use Rattle.thin_state.specs.declared.space.Callee.{Callee}
use Rattle.thin_state.specs.declared.space.Callee.TheVariants as callee
use Rattle.thin_state.specs.declared.tree.MethodRow.{MethodRow}
use Rattle.thin_state.specs.declared.state.Spot.{Spot}
use Rattle.thin_state.specs.State.{spots_at}
use Rattle.thin_look.specs.declared.parts.Wanted.TheVariants as wanted
use Rattle.thin_look.specs.Lookups.{is_wanted, standing_from, or_else, standing_among, standing_named, wrapper_standing, standing_next, row_standing, standing_in, standing_entered}
use Rattle.thin_tables.specs.Lines.{label_from, label_line}

pub rest_after : {A : Type 0} → (xs : List A) (x : A) (ys : List A) (i : ℕ) → drop i xs ≡ x ∷ ys → drop (suc i) xs ≡ ys
rest_after [] x ys zero e = cc
rest_after [] x ys (suc i) e = cc
rest_after (y ∷ xs) x ys zero e = cc
rest_after (y ∷ xs) x ys (suc i) e = rest_after xs x ys i e

-- a label is the one that is looked for, or not
label_test : (b : Bool) (whole ls : List Line) (i l : ℕ) → drop i whole ≡ ls → option_map (λ j. drop j whole) (label_from i ls l) ≡ after_label ls l
    → option_map (λ j. drop j whole) (if b then Some i else label_from i ls l) ≡ (if b then Some ls else after_label ls l)
label_test true whole ls i l e h = ap Some e
label_test false whole ls i l e h = h

-- the lines after a label are those from its number on
label_more : (whole ls : List Line) (i l : ℕ) → drop i whole ≡ ls → option_map (λ j. drop j whole) (label_from i ls l) ≡ after_label ls l
label_more whole [] i l e = refl
label_more whole (line.Label k ∷ ls) i l e =
    label_test (nat_eq k l) whole ls (suc i) l (rest_after whole (line.Label k) ls i e)
    (label_more whole ls (suc i) l (rest_after whole (line.Label k) ls i e))
label_more whole (line.Statement s ∷ ls) i l e = label_more whole ls (suc i) l (rest_after whole (line.Statement s) ls i e)

pub label_line-is : (ls : List Line) (l : ℕ) → option_map (λ j. drop j ls) (label_line ls l) ≡ after_label ls l
label_line-is ls l = label_more ls ls 0 l refl

-- the first function of a file
pub item_at : {A : Type 0} → (xs : List A) (x : A) (ys : List A) (i : ℕ) → drop i xs ≡ x ∷ ys → slice_get xs i ≡ Some x
item_at [] x ys zero e = cc
item_at [] x ys (suc i) e = cc
item_at (y ∷ xs) x ys zero e = cc
item_at (y ∷ xs) x ys (suc i) e = item_at xs x ys i e

pub item_or : {A : Type 0} → (xs : List A) (x : A) (ys : List A) (i : ℕ) (d : A) → drop i xs ≡ x ∷ ys → slice_index_or xs i d ≡ x
item_or [] x ys zero d e = cc
item_or [] x ys (suc i) d e = cc
item_or (y ∷ xs) x ys zero d e = cc
item_or (y ∷ xs) x ys (suc i) d e = item_or xs x ys i d e

abbrev pub found_else : List CFile → Option Standing → Found → Found
found_else files None other = other
found_else files (Some s) other = found_at files (Some s)

in_test : (b : Bool) (files : List CFile) (k i : ℕ) (f : CFunction) (o : Option Standing) (other m : Found) → slice_get (items_at files k) i ≡ Some (item.Function f)
    → m ≡ found_else files o other → (if b then FoundFunction k f else m) ≡ found_else files (if b then Some (record { file = k; item = i }) else o) other
in_test true files k i f o other m e h = sym (ap (λ x. found_with k (as_function x)) e)
in_test false files k i f o other m e h = h

pub in-is : (files : List CFile) (k : ℕ) (w : Wanted) (xs : List CItem) (i : ℕ) (other : Found) → drop i (items_at files k) ≡ xs
    → function_in k (is_wanted w) xs other ≡ found_else files (standing_from k i w xs) other
in-is files k w [] i other e = refl
in-is files k w (item.Function f ∷ xs) i other e =
    in_test (is_wanted w f.head) files k i f (standing_from k (suc i) w xs) other (function_in k (is_wanted w) xs other)
    (item_at (items_at files k) (item.Function f) xs i e)
    (in-is files k w xs (suc i) other (rest_after (items_at files k) (item.Function f) xs i e))
in-is files k w (item.DefineClean ∷ xs) i other e = in-is files k w xs (suc i) other (rest_after (items_at files k) (item.DefineClean) xs i e)
in-is files k w (item.IncludePython ∷ xs) i other e = in-is files k w xs (suc i) other (rest_after (items_at files k) (item.IncludePython) xs i e)
in-is files k w (item.IncludeSet ∷ xs) i other e = in-is files k w xs (suc i) other (rest_after (items_at files k) (item.IncludeSet) xs i e)
in-is files k w (item.ViewType ∷ xs) i other e = in-is files k w xs (suc i) other (rest_after (items_at files k) (item.ViewType) xs i e)
in-is files k w (item.RootStruct ∷ xs) i other e = in-is files k w xs (suc i) other (rest_after (items_at files k) (item.RootStruct) xs i e)
in-is files k w (item.FormatTest ∷ xs) i other e = in-is files k w xs (suc i) other (rest_after (items_at files k) (item.FormatTest) xs i e)
in-is files k w (item.Prototype t m j ts ∷ xs) i other e = in-is files k w xs (suc i) other (rest_after (items_at files k) (item.Prototype t m j ts) xs i e)
in-is files k w (item.Static t p ∷ xs) i other e = in-is files k w xs (suc i) other (rest_after (items_at files k) (item.Static t p) xs i e)
in-is files k w (item.Methods rs ∷ xs) i other e = in-is files k w xs (suc i) other (rest_after (items_at files k) (item.Methods rs) xs i e)
in-is files k w (item.ModuleDefinition n ∷ xs) i other e = in-is files k w xs (suc i) other (rest_after (items_at files k) (item.ModuleDefinition n) xs i e)

pub found_or-else : (files : List CFile) (a b : Option Standing) (other : Found) → other ≡ found_at files b
    → found_else files a other ≡ found_at files (or_else a b)
found_or-else files None b other e = e
found_or-else files (Some s) b other e = refl

-- the first of all files
pub among-is : (files : List CFile) (k : ℕ) (w : Wanted) (xs : List CFile) → drop k files ≡ xs
    → function_among k (is_wanted w) xs ≡ found_at files (standing_among k w xs)
among-is files k w [] e = refl
among-is files k w (f ∷ xs) e =
    in-is files k w f.items 0 (function_among (suc k) (is_wanted w) xs) (ap (λ (x : CFile). x.items) (item_or files f xs k no_file e))
    ∙ found_or-else files (standing_from k 0 w f.items) (standing_among (suc k) w xs) (function_among (suc k) (is_wanted w) xs)
    (among-is files (suc k) w xs (rest_after files f xs k e))

pub wrapper-is : (files : List CFile) (k m j : ℕ) → wrapper_at files k m j ≡ found_at files (wrapper_standing files k m j)
wrapper-is files k m j =
    in-is files k (wanted.Wrapper m j) (items_at files k) 0 NotFound refl ∙ last (wrapper_standing files k m j)
  where
    last : (o : Option Standing) → found_else files o NotFound ≡ found_at files o
    last None = refl
    last (Some s) = refl

pub named-is : (files : List CFile) (k : ℕ) (name : FunctionName) → function_named files k name ≡ found_at files (standing_named files k name)
named-is files k (function.Plain m j) = among-is files 0 (wanted.Plain m j) files refl
named-is files k (function.Wrapper m j) = wrapper-is files k m j
named-is files k (function.Initializer n) = refl

pub next-is : (files : List CFile) (begun : ℕ) → initializer_from begun files ≡ found_at files (standing_next files begun)
next-is files begun = among-is files begun wanted.Initializer (drop begun files) refl

pub entered-is : (files : List CFile) (places : List (List Spot)) (c : Callee) → entered_by files places c ≡ found_at files (standing_entered files places c)
entered-is files places (callee.Method p) = refl
entered-is files places (callee.Function p) = by_file (module_from 0 files p.module)
  where
    by_row : (k : ℕ) (r : Option MethodRow) → wrapper_of files k r ≡ found_at files (row_standing files k r)
    by_row k None = refl
    by_row k (Some r) = wrapper-is files k r.module r.index

    by_test : (k : ℕ) (b : Bool) → (if b then wrapper_of files k (method_in (items_at files k) p.name) else NotFound)
        ≡ found_at files (if b then row_standing files k (method_in (items_at files k) p.name) else None)
    by_test k true = by_row k (method_in (items_at files k) p.name)
    by_test k false = refl

    by_file : (k : Option ℕ) → entered_in files places p.name k ≡ found_at files (standing_in files places p.name k)
    by_file None = refl
    by_file (Some k) = by_test k (is_ready (spots_at places k))

-- a function stands in one of the files
pub file-within : (files : List CFile) (k i : ℕ) (f : CFunction) → function_there files k i ≡ Some f → k < length files
file-within [] k i f e = cc
file-within (x ∷ xs) zero i f e = omega arith
file-within (x ∷ xs) (suc k) i f e = omega (arith, file-within xs k i f e)

pub ruleset functions_within = (file-within)
