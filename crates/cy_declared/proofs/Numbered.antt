-- What a table of names says is what the list says.
use Rattle.std.proofs.Common.{◌≡◌, ℕ, suc, length, slice_get, List, [], ◌∷◌, ◌++◌, map, Option, Some, Bool, true, false, if◌then◌else◌, refl, ap, sym, ◌∙◌, append_assoc}
use Rattle.std.specs.Str.{bytes_eq}
use Rattle.cy_tree.specs.declared.set.NameKind.{NameKind}
use Rattle.cy_tree.specs.declared.set.NameKind.TheVariants as kind
use Rattle.name_table.specs.Entries.{kind_among}
use Rattle.name_table.proofs.Same.{same}
use Rattle.cy_declared.specs.Named.{first_by, numbered_from, number_table, number_of, numbered}

at-length : {B : Type 0} (before : List B) (y : B) (more : List B) → slice_get (before ++ y ∷ more) (length before) ≡ Some y
at-length [] y more = refl
at-length (b ∷ bs) y more = at-length bs y more

one-longer : {B : Type 0} (before : List B) (y : B) → length (before ++ y ∷ []) ≡ suc (length before)
one-longer [] y = refl
one-longer (b ∷ bs) y = ap suc (one-longer bs y)

chosen : {B : Type 0} (b : Bool) (before : List B) (y : B) (more : List B) (others : Option NameKind) (rest : Option B)
    → numbered (before ++ y ∷ more) (number_of others) ≡ rest
    → numbered (before ++ y ∷ more) (number_of (if b then Some (kind.CVariable (length before)) else others)) ≡ (if b then Some y else rest)
chosen true before y more others rest it = at-length before y more
chosen false before y more others rest it = it

behind : {A B : Type 0} (key : A → List ℕ) (value : A → B) (xs : List A) (before : List B) (name : List ℕ)
    → numbered (before ++ map value xs) (number_of (kind_among (numbered_from (length before) (map key xs)) name)) ≡ first_by key value xs name
behind key value [] before name = refl
behind key value (x ∷ xs) before name =
    let others = kind_among (numbered_from (suc (length before)) (map key xs)) name in
    let next : numbered (before ++ value x ∷ map value xs) (number_of others) ≡ first_by key value xs name =
    ap (λ l. numbered l (number_of others)) (sym (append_assoc before (value x ∷ []) (map value xs)))
    ∙ ap (λ n. numbered ((before ++ value x ∷ []) ++ map value xs) (number_of (kind_among (numbered_from n (map key xs)) name))) (sym (one-longer before (value x)))
    ∙ behind key value xs (before ++ value x ∷ []) name in
    chosen (bytes_eq name (key x)) before (value x) (map value xs) others (first_by key value xs name) next

pub found-first : {A B : Type 0} (key : A → List ℕ) (value : A → B) (xs : List A) (name : List ℕ)
    → numbered (map value xs) (number_of (kind_among (number_table (map key xs)) name)) ≡ first_by key value xs name
found-first key value xs name =
    ap (λ k. numbered (map value xs) (number_of k)) (same (numbered_from 0 (map key xs)) name) ∙ behind key value xs [] name
