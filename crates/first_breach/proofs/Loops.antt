-- A loop over a list that has what its items and the rest of the list have.
use Rattle.std.proofs.Common.{◌≡◌, ℕ, suc, ◌+◌, ◌<◌, ◌≤◌, List, [], ◌∷◌, length, get_or, drop, ap, sym, ◌∙◌, subst, add-one}
use Rattle.std.proofs.Math.Seq.{drop-cons}
use Rattle.std.proofs.lemmas.List.{drop_all}

rest-is : {X : Type 0} (xs : List X) (i : ℕ) (x : X) → i < length xs → x ≡ get_or xs i x → x ∷ drop (i + 1) xs ≡ drop i xs
rest-is xs i x below is =
    ap (λ n. x ∷ drop n xs) (add-one i) ∙ ap (λ y. y ∷ drop (suc i) xs) is ∙ sym (drop-cons xs i x below)

pub next : {X : Type 0} (P : List X → Type 0) (xs : List X) (i : ℕ) (x : X) → i < length xs → x ≡ get_or xs i x → P (x ∷ drop (i + 1) xs) → P (drop i xs)
next P xs i x below is it = subst P (rest-is xs i x below is) it

pub ended : {X : Type 0} (P : List X → Type 0) (xs : List X) (i : ℕ) → length xs ≤ i → P [] → P (drop i xs)
ended P xs i past it = subst P (sym (drop_all i xs past)) it
