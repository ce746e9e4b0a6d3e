-- A write to the first cell or spot of a name.
use Rattle.std.proofs.Common.{◌≡◌, ℕ, zero, suc, ◌<◌, true, Some, List, [], ◌∷◌, ◌++◌, take, drop, set, length, get_or, slice_get, ◌-◌, refl, sym, ap, ◌∙◌, if◌then◌else◌, arith}
use Rattle.std.proofs.Math.Seq.{drop-cons}
use Rattle.thin_state.specs.declared.tree.Variable.{Variable}
use Rattle.thin_state.specs.declared.tree.Place.{Place}
use Rattle.thin_state.specs.declared.state.Value.{Value}
use Rattle.thin_state.specs.declared.state.Cell.{Cell}
use Rattle.thin_state.specs.declared.state.Spot.{Spot}
use Rattle.thin_look.specs.declared.parts.Activation.{Activation}
use Rattle.thin_apply.specs.Applied.{on_last, last_of}
use Rattle.thin_state.specs.State.{same_variable, same_place, converted, put, put_spot}

pub set-split : {A : Type 0} → (xs : List A) (i : ℕ) (y : A) → i < length xs → set xs i y ≡ take i xs ++ y ∷ drop (suc i) xs
set-split [] i y h = absurd (omega (arith, h))
set-split (x ∷ xs) zero y h = refl
set-split (x ∷ xs) (suc i) y h = ap (λ l. x ∷ l) (set-split xs i y (omega (arith, h)))

pub put-hit : (cs : List Cell) (x : Variable) (v w : Value) (i : ℕ) (c : Cell) → i < length cs → c ≡ get_or cs i c → same_variable c.variable x ≡ true
    → w ≡ converted c.kind v → put cs x v ≡ take i cs ++ put (drop i cs) x v → set cs i (record c { value = w }) ≡ put cs x v
put-hit cs x v w i c h at same to walked =
    set-split cs i (record c { value = w }) h
    ∙ (ap (λ y. take i cs ++ record c { value = y } ∷ drop (suc i) cs) to
    ∙ sym (walked ∙ (ap (λ l. take i cs ++ put l x v) (drop-cons cs i c h ∙ ap (λ y. y ∷ drop (suc i) cs) (sym at))
    ∙ ap (λ b. take i cs ++ (if b then record c { value = converted c.kind v } ∷ drop (suc i) cs else c ∷ put (drop (suc i) cs) x v)) same)))

pub spot-hit : (ss : List Spot) (p : Place) (v w : Value) (i : ℕ) (s : Spot) → i < length ss → s ≡ get_or ss i s → same_place s.place p ≡ true
    → w ≡ converted s.kind v → put_spot ss p v ≡ take i ss ++ put_spot (drop i ss) p v → set ss i (record s { value = w; stored = true }) ≡ put_spot ss p v
spot-hit ss p v w i s h at same to walked =
    set-split ss i (record s { value = w; stored = true }) h
    ∙ (ap (λ y. take i ss ++ record s { value = y; stored = true } ∷ drop (suc i) ss) to
    ∙ sym (walked ∙ (ap (λ l. take i ss ++ put_spot l p v) (drop-cons ss i s h ∙ ap (λ y. y ∷ drop (suc i) ss) (sym at))
    ∙ ap (λ b. take i ss ++ (if b then record s { value = converted s.kind v; stored = true } ∷ drop (suc i) ss else s ∷ put_spot (drop (suc i) ss) p v)) same)))

pub on_last-snoc : (h : Activation → Activation) (xs : List Activation) (a : Activation) → on_last h (xs ++ a ∷ []) ≡ xs ++ h a ∷ []
on_last-snoc h [] a = refl
on_last-snoc h (x ∷ []) a = refl
on_last-snoc h (x ∷ (y ∷ ys)) a = ap (λ l. x ∷ l) (on_last-snoc h (y ∷ ys) a)

pub last_of-snoc : (xs : List Activation) (a : Activation) → last_of (xs ++ a ∷ []) ≡ Some a
last_of-snoc [] a = refl
last_of-snoc (x ∷ []) a = refl
last_of-snoc (x ∷ (y ∷ ys)) a = last_of-snoc (y ∷ ys) a

pub last-get : (xs : List Activation) → slice_get xs (length xs - 1) ≡ last_of xs
last-get [] = refl
last-get (x ∷ []) = refl
last-get (x ∷ (y ∷ ys)) =
    let e : length (x ∷ (y ∷ ys)) - 1 ≡ suc (length (y ∷ ys) - 1) = omega arith in
    ap (slice_get (x ∷ (y ∷ ys))) e ∙ last-get (y ∷ ys)

pub ruleset lasts = (on_last-snoc, last_of-snoc, last-get)
