-- The least of a list and a list behind it; it depends on which broken rules are in the list alone.
use Rattle.std.proofs.Common.{◌≡◌, ℕ, ◌<◌, ◌⊎◌, inl, inr, ⊎_elim, List, [], ◌∷◌, ◌++◌, Option, Some, None, refl, sym, ap, ◌∙◌, subst, append_assoc, arith}
use Rattle.std.proofs.lemmas.List.{append-nil}
use Rattle.cy_base.specs.declared.place.Phase.{Phase}
use Rattle.cy_base.specs.declared.place.Refusal.{Refusal}
use Rattle.first_breach.specs.First.{IsBefore, IsOneOf, IsFirst, IsLeast, IsLeastWith}

-- the same broken rules, in whatever order
pub record AreSame (xs ys : List Refusal) : Type 0 where
  pub there : (r : Refusal) → IsOneOf r xs → IsOneOf r ys
  pub back : (r : Refusal) → IsOneOf r ys → IsOneOf r xs

pub one-left : (xs ys : List Refusal) (r : Refusal) → IsOneOf r xs → IsOneOf r (xs ++ ys)
one-left [] ys r h = absurd h
one-left (x ∷ xs) ys r (inl e) = inl e
one-left (x ∷ xs) ys r (inr h) = inr (one-left xs ys r h)

pub one-right : (xs ys : List Refusal) (r : Refusal) → IsOneOf r ys → IsOneOf r (xs ++ ys)
one-right [] ys r h = h
one-right (x ∷ xs) ys r h = inr (one-right xs ys r h)

pub one-split : (xs ys : List Refusal) (r : Refusal) → IsOneOf r (xs ++ ys) → IsOneOf r xs ⊎ IsOneOf r ys
one-split [] ys r h = inr h
one-split (x ∷ xs) ys r (inl e) = inl (inl e)
one-split (x ∷ xs) ys r (inr h) = ⊎_elim (λ (i : IsOneOf r xs). inl (inr i)) (λ (i : IsOneOf r ys). inr i) (one-split xs ys r h)

no-more : (xs : List Refusal) → ((r : Refusal) → IsOneOf r xs → ⊥) → xs ≡ []
no-more [] none = refl
no-more (x ∷ xs) none = absurd (none x (inl refl))

not-in-none : (xs : List Refusal) → xs ≡ [] → (r : Refusal) → IsOneOf r xs → ⊥
not-in-none xs e r h = subst (λ (rs : List Refusal). IsOneOf r rs) e h

-- the least depends only on which broken rules there are
pub least-same : (least : Option Refusal) (xs ys : List Refusal) → AreSame xs ys → IsLeast least xs → IsLeast least ys
least-same None xs ys same e = no-more ys (λ r h. not-in-none xs e r (same.back r h))
least-same (Some r) xs ys same it = record {
  broken = same.there r it.broken;
  first = λ other h before. it.first other (same.back other h) before;
}

pub same-behind : (before xs ys : List Refusal) → AreSame xs ys → AreSame (before ++ xs) (before ++ ys)
same-behind before xs ys same = record {
  there = λ r h. ⊎_elim (λ (i : IsOneOf r before). one-left before ys r i) (λ (i : IsOneOf r xs). one-right before ys r (same.there r i)) (one-split before xs r h);
  back = λ r h. ⊎_elim (λ (i : IsOneOf r before). one-left before xs r i) (λ (i : IsOneOf r ys). one-right before xs r (same.back r i)) (one-split before ys r h);
}

pub with-none : (least : Option Refusal) → IsLeastWith least [] least
with-none least = record { each = λ before it. subst (λ (rs : List Refusal). IsLeast least rs) (sym (append-nil before)) it }

pub with-both : (least next result : Option Refusal) (xs ys : List Refusal) → IsLeastWith least xs next → IsLeastWith next ys result → IsLeastWith least (xs ++ ys) result
with-both least next result xs ys first then =
    record { each = λ before it. subst (λ (rs : List Refusal). IsLeast result rs) (append_assoc before xs ys) (then.each (before ++ xs) (first.each before it)) }

pub with-same : (least result : Option Refusal) (xs ys : List Refusal) → AreSame xs ys → IsLeastWith least xs result → IsLeastWith least ys result
with-same least result xs ys same it =
    record { each = λ before h. least-same result (before ++ xs) (before ++ ys) (same-behind before xs ys same) (it.each before h) }

-- ---- at most one first

neither : (m n : ℕ) → (m < n → ⊥) → (n < m → ⊥) → m ≡ n
neither m n h i = grind (arith, h, i)

abbrev refusal : Phase → ℕ → ℕ → ℕ → Refusal
refusal phase number file offset = record { rule = record { phase = phase; number = number }; file = file; offset = offset }

same-parts : (a b : Refusal) → a.rule.phase ≡ b.rule.phase → a.rule.number ≡ b.rule.number → a.file ≡ b.file → a.offset ≡ b.offset → a ≡ b
same-parts a b phase number file offset =
    ap (λ (p : Phase). refusal p a.rule.number a.file a.offset) phase
    ∙ ap (λ (n : ℕ). refusal b.rule.phase n a.file a.offset) number
    ∙ ap (λ (n : ℕ). refusal b.rule.phase b.rule.number n a.offset) file
    ∙ ap (λ (n : ℕ). refusal b.rule.phase b.rule.number b.file n) offset

pub one-first : (rs : List Refusal) (a b : Refusal) → IsFirst a rs → IsFirst b rs → a.rule.phase ≡ b.rule.phase → a ≡ b
one-first rs a b x y phase =
    let not : IsBefore a b → ⊥ = y.first a x.broken in
    let nor : IsBefore b a → ⊥ = x.first b y.broken in
    let file : a.file ≡ b.file = neither a.file b.file (λ h. not (inl h)) (λ h. nor (inl h)) in
    let offset : a.offset ≡ b.offset = neither a.offset b.offset (λ h. not (inr (file, inl h))) (λ h. nor (inr (sym file, inl h))) in
    let number : a.rule.number ≡ b.rule.number = neither a.rule.number b.rule.number (λ h. not (inr (file, inr (offset, h)))) (λ h. nor (inr (sym file, inr (sym offset, h)))) in
    same-parts a b phase number file offset

-- ---- order

pub same-then : (xs ys zs : List Refusal) → AreSame xs ys → AreSame ys zs → AreSame xs zs
same-then xs ys zs first then = record { there = λ r h. then.there r (first.there r h); back = λ r h. first.back r (then.back r h) }

swap-there : (a x b y : List Refusal) (r : Refusal) → IsOneOf r ((a ++ x) ++ (b ++ y)) → IsOneOf r ((a ++ b) ++ (x ++ y))
swap-there a x b y r h =
    ⊎_elim
    (λ (i : IsOneOf r (a ++ x)). ⊎_elim (λ (k : IsOneOf r a). one-left (a ++ b) (x ++ y) r (one-left a b r k)) (λ (k : IsOneOf r x). one-right (a ++ b) (x ++ y) r (one-left x y r k)) (one-split a x r i))
    (λ (i : IsOneOf r (b ++ y)). ⊎_elim (λ (k : IsOneOf r b). one-left (a ++ b) (x ++ y) r (one-right a b r k)) (λ (k : IsOneOf r y). one-right (a ++ b) (x ++ y) r (one-right x y r k)) (one-split b y r i))
    (one-split (a ++ x) (b ++ y) r h)

-- two lists in two parts each, part by part
pub swapped : (a x b y : List Refusal) → AreSame ((a ++ x) ++ (b ++ y)) ((a ++ b) ++ (x ++ y))
swapped a x b y = record { there = swap-there a x b y; back = swap-there a b x y }
