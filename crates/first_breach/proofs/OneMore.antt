-- The first of a list and one more.
use Rattle.std.proofs.Common.{◌≡◌, ◌⊎◌, inl, inr, ⊎_elim, List, [], ◌∷◌, ◌++◌, refl, ◌∙◌, subst, arith}
use Rattle.cy_base.specs.declared.place.Refusal.{Refusal}
use Rattle.first_breach.specs.First.{IsBefore, IsOneOf, IsFirst}

one-left : (rs : List Refusal) (x r : Refusal) → IsOneOf r rs → IsOneOf r (rs ++ x ∷ [])
one-left [] x r h = absurd h
one-left (y ∷ ys) x r (inl e) = inl e
one-left (y ∷ ys) x r (inr h) = inr (one-left ys x r h)

one-last : (rs : List Refusal) (x : Refusal) → IsOneOf x (rs ++ x ∷ [])
one-last [] x = inl refl
one-last (y ∷ ys) x = inr (one-last ys x)

one-split : (rs : List Refusal) (x r : Refusal) → IsOneOf r (rs ++ x ∷ []) → IsOneOf r rs ⊎ (r ≡ x)
one-split [] x r (inl e) = inr e
one-split [] x r (inr h) = absurd h
one-split (y ∷ ys) x r (inl e) = inl (inl e)
one-split (y ∷ ys) x r (inr h) = ⊎_elim (λ (i : IsOneOf r ys). inl (inr i)) (λ (e : r ≡ x). inr e) (one-split ys x r h)

not-before-itself : (x : Refusal) → IsBefore x x → ⊥
not-before-itself x (inl h) = omega (arith, h)
not-before-itself x (inr (e, inl h)) = omega (arith, h)
not-before-itself x (inr (e, inr (f, h))) = omega (arith, h)

before-trans : (a b c : Refusal) → IsBefore a b → IsBefore b c → IsBefore a c
before-trans a b c (inl h) (inl i) = inl (omega (arith, h, i))
before-trans a b c (inl h) (inr (e, i)) = inl (omega (arith, h, e))
before-trans a b c (inr (e, h)) (inl i) = inl (omega (arith, e, i))
before-trans a b c (inr (e, inl h)) (inr (f, inl i)) = inr (e ∙ f, inl (omega (arith, h, i)))
before-trans a b c (inr (e, inl h)) (inr (f, inr (g, i))) = inr (e ∙ f, inl (omega (arith, h, g)))
before-trans a b c (inr (e, inr (g, h))) (inr (f, inl i)) = inr (e ∙ f, inl (omega (arith, g, i)))
before-trans a b c (inr (e, inr (g, h))) (inr (f, inr (k, i))) = inr (e ∙ f, inr (g ∙ k, omega (arith, h, i)))

pub first-of-one : (x : Refusal) → IsFirst x (x ∷ [])
first-of-one x = record {
  broken = inl refl;
  first = λ other h before. ⊎_elim (λ (e : other ≡ x). not-before-itself x (subst (λ (r : Refusal). IsBefore r x) e before)) (λ (n : ⊥). n) h;
}

pub first-stays : (rs : List Refusal) (r x : Refusal) → IsFirst r rs → (IsBefore x r → ⊥) → IsFirst r (rs ++ x ∷ [])
first-stays rs r x it later = record {
  broken = one-left rs x r it.broken;
  first = λ other h before. ⊎_elim (λ (i : IsOneOf other rs). it.first other i before) (λ (e : other ≡ x). later (subst (λ (o : Refusal). IsBefore o r) e before)) (one-split rs x other h);
}

pub first-changes : (rs : List Refusal) (r x : Refusal) → IsFirst r rs → IsBefore x r → IsFirst x (rs ++ x ∷ [])
first-changes rs r x it sooner = record {
  broken = one-last rs x;
  first = λ other h before. ⊎_elim (λ (i : IsOneOf other rs). it.first other i (before-trans other x r before sooner)) (λ (e : other ≡ x). not-before-itself x (subst (λ (o : Refusal). IsBefore o x) e before)) (one-split rs x other h);
}
