-- The class of a number stands at its place.
use Rattle.std.proofs.Common.{◌≡◌, ℕ, zero, suc, List, [], ◌∷◌, ◌++◌, drop, map, Option, Some, None, refl, ap, sym, subst, ◌∙◌, slice_get}
use Rattle.std.specs.Option.{option_map}
use Rattle.std.proofs.lemmas.Option.{slice_get-map}
use Rattle.cy_tree.specs.declared.decl.Class.{Class}
use Rattle.cy_tree.specs.declared.decl.Top.{Top}
use Rattle.cy_tree.specs.declared.decl.Top.TheVariants as top
use Rattle.cy_tree.specs.Functions.{as_class, class_places, classes}

first_of : {A : Type 0} (all : List A) (i : ℕ) (x : A) (xs : List A) → x ∷ xs ≡ drop i all → slice_get all i ≡ Some x
first_of [] zero x xs e = cc
first_of [] (suc i) x xs e = cc
first_of (y ∷ all) zero x xs e = same y all x xs e
  where
    same : {A : Type 0} (y : A) (all : List A) (x : A) (xs : List A) → x ∷ xs ≡ y ∷ all → Some y ≡ Some x
    same y all x xs e = cc
first_of (y ∷ all) (suc i) x xs e = first_of all i x xs e

rest_of : {A : Type 0} (all : List A) (i : ℕ) (x : A) (xs : List A) → x ∷ xs ≡ drop i all → xs ≡ drop (suc i) all
rest_of [] zero x xs e = cc
rest_of [] (suc i) x xs e = cc
rest_of (y ∷ all) zero x xs e = same y all x xs e
  where
    same : {A : Type 0} (y : A) (all : List A) (x : A) (xs : List A) → x ∷ xs ≡ y ∷ all → xs ≡ all
    same y all x xs e = cc
rest_of (y ∷ all) (suc i) x xs e = rest_of all i x xs e

abbrev class_at : List Top → ℕ → Option Class
class_at all i = as_class (slice_get all i)

-- at each place stands the class
there : (all : List Top) (i : ℕ) (ts : List Top) → ts ≡ drop i all → map (class_at all) (class_places i ts) ≡ map Some (classes ts)
there all i [] e = refl
there all i (top.Class c ∷ ts) e =
    ap (λ (o : Option Class). o ∷ map (class_at all) (class_places (suc i) ts)) (ap as_class (first_of all i (top.Class c) ts e))
    ∙ ap (λ (os : List (Option Class)). Some c ∷ os) (there all (suc i) ts (rest_of all i (top.Class c) ts e))
there all i (top.Cimport x ∷ ts) e = there all (suc i) ts (rest_of all i (top.Cimport x) ts e)
there all i (top.Function x ∷ ts) e = there all (suc i) ts (rest_of all i (top.Function x) ts e)
there all i (top.Variables x ∷ ts) e = there all (suc i) ts (rest_of all i (top.Variables x) ts e)
there all i (top.Def x ∷ ts) e = there all (suc i) ts (rest_of all i (top.Def x) ts e)
there all i (top.Stmt x ∷ ts) e = there all (suc i) ts (rest_of all i (top.Stmt x) ts e)

unwrapped : {A B : Type 0} (f : A → Option B) (x : Option A) (y : Option B) → option_map f x ≡ option_map Some y → (a : A) → x ≡ Some a → f a ≡ y
unwrapped f None None e a h = cc
unwrapped f None (Some b) e a h = cc
unwrapped f (Some k) None e a h = cc
unwrapped f (Some k) (Some b) e a h = cc

none_too : {A B : Type 0} (f : A → Option B) (x : Option A) (y : Option B) → option_map f x ≡ option_map Some y → x ≡ None → y ≡ None
none_too f None None e h = refl
none_too f None (Some b) e h = cc
none_too f (Some k) y e h = cc

same_entry : (all : List Top) (k : ℕ)
    → option_map (class_at all) (slice_get (class_places 0 all) k) ≡ option_map Some (slice_get (classes all) k)
same_entry all k =
    sym (slice_get-map (class_at all) (class_places 0 all) k)
    ∙ ap (λ (os : List (Option Class)). slice_get os k) (there all 0 all refl)
    ∙ slice_get-map Some (classes all) k

-- where the place of a number is known, the class there is that of the number
pub class_found : (all : List Top) (k place : ℕ) → slice_get (class_places 0 all) k ≡ Some place → as_class (slice_get all place) ≡ slice_get (classes all) k
class_found all k place h =
    unwrapped (class_at all) (slice_get (class_places 0 all) k) (slice_get (classes all) k) (same_entry all k) place h

-- and where there is none, there is no class of the number
pub class_missing : (all : List Top) (k : ℕ) → slice_get (class_places 0 all) k ≡ None → slice_get (classes all) k ≡ None
class_missing all k h =
    none_too (class_at all) (slice_get (class_places 0 all) k) (slice_get (classes all) k) (same_entry all k) h
