-- Fields that get values.
use Rattle.std.proofs.Common.{◌≡◌, ℕ, zero, suc, List, [], ◌∷◌, ◌++◌, Option, Some, None, refl, ap, ◌∙◌, take, drop, slice_get, slice_set, true, ◌<◌, length, get_or, sym, arith}
use Rattle.c_tree.specs.declared.name.Numbered.{Numbered}
use Rattle.c_value.specs.declared.kind.Kind.{Kind}
use Rattle.c_value.specs.declared.value.Value.{Value}
use Rattle.c_value.specs.declared.space.Part.{Part}
use Rattle.c_value.specs.Names.{same_number}
use Rattle.c_value.specs.Parts.{field_put, kind_among, put_field, put_part}
use Rattle.c_value.specs.Values.{converted}

-- one that isn't there
pub none-put : (fs : List (Kind × Value)) (j : ℕ) (v : Value) → None ≡ kind_among (slice_get fs j) → fs ≡ put_field fs j v
none-put [] j v h = refl
none-put ((k, old) ∷ fs) zero v h = cc
none-put ((k, old) ∷ fs) (suc j) v h = ap (λ (gs : List (Kind × Value)). (k, old) ∷ gs) (none-put fs j v h)

-- one of a type
pub some-put : (fs : List (Kind × Value)) (j : ℕ) (v : Value) (t : Kind) → Some t ≡ kind_among (slice_get fs j)
    → slice_set fs j (t, converted t v) ≡ put_field fs j v
some-put [] j v t h = cc
some-put ((k, old) ∷ fs) zero v t h = cc
some-put ((k, old) ∷ fs) (suc j) v t h = ap (λ (gs : List (Kind × Value)). (k, old) ∷ gs) (some-put fs j v t h)

-- a part whose class is the one that is wanted
split : (ps : List Part) (i : ℕ) (class : Numbered) (j : ℕ) (v : Value) (p : Part) → slice_get ps i ≡ Some p → same_number p.class class ≡ true
    → take i ps ++ put_part (drop i ps) class j v ≡ slice_set ps i (field_put j v p)
split [] i class j v p h e = cc
split (x ∷ xs) zero class j v p h e = cc
split (x ∷ xs) (suc i) class j v p h e = ap (λ (ys : List Part). x ∷ ys) (split xs i class j v p h e)

get_there : (ps : List Part) (i : ℕ) (q : Part) → i < length ps → q ≡ get_or ps i q → slice_get ps i ≡ Some q
get_there [] i q h e = absurd (omega (arith, h))
get_there (x ∷ xs) zero q h e = ap (λ (y : Part). Some y) (sym e)
get_there (x ∷ xs) (suc i) q h e = get_there xs i q (omega (arith, h)) e

same_part : (o : Option Part) (q p : Part) (class : Numbered) → o ≡ Some q → o ≡ Some p → same_number q.class class ≡ true → same_number p.class class ≡ true
same_part o q p class g h e = cc

pub found-part : (ps : List Part) (i : ℕ) (class : Numbered) (q : Part) → i < length ps → q ≡ get_or ps i q → same_number q.class class ≡ true
    → ((j : ℕ) (v : Value) → put_part ps class j v ≡ take i ps ++ put_part (drop i ps) class j v)
    → (j : ℕ) (v : Value) (p : Part) → slice_get ps i ≡ Some p → put_part ps class j v ≡ slice_set ps i (field_put j v p)
found-part ps i class q less g e same j v p h =
    same j v ∙ split ps i class j v p h (same_part (slice_get ps i) q p class (get_there ps i q less g) h e)

pub ruleset puts = (none-put, some-put)
