-- Names and objects are the same as themselves; tests that hold.
use Rattle.std.proofs.Common.{◌≡◌, ℕ, Bool, true, false, ◌&&◌, ◌||◌, List, [], ◌∷◌, refl, ap, ◌∙◌, eq-eqb}
use Rattle.std.specs.Prelude.{nat_eq}
use Rattle.std.specs.Str.{bytes_eq}
use Rattle.thin_state.specs.declared.space.Obj.{Obj}
use Rattle.thin_state.specs.declared.space.Obj.TheVariants as obj
use Rattle.thin_state.specs.Objects.{same_obj, exception_number}

pub nat_same : (n : ℕ) → nat_eq n n ≡ true
nat_same n = eq-eqb n n refl

pub and_true : (a b : Bool) → a ≡ true → b ≡ true → (a && b) ≡ true
and_true a b p q = ap (λ x. x && b) p ∙ q

pub or_left : (a b : Bool) → a ≡ true → (a || b) ≡ true
or_left a b p = ap (λ x. x || b) p

pub or_right : (a b : Bool) → b ≡ true → (a || b) ≡ true
or_right true b p = refl
or_right false b p = p

pub bytes_same : (x : List ℕ) → bytes_eq x x ≡ true
bytes_same [] = refl
bytes_same (x ∷ xs) = and_true (nat_eq x x) (bytes_eq xs xs) (nat_same x) (bytes_same xs)

pub obj_same : (o : Obj) → same_obj o o ≡ true
obj_same (obj.Foreign k) = nat_same k
obj_same (obj.Inst k) = nat_same k
obj_same (obj.View k) = nat_same k
obj_same (obj.Class c) =
    and_true (bytes_eq c.module c.module) (bytes_eq c.class c.class) (bytes_same c.module) (bytes_same c.class)
obj_same (obj.ExceptionType e) = nat_same (exception_number e)
obj_same obj.NoneNode = refl
obj_same obj.TrueNode = refl
obj_same obj.FalseNode = refl
