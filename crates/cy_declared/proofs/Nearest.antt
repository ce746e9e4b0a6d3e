-- The nearest member, class by class.
use Rattle.std.proofs.Common.{◌≡◌, ℕ, zero, suc, List, ◌∷◌, map, Option, Some, None, refl, ap}
use Rattle.cy_around.specs.declared.member.MemberSaid.{MemberSaid}
use Rattle.cy_tree.specs.declared.set.NamedSet.{NamedSet}
use Rattle.cy_tree.specs.declared.ty.ClassId.{ClassId}
use Rattle.cy_tree.specs.Bases.{base_of, found_from}
use Rattle.cy_declared.specs.declared.tables.Tables.{Tables}
use Rattle.cy_declared.specs.Members.{as_said, first_said}
use Rattle.cy_declared.specs.Tables.{nearest_among, own_member_at}

pub nearest-none : (n : ℕ) (set : NamedSet) (tables : Tables) (name : List ℕ) → nearest_among tables (found_from n set None) name ≡ None
nearest-none zero set tables name = refl
nearest-none (suc n) set tables name = refl

pub nearest-here : (n : ℕ) (set : NamedSet) (tables : Tables) (class : ClassId) (name : List ℕ) (x : MemberSaid)
    → as_said (own_member_at tables class name) ≡ Some x → nearest_among tables (found_from (suc n) set (Some class)) name ≡ Some x
nearest-here n set tables class name x e =
    ap (λ (o : Option MemberSaid). first_said (o ∷ map (λ c. as_said (own_member_at tables c name)) (found_from n set (base_of set class)))) e

pub nearest-above : (n : ℕ) (set : NamedSet) (tables : Tables) (class : ClassId) (name : List ℕ)
    → as_said (own_member_at tables class name) ≡ None → nearest_among tables (found_from (suc n) set (Some class)) name ≡ nearest_among tables (found_from n set (base_of set class)) name
nearest-above n set tables class name e =
    ap (λ (o : Option MemberSaid). first_said (o ∷ map (λ c. as_said (own_member_at tables c name)) (found_from n set (base_of set class)))) e
