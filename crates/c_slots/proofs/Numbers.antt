-- Slots that are numbered from a number on.
use Rattle.std.proofs.Common.{◌≡◌, ℕ, suc, List, [], ◌∷◌, refl, sym, ap, subst, arith, ◌∙◌}
use Rattle.std.specs.Prelude.{Bool, true, ◌&&◌, ◌↔◌, nat_eq}
use Rattle.std.specs.List.{AllByRecursion}
use Rattle.std.proofs.lemmas.Bool.{eqb-true}
use Rattle.std.proofs.lemmas.Grind.{common_steps}
use Rattle.c_tree.specs.declared.item.Slot.{Slot}
use Rattle.c_tree.specs.declared.item.TableBase.{TableBase}
use Rattle.c_tree.specs.declared.item.TableBase.TheVariants as base
use Rattle.c_tree.specs.Forms.{AreNumberedFrom, AreSlots, IsNumber}
use Rattle.c_slots.specs.Slots.{are_numbered_from, first_number, IsSlot}

both : (a b : Bool) → (a && b) ≡ true → (a ≡ true) × (b ≡ true)
both a b e = grind (arith, common_steps)

joined : (a b : Bool) → a ≡ true → b ≡ true → (a && b) ≡ true
joined a b e f = grind (arith, common_steps)

same_number : (n : ℕ) → nat_eq n n ≡ true
same_number n = grind (arith, common_steps)

-- the test says so, where the numbers are in range
pub told : (j : ℕ) (slots : List Slot) → AllByRecursion IsSlot slots → are_numbered_from j slots ≡ true → AreNumberedFrom j slots
told j [] f e = tt
told j (s ∷ slots) f e =
    let parts = both (nat_eq s.number j) (are_numbered_from (suc j) slots) e in
    let same : s.number ≡ j = eqb-true s.number j parts.0 in
    (same, subst (λ n. IsNumber n) same f.0, told (suc j) slots f.1 parts.1)

pub tells : (j : ℕ) (slots : List Slot) → AreNumberedFrom j slots → are_numbered_from j slots ≡ true
tells j [] h = refl
tells j (s ∷ slots) h = joined (nat_eq s.number j) (are_numbered_from (suc j) slots) (ap (λ n. nat_eq n j) h.0 ∙ same_number j) (tells (suc j) slots h.2)

pub numbered : (b : TableBase) (slots : List Slot) → AllByRecursion IsSlot slots → (are_numbered_from (first_number b slots) slots ≡ true) ↔ AreSlots b slots
numbered base.Name slots f = (told 0 slots f, tells 0 slots)
numbered (base.Class n) [] f = (λ e. tt, λ e. refl)
numbered (base.Class n) (s ∷ slots) f = (told s.number (s ∷ slots) f, tells s.number (s ∷ slots))

within_from : (j : ℕ) (slots : List Slot) → AreNumberedFrom j slots → AllByRecursion IsSlot slots
within_from j [] h = tt
within_from j (s ∷ slots) h = (subst (λ n. IsNumber n) (sym h.0) h.1, within_from (suc j) slots h.2)

-- slots that are numbered are in range
pub slots_within : (b : TableBase) (slots : List Slot) → AreSlots b slots → AllByRecursion IsSlot slots
slots_within base.Name slots h = within_from 0 slots h
slots_within (base.Class n) [] h = tt
slots_within (base.Class n) (s ∷ slots) h = within_from s.number (s ∷ slots) h
