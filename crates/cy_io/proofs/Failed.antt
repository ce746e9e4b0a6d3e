-- What one more failed read does to the count of its name.
use Rattle.std.proofs.Common.{◌≡◌, ◌≢◌, ◌<◌, ℕ, Bool, true, false, Decides, refl, ◌∙◌, List, [], ◌∷◌, ◌++◌, Vec, cond, count_by, arith, sym}
use Rattle.std.proofs.lemmas.Grind.{common_steps}
use Rattle.std.proofs.lemmas.List.Sums.{sum_by-append}
use Rattle.std.proofs.lemmas.Slice.Eq.{bytes_eq-Decides}
use Rattle.std.specs.Str.{bytes_eq}
use Rattle.std.specs.declared.alloc.Global.{Global}

pub count_raised : (old new : List (Vec ℕ Global)) (failed : Vec ℕ Global) (name : List ℕ) → new ≡ old ++ failed ∷ [] → failed.items ≡ name
    → count_by (λ f. bytes_eq name f.items) old < count_by (λ f. bytes_eq name f.items) new
count_raised old new failed name pushed named =
    let held = (bytes_eq-Decides name failed.items).1 (sym named) in
    let counted = sum_by-append (λ (f : Vec ℕ Global). cond (bytes_eq name f.items) 1 0) old (failed ∷ []) in
    grind (arith, common_steps, held, counted, pushed)

not_true : (r : Bool) (P : Type 0) → Decides r P → (P → ⊥) → r ≡ false
not_true true P decides none = absurd (none (decides.0 refl))
not_true false P decides none = refl

-- the counts of other names stay
pub count_kept : (old new : List (Vec ℕ Global)) (failed : Vec ℕ Global) (name other : List ℕ) → new ≡ old ++ failed ∷ [] → failed.items ≡ name → other ≢ name
    → count_by (λ f. bytes_eq other f.items) new ≡ count_by (λ f. bytes_eq other f.items) old
count_kept old new failed name other pushed named apart =
    let held = not_true (bytes_eq other failed.items) (other ≡ failed.items) (bytes_eq-Decides other failed.items) (λ e. apart (e ∙ named)) in
    let counted = sum_by-append (λ (f : Vec ℕ Global). cond (bytes_eq other f.items) 1 0) old (failed ∷ []) in
    grind (arith, common_steps, held, counted, pushed)
