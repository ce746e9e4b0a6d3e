-- Rules over a list of functions: function by function, and rule by rule.
use Rattle.std.proofs.Common.{ℕ, false, List, [], ◌∷◌, ◌++◌, Option, sym, subst}
use Rattle.std.specs.List.{flat_map}
use Rattle.std.proofs.lemmas.Grind.{flat_map-append}
use Rattle.cy_base.specs.declared.place.Refusal.{Refusal}
use Rattle.first_breach.specs.First.{IsLeastWith}
use Rattle.first_breach.proofs.Joins.{AreSame, same-behind, same-then, swapped, with-both, with-same}
use Rattle.signature_rules.specs.Rules.{Signature, defaults_breaches, c_defaults_breaches, first_breaches}
use Rattle.signature_rules.specs.Walk.{breaches_of, all_breaches}

-- those of one list and then of another
pub more-noted : (file : ℕ) (xs ys : List Signature) {least next result : Option Refusal} → IsLeastWith least (all_breaches file xs) next → IsLeastWith next (all_breaches file ys) result → IsLeastWith least (all_breaches file (xs ++ ys)) result
more-noted file xs ys {least} {next} {result} first then =
    subst (λ (rs : List Refusal). IsLeastWith least rs result) (sym (flat_map-append (breaches_of file) xs ys)) (with-both least next result (all_breaches file xs) (all_breaches file ys) first then)

two-rules : (f g : Signature → List Refusal) (ss : List Signature) → AreSame (flat_map (λ s. f s ++ g s) ss) (flat_map f ss ++ flat_map g ss)
two-rules f g [] = record { there = λ r h. h; back = λ r h. h }
two-rules f g (s ∷ ss) =
    same-then _ _ _ (same-behind (f s ++ g s) _ _ (two-rules f g ss)) (swapped (f s) (g s) (flat_map f ss) (flat_map g ss))

three-rules : (f g h : Signature → List Refusal) (ss : List Signature) → AreSame (flat_map (λ s. f s ++ (g s ++ h s)) ss) (flat_map f ss ++ (flat_map g ss ++ flat_map h ss))
three-rules f g h ss = same-then _ _ _ (two-rules f (λ s. g s ++ h s) ss) (same-behind (flat_map f ss) _ _ (two-rules g h ss))

pub rule-by-rule : (file : ℕ) (ss : List Signature) {least result : Option Refusal} → IsLeastWith least (all_breaches file ss) result
    → IsLeastWith least (flat_map (λ s. defaults_breaches file false s.params) ss ++ (flat_map (λ s. c_defaults_breaches file s.is_c s.params) ss ++ flat_map (λ s. first_breaches file s.is_method s.at s.params) ss)) result
rule-by-rule file ss {least} {result} it =
    with-same least result (all_breaches file ss)
    (flat_map (λ s. defaults_breaches file false s.params) ss ++ (flat_map (λ s. c_defaults_breaches file s.is_c s.params) ss ++ flat_map (λ s. first_breaches file s.is_method s.at s.params) ss))
    (three-rules (λ s. defaults_breaches file false s.params) (λ s. c_defaults_breaches file s.is_c s.params) (λ s. first_breaches file s.is_method s.at s.params) ss) it
