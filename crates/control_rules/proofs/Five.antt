-- Five lists at once: none, one alone, and two rows of five.
use Rattle.std.proofs.Common.{◌≡◌, List, [], ◌++◌, Option, subst, sym}
use Rattle.std.proofs.lemmas.List.{append-nil}
use Rattle.cy_base.specs.declared.place.Refusal.{Refusal}
use Rattle.first_breach.specs.First.{IsLeastWith}
use Rattle.first_breach.proofs.Joins.{AreSame, same-behind, same-then, swapped, with-none, with-both, with-same}
use Rattle.control_rules.specs.Walk.{IsNoted}

pub none : {least : Option Refusal} → IsNoted least [] [] [] [] [] least
none {least} = record { whole = with-none least }

alone : (least result : Option Refusal) (xs : List Refusal) → IsLeastWith least xs result → IsLeastWith least (xs ++ []) result
alone least result xs it = subst (λ (rs : List Refusal). IsLeastWith least rs result) (sym (append-nil xs)) it

pub first-alone : {least result : Option Refusal} {xs : List Refusal} → IsLeastWith least xs result → IsNoted least xs [] [] [] [] result
first-alone {least} {result} {xs} it = record { whole = alone least result xs it }

pub second-alone : {least result : Option Refusal} {xs : List Refusal} → IsLeastWith least xs result → IsNoted least [] xs [] [] [] result
second-alone {least} {result} {xs} it = record { whole = alone least result xs it }

pub third-alone : {least result : Option Refusal} {xs : List Refusal} → IsLeastWith least xs result → IsNoted least [] [] xs [] [] result
third-alone {least} {result} {xs} it = record { whole = alone least result xs it }

pub fourth-alone : {least result : Option Refusal} {xs : List Refusal} → IsLeastWith least xs result → IsNoted least [] [] [] xs [] result
fourth-alone {least} {result} {xs} it = record { whole = alone least result xs it }

pub fifth-alone : {least result : Option Refusal} {xs : List Refusal} → IsLeastWith least xs result → IsNoted least [] [] [] [] xs result
fifth-alone {least} {result} {xs} it = record { whole = it }

rows : (a b c d e f g h i j : List Refusal) → AreSame ((a ++ (b ++ (c ++ (d ++ e)))) ++ (f ++ (g ++ (h ++ (i ++ j))))) ((a ++ f) ++ ((b ++ g) ++ ((c ++ h) ++ ((d ++ i) ++ (e ++ j)))))
rows a b c d e f g h i j =
    same-then _ _ _ (swapped a (b ++ (c ++ (d ++ e))) f (g ++ (h ++ (i ++ j)))) (same-behind (a ++ f) _ _
    (same-then _ _ _ (swapped b (c ++ (d ++ e)) g (h ++ (i ++ j))) (same-behind (b ++ g) _ _
    (same-then _ _ _ (swapped c (d ++ e) h (i ++ j)) (same-behind (c ++ h) _ _
    (swapped d e i j))))))

pub both : {least next result : Option Refusal} {a b c d e f g h i j : List Refusal} → IsNoted least a b c d e next → IsNoted next f g h i j result
    → IsNoted least (a ++ f) (b ++ g) (c ++ h) (d ++ i) (e ++ j) result
both {least} {next} {result} {a} {b} {c} {d} {e} {f} {g} {h} {i} {j} x y = record {
  whole = with-same least result ((a ++ (b ++ (c ++ (d ++ e)))) ++ (f ++ (g ++ (h ++ (i ++ j))))) ((a ++ f) ++ ((b ++ g) ++ ((c ++ h) ++ ((d ++ i) ++ (e ++ j)))))
      (rows a b c d e f g h i j)
      (with-both least next result (a ++ (b ++ (c ++ (d ++ e)))) (f ++ (g ++ (h ++ (i ++ j)))) x.whole y.whole);
}

-- five equations
pub equal : {least result : Option Refusal} {a b c d e f g h i j : List Refusal} → a ≡ f → b ≡ g → c ≡ h → d ≡ i → e ≡ j → IsNoted least f g h i j result → IsNoted least a b c d e result
equal {least} {result} {a} {b} {c} {d} {e} {f} {g} {h} {i} {j} p q r s t it =
    subst (λ (x : List Refusal). IsNoted least x b c d e result) (sym p)
    (subst (λ (x : List Refusal). IsNoted least f x c d e result) (sym q)
    (subst (λ (x : List Refusal). IsNoted least f g x d e result) (sym r)
    (subst (λ (x : List Refusal). IsNoted least f g h x e result) (sym s)
    (subst (λ (x : List Refusal). IsNoted least f g h i x result) (sym t) it))))
