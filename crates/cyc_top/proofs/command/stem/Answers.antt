use Rattle.std.proofs.Common.{◌≡◌, ℕ, ◌+◌, ◌-◌, ◌++◌, List, Option, Some, None, true, false, nat_eq, length, take, drop, ap, ◌∙◌, codes}
use Rattle.std.specs.Prelude.{IfSome, MatchOption}
use Rattle.std.specs.Borrow.{Bor}
use Rattle.std.specs.Cmp.Lexicographic.{pointwise}
use Rattle.std.proofs.lemmas.Bool.Decides.{Decides-eqb}
use Rattle.std.proofs.lemmas.Slice.Eq.{strip_suffix_is}
use Rattle.cyc_top.proofs.command.stem.Goals as goal

-- what is left of a list without its end
stripped : (r : Option (Bor (List ℕ))) (s p : List ℕ) → MatchOption r (pointwise nat_eq (drop (length s - length p) s) p ≡ false) (λ x. (pointwise nat_eq (drop (length s - length p) s) p ≡ true) × (x.now ≡ take (length s - length p) s) × (length x.now + length p ≡ length s)) → IfSome r (λ x. (x.now ≡ take (length s - length p) s) × (s ≡ take (length s - length p) s ++ p))
stripped None s p h = tt
stripped (Some x) s p h =
    let e = strip_suffix_is Decides-eqb s p (Some x) h in
    (h.1, e ∙ ap (λ (q : List ℕ). q ++ p) h.1)

pub returns-clause-found : goal.returns-clause-found
returns-clause-found c = stripped c.strip_suffix.result c.args.word.now (codes ".pyx") c.strip_suffix.ensures.cases
