use Rattle.std.proofs.Common.{◌≡◌, ℕ, List, [], ◌∷◌, codes, length, length-append, get_or, sym, ap, ◌∙◌, arith}
use Rattle.cyc_top.specs.Build.{header_name, c_name}
use Rattle.cyc_top.proofs.build.make_outputs.Goals as goal

c_name-apart : (name : List ℕ) → c_name name ≡ header_name → ⊥
c_name-apart [] e = cc
c_name-apart (a ∷ []) e = cc
c_name-apart (a ∷ b ∷ []) e = cc
c_name-apart (a ∷ b ∷ c ∷ []) e = cc
c_name-apart (a ∷ b ∷ c ∷ d ∷ []) e = cc
c_name-apart (a ∷ b ∷ c ∷ d ∷ f ∷ []) e = cc
c_name-apart (a ∷ b ∷ c ∷ d ∷ f ∷ g ∷ []) e = cc
c_name-apart (a ∷ b ∷ c ∷ d ∷ f ∷ g ∷ h ∷ []) e = absurd (omega (arith, ap (λ (xs : List ℕ). get_or xs 8 0) e))
c_name-apart (a ∷ b ∷ c ∷ d ∷ f ∷ g ∷ h ∷ i ∷ []) e = cc
c_name-apart (a ∷ b ∷ c ∷ d ∷ f ∷ g ∷ h ∷ i ∷ j ∷ more) e =
    absurd (omega (arith, ap (λ (xs : List ℕ). length xs) e, length-append more (codes ".c")))

pub returns-clause-apart : goal.returns-clause-apart
returns-clause-apart c = λ e. c_name-apart c.args.name.now (sym c.in_ok-c_name.ensures ∙ e)
