-- What the three rules say of one function. The project's own.
use Rattle.std.specs.Prelude.{ℕ, List, ◌++◌, false}
use Rattle.std.specs.List.{flat_map}
use Rattle.cy_base.specs.declared.place.Refusal.{Refusal}
use Rattle.signature_rules.specs.Rules.{Signature, defaults_breaches, c_defaults_breaches, first_breaches}

abbrev pub breaches_of : ℕ → Signature → List Refusal
breaches_of file s =
    defaults_breaches file false s.params
    ++ (c_defaults_breaches file s.is_c s.params
    ++ first_breaches file s.is_method s.at s.params)

abbrev pub all_breaches : ℕ → List Signature → List Refusal
all_breaches file ss = flat_map (breaches_of file) ss
