use Rattle.std.proofs.Common.{Option, drop}
use Rattle.std.specs.List.{flat_map}
use Rattle.cy_base.specs.declared.place.Refusal.{Refusal}
use Rattle.first_breach.specs.First.{IsLeastWith}
use Rattle.signature_rules.specs.Rules.{default_place}
use Rattle.signature_rules.proofs.param.judge_each_c_default.Given as goal

abbrev pub invariant-loop-param : goal.invariant-loop-param
invariant-loop-param l =
    (last : Option Refusal) → IsLeastWith l.least (flat_map (λ p. default_place l.file p.default) (drop l.param-index l.params)) last → IsLeastWith l.initial.least (flat_map (λ p. default_place l.file p.default) l.params) last
