use Rattle.std.proofs.Common.{Option, drop}
use Rattle.std.specs.List.{flat_map}
use Rattle.cy_base.specs.declared.place.Refusal.{Refusal}
use Rattle.first_breach.specs.First.{IsLeastWith}
use Rattle.declaration_rules.specs.Rules.{maybe_view}
use Rattle.declaration_rules.proofs.views.judge_each_param.Given as goal

abbrev pub invariant-loop-param : goal.invariant-loop-param
invariant-loop-param l =
    (last : Option Refusal) → IsLeastWith l.least (flat_map ((λ p. maybe_view l.file p.kind)) (drop l.param-index l.params)) last → IsLeastWith l.initial.least (flat_map ((λ p. maybe_view l.file p.kind)) (l.params)) last
