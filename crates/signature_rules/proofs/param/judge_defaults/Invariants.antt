use Rattle.std.proofs.Common.{Option, drop, false}
use Rattle.cy_base.specs.declared.place.Refusal.{Refusal}
use Rattle.first_breach.specs.First.{IsLeastWith}
use Rattle.signature_rules.specs.Rules.{defaults_breaches}
use Rattle.signature_rules.proofs.param.judge_defaults.Given as goal

abbrev pub invariant-loop-param : goal.invariant-loop-param
invariant-loop-param l =
    (last : Option Refusal) → IsLeastWith l.least (defaults_breaches l.file l.is_behind (drop l.param-index l.params)) last → IsLeastWith l.initial.least (defaults_breaches l.file false l.params) last
