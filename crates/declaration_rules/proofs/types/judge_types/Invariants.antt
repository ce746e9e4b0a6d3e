use Rattle.std.proofs.Common.{Option, drop}
use Rattle.std.specs.List.{flat_map}
use Rattle.cy_base.specs.declared.place.Refusal.{Refusal}
use Rattle.first_breach.specs.First.{IsLeastWith}
use Rattle.declaration_rules.specs.Rules.{type_breaches}
use Rattle.type_uses.specs.Shown.{all_shown}
use Rattle.declaration_rules.proofs.types.judge_types.Given as goal

abbrev pub invariant-loop-found : goal.invariant-loop-found
invariant-loop-found l =
    (last : Option Refusal) → IsLeastWith l.least (flat_map (type_breaches l.file) (all_shown (drop l.found-index l.uses))) last → IsLeastWith l.initial.least (flat_map (type_breaches l.file) (all_shown (l.uses))) last
