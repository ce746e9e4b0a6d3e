use Rattle.std.proofs.Common.{Option, drop}
use Rattle.std.specs.List.{flat_map}
use Rattle.cy_base.specs.declared.place.Refusal.{Refusal}
use Rattle.first_breach.specs.First.{IsLeastWith}
use Rattle.signature_rules.specs.Rules.{in_top}
use Rattle.signature_rules.specs.Walk.{all_breaches}
use Rattle.signature_rules.proofs.file.judge_tops.Given as goal

abbrev pub invariant-loop-top : goal.invariant-loop-top
invariant-loop-top l =
    (last : Option Refusal) → IsLeastWith l.least (all_breaches l.file (flat_map in_top (drop l.top-index l.tops))) last → IsLeastWith l.initial.least (all_breaches l.file (flat_map in_top l.tops)) last
