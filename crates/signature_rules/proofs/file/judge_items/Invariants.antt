use Rattle.std.proofs.Common.{Option, drop}
use Rattle.std.specs.List.{flat_map}
use Rattle.cy_base.specs.declared.place.Refusal.{Refusal}
use Rattle.first_breach.specs.First.{IsLeastWith}
use Rattle.signature_rules.specs.Rules.{in_item}
use Rattle.signature_rules.specs.Walk.{all_breaches}
use Rattle.signature_rules.proofs.file.judge_items.Given as goal

abbrev pub invariant-loop-item : goal.invariant-loop-item
invariant-loop-item l =
    (last : Option Refusal) → IsLeastWith l.least (all_breaches l.file (flat_map in_item (drop l.item-index l.items))) last → IsLeastWith l.initial.least (all_breaches l.file (flat_map in_item l.items)) last
