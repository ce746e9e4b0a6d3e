use Rattle.std.proofs.Common.{Option, drop}
use Rattle.std.specs.List.{flat_map}
use Rattle.cy_base.specs.declared.place.Refusal.{Refusal}
use Rattle.first_breach.specs.First.{IsLeastWith}
use Rattle.signature_rules.specs.Rules.{in_pxd_member}
use Rattle.signature_rules.specs.Walk.{all_breaches}
use Rattle.signature_rules.proofs.file.judge_pxd_members.Given as goal

abbrev pub invariant-loop-member : goal.invariant-loop-member
invariant-loop-member l =
    (last : Option Refusal) → IsLeastWith l.least (all_breaches l.file (flat_map in_pxd_member (drop l.member-index l.members))) last → IsLeastWith l.initial.least (all_breaches l.file (flat_map in_pxd_member l.members)) last
