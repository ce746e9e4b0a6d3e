use Rattle.std.proofs.Common.{Option, drop}
use Rattle.cy_base.specs.declared.place.Refusal.{Refusal}
use Rattle.control_rules.specs.Walk.{MembersNoted}
use Rattle.control_rules.proofs.file.judge_members.Given as goal

abbrev pub invariant-loop-member : goal.invariant-loop-member
invariant-loop-member l =
    (last : Option Refusal) → MembersNoted l.file (drop l.member-index l.members) l.least last → MembersNoted l.file l.members l.initial.least last
