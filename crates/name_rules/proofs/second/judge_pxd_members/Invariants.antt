use Rattle.std.proofs.Common.{◌≡◌, ◌++◌, drop}
use Rattle.std.specs.List.{flat_map}
use Rattle.name_rules.specs.Breaches.{pxd_member_second}
use Rattle.name_rules.proofs.second.judge_pxd_members.Given as goal

abbrev pub invariant-loop-member : goal.invariant-loop-member
invariant-loop-member l = l.initial.out.items ++ flat_map (pxd_member_second l.file) l.members ≡ l.out.items ++ flat_map (pxd_member_second l.file) (drop l.member-index l.members)
