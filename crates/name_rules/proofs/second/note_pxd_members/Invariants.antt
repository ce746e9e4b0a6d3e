use Rattle.std.proofs.Common.{◌≡◌, ◌++◌, drop}
use Rattle.std.specs.List.{flat_map}
use Rattle.cy_mention.specs.Modules.{idents}
use Rattle.name_rules.specs.Breaches.{pxd_member_names}
use Rattle.name_rules.proofs.second.note_pxd_members.Given as goal

abbrev pub invariant-loop-member : goal.invariant-loop-member
invariant-loop-member l = idents l.initial.out.items ++ flat_map pxd_member_names l.members ≡ idents l.out.items ++ flat_map pxd_member_names (drop l.member-index l.members)
