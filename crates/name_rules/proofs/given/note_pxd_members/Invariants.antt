use Rattle.std.proofs.Common.{◌≡◌, ◌++◌, drop}
use Rattle.std.specs.List.{flat_map}
use Rattle.name_rules.specs.Given.{pxd_member_entries}
use Rattle.name_table.specs.EntriesShown.{entries_shown}
use Rattle.name_rules.proofs.given.note_pxd_members.Given as goal

abbrev pub invariant-loop-member : goal.invariant-loop-member
invariant-loop-member l = entries_shown l.initial.out.items ++ flat_map pxd_member_entries l.members ≡ entries_shown l.out.items ++ flat_map pxd_member_entries (drop l.member-index l.members)
