use Rattle.std.proofs.Common.{◌≡◌, ◌++◌, drop}
use Rattle.std.specs.List.{flat_map}
use Rattle.cy_mention.specs.Shown.{all_shown}
use Rattle.cy_mention.specs.Modules.{member_said}
use Rattle.cy_mention.proofs.said.note_members.Given as goal

abbrev pub invariant-loop-member : goal.invariant-loop-member
invariant-loop-member l = all_shown l.initial.out.items ++ flat_map member_said l.members ≡ all_shown l.out.items ++ flat_map member_said (drop l.member-index l.members)
