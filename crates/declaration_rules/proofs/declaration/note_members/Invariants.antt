use Rattle.std.proofs.Common.{◌≡◌, ◌++◌, drop}
use Rattle.std.specs.List.{flat_map}
use Rattle.declaration_rules.specs.Declarations.{in_member}
use Rattle.declaration_rules.specs.DeclarationsShown.{declarations_shown}
use Rattle.declaration_rules.proofs.declaration.note_members.Given as goal

abbrev pub invariant-loop-member : goal.invariant-loop-member
invariant-loop-member l = declarations_shown l.initial.out.items ++ flat_map in_member l.members ≡ declarations_shown l.out.items ++ flat_map in_member (drop l.member-index l.members)
