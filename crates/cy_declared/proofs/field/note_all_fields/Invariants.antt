use Rattle.std.proofs.Common.{◌≡◌, ◌++◌, drop}
use Rattle.std.specs.List.{flat_map}
use Rattle.cy_declared.specs.Shown.{declarations_shown}
use Rattle.cy_declared.specs.Members.{fields_in}
use Rattle.cy_declared.proofs.field.note_all_fields.Given as goal

abbrev pub invariant-loop-member : goal.invariant-loop-member
invariant-loop-member l = declarations_shown l.initial.out.items ++ flat_map fields_in l.members ≡ declarations_shown l.out.items ++ flat_map fields_in (drop l.member-index l.members)
