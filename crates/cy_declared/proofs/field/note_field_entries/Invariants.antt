use Rattle.std.proofs.Common.{◌≡◌, ◌++◌, drop, map}
use Rattle.cy_declared.specs.Shown.{declarations_shown, members_shown}
use Rattle.cy_declared.specs.Members.{field_entry}
use Rattle.cy_declared.proofs.field.note_field_entries.Given as goal

abbrev pub invariant-loop-field : goal.invariant-loop-field
invariant-loop-field l = members_shown l.initial.out.items ++ map (field_entry l.known l.set l.«module») (declarations_shown l.fields) ≡ members_shown l.out.items ++ map (field_entry l.known l.set l.«module») (declarations_shown (drop l.field-index l.fields))
