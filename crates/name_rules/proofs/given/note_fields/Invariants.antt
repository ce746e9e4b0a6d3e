use Rattle.std.proofs.Common.{◌≡◌, ◌++◌, drop, map}
use Rattle.name_rules.specs.Given.{field_entry}
use Rattle.name_table.specs.EntriesShown.{entries_shown}
use Rattle.name_rules.proofs.given.note_fields.Given as goal

abbrev pub invariant-loop-name : goal.invariant-loop-name
invariant-loop-name l = entries_shown l.initial.out.items ++ map field_entry l.names ≡ entries_shown l.out.items ++ map field_entry (drop l.name-index l.names)
