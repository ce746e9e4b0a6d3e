use Rattle.std.proofs.Common.{◌≡◌, [], ◌++◌, drop}
use Rattle.name_table.specs.Entries.{firsts, texts}
use Rattle.name_table.specs.EntriesShown.{entries_shown}
use Rattle.name_table.proofs.table.NameTable.from_entries.Given as goal

abbrev pub invariant-loop-entry : goal.invariant-loop-entry
invariant-loop-entry l = firsts [] (entries_shown l.entries) ≡ l.table ++ firsts (texts l.table) (entries_shown (drop l.entry-index l.entries))
