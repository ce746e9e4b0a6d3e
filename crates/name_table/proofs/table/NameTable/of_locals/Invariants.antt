use Rattle.std.proofs.Common.{◌≡◌, [], ◌++◌, drop}
use Rattle.name_table.specs.Entries.{numbered, once, texts}
use Rattle.name_table.specs.EntriesShown.{slices}
use Rattle.name_table.proofs.table.NameTable.of_locals.Given as goal

abbrev pub invariant-loop-name : goal.invariant-loop-name
invariant-loop-name l =
    (l.table ≡ numbered 0 (texts l.table))
    × (once [] (slices l.names) ≡ texts l.table ++ once (texts l.table) (slices (drop l.name-index l.names)))
