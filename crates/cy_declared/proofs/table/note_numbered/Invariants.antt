use Rattle.std.proofs.Common.{◌≡◌, ◌++◌, drop}
use Rattle.name_table.specs.EntriesShown.{entries_shown, slices}
use Rattle.cy_declared.specs.Named.{numbered_from}
use Rattle.cy_declared.proofs.table.note_numbered.Given as goal

abbrev pub invariant-loop-place : goal.invariant-loop-place
invariant-loop-place l = entries_shown l.initial.out.items ++ numbered_from 0 (slices l.names) ≡ entries_shown l.out.items ++ numbered_from l.place (slices (drop l.place l.names))
