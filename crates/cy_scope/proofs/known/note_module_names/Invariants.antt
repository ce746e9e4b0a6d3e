use Rattle.std.proofs.Common.{◌≡◌, ◌++◌, drop, map}
use Rattle.name_table.specs.EntriesShown.{entries_shown}
use Rattle.cy_scope.specs.Declarations.{module_entry}
use Rattle.cy_scope.specs.Files.{modules_from}
use Rattle.cy_scope.proofs.known.note_module_names.Given as goal

abbrev pub invariant-loop-place : goal.invariant-loop-place
invariant-loop-place l = entries_shown l.initial.out.items ++ map module_entry (modules_from 0 l.all) ≡ entries_shown l.out.items ++ map module_entry (modules_from l.place (drop l.place l.all))
