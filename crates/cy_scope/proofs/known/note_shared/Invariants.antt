use Rattle.std.proofs.Common.{◌≡◌, ◌++◌, drop, map}
use Rattle.name_table.specs.EntriesShown.{entries_shown}
use Rattle.cy_mention.specs.Modules.{idents}
use Rattle.cy_scope.specs.Declarations.{shared_entry}
use Rattle.cy_scope.proofs.known.note_shared.Given as goal

abbrev pub invariant-loop-name : goal.invariant-loop-name
invariant-loop-name l = entries_shown l.initial.out.items ++ map (shared_entry l.own) (idents l.names) ≡ entries_shown l.out.items ++ map (shared_entry l.own) (idents (drop l.name-index l.names))
