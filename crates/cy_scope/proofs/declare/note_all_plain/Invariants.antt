use Rattle.std.proofs.Common.{◌≡◌, ◌++◌, drop, map}
use Rattle.name_table.specs.EntriesShown.{entries_shown}
use Rattle.cy_mention.specs.Modules.{idents}
use Rattle.cy_scope.specs.Declarations.{plain}
use Rattle.cy_scope.proofs.declare.note_all_plain.Given as goal

abbrev pub invariant-loop-name : goal.invariant-loop-name
invariant-loop-name l = entries_shown l.initial.out.items ++ map plain (idents l.names) ≡ entries_shown l.out.items ++ map plain (idents (drop l.name-index l.names))
