use Rattle.std.proofs.Common.{◌≡◌, ◌++◌, drop}
use Rattle.name_table.specs.EntriesShown.{entries_shown}
use Rattle.cy_mention.specs.Modules.{idents}
use Rattle.cy_scope.specs.Declarations.{variables_from}
use Rattle.cy_scope.proofs.declare.note_variables.Given as goal

abbrev pub invariant-loop-index : goal.invariant-loop-index
invariant-loop-index l = entries_shown l.initial.out.items ++ variables_from 0 (idents l.names) ≡ entries_shown l.out.items ++ variables_from l.index (idents (drop l.index l.names))
