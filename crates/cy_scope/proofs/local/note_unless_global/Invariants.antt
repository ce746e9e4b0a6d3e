use Rattle.std.proofs.Common.{◌≡◌, ◌++◌, drop}
use Rattle.name_table.specs.Entries.{texts}
use Rattle.name_table.specs.EntriesShown.{slices}
use Rattle.cy_mention.specs.Modules.{idents}
use Rattle.cy_scope.specs.Declarations.{unless_global}
use Rattle.cy_scope.proofs.local.note_unless_global.Given as goal

abbrev pub invariant-loop-name : goal.invariant-loop-name
invariant-loop-name l = slices l.initial.out.items ++ unless_global (texts l.globals) (idents l.names) ≡ slices l.out.items ++ unless_global (texts l.globals) (idents (drop l.name-index l.names))
