use Rattle.std.proofs.Common.{◌≡◌, ◌++◌, drop}
use Rattle.std.specs.List.{flat_map}
use Rattle.name_table.specs.EntriesShown.{entries_shown}
use Rattle.cy_scope.specs.Declarations.{cimported_by}
use Rattle.cy_mention.specs.Modules.{cimports}
use Rattle.cy_scope.proofs.known.note_all_cimported.Given as goal

abbrev pub invariant-loop-cimport : goal.invariant-loop-cimport
invariant-loop-cimport l = entries_shown l.initial.out.items ++ flat_map (cimported_by l.known) (cimports l.all) ≡ entries_shown l.out.items ++ flat_map (cimported_by l.known) (cimports (drop l.cimport-index l.all))
