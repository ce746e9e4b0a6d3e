use Rattle.std.proofs.Common.{◌≡◌, ◌++◌, drop}
use Rattle.std.specs.List.{flat_map}
use Rattle.cy_mention.specs.Modules.{idents, cimports, cimport_names}
use Rattle.cy_mention.proofs.names.note_all_cimport_names.Given as goal

abbrev pub invariant-loop-cimport : goal.invariant-loop-cimport
invariant-loop-cimport l = idents l.initial.out.items ++ flat_map cimport_names (cimports l.all) ≡ idents l.out.items ++ flat_map cimport_names (cimports (drop l.cimport-index l.all))
