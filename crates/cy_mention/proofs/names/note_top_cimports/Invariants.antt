use Rattle.std.proofs.Common.{◌≡◌, ◌++◌, drop}
use Rattle.std.specs.List.{flat_map}
use Rattle.cy_mention.specs.Modules.{cimports, top_cimports}
use Rattle.cy_mention.proofs.names.note_top_cimports.Given as goal

abbrev pub invariant-loop-top : goal.invariant-loop-top
invariant-loop-top l = cimports l.initial.out.items ++ flat_map top_cimports l.tops ≡ cimports l.out.items ++ flat_map top_cimports (drop l.top-index l.tops)
