use Rattle.std.proofs.Common.{◌≡◌, ◌++◌, drop}
use Rattle.std.specs.List.{flat_map}
use Rattle.cy_mention.specs.Modules.{cimports, item_cimports}
use Rattle.cy_mention.proofs.names.note_item_cimports.Given as goal

abbrev pub invariant-loop-item : goal.invariant-loop-item
invariant-loop-item l = cimports l.initial.out.items ++ flat_map item_cimports l.items ≡ cimports l.out.items ++ flat_map item_cimports (drop l.item-index l.items)
