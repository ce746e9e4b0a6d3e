use Rattle.std.proofs.Common.{◌≡◌, ◌++◌, drop}
use Rattle.std.specs.List.{flat_map}
use Rattle.cy_mention.specs.Modules.{idents, item_names}
use Rattle.cy_mention.proofs.names.note_item_names.Given as goal

abbrev pub invariant-loop-item : goal.invariant-loop-item
invariant-loop-item l = idents l.initial.out.items ++ flat_map item_names l.items ≡ idents l.out.items ++ flat_map item_names (drop l.item-index l.items)
