use Rattle.std.proofs.Common.{◌≡◌, ◌++◌, drop}
use Rattle.std.specs.List.{flat_map}
use Rattle.cy_mention.specs.Shown.{all_shown}
use Rattle.cy_mention.specs.Trees.{item_mentions}
use Rattle.cy_mention.proofs.said.note_items.Given as goal

abbrev pub invariant-loop-item : goal.invariant-loop-item
invariant-loop-item l = all_shown l.initial.out.items ++ flat_map item_mentions l.items ≡ all_shown l.out.items ++ flat_map item_mentions (drop l.item-index l.items)
