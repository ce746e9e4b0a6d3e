use Rattle.std.proofs.Common.{◌≡◌, ◌++◌, drop}
use Rattle.std.specs.List.{flat_map}
use Rattle.name_rules.specs.Breaches.{item_second}
use Rattle.name_rules.proofs.second.judge_items.Given as goal

abbrev pub invariant-loop-item : goal.invariant-loop-item
invariant-loop-item l = l.initial.out.items ++ flat_map (item_second l.file) l.items ≡ l.out.items ++ flat_map (item_second l.file) (drop l.item-index l.items)
