use Rattle.std.proofs.Common.{◌≡◌, ◌++◌, drop}
use Rattle.std.specs.List.{flat_map}
use Rattle.name_rules.specs.Breaches.{lacking}
use Rattle.name_rules.proofs.mention.judge_items.Given as goal

abbrev pub invariant-loop-item : goal.invariant-loop-item
invariant-loop-item l = l.initial.out.items ++ flat_map (lacking l.file l.known l.outer) l.all ≡ l.out.items ++ flat_map (lacking l.file l.known l.outer) (drop l.item-index l.all)
