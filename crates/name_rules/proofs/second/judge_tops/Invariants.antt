use Rattle.std.proofs.Common.{◌≡◌, ◌++◌, drop}
use Rattle.std.specs.List.{flat_map}
use Rattle.name_rules.specs.Breaches.{top_second}
use Rattle.name_rules.proofs.second.judge_tops.Given as goal

abbrev pub invariant-loop-top : goal.invariant-loop-top
invariant-loop-top l = l.initial.out.items ++ flat_map (top_second l.file) l.tops ≡ l.out.items ++ flat_map (top_second l.file) (drop l.top-index l.tops)
