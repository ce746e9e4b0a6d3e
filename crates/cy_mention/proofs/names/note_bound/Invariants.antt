use Rattle.std.proofs.Common.{◌≡◌, ◌++◌, drop, map}
use Rattle.cy_mention.specs.Modules.{idents}
use Rattle.cy_mention.specs.Mentions.{alias_or}
use Rattle.cy_mention.proofs.names.note_bound.Given as goal

abbrev pub invariant-loop-item : goal.invariant-loop-item
invariant-loop-item l = idents l.initial.out.items ++ map (λ i. alias_or i.alias i.name) l.items ≡ idents l.out.items ++ map (λ i. alias_or i.alias i.name) (drop l.item-index l.items)
