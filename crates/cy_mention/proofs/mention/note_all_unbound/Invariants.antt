use Rattle.std.proofs.Common.{◌≡◌, ◌++◌, drop}
use Rattle.std.specs.List.{flat_map}
use Rattle.cy_mention.specs.Mentions.{unbound}
use Rattle.cy_mention.specs.Shown.{all_shown}
use Rattle.cy_mention.proofs.mention.note_all_unbound.Given as goal

abbrev pub invariant-loop-x : goal.invariant-loop-x
invariant-loop-x l = all_shown l.initial.out.items ++ flat_map unbound l.xs ≡ all_shown l.out.items ++ flat_map unbound (drop l.x-index l.xs)
