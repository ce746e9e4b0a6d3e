use Rattle.std.proofs.Common.{◌≡◌, ◌++◌, drop, map}
use Rattle.cy_mention.specs.Mentions.{imported}
use Rattle.cy_mention.specs.Shown.{all_shown}
use Rattle.cy_mention.proofs.mention.note_all_imported.Given as goal

abbrev pub invariant-loop-item : goal.invariant-loop-item
invariant-loop-item l = all_shown l.initial.out.items ++ map imported l.items ≡ all_shown l.out.items ++ map imported (drop l.item-index l.items)
