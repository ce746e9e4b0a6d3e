use Rattle.std.proofs.Common.{◌≡◌, ◌++◌, drop, map}
use Rattle.cy_mention.specs.Mentions.{Globals}
use Rattle.cy_mention.specs.Shown.{all_shown}
use Rattle.cy_mention.proofs.mention.note_globals.Given as goal

abbrev pub invariant-loop-name : goal.invariant-loop-name
invariant-loop-name l = all_shown l.initial.out.items ++ map Globals l.names ≡ all_shown l.out.items ++ map Globals (drop l.name-index l.names)
