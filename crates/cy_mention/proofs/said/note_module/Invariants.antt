use Rattle.std.proofs.Common.{◌≡◌, ◌++◌, drop}
use Rattle.std.specs.List.{flat_map}
use Rattle.cy_mention.specs.Shown.{all_shown}
use Rattle.cy_mention.specs.Modules.{top_said}
use Rattle.cy_mention.proofs.said.note_module.Given as goal

abbrev pub invariant-loop-top : goal.invariant-loop-top
invariant-loop-top l = all_shown l.initial.out.items ++ flat_map top_said l.tops ≡ all_shown l.out.items ++ flat_map top_said (drop l.top-index l.tops)
