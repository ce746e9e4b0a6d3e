use Rattle.std.proofs.Common.{◌≡◌, ◌++◌, drop}
use Rattle.std.specs.List.{flat_map}
use Rattle.cy_mention.specs.Shown.{all_shown}
use Rattle.cy_mention.specs.Trees.{param_mentions}
use Rattle.cy_mention.proofs.said.note_params.Given as goal

abbrev pub invariant-loop-param : goal.invariant-loop-param
invariant-loop-param l = all_shown l.initial.out.items ++ flat_map param_mentions l.params ≡ all_shown l.out.items ++ flat_map param_mentions (drop l.param-index l.params)
