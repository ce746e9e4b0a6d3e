use Rattle.std.proofs.Common.{◌≡◌, ◌++◌, drop}
use Rattle.std.specs.List.{flat_map}
use Rattle.cy_mention.specs.Shown.{all_shown}
use Rattle.name_rules.specs.Breaches.{mention_refusals}
use Rattle.name_rules.proofs.mention.judge_mentions.Given as goal

abbrev pub invariant-loop-mention : goal.invariant-loop-mention
invariant-loop-mention l = l.initial.out.items ++ flat_map (mention_refusals l.here.file l.here.known.now l.locals l.here.names.now) (all_shown l.mentions) ≡ l.out.items ++ flat_map (mention_refusals l.here.file l.here.known.now l.locals l.here.names.now) (all_shown (drop l.mention-index l.mentions))
