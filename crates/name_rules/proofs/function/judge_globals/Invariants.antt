use Rattle.std.proofs.Common.{◌≡◌, ◌++◌, drop}
use Rattle.std.specs.List.{flat_map}
use Rattle.cy_mention.specs.Shown.{all_shown}
use Rattle.name_table.specs.Entries.{texts}
use Rattle.name_rules.specs.Breaches.{global_refusals}
use Rattle.name_rules.proofs.function.judge_globals.Given as goal

abbrev pub invariant-loop-mention : goal.invariant-loop-mention
invariant-loop-mention l = l.initial.out.items ++ flat_map (global_refusals l.file (texts l.declared)) (all_shown l.mentions) ≡ l.out.items ++ flat_map (global_refusals l.file (texts l.declared)) (all_shown (drop l.mention-index l.mentions))
